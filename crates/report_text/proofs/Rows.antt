-- What one entry more does to what a journal says of commands.
use Rattle.std.proofs.Common.{◌≡◌, ℕ, suc, ◌+◌, ◌==◌, ◌≤◌, Bool, true, false, if◌then◌else◌, List, [], ◌∷◌, length, inl, inr, Option, Some, unwrap_or, refl, sym, ap, subst, ◌∙◌, arith}
use Rattle.std.proofs.lemmas.Bool.{cases_Bool, eqb-true}
use Rattle.std.proofs.lemmas.Bool.Decides.{nat_tests}
use Rattle.mid_base.specs.declared.answers.By.{By}
use Rattle.mid_base.specs.declared.entries.Entry.{Entry}
use Rattle.mid_base.specs.declared.entries.Entry.TheVariants.{Took, Sent, Bounced, Judged, AbortSet, Aborted, Failed, Cleared, Sensed, Again, Told}
use Rattle.mid_base.specs.Past.{attempt_of}
use Rattle.trace_model.specs.Attempts.{owner}
use Rattle.trace_model.specs.Commands.{is_own, retries}
use Rattle.trace_model.specs.Flush.{last_own}
use Rattle.report_text.specs.Results.{ended, kind_of}
use Rattle.report_text.specs.Numbered.{at}
use Rattle.report_text.specs.Tables.{OwnersAre, RowsAre, first_of, first_told, next_row, row_at, row_of}
use Rattle.report_text.specs.declared.results.FirstTold.{FirstTold}
use Rattle.report_text.specs.declared.gather.Row.{Row}
use Rattle.report_text.specs.declared.numbered.Numbered.{Numbered}

-- one test on both sides
named : (b : Bool) (e : Entry) (o : Option Entry) (n r : ℕ) (t : Option FirstTold)
    → ◌≡◌ {A = Row} (record { last = kind_of (if b then Some e else o); attempt = n; retries = r; told = t }) (if b then record { last = kind_of (Some e); attempt = n; retries = r; told = t } else record { last = kind_of o; attempt = n; retries = r; told = t })
named true e o n r t = refl
named false e o n r t = refl

sent : (b : Bool) (e : Entry) (o : Option Entry) (m n r : ℕ) (t : Option FirstTold)
    → ◌≡◌ {A = Row} (record { last = kind_of (if b then Some e else o); attempt = if b then m else n; retries = r; told = t }) (if b then record { last = kind_of (Some e); attempt = m; retries = r; told = t } else record { last = kind_of o; attempt = n; retries = r; told = t })
sent true e o m n r t = refl
sent false e o m n r t = refl

counted : (b : Bool) (e : Entry) (o : Option Entry) (n r s : ℕ) (t : Option FirstTold)
    → ◌≡◌ {A = Row} (record { last = kind_of (if b then Some e else o); attempt = n; retries = if b then s else r; told = t }) (if b then record { last = kind_of (Some e); attempt = n; retries = s; told = t } else record { last = kind_of o; attempt = n; retries = r; told = t })
counted true e o n r s t = refl
counted false e o n r s t = refl

reported : (b : Bool) (e : Entry) (o : Option Entry) (n r : ℕ) (s t : Option FirstTold)
    → ◌≡◌ {A = Row} (record { last = kind_of (if b then Some e else o); attempt = n; retries = r; told = if b then s else t }) (if b then record { last = kind_of (Some e); attempt = n; retries = r; told = s } else record { last = kind_of o; attempt = n; retries = r; told = t })
reported true e o n r s t = refl
reported false e o n r s t = refl

pub row_step : (c : ℕ) (P : List Entry) (e : Entry) → row_of c (e ∷ P) ≡ (if is_own c e then next_row (row_of c P) (owner (attempt_of c P) P) (length P) e else row_of c P)
row_step c P (Took d) = named (d.0 == c) (Took d) (last_own c P) (attempt_of c P) (retries c P) (first_told c P)
row_step c P (Sent d n t) = sent (d.0 == c) (Sent d n t) (last_own c P) n.0 (attempt_of c P) (retries c P) (first_told c P)
row_step c P (Bounced d n why) = named (d.0 == c) (Bounced d n why) (last_own c P) (attempt_of c P) (retries c P) (first_told c P)
row_step c P (Judged d n x) = named (d.0 == c) (Judged d n x) (last_own c P) (attempt_of c P) (retries c P) (first_told c P)
row_step c P (AbortSet d n) = named (d.0 == c) (AbortSet d n) (last_own c P) (attempt_of c P) (retries c P) (first_told c P)
row_step c P (Aborted d n ok) = named (d.0 == c) (Aborted d n ok) (last_own c P) (attempt_of c P) (retries c P) (first_told c P)
row_step c P (Failed d n x) = named (d.0 == c) (Failed d n x) (last_own c P) (attempt_of c P) (retries c P) (first_told c P)
row_step c P (Cleared d level) = named (d.0 == c) (Cleared d level) (last_own c P) (attempt_of c P) (retries c P) (first_told c P)
row_step c P (Sensed d n s) = named (d.0 == c) (Sensed d n s) (last_own c P) (attempt_of c P) (retries c P) (first_told c P)
row_step c P (Again d true) = counted (d.0 == c) (Again d true) (last_own c P) (attempt_of c P) (retries c P) (retries c P + 1) (first_told c P)
row_step c P (Again d false) = named (d.0 == c) (Again d false) (last_own c P) (attempt_of c P) (retries c P) (first_told c P)
row_step c P (Told d a) =
    reported (d.0 == c) (Told d a) (last_own c P) (attempt_of c P) (retries c P) (Some (first_of (first_told c P) (record { ended = ended c P; place = length P }))) (first_told c P)
row_step c P e = refl

step_other : (q : ℕ) (P : List Entry) (e : Entry) → is_own q e ≡ false → row_of q (e ∷ P) ≡ row_of q P
step_other q P e off = row_step q P e ∙ ap (λ (b : Bool). if b then next_row (row_of q P) (owner (attempt_of q P) P) (length P) e else row_of q P) off

step_own : (q : ℕ) (P : List Entry) (e : Entry) → is_own q e ≡ true → row_of q (e ∷ P) ≡ next_row (row_of q P) (owner (attempt_of q P) P) (length P) e
step_own q P e own = row_step q P e ∙ ap (λ (b : Bool). if b then next_row (row_of q P) (owner (attempt_of q P) P) (length P) e else row_of q P) own

-- an entry that names a command changes the row of that command alone
pub noted : (old new : Numbered Row) (owners : Numbered By) (P : List Entry) (e : Entry) (c place : ℕ) (row : Row) → RowsAre old P → OwnersAre owners P → place ≡ length P → ((q : ℕ) → is_own q e ≡ (c == q))
    → row ≡ next_row (row_at old c) (at owners (row_at old c).attempt) place e → ((q : ℕ) → at new q ≡ (if c == q then Some row else at old q)) → RowsAre new (e ∷ P)
noted old new owners P e c place row rows owned here own is put =
    let itself : (c == c) ≡ true = grind (arith, nat_tests) in
    let before : row ≡ next_row (row_of c P) (at owners (attempt_of c P)) place e = is ∙ ap (λ (r : Row). next_row r (at owners r.attempt) place e) (rows c) in
    let mine : row ≡ next_row (row_of c P) (owner (attempt_of c P) P) (length P) e =
    before ∙ (ap (λ (by : Option By). next_row (row_of c P) by place e) (owned (attempt_of c P)) ∙ ap (λ (i : ℕ). next_row (row_of c P) (owner (attempt_of c P) P) i e) here) in
    let written : at new c ≡ Some row = put c ∙ ap (λ (b : Bool). if b then Some row else at old c) itself in
    let there : row_at new c ≡ row_of c (e ∷ P) = ap (λ (v : Option Row). unwrap_or v (row_of c [])) written ∙ (mine ∙ sym (step_own c P e (own c ∙ itself))) in
    λ q. elim (cases_Bool (c == q)) [
      | inl t ↦ subst (λ (n : ℕ). row_at new n ≡ row_of n (e ∷ P)) (eqb-true c q t) there
      | inr f ↦
          let kept : at new q ≡ at old q = put q ∙ ap (λ (b : Bool). if b then Some row else at old q) f in
          ap (λ (v : Option Row). unwrap_or v (row_of q [])) kept ∙ (rows q ∙ sym (step_other q P e (own q ∙ f)))
    ]

at_most : (b : Bool) (r n : ℕ) → r ≤ n → (if b then r + 1 else r) ≤ suc n
at_most true r n h = omega (arith, h)
at_most false r n h = omega (arith, h)

-- there are no more retries than entries
pub retries-le-length : (c : ℕ) (P : List Entry) → retries c P ≤ length P
retries-le-length c [] = omega arith
retries-le-length c (Again d true ∷ P) = at_most (d.0 == c) (retries c P) (length P) (retries-le-length c P)
retries-le-length c (e ∷ P) = omega (arith, retries-le-length c P)
