-- The stage of a command, for the law that it is told once at most.
use Rattle.std.proofs.Common.{eq-eqb, ◌≡◌, ℕ, ◌<◌, ◌==◌, Bool, true, false, not, ◌&&◌, ◌||◌, List, [], ◌∷◌, refl, sym, ◌∙◌, subst, ⊎_elim, ap, is_some, filter, if◌then◌else◌}
use Rattle.std.specs.List.{list_any}
use Rattle.std.proofs.lemmas.Bool.Decides.{eqb_tells}
use Rattle.mid_base.specs.declared.names.CmdId.{CmdId}
use Rattle.mid_base.specs.declared.names.Attempt.{Attempt}
use Rattle.mid_base.specs.declared.answers.Answer.{Answer}
use Rattle.mid_base.specs.declared.answers.By.{By}
use Rattle.mid_base.specs.declared.entries.Entry.{Entry}
use Rattle.mid_base.specs.declared.entries.Entry.TheVariants.{Took, Sent, Bounced, Owned, Judged, AbortSet, Aborted, Failed, Again, Told}
use Rattle.mid_base.specs.Past.{sent_for}
use Rattle.disposition.specs.Disp.{among}
use Rattle.trace_model.specs.Attempts.{sends, is_open, owner, is_settled}
use Rattle.trace_model.specs.Commands.{aborts}
use Rattle.trace_model.specs.Devices.{has_begun}
use Rattle.trace_model.specs.Recovery.{Failure, failed}

pub data Stage : Type 0 where
  idle : Stage
  out : ℕ → Stage
  owned : ℕ → Stage
  aborting : ℕ → Stage
  settled : ℕ → Stage
  failing : ℕ → Stage

abbrev pub own : ℕ → Stage → Stage
own m (out n) = if m == n then owned n else out n
own m x = x

abbrev pub stage : ℕ → List Entry → Stage
stage c [] = idle
stage c (Took d ∷ P) = if d.0 == c then idle else stage c P
stage c (Sent d n t ∷ P) = if d.0 == c then out n.0 else stage c P
stage c (Bounced d n why ∷ P) = if d.0 == c then idle else stage c P
stage c (Owned m by ∷ P) = own m.0 (stage c P)
stage c (Judged d n x ∷ P) = if (d.0 == c) && not (has_begun P) then settled n.0 else stage c P
stage c (AbortSet d n ∷ P) = if d.0 == c then aborting n.0 else stage c P
stage c (Aborted d n ok ∷ P) = if d.0 == c then settled n.0 else stage c P
stage c (Failed d n x ∷ P) = if d.0 == c then failing n.0 else stage c P
stage c (Again d counted ∷ P) = if d.0 == c then idle else stage c P
stage c (Told d a ∷ P) = if d.0 == c then idle else stage c P
stage c (_ ∷ P) = stage c P

abbrev pub unsettled : ℕ → List Entry → Bool
unsettled n P = is_some (owner n P) && not (is_settled n P)

abbrev pub has_failure : ℕ → ℕ → List Failure → Bool
has_failure c n fs = list_any (λ f. (f.cmd.0 == c) && (f.attempt.0 == n)) fs

-- the stage says of each attempt of c what P says of it
abbrev pub Live : ℕ → List Entry → Stage → Type 0
Live c P x = (n : ℕ) → sent_for n P ≡ c → (is_open n P ≡ true → x ≡ out n) × (unsettled n P ≡ true → x ≡ owned n) × (among n (aborts P) ≡ true → x ≡ aborting n)

abbrev pub Failing : ℕ → List Entry → Stage → Type 0
Failing c P x = (n : ℕ) → has_failure c n (failed P) ≡ true → x ≡ failing n

-- later numbers are new
abbrev pub Fresh : List Entry → Type 0
Fresh P = (n : ℕ) → sends P < n → (is_open n P ≡ false) × (unsettled n P ≡ false) × (among n (aborts P) ≡ false)

-- nothing of c is under way in P beside its stage
abbrev pub IsDone : Stage → Type 0
IsDone idle = Unit {0}
IsDone (settled n) = Unit {0}
IsDone (failing n) = Unit {0}
IsDone x = ⊥

pub not_out : (x : Stage) (n : ℕ) → IsDone x → x ≡ out n → ⊥
not_out idle n d e = cc e
not_out (settled m) n d e = cc e
not_out (failing m) n d e = cc e
not_out (out m) n d e = d
not_out (owned m) n d e = d
not_out (aborting m) n d e = d

pub not_owned : (x : Stage) (n : ℕ) → IsDone x → x ≡ owned n → ⊥
not_owned idle n d e = cc e
not_owned (settled m) n d e = cc e
not_owned (failing m) n d e = cc e
not_owned (out m) n d e = d
not_owned (owned m) n d e = d
not_owned (aborting m) n d e = d

pub not_aborting : (x : Stage) (n : ℕ) → IsDone x → x ≡ aborting n → ⊥
not_aborting idle n d e = cc e
not_aborting (settled m) n d e = cc e
not_aborting (failing m) n d e = cc e
not_aborting (out m) n d e = d
not_aborting (owned m) n d e = d
not_aborting (aborting m) n d e = d

-- where c is done, no attempt of it is live
pub done_live : (c : ℕ) (P : List Entry) (x y : Stage) → IsDone x → Live c P x → Live c P y
done_live c P x y d live n e =
    (λ o. absurd (not_out x n d ((live n e).0 o)), λ o. absurd (not_owned x n d ((live n e).1 o)), λ o. absurd (not_aborting x n d ((live n e).2 o)))

-- Again and Told end c
pub filter_other : (c d n : ℕ) (fs : List Failure) → (d == c) ≡ false → has_failure c n (filter (λ f. not (f.cmd.0 == d)) fs) ≡ true → has_failure c n fs ≡ true
filter_other c d n [] ne h = h
filter_other c d n (f ∷ fs) ne h = ⊎_elim
    (λ yes. or_right _ _ (filter_other c d n fs ne (rw yes.0 at h)))
    (λ no. or_either ((f.cmd.0 == c) && (f.attempt.0 == n)) _ _ (filter_other c d n fs ne) (rw no.0 at h))
    (eqb_tells f.cmd.0 d)
  where
    or_right : (a b : Bool) → b ≡ true → a || b ≡ true
    or_right true b h = refl
    or_right false b h = h

    or_either : (a x y : Bool) → (x ≡ true → y ≡ true) → a || x ≡ true → a || y ≡ true
    or_either true x y f h = refl
    or_either false x y f h = f h

pub filter_none : (c n : ℕ) (fs : List Failure) → has_failure c n (filter (λ f. not (f.cmd.0 == c)) fs) ≡ true → ⊥
filter_none c n [] h = cc h
filter_none c n (f ∷ fs) h = ⊎_elim
    (λ yes. filter_none c n fs (rw yes.0 at h))
    (λ no. filter_none c n fs (rw no.0 at (rw no.0 at h)))
    (eqb_tells f.cmd.0 c)

pub told_live : (c : ℕ) (P : List Entry) (d : CmdId) (a : Answer) → (d.0 ≡ c → IsDone (stage c P)) → Live c P (stage c P) → Live c (Told d a ∷ P) (stage c (Told d a ∷ P))
told_live c P d a done live = ⊎_elim
    (λ yes. done_live c P (stage c P) _ (done yes.1) live)
    (λ no. rw no.0 live)
    (eqb_tells d.0 c)

pub told_failing : (c : ℕ) (P : List Entry) (d : CmdId) (a : Answer) → Failing c P (stage c P) → Failing c (Told d a ∷ P) (stage c (Told d a ∷ P))
told_failing c P d a fail n h = ⊎_elim
    (λ yes. absurd (filter_none c n (failed P) (subst (λ k. has_failure c n (filter (λ f. not (f.cmd.0 == k)) (failed P)) ≡ true) yes.1 h)))
    (λ no. rw no.0 (fail n (filter_other c d.0 n (failed P) no.0 h)))
    (eqb_tells d.0 c)

-- Owned
pub owned_live : (c : ℕ) (P : List Entry) (m : Attempt) (by : By) → is_open m.0 P ≡ true → Live c P (stage c P) → Live c (Owned m by ∷ P) (stage c (Owned m by ∷ P))
owned_live c P m by was live n e = ⊎_elim
    (λ yes. let here : stage c P ≡ out m.0 = (live m.0 (subst (λ k. sent_for k P ≡ c) (sym yes.1) e)).0 was in
    let o : own m.0 (stage c P) ≡ owned n = ap (own m.0) here ∙ rw (eq-eqb m.0 m.0 refl) (ap owned yes.1) in
    (λ h. absurd (cc (rw yes.0 at h)), λ h. o, λ h. absurd (cc (sym here ∙ subst (λ k. stage c P ≡ aborting k) (sym yes.1) ((live n e).2 h)))))
    (λ no. (
      λ h. ap (own m.0) ((live n e).0 (rw no.0 at h)) ∙ rw no.0 refl,
      λ h. ap (own m.0) ((live n e).1 (rw no.0 at h)),
      λ h. ap (own m.0) ((live n e).2 h),
    ))
    (eqb_tells m.0 n)
