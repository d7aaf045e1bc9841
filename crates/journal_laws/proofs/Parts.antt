-- What hangs on answers, in a legal list without its vain ones.
use Rattle.std.proofs.Common.{◌≡◌, ℕ, ◌==◌, Bool, true, false, not, ◌&&◌, if◌then◌else◌, List, [], ◌∷◌, map, count_by, Option, None, Some, is_some, refl, sym, ◌∙◌, subst, ⊎_elim}
use Rattle.std.proofs.lemmas.Bool.{cases_Bool}
use Rattle.std.proofs.lemmas.Bool.Decides.{eqb_tells}
use Rattle.mid_base.specs.declared.names.CmdId.{CmdId}
use Rattle.mid_base.specs.declared.names.Attempt.{Attempt}
use Rattle.mid_base.specs.declared.names.DevAddr.{DevAddr}
use Rattle.mid_base.specs.declared.names.Tag.{Tag}
use Rattle.mid_base.specs.declared.answers.Answer.{Answer}
use Rattle.mid_base.specs.declared.answers.By.{By}
use Rattle.mid_base.specs.declared.answers.By.TheVariants.{Answer as ByAnswer, Expiry as ByExpiry}
use Rattle.mid_base.specs.declared.answers.Disp.{Disp}
use Rattle.mid_base.specs.declared.host_spec.CmdSpec.{CmdSpec}
use Rattle.mid_base.specs.declared.host_spec.HostSpec.{HostSpec}
use Rattle.mid_base.specs.declared.entries.Entry.{Entry}
use Rattle.mid_base.specs.declared.entries.Entry.TheVariants.{Took, Sent, Bounced, Ready, Owned, Judged, AbortSet, Aborted, Failed, Cleared, Sensed, Again, Told}
use Rattle.mid_base.specs.Address.{same_dev}
use Rattle.mid_base.specs.Answers.{is_good}
use Rattle.mid_base.specs.Past.{attempt_of}
use Rattle.trace_model.specs.Names.{command, dev_of, depth_in}
use Rattle.trace_model.specs.Attempts.{is_open, answer, owner, is_by_answer, is_by_expiry, is_settled}
use Rattle.trace_model.specs.Commands.{is_busy}
use Rattle.mid_base.specs.Depths.{Depth, after_full, after_good}
use Rattle.trace_model.specs.Sending.{depths, after_answer}
use Rattle.trace_model.specs.Judging.{to_judge}
use Rattle.trace_model.specs.Recovery.{Failure, failed, listed, todo_of}
use Rattle.trace_model.specs.Flush.{last_own, verdict, verdict_by, by_owner}
use Rattle.trace_model.specs.Rules.{MayJudge}
use Rattle.trace_model.specs.Legal.{owed, EachStands}
use Rattle.trace_model.proofs.Owes.{meets_owes}
use Rattle.trace_model.proofs.Owners.{open_unowned}
use Rattle.trace_model.proofs.Once.{and_left, judge_fits}
use Rattle.trace_model.proofs.OnceMore.{held_all}
use Rattle.trace_model.proofs.Backed.{Backed, Backs, owner_in, owed_backed}
use Rattle.journal_laws.specs.Vain.{is_vain, without_vain}
use Rattle.journal_laws.proofs.Ways.{way}
use Rattle.journal_laws.proofs.Numbered.{IsOf, numbered, fits_all}
use Rattle.journal_laws.proofs.Blind.{blind, attempt_of_same, owner_same, standing_same, retries_same, failed_same, last_own_same}
use Rattle.journal_laws.proofs.Wanted.{Safe, Agrees, AgreesOn, answer_same}
use Rattle.journal_laws.proofs.Alike.{Alike, online_same}

-- who owns an attempt in a part of X

agrees_down : (s : HostSpec) (X P : List Entry) (e : Entry) → EachStands s (e ∷ P) → Agrees X (e ∷ P) → Agrees X P
agrees_down s X P (Owned m by) each h = λ n o. ⊎_elim
    (λ yes. absurd (cc (subst (λ (w : Option By). is_some w ≡ true) (open_unowned s P n each.1 (subst (λ (k : ℕ). is_open k P ≡ true) yes.1 (fits_all s 0 P (Owned m by) each))) o)))
    (λ no. h n (rw no.0 o) ∙ rw no.0 refl)
    (eqb_tells m.0 n)
agrees_down s X P e each h = λ n o. h n o

agrees_on : (s : HostSpec) (X P : List Entry) → EachStands s P → Agrees X P → AgreesOn X P
agrees_on s X [] each h = tt
agrees_on s X (e ∷ P) each h = (h, agrees_on s X P each.1 (agrees_down s X P e each h))

pub agrees : (s : HostSpec) (X : List Entry) → EachStands s X → AgreesOn X X
agrees s X each = agrees_on s X X each (λ n o. refl)

pub agree_here : (X P : List Entry) → AgreesOn X P → Agrees X P
agree_here X [] h = λ n o. absurd (cc o)
agree_here X (e ∷ P) h = h.0

answer_some : (o : Option By) → is_by_answer o ≡ true → (is_some o ≡ true) × (is_by_expiry o ≡ false)
answer_some None h = cc h
answer_some (Some ByAnswer) h = (refl, refl)
answer_some (Some ByExpiry) h = cc h

pub safe : (X P : List Entry) (n : ℕ) → AgreesOn X P → is_by_answer (owner n P) ≡ true → Safe X n
safe X P n agree h =
    let x = answer_some (owner n P) h in
    subst (λ (w : Option By). is_by_expiry w ≡ false) (sym (agree_here X P agree n x.0)) x.1

-- an attempt that is judged is owned by its answer

judge_by : (s : HostSpec) (P : List Entry) (c n : ℕ) (d : Disp) (a : Option Answer) → MayJudge s P c n d a → is_by_answer (owner n P) ≡ true
judge_by s P c n d None may = absurd may
judge_by s P c n d (Some a) may = and_left (is_by_answer (owner n P)) _ (and_left (is_by_answer (owner n P) && not (is_settled n P)) _ (and_left (to_judge P c n) _ may.0))

pub judged_by : (s : HostSpec) (P : List Entry) (c : CmdId) (n : Attempt) (d : Disp) → EachStands s (Judged c n d ∷ P) → is_by_answer (owner n.0 P) ≡ true
judged_by s P c n d each = ⊎_elim
    (λ w. judge_by s P c.0 n.0 d (answer n.0 P) w.1)
    (λ w. meets_owes (Backed (owner_in P)) (owed s P) (Judged c n d) (owed_backed s P each.1).owes w.0)
    (way s P (Judged c n d) each)

-- and it is its command's last
judged_last : (s : HostSpec) (P : List Entry) (c : CmdId) (n : Attempt) (d : Disp) → EachStands s (Judged c n d ∷ P) → n.0 ≡ attempt_of c.0 P
judged_last s P c n d each = ⊎_elim
    (λ w. let u = judge_fits s P c.0 n.0 d (answer n.0 P) w.1 in
    subst (IsOf (attempt_of c.0 P)) (((held_all s c.0 P each.1).0 n.0 u.1).1 u.0) (numbered s c.0 P each.1))
    (λ w. ⊎_elim
    (λ named. subst (IsOf (attempt_of c.0 P)) ((held_all s c.0 P each.1).1 n.0 named) (numbered s c.0 P each.1))
    (λ ends. absurd (cc ends))
    w.1)
    (way s P (Judged c n d) each)

-- depths

after_same : (s : HostSpec) (X : List Entry) (d : DevAddr) (P : List Entry) (a : Option Answer) (x : Depth) → after_answer s (without_vain X P) d a x ≡ after_answer s P d a x
after_same s X d P None x = refl
after_same s X d P (Some a) x = λ i.
    if (a.host.0 == 0) && (a.status == 40) then after_full (count_by (λ (k : CmdSpec). same_dev k.dev d && is_busy (standing_same X k.id.0 P i)) s.cmds) x
    else if is_good a then after_good (depth_in s.luns d) x
    else x

depths_alike : (s : HostSpec) (X : List Entry) (d : DevAddr) (P : List Entry) → EachStands s P → AgreesOn X P → depths s d (without_vain X P) ≡ depths s d P
depths_alike s X d [] each agree = refl
depths_alike s X d (Judged c n x ∷ P) each agree =
    let rest : depths s d (without_vain X P) ≡ depths s d P = depths_alike s X d P each.1 agree.1 in
    let same : answer n.0 (without_vain X P) ≡ answer n.0 P = answer_same X n.0 P (safe X P n.0 agree.1 (judged_by s P c n x each)) in
    let after : after_answer s (without_vain X P) d (answer n.0 (without_vain X P)) (depths s d (without_vain X P)) ≡ after_answer s P d (answer n.0 P) (depths s d P) =
    (λ i. after_answer s (without_vain X P) d (same i) (rest i)) ∙ after_same s X d P (answer n.0 P) (depths s d P) in
    λ i. if same_dev (dev_of s c.0) d then after i else rest i
depths_alike s X d (Ready m a ∷ P) each agree = blind (λ Q. depths s d Q) (is_vain X (Ready m a) P) (Ready m a) (without_vain X P) refl ∙ depths_alike s X d P each.1 agree.1
depths_alike s X d (e ∷ P) each agree = depths_alike s X d P each.1 agree.1

-- the failed commands

unless : (b : Bool) (x y : Option Answer) → (b ≡ false → x ≡ y) → (if b then None else x) ≡ (if b then None else y)
unless true x y h = refl
unless false x y h = h refl

one_alike : (s : HostSpec) (X P : List Entry) (f : Failure) → (f.cancelled ≡ false → answer f.attempt.0 (without_vain X P) ≡ answer f.attempt.0 P) → todo_of s (without_vain X P) f ≡ todo_of s P f
one_alike s X P f h =
    let told : (if f.cancelled then None else answer f.attempt.0 (without_vain X P)) ≡ (if f.cancelled then None else answer f.attempt.0 P) = unless f.cancelled _ _ h in
    λ i. record {
      cmd = f.cmd;
      n = f.attempt;
      dev = dev_of s f.cmd.0;
      cancelled = f.cancelled;
      answer = told i;
      cx = record { retries = retries_same X f.cmd.0 P i; allowed = (command s f.cmd.0).allowed; failfast = (command s f.cmd.0).failfast; online = online_same s X (dev_of s f.cmd.0) P i };
    }

all_alike : (s : HostSpec) (X P : List Entry) (fs : List Failure) → AgreesOn X P → Backs (owner_in P) fs → map (todo_of s (without_vain X P)) fs ≡ map (todo_of s P) fs
all_alike s X P [] agree h = refl
all_alike s X P (f ∷ fs) agree h = λ i. one_alike s X P f (λ plain. answer_same X f.attempt.0 P (safe X P f.attempt.0 agree (h.0 plain))) i ∷ all_alike s X P fs agree h.1 i

listed_alike : (s : HostSpec) (X P : List Entry) → EachStands s P → AgreesOn X P → listed s (without_vain X P) ≡ listed s P
listed_alike s X P each agree = (λ i. map (todo_of s (without_vain X P)) (failed_same X P i)) ∙ all_alike s X P (failed P) agree (owed_backed s P each).backs

-- verdicts

abbrev OwnedBy : Option Entry → Option By → Type 0
OwnedBy (Some (Judged c n d)) w = is_by_answer w ≡ true
OwnedBy o w = Unit {0}

unowned_by : (o : Option Entry) (w : Option By) → OwnedBy o None → OwnedBy o w
unowned_by None w h = tt
unowned_by (Some (Judged c n d)) w h = cc h
unowned_by (Some e) w h = tt

sent_owned : (b : Bool) (o : Option Entry) (n : ℕ) (d : CmdId) (m : Attempt) (t : Tag) (P : List Entry) → OwnedBy o (owner n P) → OwnedBy (if b then Some (Sent d m t) else o) (owner (if b then m.0 else n) P)
sent_owned true o n d m t P h = tt
sent_owned false o n d m t P h = h

last_owned : (s : HostSpec) (c : ℕ) (P : List Entry) → EachStands s P → OwnedBy (last_own c P) (owner (attempt_of c P) P)
last_owned s c [] each = tt
last_owned s c (Took d ∷ P) each = ⊎_elim (λ yes. rw yes tt) (λ no. rw no (last_owned s c P each.1)) (cases_Bool (d.0 == c))
last_owned s c (Sent d m t ∷ P) each = sent_owned (d.0 == c) (last_own c P) (attempt_of c P) d m t P (last_owned s c P each.1)
last_owned s c (Bounced d m why ∷ P) each = ⊎_elim (λ yes. rw yes tt) (λ no. rw no (last_owned s c P each.1)) (cases_Bool (d.0 == c))
last_owned s c (AbortSet d m ∷ P) each = ⊎_elim (λ yes. rw yes tt) (λ no. rw no (last_owned s c P each.1)) (cases_Bool (d.0 == c))
last_owned s c (Aborted d m ok ∷ P) each = ⊎_elim (λ yes. rw yes tt) (λ no. rw no (last_owned s c P each.1)) (cases_Bool (d.0 == c))
last_owned s c (Failed d m x ∷ P) each = ⊎_elim (λ yes. rw yes tt) (λ no. rw no (last_owned s c P each.1)) (cases_Bool (d.0 == c))
last_owned s c (Cleared d level ∷ P) each = ⊎_elim (λ yes. rw yes tt) (λ no. rw no (last_owned s c P each.1)) (cases_Bool (d.0 == c))
last_owned s c (Sensed d m x ∷ P) each = ⊎_elim (λ yes. rw yes tt) (λ no. rw no (last_owned s c P each.1)) (cases_Bool (d.0 == c))
last_owned s c (Again d x ∷ P) each = ⊎_elim (λ yes. rw yes tt) (λ no. rw no (last_owned s c P each.1)) (cases_Bool (d.0 == c))
last_owned s c (Told d a ∷ P) each = ⊎_elim (λ yes. rw yes tt) (λ no. rw no (last_owned s c P each.1)) (cases_Bool (d.0 == c))
last_owned s c (Judged d m x ∷ P) each = ⊎_elim
    (λ yes. rw yes.0 (subst (λ (k : ℕ). is_by_answer (owner k P) ≡ true) (subst (λ (k : ℕ). m.0 ≡ attempt_of k P) yes.1 (judged_last s P d m x each)) (judged_by s P d m x each)))
    (λ no. rw no.0 (last_owned s c P each.1))
    (eqb_tells d.0 c)
last_owned s c (Owned m by ∷ P) each = ⊎_elim
    (λ yes.
    let none : owner (attempt_of c P) P ≡ None = open_unowned s P (attempt_of c P) each.1 (subst (λ (k : ℕ). is_open k P ≡ true) yes.1 (fits_all s 0 P (Owned m by) each)) in
    unowned_by (last_own c P) _ (subst (OwnedBy (last_own c P)) none (last_owned s c P each.1)))
    (λ no. rw no.0 (last_owned s c P each.1))
    (eqb_tells m.0 (attempt_of c P))
last_owned s c (e ∷ P) each = last_owned s c P each.1

by_owner_alike : (X : List Entry) (n : ℕ) (P : List Entry) (w : Option By) → (is_by_answer w ≡ true → answer n (without_vain X P) ≡ answer n P) → by_owner w (answer n (without_vain X P)) ≡ by_owner w (answer n P)
by_owner_alike X n P None h = refl
by_owner_alike X n P (Some ByAnswer) h = h refl
by_owner_alike X n P (Some ByExpiry) h = refl

by_alike : (X : List Entry) (n : ℕ) (P : List Entry) (o : Option Entry) → (is_by_answer (owner n P) ≡ true → answer n (without_vain X P) ≡ answer n P) → OwnedBy o (owner n P) → verdict_by o n (without_vain X P) ≡ verdict_by o n P
by_alike X n P None h own = refl
by_alike X n P (Some (Judged c m d)) h own = h own
by_alike X n P (Some (Cleared c level)) h own = (λ i. by_owner (owner_same X n P i) (answer n (without_vain X P))) ∙ by_owner_alike X n P (owner n P) h
by_alike X n P (Some e) h own = refl

verdict_alike : (s : HostSpec) (X : List Entry) (c : ℕ) (P : List Entry) → EachStands s P → AgreesOn X P → verdict c (without_vain X P) ≡ verdict c P
verdict_alike s X c P each agree =
    (λ i. verdict_by (last_own_same X c P i) (attempt_of_same X c P i) (without_vain X P))
    ∙ by_alike X (attempt_of c P) P (last_own c P) (λ by. answer_same X (attempt_of c P) P (safe X P (attempt_of c P) agree by)) (last_owned s c P each)

pub alike : (s : HostSpec) (X P : List Entry) → EachStands s P → AgreesOn X P → Alike s X P
alike s X P each agree = record {
  depths_same = λ d. depths_alike s X d P each agree;
  listed_same = listed_alike s X P each agree;
  verdict_same = λ c. verdict_alike s X c P each agree;
}
