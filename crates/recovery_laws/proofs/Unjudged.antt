-- Only an attempt that its answer owns is judged, so one that its expiry owns never is.
use Rattle.std.proofs.Common.{◌≡◌, ℕ, true, List, [], ◌∷◌, Option, None, Some, is_some, refl, subst, ⊎_elim}
use Rattle.std.proofs.lemmas.Bool.Decides.{eqb_tells}
use Rattle.mid_base.specs.declared.answers.By.{By}
use Rattle.mid_base.specs.declared.answers.By.TheVariants.{Expiry as ByExpiry}
use Rattle.mid_base.specs.declared.answers.Disp.{Disp}
use Rattle.mid_base.specs.declared.entries.Entry.{Entry}
use Rattle.mid_base.specs.declared.entries.Entry.TheVariants.{Owned, Judged}
use Rattle.mid_base.specs.declared.host_spec.HostSpec.{HostSpec}
use Rattle.mid_base.specs.declared.names.CmdId.{CmdId}
use Rattle.mid_base.specs.declared.names.Attempt.{Attempt}
use Rattle.trace_model.specs.Attempts.{owner, is_by_answer, answer}
use Rattle.trace_model.specs.Commands.{judgement}
use Rattle.trace_model.specs.Course.{Course, over}
use Rattle.trace_model.specs.Legal.{owed, Stands, EachStands}
use Rattle.trace_model.proofs.Backed.{owner_in, Backed, owed_backed, judge_by, not_it}
use Rattle.trace_model.proofs.Owes.{Owes, meets_owes, stands}
use Rattle.trace_model.proofs.Owners.{owns_open, open_unowned}

-- a judgement that stands is of an attempt that its answer owns: where the rules allow it, and where an act's course owes it
stands_owned : (s : HostSpec) (P : List Entry) (k : Course) (c : CmdId) (n : Attempt) (d : Disp) → Owes (Backed (owner_in P)) k → Stands k s P (Judged c n d) → is_by_answer (owner n.0 P) ≡ true
stands_owned s P over c n d h st = judge_by s P c.0 n.0 d (answer n.0 P) st
stands_owned s P k c n d h st = meets_owes (Backed (owner_in P)) k (Judged c n d) h st

owned_first : (s : HostSpec) (P : List Entry) (m : Attempt) (by : By) → EachStands s (Owned m by ∷ P) → owner m.0 P ≡ None
owned_first s P m by each = ⊎_elim
    (λ al. open_unowned s P m.0 each.1 (owns_open m.0 by P al))
    (λ f. absurd (⊎_elim (λ q. cc q) (λ q. cc q) f))
    (stands s P (Owned m by) each.0)

judged_owned : (s : HostSpec) (n : ℕ) (P : List Entry) → EachStands s P → is_some (judgement n P) ≡ true → is_by_answer (owner n P) ≡ true
judged_owned s n [] each j = cc j
judged_owned s n (Judged c m d ∷ P) each j = ⊎_elim
    (λ yes. subst (λ (k : ℕ). is_by_answer (owner k P) ≡ true) yes.1 (stands_owned s P (owed s P) c m d (owed_backed s P each.1).owes each.0))
    (λ no. judged_owned s n P each.1 (rw no.0 at j))
    (eqb_tells m.0 n)
judged_owned s n (Owned m by ∷ P) each j =
    let was : is_by_answer (owner n P) ≡ true = judged_owned s n P each.1 j in
    rw (not_it s P m.0 (owned_first s P m by each) n was) was
judged_owned s n (e ∷ P) each j = judged_owned s n P each.1 j

none_judged : (o : Option By) (j : Option Disp) → (is_some j ≡ true → is_by_answer o ≡ true) → o ≡ Some ByExpiry → j ≡ None
none_judged o None h e = refl
none_judged o (Some d) h e = absurd (cc (rw e at (h refl)))

pub expired_unjudged : (s : HostSpec) (P : List Entry) (n : ℕ) → EachStands s P → owner n P ≡ Some ByExpiry → judgement n P ≡ None
expired_unjudged s P n each e = none_judged (owner n P) (judgement n P) (judged_owned s n P each) e
