-- Whether recovery has begun stays so over a group, and so does where its ladder stands.
use Rattle.std.proofs.Common.{◌≡◌, ◌∙◌, ap, sym, refl, ℕ, Bool, true, false, cond, List, [], ◌∷◌, Option, None, Some, is_some}
use Rattle.std.proofs.lemmas.Bool.{and_parts, false≢true}
use Rattle.mid_base.specs.declared.answers.Answer.{Answer}
use Rattle.mid_base.specs.declared.answers.Disp.{Disp}
use Rattle.mid_base.specs.declared.answers.Disp.TheVariants.{Success, Retry, Requeue, Fail}
use Rattle.mid_base.specs.declared.entries.Entry.{Entry}
use Rattle.mid_base.specs.declared.entries.Entry.TheVariants as entry
use Rattle.mid_base.specs.declared.host_spec.HostSpec.{HostSpec}
use Rattle.mid_base.specs.declared.names.Attempt.{Attempt}
use Rattle.mid_base.specs.declared.names.CmdId.{CmdId}
use Rattle.mid_base.specs.Answers.{time_out}
use Rattle.trace_model.specs.Attempts.{is_open}
use Rattle.trace_model.specs.Commands.{aborts}
use Rattle.trace_model.specs.Devices.{has_begun, in_recovery}
use Rattle.trace_model.specs.Judging.{has_abort_left, may_retry, is_first}
use Rattle.trace_model.specs.Legal.{ByGroups, EachStands, onto}
use Rattle.trace_model.specs.Sending.{is_refused}
use Rattle.trace_model.specs.Time.{is_expired, may_ask}
use Rattle.trace_model.proofs.OnceMore.{false_of}
use Rattle.trace_model.proofs.Readings.{by_places}
use Rattle.escalation.specs.Climbing.{Climb}
use Rattle.climb_laws.specs.LadderOf.{IsLadderOf, LeavesList}
use Rattle.climb_laws.proofs.Others.{others}
use Rattle.climb_laws.proofs.Refused.{refused_none}
use Rattle.recovery_laws.specs.Still.{is_unsettled}
use Rattle.recovery_laws.proofs.Quiet.{still}
use Rattle.mid_core.specs.Choices.{IsSaidOf, follow_of, after_expiry, after_abort}
use Rattle.mid_core.specs.View.{IsStaged}

abbrev pub Keeps : HostSpec → List Entry → List Entry → Type 0
Keeps s P g = (has_begun (onto g P) ≡ has_begun P) × ((k : Climb) → has_begun P ≡ true → IsLadderOf s P k → IsLadderOf s (onto g P) k)

pub keeps_stage : (s : HostSpec) (P g : List Entry) (ladder : Option Climb) → Keeps s P g → IsStaged s P ladder → IsStaged s (onto g P) ladder
keeps_stage s P g None keeps stage = keeps.0 ∙ stage
keeps_stage s P g (Some k) keeps stage = (keeps.0 ∙ stage.0, keeps.1 k stage.0 stage.1)

-- where there is no ladder, recovery hasn't begun
pub stage_calm : (s : HostSpec) (P : List Entry) (ladder : Option Climb) → is_some ladder ≡ false → IsStaged s P ladder → has_begun P ≡ false
stage_calm s P None none stage = stage
stage_calm s P (Some k) none stage = absurd (false≢true (sym none))

-- where recovery hasn't begun, there is no ladder to keep
pub calm_keeps : (s : HostSpec) (P g : List Entry) → has_begun (onto g P) ≡ has_begun P → has_begun P ≡ false → Keeps s P g
calm_keeps s P g same calm = (same, λ k begun ladder. absurd (false≢true (sym calm ∙ begun)))

-- an entry that has nothing to do with recovery's list
pub other_keeps : (s : HostSpec) (P : List Entry) (e : Entry) → has_begun (e ∷ P) ≡ has_begun P → (has_begun P ≡ true → LeavesList P e) → Keeps s P (e ∷ [])
other_keeps s P e same leaves = (same, λ k begun ladder. others s P k e (leaves begun) ladder)

pub each_of : (s : HostSpec) (P : List Entry) → ByGroups s P → EachStands s P
each_of s P legal = (by_places s P legal).each

module _ (s : HostSpec) (P : List Entry) (legal : ByGroups s P) where
  -- recovery hasn't begun where an attempt is open, or has its owner and isn't settled, where an abort is scheduled, and where no command has failed
  pub open_calm : (n : ℕ) → is_open n P ≡ true → has_begun P ≡ false
  open_calm n opened = false_of (has_begun P) (λ begun. false≢true (sym ((still s P (each_of s P legal) begun).none_open n) ∙ opened))

  pub unsettled_calm : (n : ℕ) → is_unsettled n P ≡ true → has_begun P ≡ false
  unsettled_calm n unsettled = false_of (has_begun P) (λ begun. false≢true (sym ((still s P (each_of s P legal) begun).none_unsettled n) ∙ unsettled))

  pub aborting_calm : (n : ℕ) → is_first n (aborts P) ≡ true → has_begun P ≡ false
  aborting_calm n first =
      false_of (has_begun P) (λ begun. false≢true (ap (λ (ns : List ℕ). is_first n ns) (sym (still s P (each_of s P legal) begun).no_aborts) ∙ first))

  pub sending_calm : in_recovery P ≡ false → has_begun P ≡ false
  sending_calm calm = false_of (has_begun P) (λ begun. false≢true (sym calm ∙ (still s P (each_of s P legal) begun).within))

  pub asked_calm : (n : ℕ) → may_ask s P n ≡ true → has_begun P ≡ false
  asked_calm n asked = open_calm n (opened n (and_parts (is_expired s P n) _ asked).0)
    where
      opened : (n : ℕ) → is_expired s P n ≡ true → is_open n P ≡ true
      opened n expired = (and_parts (is_open n P) _ (and_parts _ _ (and_parts _ _ expired).0).0).0

  -- an answer of an attempt that was open before recovery began
  pub ready_keeps : (n : Attempt) (a : Answer) → Keeps s P (entry.Ready n a ∷ [])
  ready_keeps n a = other_keeps s P (entry.Ready n a) refl (λ begun. (still s P (each_of s P legal) begun).none_open n.0)

  pub refused_keeps : (c : CmdId) (a : Answer) → is_refused s P c.0 ≡ true → Keeps s P (entry.Told c a ∷ [])
  refused_keeps c a refused = other_keeps s P (entry.Told c a) refl (λ begun. refused_none s c.0 P (each_of s P legal) refused)

  pub asked_keeps : (n : Attempt) (e : Entry) → IsSaidOf n e → may_ask s P n.0 ≡ true → Keeps s P (e ∷ [])
  asked_keeps n e said asked = calm_keeps s P (e ∷ []) (same e said) (asked_calm n.0 asked)
    where
      same : (e : Entry) → IsSaidOf n e → has_begun (e ∷ P) ≡ has_begun P
      same (entry.Due m) is = refl
      same (entry.Longer m) is = refl
      same (entry.DoneSaid m) is = refl
      same e is = absurd is

pub follow_keeps : (s : HostSpec) (P : List Entry) (c : CmdId) (n : Attempt) (a : Answer) (d e : Disp) → has_begun P ≡ false → Keeps s P (entry.Judged c n e ∷ follow_of c n a d ∷ [])
follow_keeps s P c n a d e calm = calm_keeps s P (entry.Judged c n e ∷ follow_of c n a d ∷ []) (same d) calm
  where
    same : (d : Disp) → has_begun (follow_of c n a d ∷ entry.Judged c n e ∷ P) ≡ has_begun P
    same Success = refl
    same Retry = refl
    same Requeue = refl
    same Fail = refl

pub expired_keeps : (s : HostSpec) (P : List Entry) (c : CmdId) (n : Attempt) → has_begun P ≡ false → Keeps s P (after_expiry s P c n ∷ [])
expired_keeps s P c n calm = calm_keeps s P (after_expiry s P c n ∷ []) (same (has_abort_left s P c.0)) calm
  where
    same : (b : Bool) → has_begun (cond b (entry.AbortSet c n) (entry.Failed c n true) ∷ P) ≡ has_begun P
    same true = refl
    same false = refl

pub aborted_keeps : (s : HostSpec) (P : List Entry) (c : CmdId) (n : Attempt) (ok : Bool) → has_begun P ≡ false → Keeps s P (entry.Aborted c n ok ∷ after_abort s P c n ok ∷ [])
aborted_keeps s P c n ok calm = calm_keeps s P (entry.Aborted c n ok ∷ after_abort s P c n ok ∷ []) (same ok) calm
  where
    retried : (b : Bool) → has_begun (cond b (entry.Again c true) (entry.Told c time_out) ∷ entry.Aborted c n true ∷ P) ≡ has_begun P
    retried true = refl
    retried false = refl

    same : (b : Bool) → has_begun (after_abort s P c n b ∷ entry.Aborted c n b ∷ P) ≡ has_begun P
    same true = retried (may_retry s P c.0)
    same false = refl
