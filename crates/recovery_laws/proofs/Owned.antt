-- Each failed attempt is owned by its expiry or by its answer.
use Rattle.std.proofs.Common.{◌≡◌, Bool, true, false, cond, List, [], ◌∷◌, Option, None, Some, refl}
use Rattle.mid_base.specs.declared.answers.By.{By}
use Rattle.mid_base.specs.declared.answers.By.TheVariants.{Answer as ByAnswer, Expiry as ByExpiry}
use Rattle.mid_base.specs.declared.entries.Entry.{Entry}
use Rattle.mid_base.specs.declared.host_spec.HostSpec.{HostSpec}
use Rattle.trace_model.specs.Attempts.{owner, is_by_answer, is_by_expiry}
use Rattle.trace_model.specs.Legal.{EachStands}
use Rattle.trace_model.specs.Recovery.{Failure, failed}
use Rattle.trace_model.proofs.Backed.{owner_in, Backs, owed_backed}
use Rattle.step_laws.proofs.Settles.{owned_answer}
use Rattle.recovery_laws.specs.Failed.{AreOwned}
use Rattle.recovery_laws.proofs.Expired.{HaveExpired, all_expired}

by_answer : (o : Option By) → is_by_answer o ≡ true → o ≡ Some ByAnswer
by_answer None h = cc h
by_answer (Some ByAnswer) h = refl
by_answer (Some ByExpiry) h = cc h

by_expiry : (o : Option By) → is_by_expiry o ≡ true → o ≡ Some ByExpiry
by_expiry None h = cc h
by_expiry (Some ByAnswer) h = cc h
by_expiry (Some ByExpiry) h = refl

by_one : (o : Option By) (cancelled : Bool) → (cancelled ≡ false → is_by_answer o ≡ true) → (cancelled ≡ true → is_by_expiry o ≡ true) → o ≡ Some (cond cancelled ByExpiry ByAnswer)
by_one o true h k = by_expiry o (k refl)
by_one o false h k = by_answer o (h refl)

each_owned : (s : HostSpec) (P : List Entry) (fs : List Failure) → EachStands s P → Backs (owner_in P) fs → HaveExpired (owner_in P) fs → AreOwned P fs
each_owned s P [] each h k = tt
each_owned s P (f ∷ fs) each h k = (
  record {
    by = by_one (owner f.attempt.0 P) f.cancelled h.0 k.0;
    answered = λ plain. owned_answer s f.attempt.0 P each (h.0 plain);
  },
  each_owned s P fs each h.1 k.1,
)

pub failed_owned : (s : HostSpec) (P : List Entry) → EachStands s P → AreOwned P (failed P)
failed_owned s P each = each_owned s P (failed P) each (owed_backed s P each).backs (all_expired s P each)
