-- What a Send adds.
use Rattle.std.proofs.Common.{◌≡◌, ℕ, ◌<◌, Bool, true, List, [], ◌∷◌, reverse, Result, Ok, Err, sym, subst}
use Rattle.std.specs.Prelude.{All}
use Rattle.std.proofs.lemmas.Bool.{false≢true}
use Rattle.mid_base.specs.declared.answers.NoMemory.{NoMemory}
use Rattle.mid_base.specs.declared.entries.Entry.{Entry}
use Rattle.mid_base.specs.declared.entries.Entry.TheVariants.{Sent, Bounced, Told}
use Rattle.mid_base.specs.declared.host_spec.HostSpec.{HostSpec}
use Rattle.mid_base.specs.declared.steps.Step.TheVariants as step
use Rattle.mid_base.specs.declared.steps.Did.{Did}
use Rattle.mid_base.specs.declared.steps.Did.TheVariants.{Done, Skipped}
use Rattle.host_template.specs.Meaning.{Meaning}
use Rattle.host_template.specs.Standing.{Standing}
use Rattle.trace_model.specs.Attempts.{attempts}
use Rattle.trace_model.specs.Legal.{EachStands, Legal}
use Rattle.trace_model.specs.Sending.{may_send}
use Rattle.trace_model.specs.Steps.{IsAdded}
use Rattle.trace_model.proofs.Readings.{by_places}
use Rattle.mid_core.specs.View.{CoreView}
use Rattle.mid_core.specs.Steps.{Opens, ChangesTags, Answers}
use Rattle.core_tests.specs.Facts.{Sends, SendsOne, WhereDone}
use Rattle.core_tests.proofs.Numbers.{sent_number, all_below}

above : (s : HostSpec) (P : List Entry) (c n t : ℕ) → EachStands s P → may_send s P c n t ≡ true → All (λ m. m < n) (attempts P)
above s P c n t each may =
    subst (λ (k : ℕ). All (λ m. m < k) (attempts P)) (sym (sent_number s P c n t may)) (all_below s P each)

one_group : {A : Type 0} (old new : CoreView A) (g : List Entry) → EachStands old.spec (reverse old.journal) → Opens old.spec (reverse old.journal) step.Send g
    → IsAdded old.spec (reverse old.journal) g → ChangesTags step.Send g old.tags new.tags → Sends g old new
one_group old new [] each opened added tags = absurd opened
one_group old new (Sent c n t ∷ []) each opened added tags = (above old.spec (reverse old.journal) c.0 n.0 t.0 each added.0, tags.0, tags.1)
one_group old new (Sent c n t ∷ Bounced d m why ∷ []) each opened added tags = (above old.spec (reverse old.journal) c.0 n.0 t.0 each added.0.0, tags)
one_group old new (Sent c n t ∷ e ∷ rest) each opened added tags = absurd added.1.0
one_group old new (Told c a ∷ []) each opened added tags = tags
one_group old new (Told c a ∷ e ∷ rest) each opened added tags = absurd added.1.0
one_group old new (e ∷ rest) each opened added tags = absurd (false≢true opened)

pub sends_one : {A : Type 0} (stands : A → Standing) (due : A → ℕ → Bool) (means : A → Meaning) (old new : CoreView A) (r : Result Did NoMemory) → Legal old.spec old.journal
    → Answers stands due means old new step.Send r → WhereDone r (SendsOne old new)
sends_one stands due means old new (Ok Done) legal a =
    (a.group, a.journal, one_group old new a.group (by_places old.spec (reverse old.journal) legal).each a.adds.opened a.adds.added a.tags)
sends_one stands due means old new (Ok (Skipped why)) legal a = tt
sends_one stands due means old new (Err e) legal a = tt
