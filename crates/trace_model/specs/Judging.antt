-- Who owns an attempt, and what is made of it.
use Rattle.std.specs.Prelude.{ℕ, ◌==◌, Bool, false, not, ◌&&◌, ◌||◌, List, [], ◌∷◌, nat_lt}
use Rattle.mid_base.specs.declared.answers.Answer.{Answer}
use Rattle.mid_base.specs.declared.answers.By.{By}
use Rattle.mid_base.specs.declared.answers.By.TheVariants.{Answer as ByAnswer, Expiry as ByExpiry}
use Rattle.mid_base.specs.declared.answers.Disp.{Disp}
use Rattle.mid_base.specs.declared.entries.Entry.{Entry}
use Rattle.mid_base.specs.declared.host_spec.HostSpec.{HostSpec}
use Rattle.mid_base.specs.Past.{sent_for}
use Rattle.mid_base.specs.Levels.{abort, calls}
use Rattle.trace_model.specs.Names.{command, dev_of}
use Rattle.disposition.specs.Disp.{disp}
use Rattle.trace_model.specs.Attempts.{is_open, is_answered, owner, is_by_answer, is_by_expiry, is_settled, is_due}
use Rattle.trace_model.specs.Commands.{retries, has_abort, aborts}
use Rattle.trace_model.specs.Devices.{is_online}

abbrev pub may_own : ℕ → By → List Entry → Bool
may_own n ByAnswer P = is_open n P && is_answered n P
may_own n ByExpiry P = is_open n P && is_due n P

abbrev pub retries_remain : HostSpec → List Entry → ℕ → Bool
retries_remain s P c = nat_lt (retries c P) (command s c).allowed

-- the device is online, and c isn't failfast and has retries
abbrev pub may_retry : HostSpec → List Entry → ℕ → Bool
may_retry s P c = is_online s (dev_of s c) P && not (command s c).failfast && retries_remain s P c

-- the disposition of an answer to c
abbrev pub disp_of : HostSpec → List Entry → ℕ → Answer → Disp
disp_of s P c a = disp a (retries c P) (command s c).allowed (command s c).failfast (is_online s (dev_of s c) P)

-- an attempt of c that its answer, or its expiry, owns and that isn't settled
abbrev pub to_judge : List Entry → (c n : ℕ) → Bool
to_judge P c n = is_by_answer (owner n P) && not (is_settled n P) && (sent_for n P == c)

abbrev pub to_abort : List Entry → (c n : ℕ) → Bool
to_abort P c n = is_by_expiry (owner n P) && not (is_settled n P) && (sent_for n P == c)

-- an abort of c may be scheduled
abbrev pub has_abort_left : HostSpec → List Entry → ℕ → Bool
has_abort_left s P c = not s.no_async_abort && not (has_abort c P) && retries_remain s P c

abbrev pub is_first : ℕ → List ℕ → Bool
is_first n [] = false
is_first n (m ∷ ms) = m == n

abbrev pub may_abort : HostSpec → List Entry → (c n : ℕ) → Bool → Bool
may_abort s P c n ok = is_first n (aborts P) && (sent_for n P == c) && (not ok || calls s.handlers abort)
