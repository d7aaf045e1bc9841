-- What bars a Send, by the command that is picked.
use Rattle.std.proofs.Common.{◌≡◌, refl, ℕ, ◌+◌, ◌<◌, ◌≤◌, Bool, true, false, List, Some, None, cond, arith}
use Rattle.std.specs.Prelude.{nat_le}
use Rattle.std.proofs.lemmas.Bool.{le-leb}
use Rattle.mid_base.specs.declared.entries.Entry.{Entry}
use Rattle.mid_base.specs.declared.host_spec.HostSpec.{HostSpec}
use Rattle.mid_base.specs.declared.steps.Step.TheVariants as step
use Rattle.mid_base.specs.declared.steps.Why.TheVariants.{Spent}
use Rattle.trace_model.specs.Attempts.{sends}
use Rattle.trace_model.specs.Devices.{in_recovery, is_online}
use Rattle.trace_model.specs.Names.{dev_of}
use Rattle.trace_model.specs.Sending.{pick}
use Rattle.mid_base.specs.Limits.{last_number}
use Rattle.trace_model.specs.Steps.{barred}

-- of a host that isn't in recovery, which picks c
module _ (s : HostSpec) (due : Bool) (P : List Entry) (c : ℕ) (calm : in_recovery P ≡ false) (picked : pick s P ≡ Some c) where
  pub offline_goes : is_online s (dev_of s c) P ≡ false → barred s due P step.Send ≡ None
  offline_goes off = rw (calm, picked, off) refl

  pub online_goes : is_online s (dev_of s c) P ≡ true → sends P + 1 < last_number → barred s due P step.Send ≡ None
  online_goes on few = rw (calm, picked, on) (by (nat_le last_number (sends P + 1)) (leb_above last_number (sends P + 1) few))
    where
      by : (b : Bool) → b ≡ false → cond b (Some Spent) None ≡ None
      by true is = cc
      by false is = refl

      leb_above : (a b : ℕ) → b < a → nat_le a b ≡ false
      leb_above a b lt = grind arith

  pub spent : is_online s (dev_of s c) P ≡ true → last_number ≤ sends P + 1 → barred s due P step.Send ≡ Some Spent
  spent on many = rw (calm, picked, on) (by (nat_le last_number (sends P + 1)) (le-leb last_number (sends P + 1) many))
    where
      by : (b : Bool) → b ≡ true → cond b (Some Spent) None ≡ Some Spent
      by true is = refl
      by false is = cc
