-- What is not under way while recovery goes on. P has the newest entry first.
use Rattle.std.specs.Prelude.{◌≡◌, ℕ, Bool, true, false, not, ◌&&◌, List, [], is_some}
use Rattle.mid_base.specs.declared.entries.Entry.{Entry}
use Rattle.mid_base.specs.declared.host_spec.HostSpec.{HostSpec}
use Rattle.trace_model.specs.Attempts.{is_open, owner, is_settled}
use Rattle.trace_model.specs.Commands.{aborts}
use Rattle.trace_model.specs.Devices.{in_recovery}
use Rattle.trace_model.specs.Recovery.{is_quiet}

-- an owner has n, and n was not judged, set for abort or failed since
abbrev pub is_unsettled : ℕ → List Entry → Bool
is_unsettled n P = is_some (owner n P) && not (is_settled n P)

-- nothing is under way but failed commands: no attempt is open, none waits to be settled, and no abort is scheduled
pub record IsStill (s : HostSpec) (P : List Entry) : Type 0 where
  pub quiet : is_quiet s P ≡ true
  pub within : in_recovery P ≡ true
  pub none_open : (n : ℕ) → is_open n P ≡ false
  pub none_unsettled : (n : ℕ) → is_unsettled n P ≡ false
  pub no_aborts : aborts P ≡ []
