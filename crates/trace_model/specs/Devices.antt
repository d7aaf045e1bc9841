-- The state of a device, and of recovery.
use Rattle.std.specs.Prelude.{Bool, true, false, if◌then◌else◌, List, [], ◌∷◌}
use Rattle.mid_base.specs.declared.names.DevAddr.{DevAddr}
use Rattle.mid_base.specs.declared.states.DeviceState.{DeviceState}
use Rattle.mid_base.specs.declared.states.DeviceState.TheVariants as device
use Rattle.mid_base.specs.declared.entries.Entry.{Entry}
use Rattle.mid_base.specs.declared.entries.Entry.TheVariants.{Failed, EhBegin, EhEnd, Offline, State}
use Rattle.mid_base.specs.declared.host_spec.HostSpec.{HostSpec}
use Rattle.mid_base.specs.Address.{same_dev}
use Rattle.device_states.specs.States.{is_online_state}
use Rattle.trace_model.specs.Names.{start_in}

abbrev pub state : HostSpec → DevAddr → List Entry → DeviceState
state s d [] = start_in s.luns d
state s d (State e x ∷ P) = if same_dev e d then x else state s d P
state s d (Offline e ∷ P) = if same_dev e d then device.Offline else state s d P
state s d (_ ∷ P) = state s d P

abbrev pub is_online : HostSpec → DevAddr → List Entry → Bool
is_online s d P = is_online_state (state s d P)

-- a Failed stands after the last EhEnd
abbrev pub in_recovery : List Entry → Bool
in_recovery [] = false
in_recovery (Failed c n x ∷ P) = true
in_recovery (EhEnd ∷ P) = false
in_recovery (_ ∷ P) = in_recovery P

-- EhBegin stands after the last EhEnd
abbrev pub has_begun : List Entry → Bool
has_begun [] = false
has_begun (EhBegin ∷ P) = true
has_begun (EhEnd ∷ P) = false
has_begun (_ ∷ P) = has_begun P
