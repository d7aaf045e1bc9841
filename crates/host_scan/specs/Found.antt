-- What a host is after its targets were scanned, by its planned faults alone. `ds` are the devices that are found by scanning.
use Rattle.std.specs.Prelude.{ℕ, ◌&&◌, not, is_some, Bool, if◌then◌else◌, List, map}
use Rattle.std.specs.List.{list_any}
use Rattle.mid_base.specs.declared.names.DevAddr.{DevAddr}
use Rattle.mid_base.specs.declared.states.DeviceState.{DeviceState}
use Rattle.mid_base.specs.declared.states.DeviceState.TheVariants.{Running, Del}
use Rattle.mid_base.specs.declared.host_spec.LunSpec.{LunSpec}
use Rattle.mid_base.specs.declared.host_spec.HostSpec.{HostSpec}
use Rattle.mid_base.specs.Address.{same_dev, has_dev}
use Rattle.host_template.specs.Standing.{Before}
use Rattle.fault_plan.specs.declared.class.Class.TheVariants.{Probe as Probing}
use Rattle.fault_plan.specs.Plan.{planned}
use Rattle.host_scan.specs.declared.target.Target.{Target}
use Rattle.host_scan.specs.Targets.{target_of, targets_of, zero_of}

-- the probe of the unit with this number, counted from 1, isn't answered
abbrev pub is_silent : HostSpec → DevAddr → ℕ → Bool
is_silent s d nth = is_some (planned s.plan d Probing nth)

-- the target tells its units: its unit 0 is there, and answers INQUIRY and REPORT LUNS, the first two probes
abbrev pub answers : HostSpec → Target → Bool
answers s t = has_dev s.luns (zero_of t) && not (is_silent s (zero_of t) 1) && not (is_silent s (zero_of t) 2)

-- the probes of a scan: none without a unit 0, and INQUIRY alone where it isn't answered
abbrev pub probes_of : HostSpec → Target → ℕ
probes_of s t = if not (has_dev s.luns (zero_of t)) then 0 else if is_silent s (zero_of t) 1 then 1 else 2

-- each target is scanned once
abbrev pub probed_before : List DevAddr → HostSpec → Before
probed_before ds s = map (λ t. (zero_of t, probes_of s t)) (targets_of ds)

-- a device that is found runs, and another isn't there
abbrev pub state_found : HostSpec → Target → DeviceState
state_found s t = if answers s t then Running else Del

abbrev pub unit_found : List DevAddr → HostSpec → LunSpec → LunSpec
unit_found ds s l =
    if list_any (λ d. same_dev d l.dev) ds then record l { start = state_found s (target_of l.dev) } else l

-- the host with what was found
abbrev pub found : List DevAddr → HostSpec → HostSpec
found ds s = record s { luns = map (unit_found ds s) s.luns }
