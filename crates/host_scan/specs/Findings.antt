-- What the scans of a host's targets came to, and where they leave its adapter.
use Rattle.std.specs.Prelude.{◌≡◌, ℕ, ◌==◌, ◌&&◌, Bool, true, false, if◌then◌else◌, Option, None, Some, List, [], ◌∷◌, ◌++◌}
use Rattle.std.specs.List.{list_any}
use Rattle.mid_base.specs.declared.names.DevAddr.{DevAddr}
use Rattle.mid_base.specs.declared.states.DeviceState.TheVariants.{Running, Del}
use Rattle.mid_base.specs.declared.host_spec.LunSpec.{LunSpec}
use Rattle.mid_base.specs.declared.host_spec.HostSpec.{HostSpec}
use Rattle.mid_base.specs.Address.{same_dev}
use Rattle.mid_base.specs.Codes.{inquiry}
use Rattle.host_template.specs.Standing.{Before}
use Rattle.lun_scan.specs.declared.fault.ScanFault.{ScanFault}
use Rattle.lun_scan.specs.declared.fault.ScanFault.TheVariants as fault
use Rattle.adapter_tables.specs.Units.{target_luns}
use Rattle.debug_adapter.specs.declared.adapter.DebugAdapter.{DebugAdapter}
use Rattle.debug_adapter.specs.Adapter.{AdapterStands}
use Rattle.host_scan.specs.declared.target.Target.{Target}
use Rattle.host_scan.specs.declared.finding.Finding.{Finding}
use Rattle.host_scan.specs.Targets.{same_target, target_of, zero_of}
use Rattle.host_scan.specs.Found.{answers, probes_of}

-- INQUIRY is the first probe, and REPORT LUNS the second
abbrev pub probes_up_to : ℕ → ℕ
probes_up_to code = if code == inquiry then 1 else 2

-- the probes that were sent where a scan ends with a fault; none where there was no memory to begin it
abbrev pub probes_until : ScanFault → Option ℕ
probes_until (fault.Silent code) = Some (probes_up_to code)
probes_until (fault.Refused code a) = Some (probes_up_to code)
probes_until (fault.Inquiry moved) = Some 1
probes_until (fault.List list) = Some 2
probes_until fault.NoMemory = None

-- the scan of a target that tells its units finds all of them, and another finds none
abbrev pub finding_of : HostSpec → Target → Finding
finding_of s t = record { target = t; probes = probes_of s t; numbers = if answers s t then target_luns s.luns (zero_of t) else [] }

-- the finding has the device
abbrev pub lists : DevAddr → Finding → Bool
lists d f = same_target f.target (target_of d) && list_any (λ n. n == d.lun) f.numbers

abbrev pub told : Finding → DevAddr × ℕ
told f = (zero_of f.target, f.probes)

-- a unit as the findings have it
abbrev pub unit_by : List DevAddr → List Finding → LunSpec → LunSpec
unit_by ds fs l =
    if list_any (λ d. same_dev d l.dev) ds then record l { start = if list_any (lists l.dev) fs then Running else Del } else l

abbrev pub is_listed : Before → DevAddr → Bool
is_listed b d = list_any (λ x. same_dev x.0 d) b

-- where the adapter stood with probes of other units before, the scan of the target came to this, and left it standing with its
-- probes before
abbrev pub ScansTo : HostSpec → DebugAdapter → DebugAdapter → Target → Finding → Type 0
ScansTo s old new t f =
    (b : Before) → is_listed b (zero_of t) ≡ false → AdapterStands old s b []
    → (f ≡ finding_of s t) × AdapterStands new s (b ++ told f ∷ []) []
