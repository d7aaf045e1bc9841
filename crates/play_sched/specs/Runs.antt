-- A host that is run over the simulated adapter.
use Rattle.std.specs.Prelude.{◌≡◌, ◌==◌, ℕ, Bool, true, List, [], filter, map, reverse, nat_le}
use Rattle.std.specs.List.{list_all}
use Rattle.mid_base.specs.declared.names.DevAddr.{DevAddr}
use Rattle.mid_base.specs.declared.names.HostNo.{HostNo}
use Rattle.mid_base.specs.declared.host_spec.HostSpec.{HostSpec}
use Rattle.journal_laws.specs.Headline.{Headline}
use Rattle.debug_adapter.specs.LowerRun.{LowerRun}
use Rattle.host_scan.specs.Found.{found, probed_before}
use Rattle.drain_rounds.specs.Making.{HostRun}
use Rattle.drain_rounds.specs.Rounds.{is_drained}

-- of these devices those of the host with this number
abbrev pub devices_on : ℕ → List (HostNo × DevAddr) → List DevAddr
devices_on number scans = map (λ x. x.1) (filter (λ x. x.0.0 == number) scans)

-- a host after its targets were scanned for those devices that are found by scanning
abbrev pub as_found : List (HostNo × DevAddr) → HostSpec → HostSpec
as_found scans s = found (devices_on s.no.0 scans) s

-- nothing else has happened to it
abbrev pub unplayed : List (HostNo × DevAddr) → HostSpec → HostRun
unplayed scans s = record { spec = as_found scans s; before = probed_before (devices_on s.no.0 scans) s; entries = [] }

-- the journal keeps every rule and promise, and the lower layer's part of it is that of an adapter with the host's plan
pub record IsRun (run : HostRun) : Type 0 where
  pub headline : Headline run.spec (reverse run.entries)
  pub lower : LowerRun run.spec run.before run.entries

abbrev pub specs_of : List HostRun → List HostSpec
specs_of runs = map (λ r. r.spec) runs

abbrev pub all_drained : List HostRun → Bool
all_drained runs = list_all (λ r. is_drained r.spec r.entries) runs

abbrev pub is_named : ℕ → HostRun → Bool
is_named number run = run.spec.no.0 == number

-- the host has one of the numbers 0 to 63
abbrev pub IsNumbered : HostRun → Type 0
IsNumbered run = nat_le run.spec.no.0 63 ≡ true
