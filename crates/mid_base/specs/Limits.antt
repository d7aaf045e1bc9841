-- The limits that the spec of a host keeps.
use Rattle.std.specs.Prelude.{ℕ, ◌-◌, ◌^◌, ◌==◌, ◌≡◌, Bool, true, not, ◌&&◌, List, [], ◌∷◌, length, nat_le, nat_lt}
use Rattle.std.specs.List.{list_any, list_all}
use Rattle.mid_base.specs.declared.names.DevAddr.{DevAddr}
use Rattle.mid_base.specs.declared.faults.Fault.{Fault}
use Rattle.mid_base.specs.declared.faults.Fault.TheVariants.{Latency, Check, NoSense}
use Rattle.mid_base.specs.declared.faults.PlanEntry.{PlanEntry}
use Rattle.mid_base.specs.declared.host_spec.CmdSpec.{CmdSpec}
use Rattle.mid_base.specs.declared.host_spec.LunSpec.{LunSpec}
use Rattle.mid_base.specs.declared.host_spec.HostSpec.{HostSpec}
use Rattle.mid_base.specs.Address.{has_dev}
use Rattle.mid_base.specs.Bytes.{cdb_list}

-- the number that no attempt gets and no tick passes
abbrev pub last_number : ℕ
last_number = 2 ^ 60 - 1

abbrev pub is_between : ℕ → ℕ → ℕ → Bool
is_between low high n = nat_le low n && nat_le n high

abbrev pub is_address : DevAddr → Bool
is_address d = nat_le d.channel 15 && nat_le d.target 255 && nat_le d.lun 16383

abbrev pub is_lun : LunSpec → Bool
is_lun l = is_address l.dev && is_between 1 4294967295 l.blocks && is_between 1 1024 l.depth

-- its block has 1 to 16 bytes (SPC-4, 4.3)
abbrev pub has_block : CmdSpec → Bool
has_block k = is_between 1 16 (length (cdb_list k.cdb))

-- the command names one of these units
abbrev pub is_command : List LunSpec → CmdSpec → Bool
is_command luns k =
    has_dev luns k.dev && is_between 1 4294967295 k.id.0 && nat_le k.lane.0 63
    && is_between 1 10000 k.timeout && nat_le k.allowed 20 && has_block k

abbrev pub is_fault : Fault → Bool
is_fault (Latency ticks) = is_between 1 10000 ticks
is_fault (Check key asc ascq) = nat_lt key 16
is_fault (NoSense key asc ascq) = nat_lt key 16
is_fault _ = true

abbrev pub is_planned : List LunSpec → PlanEntry → Bool
is_planned luns e =
    has_dev luns e.dev && is_fault e.fault
    && is_between 1 65535 e.first && is_between 1 65535 e.every && is_between 1 65535 e.uses

abbrev pub differ_in_address : List LunSpec → Bool
differ_in_address [] = true
differ_in_address (l ∷ luns) = not (has_dev luns l.dev) && differ_in_address luns

abbrev pub differ_in_id : List CmdSpec → Bool
differ_in_id [] = true
differ_in_id (k ∷ cmds) = not (list_any (λ j. j.id.0 == k.id.0) cmds) && differ_in_id cmds

pub record KeepsLimits (s : HostSpec) : Type 0 where
  pub number : nat_le s.no.0 63 ≡ true
  pub tags : is_between 1 1024 s.can_queue ≡ true
  pub lun_count : nat_le (length s.luns) 256 ≡ true
  pub command_count : nat_le (length s.cmds) 65536 ≡ true
  pub plan_count : nat_le (length s.plan) 65536 ≡ true
  pub luns : list_all is_lun s.luns ≡ true
  pub addresses : differ_in_address s.luns ≡ true
  pub commands : list_all (is_command s.luns) s.cmds ≡ true
  pub ids : differ_in_id s.cmds ≡ true
  pub plan : list_all (is_planned s.luns) s.plan ≡ true
