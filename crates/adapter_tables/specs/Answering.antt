-- What the adapter's calls make of the faults that they meet.
use Rattle.std.specs.Prelude.{◌≡◌, ◌↔◌, ◌⊎◌, ℕ, true, false, List, [], map, Option, Some}
use Rattle.slab.specs.Slab.{Slab}
use Rattle.mid_base.specs.declared.names.Attempt.{Attempt}
use Rattle.mid_base.specs.declared.names.DevAddr.{DevAddr}
use Rattle.mid_base.specs.declared.bytes.CdbBytes.{CdbBytes}
use Rattle.mid_base.specs.declared.faults.PlanEntry.{PlanEntry}
use Rattle.mid_base.specs.declared.faults.Fault.{Fault}
use Rattle.mid_base.specs.declared.faults.Fault.TheVariants.{HostBusy as HostBusyHit, Longer as LongerHit, TimerDone}
use Rattle.mid_base.specs.declared.answers.Scope.{Scope}
use Rattle.mid_base.specs.Address.{in_scope}
use Rattle.host_template.specs.declared.queued.Queued.{Queued}
use Rattle.host_template.specs.declared.queued.Queued.TheVariants.{HostBusy, DeviceBusy}
use Rattle.host_template.specs.declared.says.TimerSay.{TimerSay}
use Rattle.host_template.specs.declared.says.TimerSay.TheVariants.{Done, ResetTimer, NotHandled}
use Rattle.host_template.specs.declared.says.EhSay.{EhSay}
use Rattle.host_template.specs.declared.says.EhSay.TheVariants.{Success, Failed}
use Rattle.fault_plan.specs.declared.class.Class.{Class}
use Rattle.fault_plan.specs.declared.class.Class.TheVariants.{Time, Answer}
use Rattle.fault_plan.specs.Plan.{planned}
use Rattle.adapter_tables.specs.declared.held.Held.{Held}
use Rattle.adapter_tables.specs.declared.counts.CountRow.{CountRow}
use Rattle.adapter_tables.specs.declared.device_rows.UnitRow.{UnitRow}
use Rattle.adapter_tables.specs.Held.{due_tick}
use Rattle.adapter_tables.specs.Units.{status_reply, outcome, served_pair, probed, is_good_reply}
use Rattle.mid_base.specs.Codes.{did_ok, good}
use Rattle.mid_base.specs.declared.answers.ProbeSay.{ProbeSay}
use Rattle.mid_base.specs.declared.answers.ProbeSay.TheVariants.{Answered, Silent}
use Rattle.host_template.specs.Probes.{taken}
use Rattle.sense_data.specs.Grammar.{is_valid_sense}
use Rattle.debug_lun.specs.Units.{Reply, reply_of, unit_of}
use Rattle.debug_lun.specs.Serving.{Served}
use Rattle.adapter_tables.specs.Ties.{IsKept, any_hit_in, counted_row, has_unit, ServedAt, WereReset}

-- an attempt as the code holds it, where it counted the call of `queue` with this number
abbrev pub held_as : List PlanEntry → Attempt → DevAddr → CdbBytes → ℕ → ℕ → ℕ → Held
held_as plan n dev cdb fill now number = record {
  n = n;
  dev = dev;
  cdb = cdb;
  fill = fill;
  due = due_tick now (planned plan dev Time number);
  fault = planned plan dev Answer number;
}

abbrev pub busy_by : Fault → Queued
busy_by HostBusyHit = HostBusy
busy_by fault = DeviceBusy

abbrev pub say_by : Option Fault → TimerSay
say_by (Some LongerHit) = ResetTimer
say_by (Some TimerDone) = Done
say_by fault = NotHandled

-- an attempt that is due is answered: by its fault or by its unit, and where its device has no unit by GOOD
abbrev pub Answers : List UnitRow → List UnitRow → Held → Reply → Type 0
Answers units units' h a =
    ((has_unit units h.dev ≡ false) × (units' ≡ units) × (a ≡ status_reply did_ok good []))
    ⊎ ((i : ℕ) × (x : UnitRow) × (y : UnitRow) × ServedAt units units' h.dev (λ luns u. outcome luns h u) a i x y)

-- a probe that no fault hits: the unit of its device serves it, and the caller takes its data-in from the buffer; a device
-- without a unit is silent
abbrev pub Probes : List UnitRow → List UnitRow → DevAddr → ℕ → List ℕ → ProbeSay → Type 0
Probes units units' d code buffer Silent = (has_unit units d ≡ false) × (units' ≡ units)
Probes units units' d code buffer (Answered a) =
    (i : ℕ) × (x : UnitRow) × (y : UnitRow) × ServedAt units units' d (λ luns u. served_pair (probed luns u code)) (reply_of a) i x y
    × (taken code (Answered a) buffer ≡ (probed x.luns.items (unit_of x.lun) code).data_in)

-- REQUEST SENSE is GOOD and gives valid sense data
abbrev pub FetchesSense : Served → Type 0
FetchesSense x = (is_good_reply (Some x.reply) ≡ true) × (is_valid_sense x.data_in ≡ true)

-- what a reset does to the tables: it is counted, and where no fault hits, its attempts are let go and its units reset
abbrev pub Resets : List PlanEntry → Slab Held → Slab Held → List CountRow → List CountRow → List UnitRow → List UnitRow → Scope → Class → EhSay → Type 0
Resets plan t t' rows rows' units units' scope class Failed =
    (any_hit_in plan (map (counted_row scope class) rows) scope class ≡ true) × (t' ≡ t)
    × (rows' ≡ map (counted_row scope class) rows) × (units' ≡ units)
Resets plan t t' rows rows' units units' scope class Success =
    (any_hit_in plan (map (counted_row scope class) rows) scope class ≡ false)
    × ((g : Held) → IsKept t' g ↔ (IsKept t g × (in_scope scope g.dev ≡ false)))
    × (rows' ≡ map (counted_row scope class) rows) × WereReset scope units units'
