use Rattle.std.proofs.Common.{sym, ap, Option, is_some, ◌∙◌}
use Rattle.mid_base.specs.declared.faults.Fault.{Fault}
use Rattle.host_template.specs.Probes.{code_of}
use Rattle.adapter_tables.specs.TablesOf.{plan_of, rows_of, units_of}
use Rattle.debug_adapter.proofs.Probes.{stands_hit, stands_reached}
use Rattle.debug_adapter.proofs.lower_layer.DebugAdapterHostTemplate.probe.Goals as goal

pub returns-then-is_some-clause-stands : goal.returns-then-is_some-clause-stands
returns-then-is_some-clause-stands c = stands_hit (plan_of c.args.self.now.plan) c.args.self.now.held (rows_of c.args.self.now.rows) (rows_of c.next_number-number.new.table) (units_of c.args.self.now.units)
    c.args.dev (code_of c.args.cdb.now) c.next_number-number.result _ c.next_number-number.ensures.rows c.next_number-number.ensures.number
    (ap (λ (o : Option Fault). is_some o) (sym c.fault_at.ensures) ∙ (sym c.is_some.ensures ∙ c.if-is_some.true))

pub returns-clause-stands : goal.returns-clause-stands
returns-clause-stands c = stands_reached (plan_of c.args.self.now.plan) c.args.self.now.held (rows_of c.args.self.now.rows) (rows_of c.next_number-number.new.table) (units_of c.args.self.now.units) (units_of c.probe_unit.new.units)
    c.args.dev (code_of c.args.cdb.now) c.next_number-number.result c.probe_unit.result c.probe_unit.new.into c.next_number-number.ensures.rows c.next_number-number.ensures.number
    (ap (λ (o : Option Fault). is_some o) (sym c.fault_at.ensures) ∙ (sym c.is_some.ensures ∙ c.if-is_some.false))
    c.probe_unit.ensures.says
