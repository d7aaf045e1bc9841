use Rattle.std.proofs.Common.{sym, ap, refl, Option, is_some, true, false, ◌∙◌}
use Rattle.mid_base.specs.declared.faults.Fault.{Fault}
use Rattle.adapter_tables.specs.TablesOf.{plan_of, rows_of, units_of}
use Rattle.debug_adapter.proofs.Calls.{call_aborted}
use Rattle.debug_adapter.proofs.HonestLaws.{honest_gone}
use Rattle.debug_adapter.proofs.lower_layer.DebugAdapterHostTemplate.abort.Goals as goal

pub returns-then-is_some-clause-stands : goal.returns-then-is_some-clause-stands
returns-then-is_some-clause-stands c = call_aborted (plan_of c.args.self.now.plan) c.args.self.now.held c.args.self.now.held (rows_of c.args.self.now.rows) (rows_of c.next_number-number.new.table) (units_of c.args.self.now.units)
    c.args.n c.args.dev c.next_number-number.result true c.next_number-number.ensures.rows refl c.next_number-number.ensures.number
    (ap (λ (o : Option Fault). is_some o) (sym c.fault_at.ensures) ∙ (sym c.is_some.ensures ∙ c.if-is_some.true))

pub returns-clause-stands : goal.returns-clause-stands
returns-clause-stands c = call_aborted (plan_of c.args.self.now.plan) c.args.self.now.held c.let_go.new.held (rows_of c.args.self.now.rows) (rows_of c.next_number-number.new.table) (units_of c.args.self.now.units)
    c.args.n c.args.dev c.next_number-number.result false c.next_number-number.ensures.rows c.let_go.ensures.kept c.next_number-number.ensures.number
    (ap (λ (o : Option Fault). is_some o) (sym c.fault_at.ensures) ∙ (sym c.is_some.ensures ∙ c.if-is_some.false))

pub returns-clause-honest : goal.returns-clause-honest
returns-clause-honest c = λ _ _. honest_gone c.args.self.now.held c.let_go.new.held c.args.n c.let_go.ensures.kept
