use Rattle.adapter_tables.specs.TablesOf.{plan_of, rows_of, units_of}
use Rattle.debug_adapter.proofs.Calls.{call_timed}
use Rattle.debug_adapter.proofs.HonestLaws.{honest_timed}
use Rattle.debug_adapter.proofs.lower_layer.DebugAdapterHostTemplate.timed_out.Goals as goal

pub returns-clause-stands : goal.returns-clause-stands
returns-clause-stands c = call_timed (plan_of c.args.self.now.plan) c.args.self.now.held c.settle_time.new.held (rows_of c.args.self.now.rows) (rows_of c.next_number-number.new.table) (units_of c.args.self.now.units)
    c.args.n c.args.dev c.args.now.0 c.next_number-number.result c.fault_at.result c.timer_answer-say.result
    c.timer_answer-say.ensures c.next_number-number.ensures.rows c.settle_time.ensures c.next_number-number.ensures.number c.fault_at.ensures

pub returns-clause-honest : goal.returns-clause-honest
returns-clause-honest c = λ _ _. honest_timed c.args.self.now.held c.settle_time.new.held c.args.n c.args.now.0 c.timer_answer-say.result c.settle_time.ensures
