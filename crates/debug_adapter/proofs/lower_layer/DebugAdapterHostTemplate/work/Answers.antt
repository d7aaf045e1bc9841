use Rattle.adapter_tables.specs.TablesOf.{plan_of, rows_of, units_of}
use Rattle.debug_adapter.proofs.HonestLaws.{least_none, least_some, honest_work, units_still}
use Rattle.debug_adapter.proofs.Steps.{work_ready}
use Rattle.debug_adapter.proofs.lower_layer.DebugAdapterHostTemplate.work.Goals as goal

pub returns-in_default-clause-due : goal.returns-in_default-clause-due
returns-in_default-clause-due c = least_none c.args.now.0 c.args.self.now.held c.in_default.ensures

pub returns-in_default-answer_held-clause-err : goal.returns-in_default-answer_held-clause-err
returns-in_default-answer_held-clause-err c = units_still (plan_of c.args.self.now.plan) c.args.self.now.held (rows_of c.args.self.now.rows) (units_of c.args.self.now.units) (units_of c.answer_held.new.units) c.in_default-answer_held.ensures.err

pub returns-clause-due : goal.returns-clause-due
returns-clause-due c = least_some c.args.now.0 c.args.self.now.held c.in-Some.h c.in-Some.ensures

pub returns-clause-none : goal.returns-clause-none
returns-clause-none c = work_ready (plan_of c.args.self.now.plan) c.args.self.now.held c.let_go.new.held (rows_of c.args.self.now.rows) (units_of c.args.self.now.units) (units_of c.answer_held.new.units)
    c.args.now.0 c.in-Some.h c.in-Ok.a c.in-Some.ensures c.in-Ok.ensures.ok c.let_go.ensures.kept

pub returns-clause-honest : goal.returns-clause-honest
returns-clause-honest c = λ _ _. honest_work c.args.self.now.held c.let_go.new.held c.in-Some.h c.in-Ok.a c.in-Some.ensures.0 c.let_go.ensures.kept
