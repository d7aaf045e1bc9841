use Rattle.mid_base.specs.declared.answers.Scope.TheVariants.{Host}
use Rattle.fault_plan.specs.declared.class.Class.TheVariants.{ResetHost}
use Rattle.adapter_tables.specs.TablesOf.{plan_of, rows_of, units_of}
use Rattle.debug_adapter.proofs.Calls.{reset_host_stands}
use Rattle.debug_adapter.proofs.HonestLaws.{honest_reset}
use Rattle.debug_adapter.proofs.lower_layer.DebugAdapterHostTemplate.reset_host.Goals as goal

pub returns-clause-stands : goal.returns-clause-stands
returns-clause-stands c = reset_host_stands (plan_of c.args.self.now.plan) c.args.self.now.held c.reset.new.held (rows_of c.args.self.now.rows) (rows_of c.reset.new.rows) (units_of c.args.self.now.units) (units_of c.reset.new.units)
    c.reset.result c.reset.ensures

pub returns-clause-honest : goal.returns-clause-honest
returns-clause-honest c = λ _ _. honest_reset (plan_of c.args.self.now.plan) c.args.self.now.held c.reset.new.held (rows_of c.args.self.now.rows) (rows_of c.reset.new.rows) (units_of c.args.self.now.units) (units_of c.reset.new.units)
    (Host) ResetHost c.reset.result c.reset.ensures
