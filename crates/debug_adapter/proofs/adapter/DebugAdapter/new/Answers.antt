use Rattle.adapter_tables.specs.TablesOf.{plan_of, rows_of, units_of}
use Rattle.debug_adapter.proofs.NewStands.{new_stands}
use Rattle.debug_adapter.proofs.adapter.DebugAdapter.new.Goals as goal

pub returns : goal.returns
returns c = new_stands c.args.spec.now (plan_of c.in_ok-plan.plan) c.new-held.result (rows_of c.in_ok-rows.rows) (units_of c.in_ok-units.units) c.requires (rw c.as_slice-lines.ensures at c.in_ok-plan.ensures) c.new-held.ensures.empty
    (rw c.as_slice-2.ensures at c.in_ok-rows.ensures) (rw c.as_slice-3.ensures at c.in_ok-units.ensures)
