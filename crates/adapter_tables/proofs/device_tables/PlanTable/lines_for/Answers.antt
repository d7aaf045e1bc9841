use Rattle.std.proofs.Common.{length, refl}
use Rattle.std.proofs.lemmas.Option.{slice_get_read}
use Rattle.fault_plan.specs.Lines.{lines_in}
use Rattle.adapter_tables.proofs.PlanParts.{plan_at}
use Rattle.adapter_tables.proofs.device_tables.PlanTable.lines_for.Goals as goal

pub returns-in-Some : goal.returns-in-Some
returns-in-Some c =
    let table = c.args.self.now in
    let there = plan_at (lines_in table.plan) table.at.devs.items table.devices.items c.in-Some.place c.args.dev table.parted c.in-Some.ensures in
    λ n. c.lines.ensures (lines_in table.plan) c.args.dev n (there.1 c.index.result.now (slice_get_read table.devices.items (length table.devices.items) c.in-Some.place c.index.result.now refl there.0 c.index.ensures))
