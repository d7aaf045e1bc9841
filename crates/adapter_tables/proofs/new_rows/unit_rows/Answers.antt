use Rattle.std.proofs.Common.{arith}
use Rattle.adapter_tables.proofs.NewLaws.{next_unit}
use Rattle.adapter_tables.proofs.new_rows.unit_rows.Goals as goal

pub loop-l-preserved : goal.loop-l-preserved
loop-l-preserved c = next_unit c.args.luns.now c.loop-l.l-index _ c.loop-l.units.items c.put_unit.new.units.items c.in_ok-new.field-0 (omega arith) c.loop-l.invariant c.in_ok-put_unit.ensures
    c.in_ok-new.ensures.dev c.in_ok-new.ensures.luns c.in_ok-new.ensures.unit
