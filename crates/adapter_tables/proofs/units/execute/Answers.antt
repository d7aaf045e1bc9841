use Rattle.std.proofs.Common.{◌≡◌, refl}
use Rattle.mid_base.specs.Bytes.{cdb_list}
use Rattle.debug_lun.specs.Units.{unit_of}
use Rattle.debug_lun.specs.Serving.{serve}
use Rattle.adapter_tables.specs.Units.{data_out, served_pair}
use Rattle.adapter_tables.proofs.DataOut.{filled_serves}
use Rattle.adapter_tables.proofs.UnitLaws.{served_ok}
use Rattle.adapter_tables.proofs.units.execute.Goals as goal

pub returns-clause-ok : goal.returns-clause-ok
returns-clause-ok c =
    let same = filled_serves (unit_of c.args.x.now.lun) (cdb_list c.args.h.now.cdb) c.args.x.now.luns.items c.fill_front.new.buffer c.args.h.now.fill c.data_needed.result
    c.data_needed.ensures.needed c.data_needed.ensures.few c.fill_front.ensures in
    served_ok c.exec.result c.args.x.now _ (λ luns u. served_pair (serve u (cdb_list c.args.h.now.cdb) luns (data_out c.args.h.now.fill))) refl refl
    (rw (c.deref.ensures.value, same) at c.exec.ensures.unit)
    (rw (c.deref.ensures.value, same) at c.exec.ensures.reply)
