use Rattle.std.proofs.Common.{refl}
use Rattle.mid_base.specs.Bytes.{cdb_list}
use Rattle.debug_lun.specs.Units.{unit_of}
use Rattle.debug_lun.specs.Serving.{serve}
use Rattle.adapter_tables.specs.Units.{data_out, served_pair}
use Rattle.adapter_tables.proofs.ProbeLaws.{probe_looks_at_none}
use Rattle.adapter_tables.proofs.UnitLaws.{served_ok}
use Rattle.adapter_tables.proofs.probes.serve_probe.Goals as goal

pub returns-clause-ok : goal.returns-clause-ok
returns-clause-ok c =
    let same = probe_looks_at_none (unit_of c.args.x.now.lun) c.args.cdb.now c.args.x.now.luns.items c.args.buffer.now (data_out 0) c.requires.known in
    served_ok c.exec.result c.args.x.now _ (λ luns u. served_pair (serve u (cdb_list c.args.cdb.now) luns (data_out 0))) refl refl
    (rw (c.deref.ensures.value, same) at c.exec.ensures.unit)
    (rw (c.deref.ensures.value, same) at c.exec.ensures.reply)

pub returns-clause-given : goal.returns-clause-given
returns-clause-given c =
    let same = probe_looks_at_none (unit_of c.args.x.now.lun) c.args.cdb.now c.args.x.now.luns.items c.args.buffer.now (data_out 0) c.requires.known in
    rw (c.deref.ensures.value, same) at c.exec.ensures.buffer
