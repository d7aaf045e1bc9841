use Rattle.std.proofs.Common.{◌≤◌, arith}
use Rattle.debug_lun.specs.Units.{unit_of}
use Rattle.adapter_tables.specs.Units.{data_out}
use Rattle.adapter_tables.proofs.ProbeLaws.{probe_gives_few, moved_few, data_taken}
use Rattle.adapter_tables.proofs.probes.answer_probe.Goals as goal

pub unreachable-requires : goal.unreachable-requires
unreachable-requires c =
    let off = (probe_gives_few (unit_of c.args.x.now.lun) c.args.x.now.luns.items (data_out 0) c.args.cdb.now c.requires.known).no_write in
    cc (off, c.in_default.ensures.write)

pub put_front-requires-clause-has : goal.put_front-requires-clause-has
put_front-requires-clause-has c =
    let few : c.in-Ok.a.moved ≤ 2056 = moved_few c.args.x.now.luns.items (unit_of c.args.x.now.lun) c.args.cdb.now c.in-Ok.a c.requires.known c.in-Ok.ensures.ok.answer in
    omega (arith, few, c.requires.buffer, c.serve_probe.auto.buffer)

pub put_front-requires-clause-room : goal.put_front-requires-clause-room
put_front-requires-clause-room c =
    let few : c.in-Ok.a.moved ≤ 2056 = moved_few c.args.x.now.luns.items (unit_of c.args.x.now.lun) c.args.cdb.now c.in-Ok.a c.requires.known c.in-Ok.ensures.ok.answer in
    omega (arith, few, c.requires.room)

pub returns-clause-given : goal.returns-clause-given
returns-clause-given c = data_taken c.args.x.now.luns.items (unit_of c.args.x.now.lun) c.args.cdb.now c.in-Ok.a c.serve_probe.new.buffer c.args.buffer.now c.put_front.new.into c.requires.known
    c.in-Ok.ensures.ok.answer c.in-Ok.ensures.given c.put_front.ensures
