use Rattle.std.proofs.Common.{◌≡◌, ◌≤◌, ◌+◌, ◌*◌, length, arith, ◌∙◌}
use Rattle.std.specs.List.{slice_index}
use Rattle.lun_addr.specs.Grammar.{lun_entry, lun_list}
use Rattle.lun_addr.proofs.Entered.{length_entry, entered, length_entered, take_entered, drop_entered, finished}
use Rattle.lun_addr.proofs.writing.write.Goals as goal

pub loop-lun-preserved : goal.loop-lun-preserved
loop-lun-preserved c =
    let room : c.loop-lun.at + 8 ≤ length c.loop-lun.into = omega (arith, c.loop-lun.invariant.place, c.loop-lun.invariant.size) in
    let entry = lun_entry (slice_index c.args.luns.now c.loop-lun.lun-index) in
    let eight = length_entry (slice_index c.args.luns.now c.loop-lun.lun-index) in
    rw (c.write_entry.ensures, entered c.loop-lun.at c.loop-lun.into entry room) record {
      place = omega (arith, c.loop-lun.invariant.place);
      size = length_entered c.loop-lun.at c.loop-lun.into entry room eight ∙ c.loop-lun.invariant.size;
      done = take_entered c.loop-lun.at c.loop-lun.lun-index c.loop-lun.into c.args.luns.now room c.loop-lun-test.true ∙ c.loop-lun.invariant.done;
      rest = drop_entered c.loop-lun.at (8 + 8 * length c.args.luns.now) c.loop-lun.into entry room eight (omega (arith, c.loop-lun.invariant.place)) ∙ c.loop-lun.invariant.rest;
    }

pub returns-clause-bytes : goal.returns-clause-bytes
returns-clause-bytes c =
    let place : c.loop-lun.at ≡ 8 + 8 * length c.args.luns.now = omega (arith, c.loop-lun.invariant.place) in
    finished (8 + 8 * length c.args.luns.now) c.loop-lun.lun-index c.loop-lun.into c.args.into.now c.args.luns.now (lun_list c.args.luns.now) (omega arith) (rw place at c.loop-lun.invariant.done) c.loop-lun.invariant.rest
