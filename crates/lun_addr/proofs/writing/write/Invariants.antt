use Rattle.std.proofs.Common.{◌≡◌, ◌+◌, ◌*◌, ◌++◌, length, take, drop}
use Rattle.std.specs.List.{flat_map}
use Rattle.lun_addr.specs.Grammar.{lun_entry, lun_list}
use Rattle.lun_addr.proofs.writing.write.Given as goal

abbrev pub invariant-loop-lun : goal.invariant-loop-lun
invariant-loop-lun l = record {
  place : l.at ≡ 8 + 8 * l.lun-index;
  size : length l.into ≡ length l.fn.into;
  done : take l.at l.into ++ flat_map lun_entry (drop l.lun-index l.luns) ≡ lun_list l.luns;
  rest : drop (8 + 8 * length l.luns) l.into ≡ drop (8 + 8 * length l.luns) l.fn.into;
}
