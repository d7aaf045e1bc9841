use Rattle.std.proofs.Common.{rules}
use Rattle.host_words.proofs.Turning.{splits}
use Rattle.host_words.proofs.host_table.HostTable.split.Goals as goal

pub split_seat-given-requires : goal.split_seat-given-requires
split_seat-given-requires g c = (search rules, search rules, splits _ _ _ _ _ _ _ c.requires.share)
