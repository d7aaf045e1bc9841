use Rattle.std.proofs.Common.{reverse}
use Rattle.owner_laws.proofs.Turned.{in_turned}
use Rattle.owner_laws.proofs.Held.{tag_within}
use Rattle.owner_laws.proofs.laws.sent_tags_are_the_hosts.Goals as goal

pub returns : goal.returns
returns c = λ s journal d n t legal h. tag_within s (reverse journal) d n t legal.each (in_turned _ journal h)
