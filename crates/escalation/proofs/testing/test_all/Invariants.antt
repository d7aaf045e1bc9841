use Rattle.std.proofs.Common.{◌≡◌, ◌≤◌, take, length, vec_len, vec_capacity}
use Rattle.host_template.specs.Meaning.{SameNature, IfHonest, NothingAdded}
use Rattle.escalation.specs.Acts.{Tests}
use Rattle.escalation.proofs.testing.test_all.Given as goal

abbrev pub invariant-loop-dev : goal.invariant-loop-dev
invariant-loop-dev g l = record {
  tests : Tests (g.A.HostTemplate.stands l.fn.lower) (g.A.HostTemplate.stands l.lower) (take l.dev-index l.devices) l.told.ready.items l.fn.told.entries.items l.told.entries.items;
  nature : SameNature (g.A.HostTemplate.means l.fn.lower) (g.A.HostTemplate.means l.lower);
  honest : IfHonest NothingAdded (g.A.HostTemplate.means l.fn.lower) (g.A.HostTemplate.means l.lower);
  len : length l.into ≡ length l.fn.into;
  capacity : vec_capacity l.told.entries ≡ vec_capacity l.fn.told.entries;
  room : vec_capacity l.told.ready ≡ vec_capacity l.fn.told.ready;
  few : vec_len l.told.ready ≤ l.dev-index;
}
