use Rattle.std.proofs.Common.{◌∙◌, arith}
use Rattle.escalation.proofs.Acting.{same_then, nothing_then}
use Rattle.escalation.proofs.Loops.{tests_more}
use Rattle.escalation.proofs.testing.test_all.Goals as goal

pub loop-dev-preserved : goal.loop-dev-preserved
loop-dev-preserved g c =
    let stands = g.A.HostTemplate.stands in
    let means = g.A.HostTemplate.means in
    let inv = c.loop-dev.invariant in
    record {
      tests = tests_more (stands c.args.lower.now) (stands c.loop-dev.lower) (stands c.ready-tested.new.lower) c.args.devices.now c.loop-dev.dev-index _ c.loop-dev.told.ready.items c.keep_if.new.ready.items
          c.args.told.now.entries.items c.loop-dev.told.entries.items c.tell_test.new.entries.items c.ready-tested.result c.loop-dev-test.true inv.tests c.ready-tested.ensures.test c.ready-tested.ensures.stands c.keep_if.ensures.items c.tell_test.ensures.items;
      nature = same_then (means c.args.lower.now) (means c.loop-dev.lower) (means c.ready-tested.new.lower) inv.nature c.ready-tested.ensures.nature;
      honest = nothing_then (means c.args.lower.now) (means c.loop-dev.lower) (means c.ready-tested.new.lower) inv.honest inv.nature c.ready-tested.ensures.honest;
      len = c.ready-tested.ensures.len ∙ inv.len;
      capacity = c.tell_test.ensures.capacity ∙ inv.capacity;
      room = c.keep_if.ensures.capacity ∙ inv.room;
      few = omega (arith, c.keep_if.ensures.len, inv.few);
    }
