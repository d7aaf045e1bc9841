use Rattle.std.proofs.Common.{◌≡◌, ◌+◌, ◌∙◌, ◌++◌, List, filter, length, ap, arith}
use Rattle.std.proofs.lemmas.Grind.{common_steps}
use Rattle.std.proofs.lemmas.List.{length-append}
use Rattle.mid_base.specs.declared.names.DevAddr.{DevAddr}
use Rattle.disposition.specs.declared.todo.Todo.{Todo}
use Rattle.disposition.specs.Ladder.{devs}
use Rattle.trace_model.specs.Climb.{on_one_of}
use Rattle.escalation.specs.Acts.{cleared}
use Rattle.escalation.proofs.Tested.{devs_length, tested_and_cleared}
use Rattle.escalation.proofs.testing.test_and_clear.Goals as goal

pub test_all-requires-clause-entries : goal.test_all-requires-clause-entries
test_all-requires-clause-entries g c κs within =
    let todo = c.args.chosen.now.todo.items in
    let short : length c.deref.result.now ≡ length (devs todo) = ap length (c.deref.ensures.value ∙ c.args.chosen.now.theirs) in
    omega (arith, c.requires.entries, devs_length todo, short)

pub test_all-requires-clause-room : goal.test_all-requires-clause-room
test_all-requires-clause-room g c κs within =
    let todo = c.args.chosen.now.todo.items in
    let short : length c.deref.result.now ≡ length (devs todo) = ap length (c.deref.ensures.value ∙ c.args.chosen.now.theirs) in
    omega (arith, c.requires.room, devs_length todo, short)

pub clear_ready-requires : goal.clear_ready-requires
clear_ready-requires g c =
    let todo = c.args.chosen.now.todo.items in
    let tests = c.test_all.ensures.tests in
    let short : length c.deref.result.now ≡ length (devs todo) = ap length (c.deref.ensures.value ∙ c.args.chosen.now.theirs) in
    let long : length c.test_all.new.told.entries.items ≡ length c.args.told.now.entries.items + length tests.entries = ap length tests.told ∙ length-append c.args.told.now.entries.items tests.entries in
    let all : length c.deref-2.result.now ≡ length todo = ap length c.deref-2.ensures.value in
    omega (arith, long, tests.few, devs_length todo, short, all, c.requires.entries, c.test_all.ensures.capacity, c.test_all.new.told.entries.ok.0, c.args.told.now.entries.ok.0)

pub returns-clause-goes : goal.returns-clause-goes
returns-clause-goes g c =
    let laws = g.met.A.HostTemplate g.world.𝓛 g.world.𝓜 g.world.𝓡 ((λ s x. x), (λ x. x), (λ x. x), λ x. x) in
    let stands = g.A.HostTemplate.stands in
    let todo = c.args.chosen.now.todo.items in
    let between = c.test_all.new.told.entries.items in
    tested_and_cleared (stands c.args.lower.now) (stands c.test_all.new.lower) (stands c.test_all.new.lower) c.args.level todo c.deref.result.now c.test_all.new.told.ready.items c.args.told.now.entries.items between c.clear_ready.new.entries.items
    (laws.silent c.test_all.new.lower) (c.deref.ensures.value ∙ c.args.chosen.now.theirs) c.test_all.ensures.tests
    (c.clear_ready.ensures
    ∙ (ap (λ (ts : List Todo). between ++ cleared c.args.level (filter (on_one_of c.deref-3.result.now) ts)) c.deref-2.ensures.value
    ∙ ap (λ (rs : List DevAddr). between ++ cleared c.args.level (filter (on_one_of rs) todo)) c.deref-3.ensures.value))
