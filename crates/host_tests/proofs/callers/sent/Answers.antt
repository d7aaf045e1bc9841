use Rattle.std.proofs.Common.{rules, ◌≡◌, ◌<◌, length, arith, Some, slice_get}
use Rattle.std.proofs.lemmas.Option.{slice_get_within}
use Rattle.mid_base.specs.declared.answers.TagState.TheVariants as tag
use Rattle.host_tests.proofs.callers.sent.Goals as goal

pub arm-requires-clause-tag : goal.arm-requires-clause-tag
arm-requires-clause-tag g c =
    let free : slice_get c.enter-desk.result.tags.items c.args.t.0 ≡ Some tag.Free = search rules in
    let within : c.args.t.0 < length c.enter-desk.result.tags.items = slice_get_within c.enter-desk.result.tags.items c.args.t.0 tag.Free free in
    omega (arith, within, c.enter-desk.ensures.tags)
