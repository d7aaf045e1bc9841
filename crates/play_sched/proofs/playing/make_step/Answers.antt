use Rattle.std.proofs.Common.{sym, ◌∙◌}
use Rattle.play_sched.proofs.Lines.{host_found, made_on, specs_kept}
use Rattle.play_sched.proofs.playing.make_step.Goals as goal

pub unreachable-requires : goal.unreachable-requires
unreachable-requires c = host_found c.args.no.0 c.args.hosts.now c.args.step c.requires (sym c.place_of.ensures ∙ c.in_default.is)

pub returns-clause-comes : goal.returns-clause-comes
returns-clause-comes c =
    made_on c.args.hosts.now c.args.no.0 c.in-Some.place c.args.step c.in_ok-why.why c.index-hosts-place.result c.make.new.self
    (sym c.place_of.ensures ∙ c.in-Some.is) c.in_ok-why.ensures.comes c.in_ok-why.ensures.spec c.in_ok-why.ensures.before

pub returns-clause-specs : goal.returns-clause-specs
returns-clause-specs c = specs_kept c.args.hosts.now c.in-Some.place c.index-hosts-place.result c.make.new.self c.in_ok-why.ensures.spec
