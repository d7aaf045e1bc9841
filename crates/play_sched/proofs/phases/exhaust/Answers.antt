use Rattle.std.proofs.Common.{Option, None, sym, subst, ◌∙◌}
use Rattle.mid_base.specs.declared.steps.Step.{Step}
use Rattle.mid_base.specs.declared.steps.Why.{Why}
use Rattle.drain_rounds.specs.Making.{Comes}
use Rattle.play_sched.specs.Phases.{IsNext, phase_of}
use Rattle.play_sched.proofs.Walk.{continues_by, continues_more, ends_barred, goes_more, skipped, unskipped}
use Rattle.play_sched.proofs.phases.exhaust.Goals as goal

pub loop-step-preserved : goal.loop-step-preserved
loop-step-preserved c =
    let first = c.args.host.now in
    let now = c.loop-step.host in
    let new = c.make.new.self in
    let f = phase_of c.args.phase in
    let t = c.in-Some.step in
    let next = subst (λ (x : Option Step). IsNext f now x) c.in-Some.is c.next_step.ensures in
    let goes = c.loop-step.invariant.goes in
    let on = c.in_ok-make.ensures.goes next.0 in
    let comes = subst (λ (w : Option Why). Comes now.spec now.before now.entries t w new.entries) (unskipped c.in_ok-make.field-0 (sym c.is_some.ensures ∙ c.if-is_some.false)) c.in_ok-make.ensures.comes in
    record {
      goes = goes_more first now new goes on;
      continues = continues_more f first now new goes c.loop-step.invariant.continues (continues_by f now new t next.1 comes);
    }

pub returns-then-is_some-clause-made : goal.returns-then-is_some-clause-made
returns-then-is_some-clause-made c =
    let now = c.loop-step.host in
    let new = c.make.new.self in
    let f = phase_of c.args.phase in
    let t = c.in-Some.step in
    let next = subst (λ (x : Option Step). IsNext f now x) c.in-Some.is c.next_step.ensures in
    let why = skipped c.in_ok-make.field-0 (sym c.is_some.ensures ∙ c.if-is_some.true) in
    ends_barred f c.args.host.now now new t why.0 c.loop-step.invariant.goes c.loop-step.invariant.continues next.1
    (subst (λ (w : Option Why). Comes now.spec now.before now.entries t w new.entries) why.1 c.in_ok-make.ensures.comes)
