use Rattle.std.proofs.Common.{Option, refl, sym, subst, ◌∙◌}
use Rattle.mid_base.specs.declared.steps.Why.{Why}
use Rattle.mid_base.specs.declared.steps.Step.TheVariants.{Submit}
use Rattle.drain_rounds.specs.Making.{Comes}
use Rattle.drain_rounds.specs.Rounds.{hand_in}
use Rattle.play_sched.proofs.Lanes.{lane_continues}
use Rattle.play_sched.proofs.Walk.{continues_more, goes_more, unskipped}
use Rattle.play_sched.proofs.phases.hand_in_lane.Goals as goal

pub loop-host-preserved : goal.loop-host-preserved
loop-host-preserved c =
    let first = c.args.host.now in
    let now = c.loop-host.host in
    let new = c.make.new.self in
    let lane = c.args.lane in
    let goes = c.loop-host.invariant.goes in
    let on = c.in_ok-make.ensures.goes refl in
    let comes = subst (λ (w : Option Why). Comes now.spec now.before now.entries (Submit (record { 0 = lane })) w new.entries) (unskipped c.in_ok-make.field-0 (sym c.is_some.ensures ∙ c.if-is_some.false)) c.in_ok-make.ensures.comes in
    record {
      goes = goes_more first now new goes on;
      continues = continues_more hand_in first now new goes c.loop-host.invariant.continues
          (lane_continues now new lane c.requires.lane (goes.handed lane c.requires.below) comes);
    }
