use Rattle.std.proofs.Common.{ℕ, take, get_or, ◌∙◌}
use Rattle.std.proofs.lemmas.List.{take_more}
use Rattle.mid_base.specs.declared.names.HostNo.{HostNo}
use Rattle.mid_base.specs.declared.steps.Step.{Step}
use Rattle.mid_base.specs.declared.steps.Step.TheVariants.{Submit}
use Rattle.play_sched.proofs.Lines.{plays_more}
use Rattle.play_sched.proofs.playing.play_steps.Goals as goal

abbrev no_step : ℕ × HostNo × Step
no_step = (0, record { 0 = 0 }, Submit (record { 0 = 0 }))

pub loop-line-preserved : goal.loop-line-preserved
loop-line-preserved c =
    let here = get_or c.args.steps.now c.loop-line.line-index no_step in
    record {
      plays = rw (take_more c.args.steps.now c.loop-line.line-index no_step c.loop-line-test.true, c.in_ok-note.ensures)
          (plays_more (take c.loop-line.line-index c.args.steps.now) _ _ _ c.loop-line.skips.items here c.in_ok-why.why c.loop-line.invariant.plays c.in_ok-why.ensures.comes);
      specs = c.in_ok-why.ensures.specs ∙ c.loop-line.invariant.specs;
    }
