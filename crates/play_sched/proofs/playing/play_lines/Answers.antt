use Rattle.std.proofs.Common.{List, map, sym, ap, ◌∙◌, subst}
use Rattle.std.specs.Prelude.{All}
use Rattle.mid_base.specs.declared.host_spec.HostSpec.{HostSpec}
use Rattle.script_text.specs.Playable.{IsStepOf}
use Rattle.drain_rounds.specs.Making.{HostRun}
use Rattle.play_sched.specs.Played.{Plays}
use Rattle.play_sched.specs.Runs.{specs_of, unplayed}
use Rattle.play_sched.proofs.Runs.{started, steps_fit, written_back}
use Rattle.play_sched.proofs.playing.play_lines.Goals as goal

pub play_steps-requires : goal.play_steps-requires
play_steps-requires c = steps_fit c.args.scans.now c.args.specs c.args.steps.now c.deref_mut.result.now (c.deref_mut.ensures.value ∙ c.in_ok-hosts.ensures) c.requires.steps

pub returns-clause-plays : goal.returns-clause-plays
returns-clause-plays c =
    let new = c.play_steps.new.hosts in
    let old = c.in_ok-hosts.hosts in
    let start = c.deref_mut.ensures.value ∙ c.in_ok-hosts.ensures in
    let back = written_back new old.items old.len (c.in_ok-skips.ensures.specs ∙ ap specs_of c.deref_mut.ensures.value) old.ok.0 in
    subst (λ (runs : List HostRun). Plays c.args.steps.now (map (unplayed c.args.scans.now) c.args.specs) runs c.in_ok-skips.skips.items) (sym back)
    (subst (λ (runs : List HostRun). Plays c.args.steps.now runs new c.in_ok-skips.skips.items) start c.in_ok-skips.ensures.plays)

pub returns-clause-specs : goal.returns-clause-specs
returns-clause-specs c =
    let new = c.play_steps.new.hosts in
    let old = c.in_ok-hosts.hosts in
    let start = c.deref_mut.ensures.value ∙ c.in_ok-hosts.ensures in
    let back = written_back new old.items old.len (c.in_ok-skips.ensures.specs ∙ ap specs_of c.deref_mut.ensures.value) old.ok.0 in
    ap specs_of back ∙ (c.in_ok-skips.ensures.specs ∙ started c.args.scans.now c.args.specs c.deref_mut.result.now start)
