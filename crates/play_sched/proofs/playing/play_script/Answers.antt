use Rattle.std.proofs.Common.{ℕ, List, map, sym, ap, ◌∙◌, subst}
use Rattle.std.specs.Prelude.{All, ◌&&◌, not}
use Rattle.mid_base.specs.declared.names.DevAddr.{DevAddr}
use Rattle.mid_base.specs.declared.names.HostNo.{HostNo}
use Rattle.mid_base.specs.declared.steps.Step.{Step}
use Rattle.mid_base.specs.declared.host_spec.HostSpec.{HostSpec}
use Rattle.drain_rounds.specs.Making.{HostRun}
use Rattle.play_sched.specs.Played.{Plays, RunOn}
use Rattle.play_sched.specs.Runs.{IsRun, all_drained, as_found, specs_of, unplayed}
use Rattle.play_sched.proofs.Runs.{numbered, ran}
use Rattle.play_sched.proofs.playing.play_script.Goals as goal

pub returns-clause-ran : goal.returns-clause-ran
returns-clause-ran c =
    let script = c.args.script in
    let lines = c.in_ok-lines.lines in
    let new = c.in_ok-hosts.hosts in
    ran script lines.0.items new.items lines.1.items c.is_short-short.result
    (subst (λ (steps : List (ℕ × HostNo × Step)). Plays steps (map (unplayed script.scans) script.hosts) lines.0.items lines.1.items) c.as_slice-2.ensures
    (subst (λ (scans : List (HostNo × DevAddr)). Plays c.as_slice-2.result.now (map (unplayed scans) script.hosts) lines.0.items lines.1.items) c.as_slice.ensures c.in_ok-lines.ensures.plays))
    (subst (λ (most : ℕ). RunOn script.drain most lines.0.items new.items) c.most_rounds-most.ensures c.in_ok-hosts.ensures.rounds)
    (c.in_ok-hosts.ensures.specs ∙ (c.in_ok-lines.ensures.specs ∙ ap (λ (scans : List (HostNo × DevAddr)). map (as_found scans) script.hosts) c.as_slice.ensures))
    (c.is_short-short.ensures ∙ ap (λ (runs : List HostRun). script.drain && not (all_drained runs)) c.deref.ensures.value)
    (subst (λ (runs : List HostRun). All IsRun runs) c.deref-2.ensures.value c.know_runs.ensures)

pub returns-clause-numbers : goal.returns-clause-numbers
returns-clause-numbers c =
    let script = c.args.script in
    numbered script.scans script.hosts c.in_ok-hosts.hosts.items
    (c.in_ok-hosts.ensures.specs ∙ (c.in_ok-lines.ensures.specs ∙ ap (λ (scans : List (HostNo × DevAddr)). map (as_found scans) script.hosts) c.as_slice.ensures)) c.requires.limits
