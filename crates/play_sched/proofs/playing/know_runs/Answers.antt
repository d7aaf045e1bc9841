use Rattle.std.proofs.Common.{List, get_or, take, sym, subst, arith}
use Rattle.std.specs.Prelude.{All}
use Rattle.std.proofs.lemmas.List.{take_all, take_more}
use Rattle.std.proofs.lemmas.List.Elements.{All-push}
use Rattle.drain_rounds.specs.Making.{HostRun}
use Rattle.play_sched.specs.Runs.{IsRun}
use Rattle.play_sched.proofs.playing.know_runs.Goals as goal

pub loop-host-preserved : goal.loop-host-preserved
loop-host-preserved c =
    let hosts = c.args.hosts.now in
    let i = c.loop-host.host-index in
    let host = c.host-item.result in
    subst (λ (runs : List HostRun). All IsRun runs) (sym (take_more hosts i host c.loop-host-test.true))
    (All-push IsRun (take i hosts) (get_or hosts i host) c.loop-host.invariant (subst (λ (run : HostRun). IsRun run) c.host-item.is c.journal.ensures.run))

pub returns : goal.returns
returns c = subst (λ (runs : List HostRun). All IsRun runs) (take_all c.loop-host.host-index c.args.hosts.now (omega arith)) c.loop-host.invariant
