use Rattle.std.proofs.Common.{ℕ, List, Err, subst}
use Rattle.mid_base.specs.declared.steps.Why.{Why}
use Rattle.report_text.specs.Ends.{WritesText}
use Rattle.report_text.specs.Text.{skips_text}
use Rattle.report_text.proofs.Written.{ends_on, stops_in}
use Rattle.drain_rounds.specs.Making.{HostRun}
use Rattle.play_top.specs.Texts.{hosts_text, played_text}
use Rattle.play_top.proofs.writing.write_played.Goals as goal

pub returns-in-Err-clause-answer : goal.returns-in-Err-clause-answer
returns-in-Err-clause-answer g c =
    let skips = c.args.played.now.skips.items in
    subst (λ (runs : List HostRun). WritesText (g.K.Sink.written c.args.out.now) (g.K.Sink.written c.write_hosts.new.out) (played_text runs skips) (g.K.Sink.faults c.args.out.now) (g.K.Sink.faults c.write_hosts.new.out) (Err c.in-Err.end))
    c.deref.ensures.value
    (stops_in _ _ (hosts_text c.deref.result.now) (skips_text skips) _ _ _ c.in-Err.ensures.answer)

pub returns-clause-answer : goal.returns-clause-answer
returns-clause-answer g c =
    subst (λ (runs : List HostRun). WritesText (g.K.Sink.written c.args.out.now) (g.K.Sink.written c.write_skips.new.out) (played_text runs c.args.played.now.skips.items) (g.K.Sink.faults c.args.out.now) (g.K.Sink.faults c.write_skips.new.out) c.write_skips.result)
    c.deref.ensures.value
    (subst (λ (skips : List (ℕ × Why)). WritesText (g.K.Sink.written c.args.out.now) (g.K.Sink.written c.write_skips.new.out) (played_text c.deref.result.now skips) (g.K.Sink.faults c.args.out.now) (g.K.Sink.faults c.write_skips.new.out) c.write_skips.result)
    c.deref-2.ensures.value
    (ends_on _ _ _ (hosts_text c.deref.result.now) (skips_text c.deref-2.result.now) _ _ _ _ c.in_default.ensures.answer c.write_hosts.ensures.later c.write_skips.ensures.answer))
