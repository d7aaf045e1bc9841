use Rattle.std.proofs.Common.{ℕ, List, sym, subst}
use Rattle.report_text.specs.Ends.{WritesText}
use Rattle.play_top.proofs.Texts.{named_is}
use Rattle.play_top.proofs.writing.write_if_named.Goals as goal

pub returns-clause-answer : goal.returns-clause-answer
returns-clause-answer g c =
    subst (λ (x : List ℕ). WritesText (g.K.Sink.written c.args.out.now) (g.K.Sink.written c.write_host.new.out) x (g.K.Sink.faults c.args.out.now) (g.K.Sink.faults c.write_host.new.out) c.write_host.result)
    (sym (named_is c.args.number c.args.host.now c.spec-spec.result.now c.as_slice.result.now c.journal.result.now c.spec-spec.ensures c.as_slice.ensures c.journal.ensures.entries c.if-spec-number.false))
    c.write_host.ensures.answer
