use Rattle.std.proofs.Common.{List, reverse, sym, subst}
use Rattle.std.proofs.lemmas.List.{reverse-reverse}
use Rattle.mid_base.specs.declared.entries.Entry.{Entry}
use Rattle.journal_laws.specs.Headline.{Headline}
use Rattle.journal_laws.proofs.Heads.{headline}
use Rattle.drain_rounds.specs.Making.{HostRun}
use Rattle.play_sched.specs.Runs.{IsRun}
use Rattle.play_sched.proofs.host.Host.journal.Goals as goal

pub returns-clause-run : goal.returns-clause-run
returns-clause-run c =
    let core = c.self.inside.core in
    subst (λ (run : HostRun). IsRun run) c.self.view_is (record {
      headline = subst (λ (journal : List Entry). Headline core.spec journal) (sym (reverse-reverse core.journal)) (headline core.spec core.journal c.journal.ensures.legal);
      lower = c.journal.ensures.stands.5;
    })
