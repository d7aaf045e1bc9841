use Rattle.std.proofs.Common.{◌≡◌, ◌<◌, length, Ok, None, Option, Some, Result, reverse, sym, subst}
use Rattle.mid_base.specs.declared.steps.Did.{Did}
use Rattle.mid_base.specs.declared.steps.Why.{Why}
use Rattle.mid_base.specs.declared.answers.NoMemory.{NoMemory}
use Rattle.adapter_tables.specs.Ties.{any_due}
use Rattle.debug_adapter.specs.Adapter.{AdapterStands}
use Rattle.debug_adapter.specs.Means.{means_of}
use Rattle.mid_core.specs.Steps.{Answers}
use Rattle.drain_rounds.specs.Making.{Comes, HostRun}
use Rattle.play_sched.specs.Rest.{GoesOn}
use Rattle.play_sched.proofs.Steps.{came, goes, kept_on, longer, run_of, why_of}
use Rattle.play_sched.proofs.host.Host.make.Goals as goal
use Rattle.play_sched.proofs.host.Host.make.Goals.{in-Done, in-Skipped}

pub returns-clause-comes : goal.returns-clause-comes
returns-clause-comes c =
    let run = c.args.self.now in
    let Q = reverse c.step.new.self.journal in
    let comes = came c.self.inside.core c.step.new.self run c.args.step c.in_ok-step.field-0 c.self.view_is c.journal.ensures.stands c.in_ok-step.ensures.stands c.in_ok-step.ensures.answer in
    elim c.match-branch-2.branch [
      | in-Done w ↦ rw w.result-is (subst (λ (did : Did). Comes run.spec run.before run.entries c.args.step (why_of did) Q) w.in-Done.is comes)
      | in-Skipped w ↦ rw w.result-is (subst (λ (did : Did). Comes run.spec run.before run.entries c.args.step (why_of did) Q) w.in-Skipped.is comes)
    ]

pub returns-clause-goes : goal.returns-clause-goes
returns-clause-goes c none =
    let new = c.step.new.self in
    let on = subst (λ (run : HostRun). GoesOn run (run_of new)) c.self.view_is (goes c.self.inside.core new c.args.step c.in_ok-step.field-0 none c.in_ok-step.ensures.answer) in
    elim c.match-branch-2.branch [
      | in-Done w ↦ rw w.result-is on
      | in-Skipped w ↦ rw w.result-is on
    ]

pub returns-clause-more : goal.returns-clause-more
returns-clause-more c e =
    let old = c.self.inside.core in
    let new = c.step.new.self in
    elim c.match-branch-2.branch [
      | in-Done w ↦
          subst (λ (run : HostRun). length run.entries < length (reverse new.journal)) c.self.view_is
          (longer old new c.args.step (subst (λ (did : Did). Answers AdapterStands (λ x now. any_due x.held now) (λ x. means_of x.held) old new c.args.step (Ok did)) w.in-Done.is c.in_ok-step.ensures.answer))
      | in-Skipped w ↦ absurd (let other = rw w.result-is at e in cc other)
    ]
