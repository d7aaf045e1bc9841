use Rattle.std.proofs.Common.{rules, ◌≡◌, ◌∙◌, true, false}
use Rattle.failure_table.proofs.Queries.{may_begin_is}
use Rattle.failure_table.proofs.failures.Failures.may_begin.Goals.{then-is_quiet, else-is_quiet}
use Rattle.failure_table.proofs.failures.Failures.may_begin.Goals as goal

pub returns-then-not-self : goal.returns-then-not-self
returns-then-not-self c = λ s P run.
    let begun : c.args.self.now.begun ≡ false = elim c.if-is_quiet.branch [ then-is_quiet w ↦ search rules | else-is_quiet w ↦ search rules ] in
    let quiet : c.is_quiet.result ≡ true = elim c.if-is_quiet.branch [ then-is_quiet w ↦ search rules | else-is_quiet w ↦ search rules ] in
    may_begin_is s P c.has_failed.result (c.is_quiet.ensures s P run ∙ quiet) (run.started ∙ begun) (c.has_failed.ensures s P run)
