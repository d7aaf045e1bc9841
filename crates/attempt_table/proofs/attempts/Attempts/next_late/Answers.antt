use Rattle.std.proofs.Common.{List, ℕ, ◌<◌, ◌≤◌, [], ◌≡◌, ◌∙◌, sym, ap, subst}
use Rattle.std.specs.Prelude.{All, Contains}
use Rattle.attempt_table.specs.AttemptsAgree.{times}
use Rattle.attempt_table.proofs.Numbers.{times_below, times_some}
use Rattle.attempt_table.proofs.attempts.Attempts.next_late.Goals as goal

pub returns-in-Some : goal.returns-in-Some
returns-in-Some c = λ s P run.
    let found = subst (λ (ms : List ℕ). Contains ms c.in-Some.n × All (λ x. c.in-Some.n ≤ x) ms) c.deref.ensures.value c.in-Some.ensures in (
      subst (λ (m : ℕ). 0 < m) (sym (run.0.lates_are c.in-Some.n)) (times_some c.in-Some.n c.args.self.now.lates.items found.0),
      λ n lt. run.0.lates_are n ∙ times_below c.in-Some.n c.args.self.now.lates.items found.1 n lt,
    )

pub returns-in-None : goal.returns-in-None
returns-in-None c = λ s P run n.
    let none : c.args.self.now.lates.items ≡ [] = sym c.deref.ensures.value ∙ c.in-None.ensures in
    run.0.lates_are n ∙ ap (times n) none
