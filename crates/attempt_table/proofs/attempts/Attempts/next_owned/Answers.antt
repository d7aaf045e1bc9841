use Rattle.std.proofs.Common.{List, ℕ, ◌≤◌, [], ◌≡◌, ◌∙◌, sym, ap, subst}
use Rattle.std.specs.Prelude.{All, Contains}
use Rattle.attempt_table.specs.Rows.{row_of, owned_in}
use Rattle.attempt_table.specs.AttemptsAgree.{times}
use Rattle.attempt_table.proofs.Listed.{unsettled_in, listed_is, unlisted_is}
use Rattle.attempt_table.proofs.Numbers.{times_below, times_some}
use Rattle.attempt_table.proofs.attempts.Attempts.next_owned.Goals as goal

pub returns-in-Some : goal.returns-in-Some
returns-in-Some c = λ s P run.
    let t = c.args.self.now in
    let found = subst (λ (ms : List ℕ). Contains ms c.in-Some.n × All (λ x. c.in-Some.n ≤ x) ms) c.deref.ensures.value c.in-Some.ensures in (
      unsettled_in P c.in-Some.n (row_of c.in-Some.n t.rows.items) (run.0.rows c.in-Some.n) (run.0.sound c.in-Some.n)
          ∙ listed_is (owned_in (row_of c.in-Some.n t.rows.items)) (times c.in-Some.n t.owned.items) (run.2 c.in-Some.n) (times_some c.in-Some.n t.owned.items found.0),
      λ n lt.
          unsettled_in P n (row_of n t.rows.items) (run.0.rows n) (run.0.sound n)
          ∙ unlisted_is (owned_in (row_of n t.rows.items)) (times n t.owned.items) (run.2 n) (times_below c.in-Some.n t.owned.items found.1 n lt),
    )

pub returns-in-None : goal.returns-in-None
returns-in-None c = λ s P run n.
    let t = c.args.self.now in
    let none : t.owned.items ≡ [] = sym c.deref.ensures.value ∙ c.in-None.ensures in
    unsettled_in P n (row_of n t.rows.items) (run.0.rows n) (run.0.sound n)
    ∙ unlisted_is (owned_in (row_of n t.rows.items)) (times n t.owned.items) (run.2 n) (ap (times n) none)
