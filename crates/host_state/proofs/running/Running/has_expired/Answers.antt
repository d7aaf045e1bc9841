use Rattle.std.proofs.Common.{◌≡◌, ◌∙◌, sym, ℕ, Bool, true, false, ◌||◌, List, [], ◌∷◌, refl}
use Rattle.std.specs.List.{list_any}
use Rattle.trace_model.specs.Attempts.{attempts}
use Rattle.trace_model.specs.Time.{is_expired}
use Rattle.mid_base.specs.declared.answers.By.TheVariants.{Expiry}
use Rattle.attempt_table.specs.Claims.{waits_for}
use Rattle.host_state.proofs.running.Running.has_expired.Goals as goal

either : (f g : ℕ → Bool) (xs : List ℕ) → list_any (λ n. f n || g n) xs ≡ list_any f xs || list_any g xs
either f g [] = refl
either f g (x ∷ xs) = rw (either f g xs) (by_tests (f x) (g x) (list_any f xs) (list_any g xs))
  where
    by_tests : (a b c d : Bool) → (a || b) || (c || d) ≡ (a || c) || (b || d)
    by_tests true b c d = refl
    by_tests false true true d = refl
    by_tests false true false d = refl
    by_tests false false true d = refl
    by_tests false false false d = refl

pub returns-then-has_due : goal.returns-then-has_due
returns-then-has_due c = λ s P r.
    let due = c.has_due.ensures s P r.timed.agrees r.time in
    let is : c.has_due.result ≡ true = c.if-has_due.true in
    either (is_expired s P) (waits_for P Expiry) (attempts P) ∙ rw (due, is) refl

pub returns-else-has_due : goal.returns-else-has_due
returns-else-has_due c = λ s P r.
    let due = c.has_due.ensures s P r.timed.agrees r.time in
    let isnt : c.has_due.result ≡ false = c.if-has_due.false in
    let claimed = c.has_claim.ensures s P r.attempts in
    either (is_expired s P) (waits_for P Expiry) (attempts P) ∙ rw (due, isnt) claimed
