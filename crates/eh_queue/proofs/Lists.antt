-- How many failures stay where those of a command are taken off.
use Rattle.std.proofs.Common.{◌≡◌, ℕ, ◌-◌, ◌<◌, ◌≤◌, true, false, List, [], ◌∷◌, length, arith}
use Rattle.std.proofs.lemmas.Bool.{cases_Bool, false≢true}
use Rattle.std.proofs.lemmas.Bool.Decides.{nat_tests}
use Rattle.std.proofs.Common.{inl, inr}
use Rattle.mid_base.specs.declared.names.CmdId.{CmdId}
use Rattle.eh_queue.specs.Failures.{Failure, is_failed, without}

at_most : (c : CmdId) (xs : List Failure) → length (without c xs) ≤ length xs
at_most c [] = omega arith
at_most c (x ∷ xs) = grind (arith, nat_tests, at_most c xs)

fewer : (c : CmdId) (xs : List Failure) → is_failed c xs ≡ true → length (without c xs) < length xs
fewer c [] h = absurd (false≢true h)
fewer c (x ∷ xs) h = grind (arith, nat_tests, at_most c xs, fewer c xs)

-- the list stays within the count
pub within : (c : CmdId) (xs : List Failure) (busy : ℕ) → length xs ≤ busy → (is_failed c xs ≡ false → length xs < busy) → length (without c xs) ≤ busy - 1
within c xs busy all others =
    elim (cases_Bool (is_failed c xs)) as (λ _. length (without c xs) ≤ busy - 1) [
      | inl is ↦ omega (arith, fewer c xs is)
      | inr isnt ↦ omega (arith, at_most c xs, others isnt)
    ]
