-- Fewer bytes than were asked for are all there are.
use Rattle.std.proofs.Common.{arith, ◌<◌, ◌≤◌, ℕ, List, length, Option, None, Some, sym, ap, ◌∙◌, length-take}
use Rattle.std.proofs.lemmas.List.{take_all}
use Rattle.mid_io.specs.Whole.{IsAll, IsFront}

pub front_is_all : (left : Option (List ℕ)) (most : ℕ) (bytes : List ℕ) → IsFront left most bytes → length bytes < most → IsAll left bytes
front_is_all None most bytes front lt = tt
front_is_all (Some xs) most bytes front lt =
    sym (front ∙ take_all most xs (omega (arith, lt, ap length front, length-take {A = ℕ} most xs)))

pub front_fits : (left : Option (List ℕ)) (most : ℕ) (bytes : List ℕ) → IsFront left most bytes → length bytes ≤ most
front_fits None most bytes front = front
front_fits (Some xs) most bytes front = omega (arith, ap length front, length-take {A = ℕ} most xs)
