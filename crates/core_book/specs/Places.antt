-- The places of a journal's entries, where os has the command of each, or None.
use Rattle.std.specs.Prelude.{◌≡◌, ◌≢◌, ℕ, ◌<◌, ◌+◌, ◌≤◌, ◌⊎◌, List, length, Option, None, Some, get_or, nat_eq, vec_len, vec_capacity}
use Rattle.std.specs.HashMap.{get, spare}
use Rattle.core_book.specs.declared.links.Ends.{Ends}
use Rattle.core_book.specs.declared.links.Links.{Links}

-- the place that stands for none
abbrev pub nowhere : ℕ
nowhere = 18446744073709551615

-- j is the least place of command c behind i, or nowhere
pub record IsNext (os : List (Option ℕ)) (c i j : ℕ) : Type 0 where
  pub behind : i < j
  pub between : (k : ℕ) → i < k → k < j → get_or os k None ≢ Some c
  pub there : (j ≡ nowhere) ⊎ (get_or os j None ≡ Some c)

-- i and j are the least and the greatest place of command c
pub record AreEnds (os : List (Option ℕ)) (c i j : ℕ) : Type 0 where
  pub first : get_or os i None ≡ Some c
  pub before : (k : ℕ) → k < i → get_or os k None ≢ Some c
  pub last : get_or os j None ≡ Some c
  pub behind : (k : ℕ) → j < k → get_or os k None ≢ Some c

-- ns has for each place that is of a command its next one, and f has the ends of each command that has a place
pub record AreLinked (os : List (Option ℕ)) (ns : List ℕ) (f : ℕ → Option Ends) : Type 0 where
  pub count : length ns ≡ length os
  pub next : (c i : ℕ) → get_or os i None ≡ Some c → IsNext os c i (get_or ns i 0)
  pub absent : (c k : ℕ) → f c ≡ None → get_or os k None ≢ Some c
  pub ends : (c : ℕ) (e : Ends) → f c ≡ Some e → AreEnds os c e.first e.last

abbrev pub IsLinked : List (Option ℕ) → Links → Type 0
IsLinked os l = AreLinked os l.next.items (get nat_eq l.ends)

-- k more places can be linked without memory
pub record HasRoom (l : Links) (k : ℕ) : Type 0 where
  pub next : vec_len l.next + k ≤ vec_capacity l.next
  pub ends : k ≤ spare l.ends

-- j is the least place of command c, or nowhere
pub record IsFirst (os : List (Option ℕ)) (c j : ℕ) : Type 0 where
  pub before : (k : ℕ) → k < j → get_or os k None ≢ Some c
  pub there : (j ≡ nowhere) ⊎ (get_or os j None ≡ Some c)

-- place is of command c, or nowhere, and ns has the next one of each place of c
pub record IsFollowed (os : List (Option ℕ)) (c : ℕ) (ns : List ℕ) (place : ℕ) : Type 0 where
  pub count : length ns ≡ length os
  pub next : (i : ℕ) → get_or os i None ≡ Some c → IsNext os c i (get_or ns i 0)
  pub there : (place ≡ nowhere) ⊎ (get_or os place None ≡ Some c)
