-- The attempts that entries name.
use Rattle.std.specs.Prelude.{ℕ, Bool, true, false, ◌&&◌, ◌==◌, nat_le, Option, Some, List, [], ◌∷◌}
use Rattle.mid_base.specs.declared.answers.By.{By}
use Rattle.mid_base.specs.declared.answers.By.TheVariants.{Answer, Expiry}
use Rattle.mid_base.specs.declared.answers.TagState.{TagState}
use Rattle.mid_base.specs.declared.answers.TagState.TheVariants as tag
use Rattle.mid_base.specs.declared.entries.Entry.{Entry}
use Rattle.mid_base.specs.declared.entries.Entry.TheVariants.{Sent, Owned}
use Rattle.mid_base.specs.declared.names.Attempt.{Attempt}

-- the attempt that was sent or owned, else 0
abbrev pub number : Entry → ℕ
number (Sent c n t) = n.0
number (Owned n by) = n.0
number _ = 0

-- no attempt above k was sent or owned
abbrev pub below : ℕ → List Entry → Bool
below k [] = true
below k (e ∷ es) = nat_le (number e) k && below k es

abbrev pub same_by : By → By → Bool
same_by Answer Answer = true
same_by Expiry Expiry = true
same_by _ _ = false

-- the entry gives n this owner
abbrev pub is_owner : Attempt → By → Entry → Bool
is_owner n by (Owned m b) = m.0 == n.0 && same_by b by
is_owner n by _ = false

-- the tag is left to this owner of n
abbrev pub is_left_to : Attempt → By → Option TagState → Bool
is_left_to n by (Some (tag.Owned m b)) = m.0 == n.0 && same_by b by
is_left_to n by _ = false
