-- What a turn does to what a seat knows.
use Rattle.std.specs.Prelude.{◌≡◌, ◌<◌, ◌≤◌, ◌+◌, ◌^◌, ℕ, [], ◌∷◌, ◌++◌}
use Rattle.mid_base.specs.declared.answers.By.TheVariants.{Answer, Expiry}
use Rattle.mid_base.specs.declared.entries.Entry.{Entry}
use Rattle.mid_base.specs.declared.names.Attempt.{Attempt}
use Rattle.host_words.specs.declared.view.View.{View}
use Rattle.host_words.specs.declared.view.Stage.TheVariants.{Away}
use Rattle.host_words.specs.declared.host_table.HostTable.{HostTable}
use Rattle.host_words.specs.declared.seat.HostSeat.{HostSeat}
use Rattle.host_words.specs.Journals.{Journal, IsPrefix, HasCause}
use Rattle.host_words.specs.Views.{begun, left_view}
use Rattle.host_words.specs.Seats.{view, tag_count, IsSeatOf, IsAway}
use Rattle.host_tests.specs.declared.desk.Desk.{Desk}

-- a turn found the journal base, and left the journal left
pub record TurnOf (v : View) (base left : Journal) (w : View) : Type 0 where
  pub found : IsPrefix v.seen base
  pub later : IsPrefix base left
  pub is : w ≡ left_view v (begun base []) left

abbrev pub Turned : View → View → Type 0
Turned v w = (base left : Journal) × TurnOf v base left w

-- the turn added this entry
abbrev pub Added : View → Entry → View → Type 0
Added v e w = (base : Journal) × TurnOf v base (base ++ e ∷ []) w

-- it has the same origin, share and claims, and has seen no less
pub record GoesOn (v w : View) : Type 0 where
  pub origin : w.origin ≡ v.origin
  pub share : w.share ≡ v.share
  pub away : w.stage ≡ Away
  pub later : IsPrefix v.seen w.seen

-- a seat of the table that has no number
abbrev pub IsIdle : HostTable Desk → HostSeat Desk → Type 0
IsIdle table seat = IsSeatOf table seat × IsAway seat

-- the same seat after some turns
abbrev pub IsBack : HostTable Desk → HostSeat Desk → HostSeat Desk → Type 0
IsBack table old new = IsSeatOf table new × GoesOn (view old) (view new)

-- attempt n was sent under tag t, was answered, and its time was up
abbrev pub IsTold : Journal → ℕ → Attempt → Type 0
IsTold j t n = HasCause j t n Answer × HasCause j t n Expiry

-- the attempts 1 to k are told under the tags 0 to k - 1
abbrev pub AllTold : ℕ → Journal → Type 0
AllTold k j = (i : ℕ) → i < k → IsTold j i (record { 0 = i + 1 })

-- it may claim the attempts 1 to 1000 under the tags 0 to 999
abbrev pub IsReady : HostTable Desk → HostSeat Desk → Type 0
IsReady table seat = IsIdle table seat × (1000 ≤ tag_count table) × AllTold 1000 (view seat).seen

-- it may claim attempt n under tag 0, by either side
abbrev pub MayEnd : HostTable Desk → HostSeat Desk → Attempt → Type 0
MayEnd table seat n = IsIdle table seat × (0 < tag_count table) × (n.0 < 2 ^ 60) × IsTold (view seat).seen 0 n
