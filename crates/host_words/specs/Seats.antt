-- What clauses say of tables and seats.
use Rattle.std.specs.Prelude.{◌≡◌, ◌≢◌, ℕ, ◌-◌}
use Rattle.mid_base.specs.declared.answers.By.{By}
use Rattle.mid_base.specs.declared.names.Attempt.{Attempt}
use Rattle.host_words.specs.declared.host_table.HostTable.{HostTable}
use Rattle.host_words.specs.declared.seat.HostSeat.{HostSeat}
use Rattle.host_words.specs.declared.words.Claim.{Claim}
use Rattle.host_words.specs.declared.words.Claim.TheVariants.{Won, Lost}
use Rattle.host_words.specs.declared.words.WordSeen.TheVariants.{Armed}
use Rattle.host_words.specs.declared.view.Origin.{Origin}
use Rattle.host_words.specs.declared.view.Stage.TheVariants.{Away, Holding}
use Rattle.host_words.specs.declared.view.Turn.{Turn}
use Rattle.host_words.specs.declared.view.View.{View}
use Rattle.host_words.specs.Views.{turn_of, staged, won, lost}

module _ {S : Type 0} where
  -- what a seat knows
  abbrev pub view : HostSeat S → View
  view seat = seat.seat.me.0

  -- it was made for this table
  abbrev pub IsSeatOf : HostTable S → HostSeat S → Type 0
  IsSeatOf table seat = seat.seat.table_id ≡ table.table.shared.table_id

  -- it is a seat of the same table
  abbrev pub IsSameTable : HostSeat S → HostSeat S → Type 0
  IsSameTable p q = q.seat.table_id ≡ p.seat.table_id

  -- how many tags the table has
  abbrev pub tag_count : HostTable S → ℕ
  tag_count table = table.table.shared.table_id.words - 2

  -- the origin of the state that the table was made with
  abbrev pub table_origin : (S → Origin) → HostTable S → Origin
  table_origin origin_of table = origin_of table.table.shared.key.state.value

  -- the seat has no number
  abbrev pub IsAway : HostSeat S → Type 0
  IsAway seat = (view seat).stage ≡ Away

  -- the turn that the seat has
  abbrev pub turn : HostSeat S → Turn
  turn seat = turn_of (view seat).stage

  -- the seat has the turn, and the state is in the caller's hands
  abbrev pub IsHolding : HostSeat S → Type 0
  IsHolding seat = (t : ℕ) × ((view seat).stage ≡ Holding t (turn seat))

  -- in the same turn, what the seat knows of the turn is u now, and all else is as it was
  abbrev pub GoesOn : HostSeat S → Turn → HostSeat S → Type 0
  GoesOn p u q = IsSameTable p q × ((t : ℕ) × ((view p).stage ≡ Holding t (turn p)) × (view q ≡ staged (view p) (Holding t u)))

-- what a claim answers: it was won, or it was lost to the word that it met, which isn't the one that it is for
abbrev pub Answers : View → ℕ → Attempt → By → Claim → View → Type 0
Answers v t n by Won v' = v' ≡ won v t n by
Answers v t n by (Lost w) v' = (w ≢ Armed n) × (v' ≡ lost v t n w)

abbrev pub IsLost : Claim → Type 0
IsLost Won = ⊥
IsLost (Lost w) = Unit {0}
