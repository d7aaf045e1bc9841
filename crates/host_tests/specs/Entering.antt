-- What a turn that enters an owner does to the journal, and to what its seat knows.
use Rattle.std.specs.Prelude.{◌≡◌, ◌≢◌, ℕ, ◌⊎◌, [], ◌∷◌, ◌++◌, Option, None, Some, Result, Ok, Err}
use Rattle.mid_base.specs.declared.answers.By.{By}
use Rattle.mid_base.specs.declared.answers.NoMemory.{NoMemory}
use Rattle.mid_base.specs.declared.entries.Entry.TheVariants.{Owned}
use Rattle.mid_base.specs.declared.names.Attempt.{Attempt}
use Rattle.host_words.specs.declared.view.View.{View}
use Rattle.host_words.specs.declared.words.Claim.{Claim}
use Rattle.host_words.specs.declared.words.Claim.TheVariants.{Won, Lost}
use Rattle.host_words.specs.declared.words.WordSeen.TheVariants.{Armed}
use Rattle.host_words.specs.Journals.{Journal, In, HasCause}
use Rattle.host_words.specs.Views.{win, lost}
use Rattle.host_tests.specs.Turned.{TurnOf}

-- the owner of n was entered, unless it stood there
abbrev pub OwnerAdded : Journal → Attempt → By → Journal → Type 0
OwnerAdded base n by left = (In (Owned n by) base × (left ≡ base)) ⊎ ((In (Owned n by) base → ⊥) × (left ≡ base ++ Owned n by ∷ []))

-- a turn found attempt n of tag t claimed, after its answer or after its time was up, and the owner stands at its end; all else that the seat has won of the tag was owned
pub record Enters (v : View) (t : ℕ) (n : Attempt) (by : By) (w : View) : Type 0 where
  pub base : Journal
  pub left : Journal
  pub turn : TurnOf v base left w
  pub caused : HasCause base t n by
  pub owner : OwnerAdded base n by left
  pub won : (m : Attempt) (b : By) → In (win t m b) v.wins → ((m ≡ n) × (b ≡ by)) ⊎ In (Owned m b) base

-- a turn found no attempt of tag t claimed, and added nothing; all that the seat has won of the tag was owned
pub record FindsNone (v : View) (t : ℕ) (w : View) : Type 0 where
  pub base : Journal
  pub turn : TurnOf v base base w
  pub won : (m : Attempt) (b : By) → In (win t m b) v.wins → In (Owned m b) base

-- a turn added nothing
abbrev pub AddsNone : View → View → Type 0
AddsNone v w = (base : Journal) × TurnOf v base base w

-- what a turn that enters the owner of a tag's attempt answers
abbrev pub TellsOwner : View → ℕ → Result (Option (Attempt × By)) NoMemory → View → Type 0
TellsOwner v t (Ok (Some o)) w = Enters v t o.0 o.1 w
TellsOwner v t (Ok None) w = FindsNone v t w
TellsOwner v t (Err x) w = AddsNone v w

-- a seat claimed n under tag t: where it won it has seen the owner since, and else it knows no more than that it lost
abbrev pub Ends : View → ℕ → Attempt → By → Claim → View → Type 0
Ends v t n by Won w = In (Owned n by) w.seen
Ends v t n by (Lost m) w = (m ≢ Armed n) × (w ≡ lost v t n m)
