-- What a look tells of the word that it shows.
use Rattle.std.specs.Prelude.{◌≡◌, ℕ, ◌⊎◌, slice_get, Some}
use Rattle.mid_base.specs.declared.answers.By.{By}
use Rattle.mid_base.specs.declared.answers.TagState.{TagState}
use Rattle.mid_base.specs.declared.entries.Entry.TheVariants.{Owned}
use Rattle.mid_base.specs.declared.names.Attempt.{Attempt}
use Rattle.host_words.specs.declared.words.WordSeen.{WordSeen}
use Rattle.host_words.specs.declared.view.Turn.{Turn}
use Rattle.host_words.specs.declared.view.View.{View}
use Rattle.host_words.specs.Journals.{In, HasCause}
use Rattle.host_words.specs.Words.{claimed_word, Fits}
use Rattle.host_words.specs.Views.{win, shows}

-- a look of the turn showed the claim of n before, or the turn found its owner
abbrev pub WasShown : Turn → ℕ → Attempt → By → Type 0
WasShown now t n by = In (shows t (claimed_word n by)) now.shown ⊎ In (Owned n by) now.base

-- v is what the seat knew, now its turn before the look, and w the word of tag t
pub record Looks (v : View) (now : Turn) (t : ℕ) (w : WordSeen) : Type 0 where
  -- the tag's state in force may have it
  pub fits : (had : TagState) → slice_get now.hand t ≡ Some had → Fits had w
  -- a claimed attempt was answered, or its time was up
  pub caused : (n : Attempt) (by : By) → w ≡ claimed_word n by → HasCause now.base t n by
  -- what the seat has won is claimed still, or that was shown before, or it is owned
  pub won : (n : Attempt) (by : By) → In (win t n by) v.wins → (w ≡ claimed_word n by) ⊎ WasShown now t n by
