-- What arming a tag and ending a turn ask for.
use Rattle.std.specs.Prelude.{◌≡◌, ℕ, ◌<◌, ◌⊎◌, List, length, slice_get, Some}
use Rattle.mid_base.specs.declared.answers.By.{By}
use Rattle.mid_base.specs.declared.answers.TagState.{TagState}
use Rattle.mid_base.specs.declared.answers.TagState.TheVariants as tag
use Rattle.mid_base.specs.declared.entries.Entry.TheVariants.{Owned}
use Rattle.mid_base.specs.declared.names.Attempt.{Attempt}
use Rattle.host_words.specs.declared.view.Shown.{Shown}
use Rattle.host_words.specs.declared.view.Turn.{Turn}
use Rattle.host_words.specs.Journals.{Journal, IsPrefix, In, HasSent}
use Rattle.host_words.specs.Words.{claimed_word}
use Rattle.host_words.specs.Views.{shows, arm}

-- n is above each attempt that the turn knows of
pub record IsNew (now : Turn) (n : Attempt) : Type 0 where
  pub above_sent : (t : ℕ) (m : Attempt) → HasSent now.base t m → m.0 < n.0
  pub above_owned : (m : Attempt) (by : By) → In (Owned m by) now.base → m.0 < n.0
  pub above_armed : (t : ℕ) (m : Attempt) → In (arm t m) now.armed → m.0 < n.0

-- the tag is as the turn has it, or its attempt was armed, was shown to be claimed, and is owned now
abbrev pub TagLeft : List Shown → ℕ → TagState → TagState → Type 0
TagLeft shown t had f = (f ≡ had) ⊎ ((n : Attempt) × (by : By) × (had ≡ tag.Armed n) × (f ≡ tag.Owned n by) × In (shows t (claimed_word n by)) shown)

-- a state with this journal and these tags may be left at the end of the turn
pub record MayLeave (now : Turn) (left : Journal) (tags : List TagState) : Type 0 where
  pub later : IsPrefix now.base left
  pub long : length tags ≡ length now.hand
  -- what was armed is sent
  pub sent : (t : ℕ) (n : Attempt) → In (arm t n) now.armed → HasSent left t n
  pub each_tag : (t : ℕ) (f : TagState) → slice_get tags t ≡ Some f → (had : TagState) × (slice_get now.hand t ≡ Some had) × TagLeft now.shown t had f
  -- a new owner is one whose claim a look showed
  pub owned : (n : Attempt) (by : By) → In (Owned n by) left → In (Owned n by) now.base ⊎ ((t : ℕ) × In (shows t (claimed_word n by)) now.shown)
  -- what was released is owned
  pub settled : (t : ℕ) (n : Attempt) (by : By) → In (shows t (claimed_word n by)) now.released → In (Owned n by) left

-- a look of the turn showed the tag's claimed word, which was not released since
abbrev pub IsShownClaimed : Turn → ℕ → Attempt → By → Type 0
IsShownClaimed now t n by = In (shows t (claimed_word n by)) now.shown × (In (shows t (claimed_word n by)) now.released → ⊥)
