-- Who may own an attempt: what the words of the tags say, against the turn and what the seats know.
-- cells is what the words say, by tag. now is the turn: of the seat that has it, or as it would begin.
use Rattle.std.specs.Prelude.{◌≡◌, ◌≢◌, ℕ, ◌+◌, ◌≤◌, ◌⊎◌, ◌==◌, if◌then◌else◌, List, [], ◌∷◌, length}
use mathlib.Core.Option.{some}
use lib.ListN.{get_elem?}
use Rattle.mid_base.specs.declared.answers.By.{By}
use Rattle.mid_base.specs.declared.answers.TagState.{TagState}
use Rattle.mid_base.specs.declared.entries.Entry.TheVariants.{Owned}
use Rattle.mid_base.specs.declared.names.Attempt.{Attempt}
use Rattle.host_words.specs.declared.words.WordSeen.{WordSeen}
use Rattle.host_words.specs.declared.words.WordSeen.TheVariants.{Armed}
use Rattle.host_words.specs.declared.view.Turn.{Turn}
use Rattle.host_words.specs.declared.view.View.{View}
use Rattle.host_words.specs.declared.view.Win.{Win}
use Rattle.host_words.specs.Journals.{Journal, In, HasSent, HasCause}
use Rattle.host_words.specs.Words.{claimed_word, NumberIs, Fits}
use Rattle.host_words.specs.Views.{win, loss, shows, arm, total}

-- how many of the wins are of attempt n
abbrev pub has_attempt : Attempt → List Win → ℕ
has_attempt n [] = 0
has_attempt n (w ∷ ws) = (if n.0 == w.attempt.0 then 1 else 0) + has_attempt n ws

abbrev pub wins_of : Attempt → View → ℕ
wins_of n v = has_attempt n v.wins

module _ (cells : List WordSeen) where
  -- a claim that was lost: its attempt had been sent, and isn't armed now
  abbrev pub LossStands : Journal → ℕ → Attempt → WordSeen → Type 0
  LossStands seen t n w = HasSent seen t n × (w ≢ Armed n) × (get_elem? cells t ≢ some (Armed n))

  abbrev pub LossesStand : View → Type 0
  LossesStand v = (t : ℕ) (n : Attempt) (w : WordSeen) → In (loss t n w) v.losts → LossStands v.seen t n w

module _ (cells : List WordSeen) (now : Turn) where
  -- a claim that was won: no word, no look of this turn and no entry says that another owns the attempt
  pub record WinStands (t : ℕ) (n : Attempt) (by : By) : Type 0 where
    pub sent : HasSent now.base t n
    pub unarmed : (u : ℕ) → get_elem? cells u ≡ some (Armed n) → ⊥
    pub stands : (get_elem? cells t ≡ some (claimed_word n by)) ⊎ (In (shows t (claimed_word n by)) now.shown ⊎ In (Owned n by) now.base)
    pub same_word : (u : ℕ) (b : By) → get_elem? cells u ≡ some (claimed_word n b) → b ≡ by
    pub same_shown : (u : ℕ) (b : By) → In (shows u (claimed_word n b)) now.shown → b ≡ by
    pub same_owned : (b : By) → In (Owned n b) now.base → b ≡ by

  abbrev pub WinsStand : View → Type 0
  WinsStand v = (t : ℕ) (n : Attempt) (by : By) → In (win t n by) v.wins → WinStands t n by

  pub record Owners (views : List View) : Type 0 where
    pub long : length now.hand ≡ length cells
    -- each word is one that the state of its tag may have
    pub fits : (t : ℕ) (f : TagState) (w : WordSeen) → get_elem? now.hand t ≡ some f → get_elem? cells t ≡ some w → Fits f w
    -- a claimed word that a look showed is there still, unless this turn released it
    pub still : (t : ℕ) (n : Attempt) (by : By) → In (shows t (claimed_word n by)) now.shown → In (shows t (claimed_word n by)) now.released ⊎ (get_elem? cells t ≡ some (claimed_word n by))
    pub was_shown : (t : ℕ) (n : Attempt) (by : By) → In (shows t (claimed_word n by)) now.released → In (shows t (claimed_word n by)) now.shown
    pub gone : (t : ℕ) (n : Attempt) (u : ℕ) (by : By) (w : WordSeen) → In (shows t (claimed_word n by)) now.released → get_elem? cells u ≡ some w → NumberIs n w → ⊥
    -- no attempt is in two words; each was sent, or was armed in this turn
    pub differ : (t u : ℕ) (n : Attempt) (v w : WordSeen) → get_elem? cells t ≡ some v → get_elem? cells u ≡ some w → NumberIs n v → NumberIs n w → t ≡ u
    pub known : (t : ℕ) (n : Attempt) (w : WordSeen) → get_elem? cells t ≡ some w → NumberIs n w → HasSent now.base t n ⊎ In (arm t n) now.armed
    -- an armed attempt has no owner, and no look showed it claimed
    pub unowned : (t : ℕ) (n : Attempt) → get_elem? cells t ≡ some (Armed n) → (by : By) → In (Owned n by) now.base → ⊥
    pub unshown : (t : ℕ) (n : Attempt) → get_elem? cells t ≡ some (Armed n) → (u : ℕ) (by : By) → In (shows u (claimed_word n by)) now.shown → ⊥
    -- a claimed attempt was answered, or its time was up
    pub caused : (t : ℕ) (n : Attempt) (by : By) → get_elem? cells t ≡ some (claimed_word n by) → HasCause now.base t n by
    pub caused_shown : (t : ℕ) (n : Attempt) (by : By) → In (shows t (claimed_word n by)) now.shown → HasCause now.base t n by
    -- no attempt was won twice, by whichever seats
    pub once : (n : Attempt) → total (wins_of n) views ≤ 1
    pub each_win : (j : ℕ) (v : View) → get_elem? views j ≡ some v → WinsStand v
    pub each_loss : (j : ℕ) (v : View) → get_elem? views j ≡ some v → LossesStand cells v

-- whoever owns an attempt that the seat has won has it by that claim
abbrev pub OwnersAgree : View → Journal → Type 0
OwnersAgree v journal = (t : ℕ) (n : Attempt) (by b : By) → In (win t n by) v.wins → In (Owned n b) journal → b ≡ by

-- no attempt was won twice
abbrev pub WonOnce : View → Type 0
WonOnce v = (n : Attempt) → has_attempt n v.wins ≤ 1
