-- What each step on a word tells the seat that makes it. m is what it knew and has out, m' what it does then, r the number that the word had.
use Rattle.std.specs.Prelude.{◌≡◌, ◌≢◌, ℕ, ◌+◌, ◌%◌, ◌^◌, List, [], ◌∷◌, length, Option, Some}
use Rattle.atomic_table.specs.Table.{Me, Step, rest}
use Rattle.mid_base.specs.declared.answers.By.{By}
use Rattle.mid_base.specs.declared.answers.TagState.{TagState}
use Rattle.mid_base.specs.declared.entries.Entry.TheVariants.{Owned}
use Rattle.mid_base.specs.declared.names.Attempt.{Attempt}
use Rattle.host_words.specs.declared.words.WordSeen.{WordSeen}
use Rattle.host_words.specs.declared.words.WordSeen.TheVariants.{Armed}
use Rattle.host_words.specs.declared.view.Origin.{Origin}
use Rattle.host_words.specs.declared.view.Stage.TheVariants.{Waiting, Holding, Leaving}
use Rattle.host_words.specs.declared.view.Turn.{Turn}
use Rattle.host_words.specs.declared.view.View.{View}
use Rattle.host_words.specs.Journals.{Journal, IsPrefix, In}
use Rattle.host_words.specs.Words.{code, claimed_word}
use Rattle.host_words.specs.Views.{staged, begun, armed_with, showing, released_of, won, lost, left_view}
use Rattle.host_words.specs.Owners.{OwnersAgree}
use Rattle.host_words.specs.Leaving.{IsShownClaimed}
use Rattle.host_words.specs.Looks.{Looks}
use Rattle.host_words.specs.Places.{AreApart}

-- a claim was won, or it met the word w; it wasn't won where the seat has seen an owner
abbrev pub Claimed : View → ℕ → Attempt → By → WordSeen → View → Type 0
Claimed v t n by w v' = (w ≡ Armed n → v' ≡ won v t n by) × (w ≢ Armed n → v' ≡ lost v t n w) × ((b : By) → In (Owned n b) v.seen → w ≢ Armed n)

module _ {S : Type 0} where
  -- a number was drawn
  abbrev pub drew : Step (Option S) → Me (Option S) View → ℕ → Me (Option S) View → Type 0
  drew st m r m' = (m'.1 ≡ m.1) × ((t : ℕ) × (r ≡ t % 2 ^ 64) × (m'.0 ≡ staged m.0 (Waiting t)))

  -- the tag t has the word t + 2
  abbrev pub armed : Step (Option S) → Me (Option S) View → ℕ → Me (Option S) View → Type 0
  armed st m r m' = (m'.1 ≡ m.1)
      × ((t : ℕ) (n : Attempt) (k : ℕ) (u : Turn) → m.0.stage ≡ Holding k u → st.word ≡ t + 2 → st.first ≡ code (Armed n) → m'.0 ≡ staged m.0 (Holding k (armed_with u t n)))

  abbrev pub showed : Step (Option S) → Me (Option S) View → ℕ → Me (Option S) View → Type 0
  showed st m r m' = (m'.1 ≡ m.1) × ((t k : ℕ) (u : Turn) → m.0.stage ≡ Holding k u → st.word ≡ t + 2 → (w : WordSeen) × (r ≡ code w) × (m'.0 ≡ staged m.0 (Holding k (showing u t w))) × Looks m.0 u t w)

  abbrev pub freed : Step (Option S) → Me (Option S) View → ℕ → Me (Option S) View → Type 0
  freed st m r m' = (m'.1 ≡ m.1)
      × ((t : ℕ) (n : Attempt) (k : ℕ) (by : By) (u : Turn) → m.0.stage ≡ Holding k u → st.word ≡ t + 2 → IsShownClaimed u t n by → m'.0 ≡ staged m.0 (Holding k (released_of u t (claimed_word n by))))

  abbrev pub claimed : Step (Option S) → Me (Option S) View → ℕ → Me (Option S) View → Type 0
  claimed st m r m' = (m'.1 ≡ m.1)
      × ((t : ℕ) (n : Attempt) (by : By) → st.word ≡ t + 2 → st.first ≡ code (Armed n) → st.second ≡ code (claimed_word n by) → (w : WordSeen) × (r ≡ code w) × Claimed m.0 t n by w m'.0)

module _ {S : Type 0} (origin_of : S → Origin) (journal_of : S → Journal) (tags_of : S → List TagState) where
  -- the turn begins, and the state is out with the seat
  abbrev pub Begins : ℕ → Me (Option S) View → Me (Option S) View → Type 0
  Begins t m m' = (x : S) × (m'.1 ≡ (0, Some x) ∷ m.1) × (Some (origin_of x) ≡ m.0.origin) × (m'.0 ≡ staged m.0 (Holding t (begun (journal_of x) (tags_of x)))) × IsPrefix m.0.seen (journal_of x)
      × OwnersAgree m.0 (journal_of x) × (length (tags_of x) ≡ m.0.tags) × AreApart m.0.mine (length (journal_of x))

  -- the number that is served was looked at
  abbrev pub looked : Step (Option S) → Me (Option S) View → ℕ → Me (Option S) View → Type 0
  looked st m r m' = (t : ℕ) → m.0.stage ≡ Waiting t → (r ≡ t % 2 ^ 64 → Begins t m m') × (r ≢ t % 2 ^ 64 → m' ≡ m)

module _ {S : Type 0} (journal_of : S → Journal) where
  -- what the seat has out is the state to be left
  abbrev pub sealed : Step (Option S) → Me (Option S) View → ℕ → Me (Option S) View → Type 0
  sealed st m r m' = (m'.1 ≡ m.1) × ((t : ℕ) (u : Turn) (x : S) → m.0.stage ≡ Holding t u → m.1 ≡ (0, Some x) ∷ [] → m'.0 ≡ staged m.0 (Leaving t u (journal_of x)))

module _ {S : Type 0} where
  -- the next number is served, and the state is home
  abbrev pub counted : Step (Option S) → Me (Option S) View → ℕ → Me (Option S) View → Type 0
  counted st m r m' = (m'.1 ≡ rest m.1) × ((t : ℕ) (u : Turn) (left : Journal) → m.0.stage ≡ Leaving t u left → m'.0 ≡ left_view m.0 u left)
