-- The rule of a host's table.
-- Word 0 is the number that is drawn next, and word 1 the number that is served, both modulo 2 ^ 64; the rule counts them without an end. A word for each tag follows.
-- The one slot has the state. It is out with the seat that has the turn.
use Rattle.std.specs.Prelude.{◌≡◌, ℕ, ◌+◌, ◌%◌, ◌^◌, ◌<◌, ◌≤◌, List, [], ◌∷◌, map, length, Option, Some, None}
use mathlib.Core.Option as maybe
use lib.ListN.{get_elem?}
use Rattle.atomic_table.specs.Table.{State}
use Rattle.mid_base.specs.declared.answers.TagState.{TagState}
use Rattle.host_words.specs.declared.words.WordSeen.{WordSeen}
use Rattle.host_words.specs.declared.view.Origin.{Origin}
use Rattle.host_words.specs.declared.view.Stage.{Stage}
use Rattle.host_words.specs.declared.view.Stage.TheVariants.{Away, Waiting, Holding, Leaving}
use Rattle.host_words.specs.declared.view.Turn.{Turn}
use Rattle.host_words.specs.declared.view.View.{View}
use Rattle.host_words.specs.Journals.{Journal, IsPrefix}
use Rattle.host_words.specs.Words.{code}
use Rattle.host_words.specs.Places.{covered_by, below, EndBy}
use Rattle.host_words.specs.Views.{begun, total}
use Rattle.host_words.specs.Owners.{Owners}

abbrev pub share_of : View → ℕ
share_of v = v.share

-- how many numbers it has
abbrev pub drawn_by : Stage → ℕ
drawn_by Away = 0
drawn_by (Waiting t) = 1
drawn_by (Holding t u) = 1
drawn_by (Leaving t u l) = 1

abbrev pub tickets : View → ℕ
tickets v = drawn_by v.stage

-- how many turns it has
abbrev pub held_by : Stage → ℕ
held_by Away = 0
held_by (Waiting t) = 0
held_by (Holding t u) = 1
held_by (Leaving t u l) = 1

abbrev pub turns : View → ℕ
turns v = held_by v.stage

-- it has the number t
abbrev pub Has : ℕ → Stage → Type 0
Has t Away = ⊥
Has t (Waiting u) = t ≡ u
Has t (Holding u w) = t ≡ u
Has t (Leaving u w l) = t ≡ u

-- a seat with a share has the table's origin, and its number of tags; one without is spent
abbrev pub IsOf : Origin → View → Type 0
IsOf origin v = 0 < v.share → v.origin ≡ Some origin

abbrev pub HasTags : ℕ → View → Type 0
HasTags tags v = 0 < v.share → v.tags ≡ tags

module _ (served drawn : ℕ) (now : Turn) where
  -- what a seat with a number knows of the turn
  abbrev pub Knows : Stage → Type 0
  Knows Away = Unit {0}
  Knows (Waiting t) = (served ≤ t) × (t < drawn)
  Knows (Holding t u) = (t ≡ served) × (t < drawn) × (u ≡ now)
  Knows (Leaving t u l) = (t ≡ served) × (t < drawn) × (u ≡ now)

module _ {S : Type 0} (origin_of : S → Origin) (journal_of : S → Journal) (tags_of : S → List TagState) (about : Origin) where
  -- the state is home while no seat has the turn
  abbrev pub Home : Turn → ℕ → maybe.Option (Option S) → Type 0
  Home now holders (maybe.some (Some x)) = (origin_of x ≡ about) × (now ≡ begun (journal_of x) (tags_of x)) × (holders ≡ 0)
  Home now holders (maybe.some None) = ⊥
  Home now holders maybe.none = holders ≡ 1

  module _ (tags : ℕ) where
    pub record Hosted (s : State (Option S) View) : Type 0 where
      pub served : ℕ
      pub drawn : ℕ
      pub now : Turn
      pub home : maybe.Option (Option S)
      pub cells : List WordSeen
      pub sized : length cells ≡ tags
      pub words_are : s.words ≡ (drawn % 2 ^ 64) ∷ (served % 2 ^ 64) ∷ map code cells
      pub slot_is : s.homes ≡ home ∷ []
      pub at_home : Home now (total turns s.views) home
      pub counts : drawn ≡ served + total tickets s.views
      pub shares : total share_of s.views ≡ 65536
      -- no two seats have one number
      pub apart : (j k t : ℕ) (v w : View) → get_elem? s.views j ≡ maybe.some v → get_elem? s.views k ≡ maybe.some w → Has t v.stage → Has t w.stage → j ≡ k
      pub backed : (j : ℕ) (v : View) → get_elem? s.views j ≡ maybe.some v → tickets v ≤ v.share
      pub each_origin : (j : ℕ) (v : View) → get_elem? s.views j ≡ maybe.some v → IsOf about v
      pub each_tags : (j : ℕ) (v : View) → get_elem? s.views j ≡ maybe.some v → HasTags tags v
      pub each_seen : (j : ℕ) (v : View) → get_elem? s.views j ≡ maybe.some v → IsPrefix v.seen now.base
      pub each_seat : (j : ℕ) (v : View) → get_elem? s.views j ≡ maybe.some v → Knows served drawn now v.stage
      pub each_range : (j : ℕ) (v : View) → get_elem? s.views j ≡ maybe.some v → EndBy (length now.base) v.mine
      -- each place of the journal is in at most one range of one seat
      pub once : (p : ℕ) → total (covered_by p) s.views ≤ below p (length now.base)
      pub owners : Owners cells now s.views
