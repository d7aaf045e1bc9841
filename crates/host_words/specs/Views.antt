-- What seats know, and what each call does to it.
use Rattle.std.specs.Prelude.{ℕ, ◌+◌, ◌-◌, List, [], ◌∷◌, ◌++◌, length, slice_set, Option, Some, None}
use Rattle.mid_base.specs.declared.answers.By.{By}
use Rattle.mid_base.specs.declared.answers.TagState.{TagState}
use Rattle.mid_base.specs.declared.answers.TagState.TheVariants as tag
use Rattle.mid_base.specs.declared.host_spec.HostSpec.{HostSpec}
use Rattle.mid_base.specs.declared.names.Attempt.{Attempt}
use Rattle.mid_base.specs.declared.names.DevAddr.{DevAddr}
use Rattle.host_words.specs.declared.words.WordSeen.{WordSeen}
use Rattle.host_words.specs.declared.view.Arm.{Arm}
use Rattle.host_words.specs.declared.view.Loss.{Loss}
use Rattle.host_words.specs.declared.view.Origin.{Origin}
use Rattle.host_words.specs.declared.view.Range.{Range}
use Rattle.host_words.specs.declared.view.Shown.{Shown}
use Rattle.host_words.specs.declared.view.Stage.{Stage}
use Rattle.host_words.specs.declared.view.Stage.TheVariants.{Away, Holding, Leaving}
use Rattle.host_words.specs.declared.view.Turn.{Turn}
use Rattle.host_words.specs.declared.view.View.{View}
use Rattle.host_words.specs.declared.view.Win.{Win}
use Rattle.host_words.specs.Journals.{Journal}

-- the spec of a state and the probes made before its journal began
abbrev pub origin_by : {S : Type 0} → (S → HostSpec) → (S → List (DevAddr × ℕ)) → S → Origin
origin_by spec before x = record { spec = spec x; before = before x }

abbrev pub win : ℕ → Attempt → By → Win
win t n by = record { «tag» = record { 0 = t }; attempt = n; by = by }

abbrev pub loss : ℕ → Attempt → WordSeen → Loss
loss t n w = record { «tag» = record { 0 = t }; attempt = n; met = w }

abbrev pub shows : ℕ → WordSeen → Shown
shows t w = record { «tag» = record { 0 = t }; word = w }

abbrev pub arm : ℕ → Attempt → Arm
arm t n = record { «tag» = record { 0 = t }; attempt = n }

abbrev pub range : ℕ → ℕ → Range
range from to = record { from = from; to = to }

-- a seat between turns that has won and lost nothing
abbrev pub fresh : Option Origin → ℕ → ℕ → Journal → View
fresh origin tags share seen = record { origin = origin; tags = tags; share = share; seen = seen; wins = []; losts = []; mine = []; stage = Away }

abbrev pub first_view : Origin → ℕ → Journal → View
first_view origin tags seen = fresh (Some origin) tags 65536 seen

abbrev pub staged : View → Stage → View
staged v st = record v { stage = st }

-- a turn as it begins
abbrev pub begun : Journal → List TagState → Turn
begun base tags = record { base = base; hand = tags; shown = []; armed = []; released = [] }

-- the turn of a seat that has it
abbrev pub turn_of : Stage → Turn
turn_of (Holding t u) = u
turn_of (Leaving t u l) = u
turn_of _ = begun [] []

-- within a turn: a tag was armed, a word was looked at, a claimed tag was released
abbrev pub armed_with : Turn → ℕ → Attempt → Turn
armed_with now t n = record now { hand = slice_set now.hand t (tag.Armed n); armed = now.armed ++ arm t n ∷ [] }

abbrev pub showing : Turn → ℕ → WordSeen → Turn
showing now t w = record now { shown = now.shown ++ shows t w ∷ [] }

abbrev pub released_of : Turn → ℕ → WordSeen → Turn
released_of now t w = record now { hand = slice_set now.hand t tag.Free; released = now.released ++ shows t w ∷ [] }

-- a claim was won; it was lost to the word w
abbrev pub won : View → ℕ → Attempt → By → View
won v t n by = record v { wins = v.wins ++ win t n by ∷ [] }

abbrev pub lost : View → ℕ → Attempt → WordSeen → View
lost v t n w = record v { losts = v.losts ++ loss t n w ∷ [] }

-- the turn has ended with this journal: the seat has seen it, and the entries beyond what the turn found are its own
abbrev pub left_view : View → Turn → Journal → View
left_view v u left = record v { seen = left; mine = v.mine ++ range (length u.base) (length left) ∷ []; stage = Away }

-- a share of 1 goes to a new seat, which has seen as much
abbrev pub split_left : View → View
split_left v = record v { share = v.share - 1 }

abbrev pub split_right : View → View
split_right v = fresh v.origin v.tags 1 v.seen

-- xs, and what ys has beyond the length of xs
abbrev pub grown : Journal → Journal → Journal
grown [] ys = ys
grown (x ∷ xs) [] = x ∷ xs
grown (x ∷ xs) (y ∷ ys) = x ∷ grown xs ys

-- one seat takes in what the other has; the other is spent
abbrev pub joined : View → View → View
joined v w = record { origin = v.origin; tags = v.tags; share = v.share + w.share; seen = grown v.seen w.seen; wins = v.wins ++ w.wins; losts = v.losts ++ w.losts; mine = v.mine ++ w.mine; stage = Away }

abbrev pub spent : View
spent = fresh None 0 0 []

-- f of each view, added up
abbrev pub total : {V : Type 0} → (V → ℕ) → List V → ℕ
total f [] = 0
total f (v ∷ vs) = f v + total f vs
