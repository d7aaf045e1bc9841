-- The places of a journal that turns fill.
use Rattle.std.specs.Prelude.{◌≡◌, List, [], ◌∷◌, ◌++◌, length, max}
use Rattle.mid_base.specs.declared.entries.Entry.TheVariants.{EhBegin, EhEnd}
use Rattle.host_words.specs.declared.view.Range.{Range}
use Rattle.host_words.specs.declared.view.View.{View}
use Rattle.host_words.specs.Views.{range, joined}
use Rattle.host_tests.specs.declared.places.Places.{Places}
use Rattle.host_tests.specs.Turned.{Added}

-- a turn filled these places, and the seat has seen no further
abbrev pub Fills : View → Places → View → Type 0
Fills v p w = (w.mine ≡ v.mine ++ range p.from p.to ∷ []) × (length w.seen ≡ p.to)

-- two seats filled these places, the one and then the other, and the first took the second in
abbrev pub BothFill : View → View → Places × Places → View → Type 0
BothFill v w p x = (x.mine ≡ (v.mine ++ range p.0.from p.0.to ∷ []) ++ (w.mine ++ range p.1.from p.1.to ∷ [])) × (length x.seen ≡ max p.0.to p.1.to)

-- a turn of v noted the beginning of recovery, and one of w its end, at these places; then v took w in
abbrev pub TwoTurns : View → View → Places × Places → View → Type 0
TwoTurns v w p x = (v' : View) × (w' : View) × Added v EhBegin v' × Fills v p.0 v' × Added w EhEnd w' × Fills w p.1 w' × (x ≡ joined v' w')

-- what three seats have filled that have made turns at these places
abbrev pub ranges_of_three : View → View → View → Places → Places → Places → List Range
ranges_of_three u v w p q r = ((u.mine ++ range p.from p.to ∷ []) ++ (v.mine ++ range q.from q.to ∷ [])) ++ (w.mine ++ range r.from r.to ∷ [])
