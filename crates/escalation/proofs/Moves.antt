-- A ladder moves on.
use Rattle.std.proofs.Common.{◌≡◌, ◌≤◌, ◌-◌, ℕ, ◌+◌, Bool, List, map, filter, find, drop, length, Option, Some, None, option_map, refl, sym, ap, ◌∙◌, subst, arith}
use Rattle.std.proofs.lemmas.List.{drop-drop, length-map, length-drop}
use Rattle.mid_base.specs.declared.entries.Entry.{Entry}
use Rattle.mid_base.specs.declared.host_spec.Handlers.{Handlers}
use Rattle.disposition.specs.declared.todo.Todo.{Todo}
use Rattle.disposition.specs.Ladder.{Pair, is_wanted_pair, beyond_pair}
use Rattle.escalation.specs.declared.rungs.Rung.{Rung}
use Rattle.escalation.specs.Rungs.{pair_at}
use Rattle.escalation.specs.Climbing.{Climb, gone_on, next_pair, is_left, as_told}
use Rattle.escalation.proofs.Passing.{map_drop, found_at}

pub moved : (rs : List Rung) (at k : ℕ) (ps qs : List Pair) (ahead : List Rung) → map pair_at (drop at rs) ≡ ps → map pair_at ahead ≡ ps → map pair_at (drop k ahead) ≡ qs → map pair_at (drop (at + k) rs) ≡ qs
moved rs at k ps qs ahead h i j =
    map_drop pair_at (at + k) rs
    ∙ (sym (drop-drop k at (map pair_at rs))
    ∙ (ap (λ (r : List Pair). drop k r) (sym (map_drop pair_at at rs) ∙ (h ∙ sym i))
    ∙ (sym (map_drop pair_at k ahead) ∙ j)))

pub room_ahead : (rs : List Rung) (at k : ℕ) (ps : List Pair) (ahead : List Rung) → at ≤ length rs → map pair_at (drop at rs) ≡ ps → map pair_at ahead ≡ ps → k ≤ length ahead → at + k ≤ length rs
room_ahead rs at k ps ahead le h i short =
    let same : length ahead ≡ length (drop at rs) = sym (length-map ahead pair_at) ∙ (ap length (i ∙ sym h) ∙ length-map (drop at rs) pair_at) in
    omega (arith, le, short, same, length-drop at rs)

pub wanted_is : (k : Climb) (aborts : Bool) (left : List Todo) (ahead : List Rung) (o : Option Rung) → aborts ≡ k.aborts → left ≡ k.left → map pair_at ahead ≡ k.ahead
    → o ≡ find (λ r. is_wanted_pair aborts left (pair_at r)) ahead → option_map pair_at o ≡ next_pair k
wanted_is k aborts left ahead o a l r e =
    ap (λ (x : Option Rung). option_map pair_at x) e
    ∙ (sym (found_at (is_wanted_pair aborts left) ahead)
    ∙ (ap (λ (ps : List Pair). find (is_wanted_pair aborts left) ps) r
    ∙ (ap (λ (b : Bool). find (is_wanted_pair b left) k.ahead) a ∙ ap (λ (xs : List Todo). find (is_wanted_pair k.aborts xs) k.ahead) l)))

abbrev made : Handlers → Bool → List Todo → List Pair → Climb
made handlers aborts left ahead = record { left = left; ahead = ahead; handlers = handlers; aborts = aborts }

pub went_on : (k : Climb) (handlers : Handlers) (aborts : Bool) (left left' : List Todo) (ahead ahead' : List Pair) (p : Pair) (entries : List Entry) → made handlers aborts left ahead ≡ k
    → left' ≡ map (as_told entries) (filter (is_left entries) left) → ahead' ≡ beyond_pair p k.ahead → made handlers aborts left' ahead' ≡ gone_on p entries k
went_on k handlers aborts left left' ahead ahead' p entries view l a =
    ap (λ (x : List Todo). made handlers aborts x ahead') l
    ∙ (ap (λ (x : List Pair). made handlers aborts (map (as_told entries) (filter (is_left entries) left)) x) (a ∙ ap (λ (c : Climb). beyond_pair p c.ahead) (sym view))
    ∙ ap (gone_on p entries) view)
