use Rattle.std.proofs.Common.{◌≡◌, ◌∙◌, sym, ap, ℕ, ◌+◌, ◌<◌, ◌≤◌, List, [], ◌∷◌, ◌++◌, length, set, get_or, map, take, drop, arith}
use Rattle.std.proofs.lemmas.List.{length-map, length-take-le, drop_more, get_or_at, set_at, take_more, map-append, append_assoc, length-set, take_all, drop_all, append-nil}
use Rattle.disposition.specs.declared.todo.Todo.{Todo}
use Rattle.escalation.specs.Climbing.{as_told}
use Rattle.escalation.proofs.leaving.give_sense.Goals as goal

written : (f : Todo → Todo) (old xs : List Todo) (i : ℕ) (x : Todo) → i < length old → xs ≡ map f (take i old) ++ drop i old → x ≡ get_or xs i x
    → set xs i (f x) ≡ map f (take (i + 1) old) ++ drop (i + 1) old
written f old xs i x lt is at =
    let long : length (map f (take i old)) ≡ i = length-map (take i old) f ∙ length-take-le i old (omega (arith, lt)) in
    let parts : xs ≡ map f (take i old) ++ (get_or old i x ∷ drop (i + 1) old) = is ∙ ap (λ (ys : List Todo). map f (take i old) ++ ys) (drop_more old i x lt) in
    let same : x ≡ get_or old i x = at ∙ ap (λ (ys : List Todo). get_or ys i x) parts ∙ get_or_at (map f (take i old)) (get_or old i x) (drop (i + 1) old) x i long in
    ap (λ (ys : List Todo). set ys i (f x)) parts
    ∙ set_at (map f (take i old)) (get_or old i x) (drop (i + 1) old) (f x) i long
    ∙ ap (λ (y : Todo). map f (take i old) ++ (f y ∷ drop (i + 1) old)) same
    ∙ sym (ap (λ (ys : List Todo). map f ys ++ drop (i + 1) old) (take_more old i x lt)
    ∙ ap (λ (ys : List Todo). ys ++ drop (i + 1) old) (map-append f (take i old) (get_or old i x ∷ []))
    ∙ append_assoc (map f (take i old)) (f (get_or old i x) ∷ []) (drop (i + 1) old))

pub loop-place-preserved : goal.loop-place-preserved
loop-place-preserved c =
    let old = c.args.left.now.items in
    let f = as_told (c.args.entry.now ∷ []) in
    let x = c.index-x.result.now in
    let lt : c.loop-place.place < length old = omega (arith, c.loop-place-test.true, ap length c.as_slice-count.ensures.value) in
    let set_is = ap (λ (y : Todo). set c.loop-place.left.items c.loop-place.place y) c.as_told.ensures in
    (set_is ∙ written f old c.loop-place.left.items c.loop-place.place x lt c.loop-place.invariant.0 c.index-x.ensures, length-set c.loop-place.left.items c.loop-place.place c.as_told.result ∙ c.loop-place.invariant.1)

pub returns : goal.returns
returns c =
    let old = c.args.left.now.items in
    let f = as_told (c.args.entry.now ∷ []) in
    let past : length old ≤ c.loop-place.place = omega (arith, c.loop-place-test.false, ap length c.as_slice-count.ensures.value) in
    c.loop-place.invariant.0
    ∙ ap (λ (ys : List Todo). map f ys ++ drop c.loop-place.place old) (take_all c.loop-place.place old past)
    ∙ ap (λ (ys : List Todo). map f old ++ ys) (drop_all c.loop-place.place old past)
    ∙ append-nil (map f old)
