use Rattle.std.proofs.Common.{◌≡◌, ◌∙◌, sym, ap, ℕ, ◌+◌, ◌<◌, ◌≤◌, List, [], ◌∷◌, ◌++◌, length, set, get_or, map, take, drop, arith}
use Rattle.std.proofs.lemmas.List.{length-map, length-take-le, drop_more, get_or_at, set_at, take_more, map-append, append_assoc, length-set, take_all, drop_all, append-nil}
use Rattle.device_table.specs.declared.rows.DeviceRow.{DeviceRow}
use Rattle.device_table.specs.Rows.{unpaused}
use Rattle.device_table.proofs.devices.end_pauses.Goals as goal

written : (old xs : List DeviceRow) (i : ℕ) (d x : DeviceRow) → i < length old → xs ≡ map unpaused (take i old) ++ drop i old → x ≡ get_or xs i x
    → set xs i (unpaused x) ≡ map unpaused (take (i + 1) old) ++ drop (i + 1) old
written old xs i d x lt is at =
    let long : length (map unpaused (take i old)) ≡ i = length-map (take i old) unpaused ∙ length-take-le i old (omega (arith, lt)) in
    let parts : xs ≡ map unpaused (take i old) ++ (get_or old i x ∷ drop (i + 1) old) = is ∙ ap (λ (ys : List DeviceRow). map unpaused (take i old) ++ ys) (drop_more old i x lt) in
    let same : x ≡ get_or old i x = at ∙ ap (λ (ys : List DeviceRow). get_or ys i x) parts ∙ get_or_at (map unpaused (take i old)) (get_or old i x) (drop (i + 1) old) x i long in
    ap (λ (ys : List DeviceRow). set ys i (unpaused x)) parts
    ∙ set_at (map unpaused (take i old)) (get_or old i x) (drop (i + 1) old) (unpaused x) i long
    ∙ ap (λ (y : DeviceRow). map unpaused (take i old) ++ (unpaused y ∷ drop (i + 1) old)) same
    ∙ sym (ap (λ (ys : List DeviceRow). map unpaused ys ++ drop (i + 1) old) (take_more old i x lt)
    ∙ ap (λ (ys : List DeviceRow). ys ++ drop (i + 1) old) (map-append unpaused (take i old) (get_or old i x ∷ []))
    ∙ append_assoc (map unpaused (take i old)) (unpaused (get_or old i x) ∷ []) (drop (i + 1) old))

pub loop-place-preserved : goal.loop-place-preserved
loop-place-preserved c =
    let old = c.args.rows.now.items in
    let x = c.index-row.result.now in
    let lt : c.loop-place.place < length old = omega (arith, c.loop-place-test.true, ap length c.as_slice-count.ensures.value) in
    (written old c.loop-place.rows.items c.loop-place.place x x lt c.loop-place.invariant.0 c.index-row.ensures, length-set c.loop-place.rows.items c.loop-place.place (unpaused x) ∙ c.loop-place.invariant.1)

pub returns : goal.returns
returns c =
    let old = c.args.rows.now.items in
    let past : length old ≤ c.loop-place.place = omega (arith, c.loop-place-test.false, ap length c.as_slice-count.ensures.value) in
    c.loop-place.invariant.0
    ∙ ap (λ (ys : List DeviceRow). map unpaused ys ++ drop c.loop-place.place old) (take_all c.loop-place.place old past)
    ∙ ap (λ (ys : List DeviceRow). map unpaused old ++ ys) (drop_all c.loop-place.place old past)
    ∙ append-nil (map unpaused old)
