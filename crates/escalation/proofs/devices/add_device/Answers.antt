use Rattle.std.proofs.Common.{◌≡◌, ◌≤◌, ◌<◌, ◌∙◌, Bool, true, false, length, List, [], ◌∷◌, ◌++◌, get_or, insert, ltb, lt-ltb, sym, ap, arith}
use Rattle.std.proofs.lemmas.Grind.{common_steps}
use Rattle.std.proofs.lemmas.List.{take-append-drop}
use Rattle.mid_base.specs.declared.names.DevAddr.{DevAddr}
use Rattle.disposition.specs.Ladder.{address, with_dev}
use Rattle.escalation.proofs.Places.{is_there, goes_before, at_end}
use Rattle.escalation.proofs.devices.add_device.Goals as goal

pub returns-then-same_dev : goal.returns-then-same_dev
returns-then-same_dev c =
    let xs = c.args.devices.now.items in
    let ys = c.loop-place.devices.items in
    let same : ys ≡ xs = c.loop-place.invariant.same in
    let i = c.loop-place.place in
    let e = c.index-other.result.now in
    let lt : i < length xs = grind (arith, common_steps, c.loop-place-test.true, c.len-place-end.ensures) in
    let is = c.index-other.ensures ∙ ap (λ (zs : List DevAddr). get_or zs i e) same in
    same ∙ sym (is_there c.args.dev xs i e lt is (sym c.same_dev.ensures ∙ c.if-same_dev.true) c.loop-place.invariant.found ∙ take-append-drop i xs)

pub returns-in-Ok : goal.returns-in-Ok
returns-in-Ok c =
    let xs = c.args.devices.now.items in
    let ys = c.loop-place.devices.items in
    let same : ys ≡ xs = c.loop-place.invariant.same in
    let i = c.loop-place.place in
    let e = c.index-other.result.now in
    let lt : i < length xs = grind (arith, common_steps, c.loop-place-test.true, c.len-place-end.ensures) in
    let is = c.index-other.ensures ∙ ap (λ (zs : List DevAddr). get_or zs i e) same in
    let less : address c.args.dev < address e = omega (arith, c.if-address.true, c.address.ensures, c.address-in-loop-place.ensures) in
    c.in-Ok.ensures.items ∙ (ap (λ (zs : List DevAddr). insert zs i c.args.dev) same
    ∙ sym (goes_before c.args.dev xs i e lt is (sym c.same_dev.ensures ∙ c.if-same_dev.false) (lt-ltb (address c.args.dev) (address e) less) c.loop-place.invariant.found))

pub returns-in-Ok-push : goal.returns-in-Ok-push
returns-in-Ok-push c =
    let xs = c.args.devices.now.items in
    let ys = c.loop-place.devices.items in
    let same : ys ≡ xs = c.loop-place.invariant.same in
    let past : length xs ≤ c.loop-place.place = grind (arith, common_steps, c.loop-place-test.false, c.len-place-end.ensures) in
    c.in-Ok-push.ensures.items ∙ (ap (λ (zs : List DevAddr). zs ++ c.args.dev ∷ []) same ∙ sym (at_end c.args.dev xs c.loop-place.place past c.loop-place.invariant.found))
