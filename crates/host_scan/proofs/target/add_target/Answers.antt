use Rattle.std.proofs.Common.{◌≡◌, ◌≤◌, ◌<◌, ◌∙◌, length, List, [], ◌∷◌, ◌++◌, get_or, insert, sym, ap, arith}
use Rattle.std.proofs.lemmas.Grind.{common_steps}
use Rattle.std.proofs.lemmas.List.{take-append-drop}
use Rattle.host_scan.specs.declared.target.Target.{Target}
use Rattle.host_scan.proofs.Places.{at_end, goes_before, is_there, passed_by}
use Rattle.host_scan.proofs.target.add_target.Goals as goal

pub loop-place-preserved : goal.loop-place-preserved
loop-place-preserved c =
    let xs = c.args.targets.now.items in
    let same : c.loop-place.targets.items ≡ xs = c.loop-place.invariant.same in
    let i = c.loop-place.place in
    let u = c.index-other.result.now in
    let lt : i < length xs = grind (arith, common_steps, c.loop-place-test.true, c.len-place-end.ensures) in
    let is = c.index-other.ensures ∙ ap (λ (zs : List Target). get_or zs i u) same in
    record {
      same = same;
      found = passed_by c.args.target xs i u lt is (sym c.is_same.ensures ∙ c.if-is_same.false) (sym c.comes_before.ensures ∙ c.if-comes_before.false) c.loop-place.invariant.found;
    }

pub returns-then-is_same : goal.returns-then-is_same
returns-then-is_same c =
    let xs = c.args.targets.now.items in
    let same : c.loop-place.targets.items ≡ xs = c.loop-place.invariant.same in
    let i = c.loop-place.place in
    let u = c.index-other.result.now in
    let lt : i < length xs = grind (arith, common_steps, c.loop-place-test.true, c.len-place-end.ensures) in
    let is = c.index-other.ensures ∙ ap (λ (zs : List Target). get_or zs i u) same in
    same ∙ sym (is_there c.args.target xs i u lt is (sym c.is_same.ensures ∙ c.if-is_same.true) c.loop-place.invariant.found ∙ take-append-drop i xs)

pub returns-in-Ok : goal.returns-in-Ok
returns-in-Ok c =
    let xs = c.args.targets.now.items in
    let same : c.loop-place.targets.items ≡ xs = c.loop-place.invariant.same in
    let i = c.loop-place.place in
    let u = c.index-other.result.now in
    let lt : i < length xs = grind (arith, common_steps, c.loop-place-test.true, c.len-place-end.ensures) in
    let is = c.index-other.ensures ∙ ap (λ (zs : List Target). get_or zs i u) same in
    c.in-Ok.ensures.items ∙ (ap (λ (zs : List Target). insert zs i c.args.target) same
    ∙ sym (goes_before c.args.target xs i u lt is (sym c.is_same.ensures ∙ c.if-is_same.false) (sym c.comes_before.ensures ∙ c.if-comes_before.true) c.loop-place.invariant.found))

pub returns-in-Ok-push : goal.returns-in-Ok-push
returns-in-Ok-push c =
    let xs = c.args.targets.now.items in
    let same : c.loop-place.targets.items ≡ xs = c.loop-place.invariant.same in
    let past : length xs ≤ c.loop-place.place = grind (arith, common_steps, c.loop-place-test.false, c.len-place-end.ensures) in
    c.in-Ok-push.ensures.items ∙ (ap (λ (zs : List Target). zs ++ c.args.target ∷ []) same ∙ sym (at_end c.args.target xs c.loop-place.place past c.loop-place.invariant.found))
