use Rattle.std.proofs.Common.{◌≡◌, ◌∙◌, ap, refl, ℕ, ◌<◌, true, false, List, length, get_or, Option, None, Some, arith}
use Rattle.std.specs.Prelude.{MatchOption}
use Rattle.std.proofs.lemmas.Option.{slice_get_read, slice_get_past}
use Rattle.command_table.specs.declared.line.Line.{Line}
use Rattle.command_table.specs.Sets.{has, in_set, stands, IsLeast}
use Rattle.command_table.proofs.sets.least_of.Goals as goal

-- the line at a place
has_is : (lines : List Line) (d j : ℕ) (w : Line) → d < length lines → w ≡ get_or lines d w → has lines d j ≡ stands j w
has_is lines d j w lt is = ap (in_set j) (slice_get_read lines (length lines) d w refl lt is)

least_here : (lines : List Line) (d : ℕ) (w : Line) → d < length lines → w ≡ get_or lines d w → (o : Option ℕ)
    → MatchOption o ((j : ℕ) → stands j w ≡ false) (λ n. (stands n w ≡ true) × ((k : ℕ) → k < n → stands k w ≡ false))
    → MatchOption o ((j : ℕ) → has lines d j ≡ false) (IsLeast lines d)
least_here lines d w lt is None none = λ j. has_is lines d j w lt is ∙ none j
least_here lines d w lt is (Some n) first = record {
  member = has_is lines d n w lt is ∙ first.0;
  least = λ k less. has_is lines d k w lt is ∙ first.1 k less;
}

pub returns-then-device-as_slice : goal.returns-then-device-as_slice
returns-then-device-as_slice c j =
    ap (in_set j) (slice_get_past c.args.lines.now.items c.args.device (omega (arith, c.if-device-as_slice.true, ap length c.as_slice.ensures.value)))

pub returns : goal.returns
returns c =
    least_here c.args.lines.now.items c.args.device c.index.result.now (omega (arith, c.if-device-as_slice.false, ap length c.as_slice.ensures.value)) c.index.ensures c.first.result c.first.ensures
