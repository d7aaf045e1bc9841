use Rattle.std.proofs.Common.{◌≡◌, ◌∙◌, sym, ap, ℕ, ◌<◌, ◌≤◌, length, false, List, Some, arith, inl, inr}
use Rattle.std.specs.Prelude.{slice_get}
use Rattle.std.proofs.lemmas.Bool.{cases_lt}
use Rattle.std.proofs.lemmas.Option.{slice_get_within, get_or_from_slice_get}
use Rattle.command_table.specs.declared.rows.CommandRow.{CommandRow}
use Rattle.command_table.specs.Rows.{is_left}
use Rattle.command_table.proofs.Places.{first_is}
use Rattle.command_table.proofs.lanes.next_from.Goals as goal

-- none before the place, from the two parts of the rows before it
none_before : (lane from place : ℕ) (rs : List CommandRow)
    → ((k : ℕ) (r : CommandRow) → k < from → slice_get rs k ≡ Some r → is_left lane r ≡ false)
    → ((k : ℕ) (r : CommandRow) → from ≤ k → k < place → slice_get rs k ≡ Some r → is_left lane r ≡ false)
    → (k : ℕ) (r : CommandRow) → k < place → slice_get rs k ≡ Some r → is_left lane r ≡ false
none_before lane from place rs before since k r lt at = elim (cases_lt k from) as (λ _. is_left lane r ≡ false) [
  | inl early ↦ before k r early at
  | inr late ↦ since k r late lt at
]

pub returns-then-is_left : goal.returns-then-is_left
returns-then-is_left c before =
    first_is c.args.lane.0 c.args.rows.now c.loop-place.place
    (none_before c.args.lane.0 c.args.from c.loop-place.place c.args.rows.now before c.loop-place.invariant)
    (λ r at. ap (is_left c.args.lane.0) (sym (get_or_from_slice_get c.args.rows.now c.loop-place.place r _ at)) ∙ sym c.is_left.ensures ∙ c.if-is_left.true)
    (omega (arith, c.loop-place-test.true))

pub loop-place-preserved : goal.loop-place-preserved
loop-place-preserved c k r from below at = elim (cases_lt k c.loop-place.place) as (λ _. is_left c.args.lane.0 r ≡ false) [
  | inl early ↦ c.loop-place.invariant k r from early at
  | inr here ↦
      let e : k ≡ c.loop-place.place = omega (arith, here, below) in
      ap (is_left c.args.lane.0) (sym (get_or_from_slice_get c.args.rows.now c.loop-place.place r _ (ap (slice_get c.args.rows.now) (sym e) ∙ at))) ∙ sym c.is_left.ensures ∙ c.if-is_left.false
]

pub returns : goal.returns
returns c before =
    let ended : c.loop-place.place ≡ length c.args.rows.now = omega (arith, c.loop-place-test.false, c.loop-place.auto.place-end, c.requires) in
    first_is c.args.lane.0 c.args.rows.now (length c.args.rows.now)
    (none_before c.args.lane.0 c.args.from (length c.args.rows.now) c.args.rows.now before
    (λ k r from lt at. c.loop-place.invariant k r from (omega (arith, lt, ended)) at))
    (λ r at. absurd (outside r at))
    (omega arith)
  where
    outside : (r : CommandRow) → slice_get c.args.rows.now (length c.args.rows.now) ≡ Some r → ⊥
    outside r at = omega (arith, slice_get_within c.args.rows.now (length c.args.rows.now) r at)
