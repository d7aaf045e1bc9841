use Rattle.std.proofs.Common.{◌≡◌, ◌∙◌, sym, ap, refl, true, false, length, Some, arith, inl, inr}
use Rattle.std.specs.Prelude.{slice_get, option_map}
use Rattle.std.proofs.lemmas.Bool.{cases_lt}
use Rattle.std.proofs.lemmas.Option.{slice_get_within, slice_get_read, get_or_from_slice_get}
use Rattle.mid_base.specs.Address.{same_dev}
use Rattle.device_table.specs.declared.rows.DeviceRow.{DeviceRow}
use Rattle.device_table.proofs.Places.{equal_dev, has_row, no_row}
use Rattle.device_table.proofs.devices.Devices.place_of.Goals as goal

pub returns-then-same_dev : goal.returns-then-same_dev
returns-then-same_dev c s P k =
    let rows = c.args.self.now.rows.items in
    let r = c.index.result.now in
    let at : slice_get rows c.loop-place.place ≡ Some r = slice_get_read rows (length rows) c.loop-place.place r refl (omega (arith, c.loop-place-test.true, c.count-place-end.ensures)) c.index.ensures in
    let is : same_dev r.dev c.args.dev ≡ true = sym c.same_dev.ensures ∙ c.if-same_dev.true in
    (ap (option_map (λ (x : DeviceRow). x.dev)) at ∙ ap Some (equal_dev r.dev c.args.dev is), has_row s.luns rows c.args.dev k.rows_are c.loop-place.place r at is)

pub loop-place-preserved : goal.loop-place-preserved
loop-place-preserved c k r below at = elim (cases_lt k c.loop-place.place) as (λ _. same_dev r.dev c.args.dev ≡ false) [
  | inl early ↦ c.loop-place.invariant k r early at
  | inr late ↦
      let e : c.loop-place.place ≡ k = omega (arith, late, below) in
      let same : c.index.result.now ≡ r = c.index.ensures ∙ get_or_from_slice_get c.args.self.now.rows.items c.loop-place.place r c.index.result.now (ap (slice_get c.args.self.now.rows.items) e ∙ at) in
      ap (λ (x : DeviceRow). same_dev x.dev c.args.dev) (sym same) ∙ sym c.same_dev.ensures ∙ c.if-same_dev.false
]

pub returns : goal.returns
returns c s P k =
    no_row s.luns c.args.self.now.rows.items c.args.dev k.rows_are (λ i r at. c.loop-place.invariant i r (omega (arith, slice_get_within c.args.self.now.rows.items i r at, c.loop-place-test.false, c.count-place-end.ensures)) at)
