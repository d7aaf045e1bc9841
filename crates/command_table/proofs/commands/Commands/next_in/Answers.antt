use Rattle.std.proofs.Common.{◌≡◌, ap, refl, ℕ, List, ◌<◌, ◌≤◌, length, get_or, Some, arith, inl, inr}
use Rattle.std.specs.Prelude.{slice_get}
use Rattle.std.proofs.lemmas.Option.{slice_get_read, slice_get_cases}
use Rattle.mid_base.specs.declared.entries.Entry.{Entry}
use Rattle.mid_base.specs.declared.host_spec.HostSpec.{HostSpec}
use Rattle.command_table.specs.declared.commands.Commands.{Commands}
use Rattle.command_table.specs.CommandsAgree.{CommandsAgree, IsNext}
use Rattle.command_table.proofs.Queries.{next_row, no_next, no_lane}
use Rattle.command_table.proofs.commands.Commands.next_in.Goals as goal

cursor_is : (xs ys : List ℕ) (i lane place : ℕ) → xs ≡ ys → i ≡ lane → i < length xs → place ≡ get_or xs i place → slice_get ys lane ≡ Some place
cursor_is xs ys i lane place same at lt is = rw (← same, ← at) (slice_get_read xs (length xs) i place refl lt is)

next_at : (s : HostSpec) (P : List Entry) (t : Commands) (lane place : ℕ) → CommandsAgree s P t → slice_get t.cursors.items lane ≡ Some place → lane < 64 → place < length t.rows.items → IsNext s P t lane place
next_at s P t lane place f cursor lt within = elim (slice_get_cases t.rows.items place).1 as (λ _. IsNext s P t lane place) [
  | inl at ↦ next_row s P t f lane place at.0 cursor lt at.2
  | inr past ↦ absurd (omega (arith, past.0, within))
]

pub returns-in-Some : goal.returns-in-Some
returns-in-Some c s P f =
    let told = c.in-Some.ensures.lookup in
    let cursor : slice_get c.args.self.now.cursors.items c.args.lane.0 ≡ Some c.in-Some.place.now =
    cursor_is c.as_slice.result.now c.args.self.now.cursors.items c.from.result c.args.lane.0 c.in-Some.place.now c.as_slice.ensures.value c.from.ensures told.3.0 told.1
    in
    let lt : c.args.lane.0 < 64 = omega (arith, told.3.0, c.from.ensures, ap length c.as_slice.ensures.value, f.lane_count) in
    next_at s P c.args.self.now c.args.lane.0 c.in-Some.place.now f cursor lt (omega (arith, c.if-place-count.true, ap length c.as_slice-count.ensures.value))

pub returns-in_default : goal.returns-in_default
returns-in_default c s P f =
    let told = c.in-Some.ensures.lookup in
    let cursor : slice_get c.args.self.now.cursors.items c.args.lane.0 ≡ Some c.in-Some.place.now =
    cursor_is c.as_slice.result.now c.args.self.now.cursors.items c.from.result c.args.lane.0 c.in-Some.place.now c.as_slice.ensures.value c.from.ensures told.3.0 told.1
    in
    let lt : c.args.lane.0 < 64 = omega (arith, told.3.0, c.from.ensures, ap length c.as_slice.ensures.value, f.lane_count) in
    no_next s P c.args.self.now f c.args.lane.0 c.in-Some.place.now cursor lt (omega (arith, c.if-place-count.false, ap length c.as_slice-count.ensures.value))

pub returns-in_default-2 : goal.returns-in_default-2
returns-in_default-2 c s P f =
    let past : length c.as_slice.result.now ≤ c.from.result = rw c.in_default.is at c.get.ensures.lookup.3 in
    no_lane s P c.args.self.now f c.args.lane.0 (omega (arith, past, c.from.ensures, ap length c.as_slice.ensures.value, f.lane_count))
