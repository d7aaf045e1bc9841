-- The command that is picked, found by the devices.
use Rattle.std.proofs.Common.{◌≡◌, ◌∙◌, sym, ap, refl, ℕ, zero, suc, ◌<◌, ◌==◌, Bool, true, false, ◌&&◌, cond, List, [], ◌∷◌, length, None, Some, arith}
use Rattle.std.specs.Prelude.{slice_get, option_map, find, not, ◌||◌}
use Rattle.std.proofs.lemmas.Bool.{false≢true, eqb-true}
use Rattle.std.proofs.lemmas.Option.{same_Some, none-some, slice_get_within}
use Rattle.mid_base.specs.declared.names.CmdId.{CmdId}
use Rattle.mid_base.specs.declared.names.DevAddr.{DevAddr}
use Rattle.mid_base.specs.declared.entries.Entry.{Entry}
use Rattle.mid_base.specs.declared.host_spec.HostSpec.{HostSpec}
use Rattle.trace_model.specs.declared.standing.Standing.{Standing}
use Rattle.trace_model.specs.declared.standing.Standing.TheVariants.{New, Waits, Busy, Ended}
use Rattle.trace_model.specs.Names.{dev_of}
use Rattle.trace_model.specs.Commands.{standing, waits}
use Rattle.trace_model.specs.Devices.{is_online}
use Rattle.trace_model.specs.Sending.{pick, is_pickable, is_ready}
use Rattle.attempt_table.proofs.Bools.{same, and_true}
use Rattle.command_table.specs.declared.rows.Taken.{Taken}
use Rattle.command_table.specs.Rows.{ids_of, waits_row, waits_taken}
use Rattle.command_table.specs.Sets.{has}
use Rattle.command_table.specs.CommandsAgree.{IsPlaced}
use Rattle.command_table.proofs.Places.{both_at, command_at}
use Rattle.command_table.proofs.Entries.{reads_at}
use Rattle.device_table.specs.declared.rows.DeviceRow.{DeviceRow}
use Rattle.device_table.specs.DevicesAgree.{goes, goes_in, IsOf}
use Rattle.device_table.proofs.Entries.{dev_is}
use Rattle.device_table.proofs.Depths.{goes_is}
use Rattle.host_state.specs.declared.running.Running.{Running}
use Rattle.host_state.specs.HostAgrees.{HostAgrees}
use Rattle.host_state.specs.Picks.{IsFirst, NoneWaits, IsPicked}
use Rattle.host_state.proofs.Ties.{of_device}

find_no_id : (p : ℕ → Bool) (xs : List Taken) → ((j : ℕ) (x : Taken) → slice_get xs j ≡ Some x → p x.command.0 ≡ false) → find p (ids_of xs) ≡ None
find_no_id p [] none = refl
find_no_id p (x ∷ xs) none = ap (λ (b : Bool). cond b (Some x.command.0) (find p (ids_of xs))) (none 0 x refl) ∙ find_no_id p xs (λ j y. none (suc j) y)

find_first_id : (p : ℕ → Bool) (xs : List Taken) (j : ℕ) (x : Taken) → slice_get xs j ≡ Some x → p x.command.0 ≡ true
    → ((k : ℕ) (y : Taken) → k < j → slice_get xs k ≡ Some y → p y.command.0 ≡ false) → find p (ids_of xs) ≡ Some x.command.0
find_first_id p [] j x at can before = absurd (none-some x at)
find_first_id p (y ∷ xs) zero x at can before =
    let here : y ≡ x = same_Some y x at in
    ap (λ (b : Bool). cond b (Some y.command.0) (find p (ids_of xs))) (ap (λ (z : Taken). p z.command.0) here ∙ can) ∙ ap (λ (z : Taken). Some z.command.0) here
find_first_id p (y ∷ xs) (suc j) x at can before =
    ap (λ (b : Bool). cond b (Some y.command.0) (find p (ids_of xs))) (before 0 y (omega (arith)) refl)
    ∙ find_first_id p xs j x at can (λ k z lt. before (suc k) z (omega (arith, lt)))

waits_is : (x : Standing) → waits x ≡ true → x ≡ Waits
waits_is Waits h = refl
waits_is New h = absurd (false≢true h)
waits_is Ended h = absurd (false≢true h)
waits_is (Busy n t) h = absurd (false≢true h)

no_both : (a b : Bool) → (b ≡ true → a ≡ false) → a && b ≡ false
no_both true true without = without refl
no_both true false without = refl
no_both false b without = refl

both_of : (a b : Bool) → a && b ≡ true → (a ≡ true) × (b ≡ true)
both_of true b h = (refl, h)
both_of false b h = absurd (false≢true h)

module _ (s : HostSpec) (P : List Entry) (r : Running) (runs : HostAgrees s P r) where
  -- whether a command that was taken can go, by its row
  pickable_is : (j : ℕ) (x : Taken) → (p : IsPlaced r.commands.rows.items j x) → is_pickable s P x.command.0 ≡ waits p.row.standing && goes_in r.devices p.row.device
  pickable_is j x p =
      let of : IsOf s r.devices p.row.id p.row.device = of_device s P r.commands r.devices runs.commands runs.devices x.place p.row p.at in
      let stands : standing x.command.0 P ≡ p.row.standing =
      ap (λ (c : CmdId). standing c.0 P) (sym p.id) ∙ (reads_at s P r.commands runs.commands x.place p.row p.at).0
      in
      let dev : dev_of s x.command.0 ≡ of.row.dev = ap (λ (c : CmdId). dev_of s c.0) (sym p.id) ∙ dev_is s P r.devices p.row.id p.row.device runs.devices of in
      let going : goes_in r.devices p.row.device ≡ not (is_online s of.row.dev P) || is_ready s P of.row.dev =
      ap (goes r.devices) of.row_at ∙ goes_is s P r.devices p.row.device of.row.dev of.row runs.devices of.row_at (ap (option_map (λ (q : DeviceRow). q.dev)) of.row_at)
      in
      ap (λ (x' : Standing). waits x' && (not (is_online s (dev_of s x.command.0) P) || is_ready s P (dev_of s x.command.0))) stands
      ∙ ap (λ (d : DevAddr). waits p.row.standing && (not (is_online s d P) || is_ready s P d)) dev
      ∙ ap (λ (b : Bool). waits p.row.standing && b) (sym going)

  -- the set of its device has it where it waits
  has_is : (j : ℕ) (x : Taken) → slice_get r.commands.taken.items j ≡ Some x → (p : IsPlaced r.commands.rows.items j x) (d : ℕ)
      → has r.commands.waiting.items d j ≡ waits p.row.standing && (p.row.device == d)
  has_is j x get p d = runs.commands.waiting d j ∙ ap (waits_taken d r.commands.rows.items) get ∙ ap (waits_row d) p.at

  -- a command for which no device goes isn't one that can go
  cant_go : (j : ℕ) (x : Taken) → slice_get r.commands.taken.items j ≡ Some x
      → ((d : ℕ) → d < length r.devices.rows.items → goes_in r.devices d ≡ true → has r.commands.waiting.items d j ≡ false) → is_pickable s P x.command.0 ≡ false
  cant_go j x get none =
      let p = runs.commands.placed j x get in
      let of : IsOf s r.devices p.row.id p.row.device = of_device s P r.commands r.devices runs.commands runs.devices x.place p.row p.at in
      let within = slice_get_within r.devices.rows.items p.row.device of.row of.row_at in
      pickable_is j x p
      ∙ no_both (waits p.row.standing) (goes_in r.devices p.row.device) (λ goes.
      sym (and_true (waits p.row.standing)) ∙ ap (λ (b : Bool). waits p.row.standing && b) (sym (same p.row.device))
      ∙ sym (has_is j x get p p.row.device) ∙ none p.row.device within goes)

  pub none_is : NoneWaits r (length r.devices.rows.items) → pick s P ≡ None
  none_is none =
      ap (find (is_pickable s P)) runs.commands.order
      ∙ find_no_id (is_pickable s P) r.commands.taken.items (λ j x get. cant_go j x get (λ d lt goes. none d lt goes j))

  pub first_is : (order device : ℕ) (x : Taken) → IsFirst r (length r.devices.rows.items) order device → slice_get r.commands.taken.items order ≡ Some x → IsPicked s P r x.place
  first_is order device x first get =
      let p = runs.commands.placed order x get in
      let both = both_of (waits p.row.standing) (p.row.device == device) (sym (has_is order x get p device) ∙ first.waits) in
      let here : p.row.device ≡ device = eqb-true p.row.device device both.1 in
      let going : goes_in r.devices p.row.device ≡ true = ap (goes_in r.devices) here ∙ first.goes in
      let command = command_at s.luns s.cmds r.commands.rows.items runs.commands.rows_are x.place p.row p.at in
      let ids = both_at s.luns s.cmds r.commands.rows.items runs.commands.rows_are x.place command.0 p.row command.1 p.at in
      let can : is_pickable s P x.command.0 ≡ true =
      pickable_is order x p ∙ ap (λ (b : Bool). b && goes_in r.devices p.row.device) both.0 ∙ going
      in
      record {
        command = command.0;
        at = command.1;
        picked =
            ap (find (is_pickable s P)) runs.commands.order
            ∙ find_first_id (is_pickable s P) r.commands.taken.items order x get can
            (λ k y lt at. cant_go k y at (λ d within goes. first.first d within goes k lt))
            ∙ ap (λ (c : CmdId). Some c.0) (sym p.id ∙ ids.0);
        row = p.row;
        row_at = p.at;
        id = ids.0;
        waits = waits_is p.row.standing both.0;
        housed = runs.commands.housed x.place p.row p.at;
        goes = going;
      }
