-- What the running state says of a command and its device.
use Rattle.std.proofs.Common.{◌≡◌, ◌∙◌, sym, ap, refl, ℕ, ◌<◌, List, Option, None, Some, length}
use Rattle.std.specs.Prelude.{slice_get, option_map}
use Rattle.std.proofs.lemmas.Option.{same_Some, none-some, slice_get_within}
use Rattle.mid_base.specs.declared.names.CmdId.{CmdId}
use Rattle.mid_base.specs.declared.names.DevAddr.{DevAddr}
use Rattle.mid_base.specs.declared.entries.Entry.{Entry}
use Rattle.mid_base.specs.declared.host_spec.CmdSpec.{CmdSpec}
use Rattle.mid_base.specs.declared.host_spec.HostSpec.{HostSpec}
use Rattle.mid_base.specs.declared.states.DeviceState.{DeviceState}
use Rattle.trace_model.specs.Names.{command, dev_of}
use Rattle.trace_model.specs.Devices.{state}
use Rattle.command_table.specs.declared.rows.CommandRow.{CommandRow}
use Rattle.command_table.specs.Rows.{id_at}
use Rattle.device_table.specs.declared.rows.DeviceRow.{DeviceRow}
use Rattle.device_table.specs.Rows.{dev_at}
use Rattle.device_table.proofs.Entries.{command_is, dev_is, dev_row}
use Rattle.host_state.specs.declared.running.Running.{Running}
use Rattle.host_state.specs.Picks.{IsPicked}
use Rattle.host_state.specs.HostAgrees.{HostAgrees}
use Rattle.host_state.proofs.Ties.{of_device, of_device_at}

module _ (s : HostSpec) (P : List Entry) (r : Running) (runs : HostAgrees s P r) (i : ℕ) (row : CommandRow) (at : slice_get r.commands.rows.items i ≡ Some row) where
  -- the device of the command has a row
  pub device_within : row.device < length r.devices.rows.items
  device_within =
      let of = of_device s P r.commands r.devices runs.commands runs.devices i row at in
      slice_get_within r.devices.rows.items row.device of.row of.row_at

  -- so has the command in the spec
  pub spec_within : i < length s.cmds
  spec_within =
      let of = of_device s P r.commands r.devices runs.commands runs.devices i row at in
      slice_get_within s.cmds i of.command (of_device_at s P r.commands r.devices runs.commands runs.devices i row at)

  -- the command that the spec has there
  pub command_there : (k : CmdSpec) → slice_get s.cmds i ≡ Some k → command s row.id.0 ≡ k
  command_there k there =
      let of = of_device s P r.commands r.devices runs.commands runs.devices i row at in
      command_is s P r.devices row.id row.device runs.devices of
      ∙ same_Some of.command k (sym (of_device_at s P r.commands r.devices runs.commands runs.devices i row at) ∙ there)

  -- the state of its device
  pub state_there : (x : DeviceState) → ((q : DeviceRow) → slice_get r.devices.rows.items row.device ≡ Some q → x ≡ q.state) → state s (dev_of s row.id.0) P ≡ x
  state_there x says =
      let of = of_device s P r.commands r.devices runs.commands runs.devices i row at in
      ap (λ (d : DevAddr). state s d P) (dev_is s P r.devices row.id row.device runs.devices of)
      ∙ runs.devices.states row.device of.row of.row_at ∙ sym (says of.row of.row_at)

  -- the same of a command that is given by the spec
  pub state_of : (k : CmdSpec) → slice_get s.cmds i ≡ Some k → (x : DeviceState) → ((q : DeviceRow) → slice_get r.devices.rows.items row.device ≡ Some q → x ≡ q.state) → state s k.dev P ≡ x
  state_of k there x says = ap (λ (j : CmdSpec). state s j.dev P) (sym (command_there k there)) ∙ state_there x says

-- the command that is picked is the spec's
pub picked_command : (s : HostSpec) (P : List Entry) (r : Running) → HostAgrees s P r → (i : ℕ) (picked : IsPicked s P r i) → command s picked.command.id.0 ≡ picked.command
picked_command s P r runs i picked =
    ap (λ (c : CmdId). command s c.0) (sym picked.id) ∙ command_there s P r runs i picked.row picked.row_at picked.command picked.at

-- the place of a device, and its state
pub dev_within : (rows : List DeviceRow) (i : ℕ) (d : DevAddr) → dev_at i rows ≡ Some d → i < length rows
dev_within rows i d is = let there = dev_row rows i d is in slice_get_within rows i there.0 there.1

pub dev_state : (s : HostSpec) (P : List Entry) (r : Running) → HostAgrees s P r → (i : ℕ) (d : DevAddr) → dev_at i r.devices.rows.items ≡ Some d
    → (x : DeviceState) → ((q : DeviceRow) → slice_get r.devices.rows.items i ≡ Some q → x ≡ q.state) → state s d P ≡ x
dev_state s P r runs i d is x says =
    let there = dev_row r.devices.rows.items i d is in
    ap (λ (e : DevAddr). state s e P) (sym there.2) ∙ runs.devices.states i there.0 there.1 ∙ sym (says there.0 there.1)

-- the row of a command with an id
pub id_within : (rows : List CommandRow) (i : ℕ) (c : CmdId) → id_at i rows ≡ Some c → i < length rows
id_within rows i c is = by_row (slice_get rows i) refl is
  where
    by_row : (o : Option CommandRow) → slice_get rows i ≡ o → option_map (λ (q : CommandRow). q.id) o ≡ Some c → i < length rows
    by_row None at e = absurd (none-some c e)
    by_row (Some q) at e = slice_get_within rows i q at
