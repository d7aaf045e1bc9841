-- Which command the running state picks to go next.
use Rattle.std.specs.Prelude.{◌≡◌, ◌<◌, ◌^◌, ◌+◌, ℕ, true, false, Option, Some, None, length, slice_get}
use Rattle.mid_base.specs.declared.entries.Entry.{Entry}
use Rattle.mid_base.specs.declared.host_spec.CmdSpec.{CmdSpec}
use Rattle.mid_base.specs.declared.host_spec.HostSpec.{HostSpec}
use Rattle.std.specs.Prelude.{List}
use Rattle.trace_model.specs.declared.standing.Standing.TheVariants.{Waits}
use Rattle.trace_model.specs.Devices.{is_online}
use Rattle.trace_model.specs.Sending.{pick}
use Rattle.command_table.specs.declared.rows.CommandRow.{CommandRow}
use Rattle.command_table.specs.Sets.{has}
use Rattle.device_table.specs.DevicesAgree.{goes_in}
use Rattle.host_state.specs.declared.running.Running.{Running}
use Rattle.host_state.specs.HostAgrees.{HostAgrees}

-- Of the devices below `count` to which a command can go: this is the earliest of the commands that wait for them, and for
-- which device.
pub record IsFirst (r : Running) (count : ℕ) (order device : ℕ) : Type 0 where
  pub within : device < count
  pub goes : goes_in r.devices device ≡ true
  pub waits : has r.commands.waiting.items device order ≡ true
  pub first : (d : ℕ) → d < count → goes_in r.devices d ≡ true → (j : ℕ) → j < order → has r.commands.waiting.items d j ≡ false

-- none waits for any of them
abbrev pub NoneWaits : Running → ℕ → Type 0
NoneWaits r count = (d : ℕ) → d < count → goes_in r.devices d ≡ true → (j : ℕ) → has r.commands.waiting.items d j ≡ false

-- the command at this place of the spec is the one that is picked
pub record IsPicked (s : HostSpec) (P : List Entry) (r : Running) (i : ℕ) : Type 0 where
  pub command : CmdSpec
  pub at : slice_get s.cmds i ≡ Some command
  pub picked : pick s P ≡ Some command.id.0
  pub row : CommandRow
  pub row_at : slice_get r.commands.rows.items i ≡ Some row
  pub id : row.id ≡ command.id
  pub waits : row.standing ≡ Waits
  pub housed : row.device < length r.commands.waiting.items
  pub goes : goes_in r.devices row.device ≡ true

-- what is found among the devices below `count`
abbrev pub IsFirstUpTo : Running → ℕ → Option (ℕ × ℕ) → Type 0
IsFirstUpTo r count None = NoneWaits r count
IsFirstUpTo r count (Some x) = IsFirst r count x.0 x.1

-- the command at this place is the one that is picked
pub record CanStrand (r : Running) (i : ℕ) : Type 0 where
  pub spec : HostSpec
  pub entries : List Entry
  pub runs : HostAgrees spec entries r
  pub picked : IsPicked spec entries r i

-- the command that is picked can be sent
pub record CanSend (r : Running) (i : ℕ) : Type 0 where
  pub spec : HostSpec
  pub entries : List Entry
  pub runs : HostAgrees spec entries r
  pub picked : IsPicked spec entries r i
  pub online : is_online spec picked.command.dev entries ≡ true
  pub few : length r.attempts.rows.items + 1 < 2 ^ 60
