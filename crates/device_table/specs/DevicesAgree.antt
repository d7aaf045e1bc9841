-- The table of devices says what the entries P, the newest first, say.
use Rattle.std.specs.Prelude.{◌≡◌, ◌<◌, ℕ, ◌&&◌, ◌||◌, not, Bool, true, false, List, Option, None, Some, find, option_map, slice_get, length}
use Rattle.mid_base.specs.declared.names.DevAddr.{DevAddr}
use Rattle.mid_base.specs.declared.names.CmdId.{CmdId}
use Rattle.mid_base.specs.declared.entries.Entry.{Entry}
use Rattle.mid_base.specs.declared.entries.Entry.TheVariants.{Ready, Due, Longer, DoneSaid, Owned, Late, AbortSet, Aborted, Failed, Cleared, Sensed, EhBegin, EhEnd, Act, Probe}
use Rattle.mid_base.specs.declared.host_spec.CmdSpec.{CmdSpec}
use Rattle.mid_base.specs.declared.host_spec.HostSpec.{HostSpec}
use Rattle.mid_base.specs.Limits.{differ_in_address, differ_in_id}
use Rattle.tag_pool.specs.Pool.{Pool}
use Rattle.device_states.specs.States.{is_online_state, is_running}
use Rattle.tag_pool.specs.Tags.{holder, out_of, all_out, has_room}
use Rattle.tag_pool.specs.Depths.{device, depth_in as depth_of}
use Rattle.trace_model.specs.Names.{depth_in}
use Rattle.trace_model.specs.Commands.{standing, holds}
use Rattle.trace_model.specs.Devices.{state}
use Rattle.trace_model.specs.Counts.{busy_count, busy_on}
use Rattle.trace_model.specs.Sending.{host_paused, dev_paused, depths}
use Rattle.device_table.specs.declared.rows.DeviceRow.{DeviceRow}
use Rattle.device_table.specs.declared.devices.Devices.{Devices}
use Rattle.device_table.specs.Rows.{AreFor}

-- the device of the command that holds a tag
abbrev pub holder_of : HostSpec → List Entry → ℕ → Option DevAddr
holder_of s P t = option_map (λ k. k.dev) (find (λ k. holds t (standing k.id.0 P)) s.cmds)

-- the tags that are out are those that commands hold, each for its command's device
pub record TagsAre (s : HostSpec) (P : List Entry) (pool : Pool) : Type 0 where
  pub count : length pool.tags ≡ s.can_queue
  pub holders : (t : ℕ) → t < s.can_queue → holder t pool.tags ≡ holder_of s P t
  pub of_each : (d : DevAddr) → out_of d pool.tags ≡ busy_on s P d
  pub all : all_out pool.tags ≡ busy_count s P

-- what is kept of a device
abbrev pub StateIs : HostSpec → List Entry → DeviceRow → Type 0
StateIs s P r = state s r.dev P ≡ r.state

abbrev pub PauseIs : HostSpec → List Entry → DeviceRow → Type 0
PauseIs s P r = dev_paused s r.dev P ≡ r.paused

abbrev pub DepthIs : HostSpec → List Entry → Pool → DeviceRow → Type 0
DepthIs s P pool r =
    device r.dev pool.devices
    ≡ Some (record { dev = r.dev; scripted = depth_in s.luns r.dev; depth = (depths s r.dev P).0; goods = (depths s r.dev P).1 })

pub record DevicesAgree (s : HostSpec) (P : List Entry) (t : Devices) : Type 0 where
  pub rows_are : AreFor s.luns t.rows.items
  pub apart : differ_in_address s.luns ≡ true
  pub ids : differ_in_id s.cmds ≡ true
  pub states : (i : ℕ) (r : DeviceRow) → slice_get t.rows.items i ≡ Some r → StateIs s P r
  pub pauses : (i : ℕ) (r : DeviceRow) → slice_get t.rows.items i ≡ Some r → PauseIs s P r
  pub depths_are : (i : ℕ) (r : DeviceRow) → slice_get t.rows.items i ≡ Some r → DepthIs s P t.pool r
  pub host : host_paused P ≡ t.paused
  pub tags : TagsAre s P t.pool

-- the command c of the spec is k, and the device at the place is its device
pub record IsOf (s : HostSpec) (t : Devices) (c : CmdId) (i : ℕ) : Type 0 where
  pub command : CmdSpec
  pub place : ℕ
  pub at : slice_get s.cmds place ≡ Some command
  pub id : command.id ≡ c
  pub row : DeviceRow
  pub row_at : slice_get t.rows.items i ≡ Some row
  pub dev : row.dev ≡ command.dev

-- no other command holds this tag
abbrev pub HoldsAlone : HostSpec → List Entry → CmdId → ℕ → Type 0
HoldsAlone s P c t = (i : ℕ) (k : CmdSpec) → slice_get s.cmds i ≡ Some k → holds t (standing k.id.0 P) ≡ true → k.id.0 ≡ c.0

-- by the table: the device takes one command more
abbrev pub takes : Devices → DeviceRow → Bool
takes t r = is_running r.state && not t.paused && not r.paused && has_room t.pool.tags r.dev (depth_of r.dev t.pool.devices)

-- a command that waits for the device can go
abbrev pub goes : Devices → Option DeviceRow → Bool
goes t None = false
goes t (Some r) = not (is_online_state r.state) || takes t r

abbrev pub goes_in : Devices → ℕ → Bool
goes_in t i = goes t (slice_get t.rows.items i)

-- the entries that say nothing of devices and tags
abbrev pub IsApart : Entry → Type 0
IsApart (Ready n a) = Unit {0}
IsApart (Owned n by) = Unit {0}
IsApart (Failed c n cancelled) = Unit {0}
IsApart (Due n) = Unit {0}
IsApart (Longer n) = Unit {0}
IsApart (DoneSaid n) = Unit {0}
IsApart (Late n) = Unit {0}
IsApart (AbortSet c n) = Unit {0}
IsApart (Aborted c n ok) = Unit {0}
IsApart (Cleared c level) = Unit {0}
IsApart (Sensed c n sense) = Unit {0}
IsApart EhBegin = Unit {0}
IsApart EhEnd = Unit {0}
IsApart (Act level scope ok) = Unit {0}
IsApart (Probe d op say) = Unit {0}
IsApart e = ⊥
