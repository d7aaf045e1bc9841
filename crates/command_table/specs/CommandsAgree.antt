-- The table of commands says what the entries P, the newest first, say.
use Rattle.std.specs.Prelude.{◌≡◌, ◌≢◌, ◌<◌, ℕ, true, false, List, Option, Some, slice_get, count_by, length}
use Rattle.mid_base.specs.declared.entries.Entry.{Entry}
use Rattle.mid_base.specs.declared.entries.Entry.TheVariants.{Ready, Due, Longer, DoneSaid, Owned, Late, Judged, Aborted, Failed, Cleared, Sensed, EhBegin, EhEnd, Act, Probe, Offline, State, Tick}
use Rattle.mid_base.specs.declared.host_spec.CmdSpec.{CmdSpec}
use Rattle.mid_base.specs.declared.host_spec.HostSpec.{HostSpec}
use Rattle.mid_base.specs.Limits.{differ_in_id}
use Rattle.trace_model.specs.declared.standing.Standing.TheVariants.{New}
use Rattle.trace_model.specs.Commands.{standing, retries, has_abort, taken, is_new}
use Rattle.trace_model.specs.Drained.{was_told}
use Rattle.trace_model.specs.Sending.{next_of_lane}
use Rattle.command_table.specs.declared.rows.CommandRow.{CommandRow}
use Rattle.command_table.specs.declared.rows.Taken.{Taken}
use Rattle.command_table.specs.declared.commands.Commands.{Commands}
use Rattle.command_table.specs.Rows.{row_of, standing_in, retries_in, aborted_in, is_ended, has_ended, is_out, AreFor, id_at, standing_at, first_left, IsFirstLeft, IsHoused, ids_of, waits_at}
use Rattle.command_table.specs.Sets.{has, out_of}

-- what the entries and a row say of the command c
abbrev pub Reads : List Entry → ℕ → Option CommandRow → Type 0
Reads P c x = (standing c P ≡ standing_in x) × (retries c P ≡ retries_in x) × (was_told c P ≡ is_ended (standing_in x)) × (has_abort c P ≡ aborted_in x)

-- a command that waits or is busy stands at its order among those that were taken
abbrev pub IsOrdered : List CommandRow → List Taken → Type 0
IsOrdered rows xs =
    (i : ℕ) (r : CommandRow) → slice_get rows i ≡ Some r → r.standing ≢ New → is_ended r.standing ≡ false
    → slice_get xs r.order ≡ Some (record { place = i; command = r.id })

-- the row of the command that was taken as the j-th
pub record IsPlaced (rows : List CommandRow) (j : ℕ) (x : Taken) : Type 0 where
  pub row : CommandRow
  pub at : slice_get rows x.place ≡ Some row
  pub id : row.id ≡ x.command
  pub order : row.order ≡ j
  pub taken : is_new row.standing ≡ false

abbrev pub ArePlaced : List CommandRow → List Taken → Type 0
ArePlaced rows xs = (j : ℕ) (x : Taken) → slice_get xs j ≡ Some x → IsPlaced rows j x

-- the next command of each lane
abbrev pub ArePointed : List CommandRow → List ℕ → Type 0
ArePointed rows cursors = (lane : ℕ) → lane < 64 → slice_get cursors lane ≡ Some (first_left lane rows)

pub record CommandsAgree (s : HostSpec) (P : List Entry) (t : Commands) : Type 0 where
  pub rows_are : AreFor s.luns s.cmds t.rows.items
  pub ids : differ_in_id s.cmds ≡ true
  pub lanes : (i : ℕ) (r : CommandRow) → slice_get t.rows.items i ≡ Some r → r.lane.0 < 64
  pub reads : (c : ℕ) → Reads P c (row_of c t.rows.items)
  pub pointed : ArePointed t.rows.items t.cursors.items
  pub lane_count : length t.cursors.items ≡ 64
  pub order : taken P ≡ ids_of t.taken.items
  pub ordered : IsOrdered t.rows.items t.taken.items
  pub placed : ArePlaced t.rows.items t.taken.items
  pub housed : (i : ℕ) → IsHoused i t.rows.items (length t.waiting.items)
  pub set_count : length t.waiting.items ≡ length s.luns
  pub waiting : (d j : ℕ) → has t.waiting.items d j ≡ waits_at t.rows.items t.taken.items d j
  pub out : (d : ℕ) → out_of t.waiting.items d ≡ count_by (is_out d) t.rows.items
  pub ended : t.ended ≡ count_by has_ended t.rows.items

-- the command at this place is the next one of the lane
pub record IsNext (s : HostSpec) (P : List Entry) (t : Commands) (lane i : ℕ) : Type 0 where
  pub command : CmdSpec
  pub stands_at : slice_get s.cmds i ≡ Some command
  pub next : next_of_lane s P lane ≡ Some command
  pub id : id_at i t.rows.items ≡ Some command.id
  pub lane_is : command.lane.0 ≡ lane
  pub fresh : standing_at i t.rows.items ≡ Some New
  pub housed : IsHoused i t.rows.items (length t.waiting.items)
  pub first : IsFirstLeft i t.rows.items

-- the entries that say nothing of commands
abbrev pub IsApart : Entry → Type 0
IsApart (Ready n a) = Unit {0}
IsApart (Owned n by) = Unit {0}
IsApart (Judged c n d) = Unit {0}
IsApart (Failed c n cancelled) = Unit {0}
IsApart (Due n) = Unit {0}
IsApart (Longer n) = Unit {0}
IsApart (DoneSaid n) = Unit {0}
IsApart (Late n) = Unit {0}
IsApart (Aborted c n ok) = Unit {0}
IsApart (Cleared c level) = Unit {0}
IsApart (Sensed c n sense) = Unit {0}
IsApart EhBegin = Unit {0}
IsApart EhEnd = Unit {0}
IsApart (Act level scope ok) = Unit {0}
IsApart (Probe d op say) = Unit {0}
IsApart (Offline d) = Unit {0}
IsApart (State d x) = Unit {0}
IsApart Tick = Unit {0}
IsApart e = ⊥
