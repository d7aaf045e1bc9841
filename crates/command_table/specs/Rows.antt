-- What the rows of the table say of a command, of a lane and of the order of taking.
use Rattle.std.specs.Prelude.{◌≡◌, ◌<◌, ℕ, ◌==◌, ◌&&◌, Bool, true, false, List, [], ◌∷◌, Option, None, Some, find, option_map, slice_get, suc, if◌then◌else◌}
use Rattle.mid_base.specs.declared.names.CmdId.{CmdId}
use Rattle.mid_base.specs.declared.names.DevAddr.{DevAddr}
use Rattle.mid_base.specs.declared.host_spec.CmdSpec.{CmdSpec}
use Rattle.mid_base.specs.declared.host_spec.LunSpec.{LunSpec}
use Rattle.mid_base.specs.Address.{same_dev}
use Rattle.trace_model.specs.declared.standing.Standing.{Standing}
use Rattle.trace_model.specs.declared.standing.Standing.TheVariants.{New, Ended}
use Rattle.trace_model.specs.Commands.{is_new, is_busy, waits}
use Rattle.command_table.specs.declared.rows.CommandRow.{CommandRow}
use Rattle.command_table.specs.declared.rows.Taken.{Taken}

-- the row of a command by its id
abbrev pub is_row : ℕ → CommandRow → Bool
is_row c r = r.id.0 == c

abbrev pub row_of : ℕ → List CommandRow → Option CommandRow
row_of c rows = find (is_row c) rows

abbrev pub standing_in : Option CommandRow → Standing
standing_in None = New
standing_in (Some r) = r.standing

abbrev pub retries_in : Option CommandRow → ℕ
retries_in None = 0
retries_in (Some r) = r.retries

abbrev pub aborted_in : Option CommandRow → Bool
aborted_in None = false
aborted_in (Some r) = r.aborted

abbrev pub is_ended : Standing → Bool
is_ended Ended = true
is_ended _ = false

abbrev pub has_ended : CommandRow → Bool
has_ended r = is_ended r.standing

-- the place of a device among the logical units
abbrev pub home : DevAddr → List LunSpec → ℕ
home d [] = 0
home d (l ∷ luns) = if same_dev l.dev d then 0 else suc (home d luns)

-- the rows are those of these commands, one for each, in their order
abbrev pub AreFor : List LunSpec → List CmdSpec → List CommandRow → Type 0
AreFor luns [] [] = Unit {0}
AreFor luns (k ∷ ks) (r ∷ rs) = (r.id ≡ k.id) × (r.lane ≡ k.lane) × (r.device ≡ home k.dev luns) × AreFor luns ks rs
AreFor luns ks rs = ⊥

-- the row at a place
abbrev pub id_at : ℕ → List CommandRow → Option CmdId
id_at i rows = option_map (λ r. r.id) (slice_get rows i)

abbrev pub standing_at : ℕ → List CommandRow → Option Standing
standing_at i rows = option_map (λ r. r.standing) (slice_get rows i)

-- a row of the lane whose command isn't handed in, and where the first one is
abbrev pub is_left : ℕ → CommandRow → Bool
is_left lane r = (r.lane.0 == lane) && is_new r.standing

abbrev pub first_left : ℕ → List CommandRow → ℕ
first_left lane [] = 0
first_left lane (r ∷ rows) = if is_left lane r then 0 else suc (first_left lane rows)

-- the row at the place is the first of its lane whose command isn't handed in
abbrev pub IsFirstLeft : ℕ → List CommandRow → Type 0
IsFirstLeft i rows = (r : CommandRow) → slice_get rows i ≡ Some r → i ≡ first_left r.lane.0 rows

-- the commands that were taken, the earliest first
abbrev pub ids_of : List Taken → List ℕ
ids_of [] = []
ids_of (x ∷ xs) = x.command.0 ∷ ids_of xs

-- the row of a command that isn't handed in
abbrev pub start_row : List LunSpec → CmdSpec → CommandRow
start_row luns k = record { id = k.id; lane = k.lane; device = home k.dev luns; standing = New; retries = 0; aborted = false; order = 0 }

-- the command at the place is busy; it waits or is busy
abbrev pub IsBusyAt : ℕ → List CommandRow → Type 0
IsBusyAt i rows = option_map (λ r. is_busy r.standing) (slice_get rows i) ≡ Some true

abbrev pub is_open : Standing → Bool
is_open New = false
is_open Ended = false
is_open _ = true

abbrev pub IsOpenAt : ℕ → List CommandRow → Type 0
IsOpenAt i rows = option_map (λ r. is_open r.standing) (slice_get rows i) ≡ Some true

-- the command that was taken as the j-th waits for the device at this place
abbrev pub waits_row : ℕ → Option CommandRow → Bool
waits_row d None = false
waits_row d (Some r) = waits r.standing && (r.device == d)

abbrev pub waits_taken : ℕ → List CommandRow → Option Taken → Bool
waits_taken d rows None = false
waits_taken d rows (Some x) = waits_row d (slice_get rows x.place)

abbrev pub waits_at : List CommandRow → List Taken → (d j : ℕ) → Bool
waits_at rows xs d j = waits_taken d rows (slice_get xs j)

-- the row's command is busy at the device of this place
abbrev pub is_out : ℕ → CommandRow → Bool
is_out d r = is_busy r.standing && (r.device == d)

-- the device of the command at this place is one of so many
abbrev pub IsHoused : ℕ → List CommandRow → ℕ → Type 0
IsHoused i rows count = (r : CommandRow) → slice_get rows i ≡ Some r → r.device < count
