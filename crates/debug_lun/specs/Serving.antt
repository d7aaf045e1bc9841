-- How a logical unit serves a command: what refuses it, tried in order, and what it does and gives otherwise.
use Rattle.std.specs.Prelude.{◌≡◌, ℕ, ◌+◌, ◌*◌, ◌%◌, ◌==◌, List, [], ◌∷◌, ◌++◌, length, take, drop, sum, Option, Some, None, is_none, Result, Ok, Err, Bool, true, false, not, ◌&&◌, if◌then◌else◌, nat_lt}
use Rattle.mid_base.specs.Codes.{did_ok, good, check_condition}
use Rattle.cdb_codec.specs.declared.cdb.Cdb.{Cdb}
use Rattle.cdb_codec.specs.declared.cdb.Cdb.TheVariants.{RequestSense, Inquiry, StartStop, ReadCapacity10, ReportLuns}
use Rattle.sense_data.specs.Codes.{no_sense_key, not_ready, illegal_request, unit_attention, data_protect, no_additional_sense, initializing_command_required, block_address_out_of_range, invalid_field_in_cdb, write_protected, reset_occurred}
use Rattle.lun_addr.specs.Grammar.{lun_list}
use Rattle.block_store.specs.Blocks.{bytes_from, with_bytes}
use Rattle.debug_lun.specs.declared.sense_code.Sense.{Sense}
use Rattle.debug_lun.specs.Units.{LogicalUnit, Reply}
use Rattle.debug_lun.specs.Commands.{sense, read_command, passes_attention, needs_start, is_read, is_write, moves_blocks, first_block, block_count}
use Rattle.debug_lun.specs.Pages.{sense_bytes, inquiry, is_unknown_page, capacity, listed_units}

-- the unit after a command, the answer, and the bytes that came in
pub record Served : Type 0 where
  pub unit : LogicalUnit
  pub reply : Reply
  pub data_in : List ℕ

-- CHECK CONDITION with sense data of the fixed form; nothing is moved
abbrev pub refusal_reply : Sense → Reply
refusal_reply s = record { host = did_ok; status = check_condition; sense = sense_bytes false s; moved = 0; sum = 0 }

-- GOOD, after these bytes came in
abbrev pub data_reply : List ℕ → Reply
data_reply bytes = record { host = did_ok; status = good; sense = []; moved = length bytes; sum = sum bytes }

-- GOOD, after these bytes were written
abbrev pub write_reply : List ℕ → Reply
write_reply bytes = record { host = did_ok; status = good; sense = []; moved = length bytes; sum = 0 }

-- a buffer after these bytes were put into its front
abbrev pub placed : List ℕ → List ℕ → List ℕ
placed bytes buffer = bytes ++ drop (length bytes) buffer

abbrev pub refused : LogicalUnit → Sense → Served
refused u s = record { unit = u; reply = refusal_reply s; data_in = [] }

abbrev pub gives : LogicalUnit → List ℕ → Served
gives u bytes = record { unit = u; reply = data_reply bytes; data_in = bytes }

-- the bytes are written from block k on
abbrev pub takes : LogicalUnit → ℕ → List ℕ → Served
takes u k bytes = record { unit = record u { contents = with_bytes u.contents k bytes }; reply = write_reply bytes; data_in = [] }

-- ---- refusals

-- what refuses a command, in the order in which it is tried, and with which sense
abbrev pub refusals : LogicalUnit → Cdb → List (Bool × Sense)
refusals u c =
    (u.attention && not (passes_attention c), sense unit_attention reset_occurred)
    ∷ (not u.started && needs_start c, sense not_ready initializing_command_required)
    ∷ (u.write_protected && is_write c, sense data_protect write_protected)
    ∷ (moves_blocks c && nat_lt 256 (block_count c), sense illegal_request invalid_field_in_cdb)
    ∷ (nat_lt u.blocks (first_block c + block_count c), sense illegal_request block_address_out_of_range)
    ∷ (is_unknown_page c, sense illegal_request invalid_field_in_cdb)
    ∷ []

abbrev pub first_refusal : List (Bool × Sense) → Option Sense
first_refusal [] = None
first_refusal ((holds, s) ∷ others) = if holds then Some s else first_refusal others

-- a unit attention ends with the command that was refused for it
abbrev pub reported : LogicalUnit → Cdb → LogicalUnit
reported u c = record u { attention = u.attention && passes_attention c }

-- ---- what a command does

-- the sense that REQUEST SENSE gives: what is pending, else the unit attention, else that the unit is stopped
abbrev pub sense_due : LogicalUnit → Option Sense → Sense
sense_due u (Some s) = s
sense_due u None =
    if u.attention then sense unit_attention reset_occurred
    else (if u.started then sense no_sense_key no_additional_sense else sense not_ready initializing_command_required)

-- what it gave ends
abbrev pub after_sense : LogicalUnit → Option Sense → LogicalUnit
after_sense u (Some s) = record u { pending = None }
after_sense u None = record u { attention = false }

-- a command that nothing refuses, other than a read or a write
abbrev pub effect : LogicalUnit → Cdb → List ℕ → Served
effect u (RequestSense desc alloc control) luns = gives (after_sense u u.pending) (take alloc (sense_bytes desc (sense_due u u.pending)))
effect u (Inquiry evpd page alloc control) luns = gives u (take alloc (inquiry u.dev evpd page))
effect u (StartStop immed bits control) luns = gives (record u { started = bits % 2 == 1 }) []
effect u (ReadCapacity10 control) luns = gives u (capacity u.blocks)
effect u (ReportLuns select alloc control) luns = gives u (take alloc (lun_list (listed_units select luns)))
effect u _ luns = gives u []

-- a command that nothing refuses; a write takes its bytes from the front of the data-out
abbrev pub performed : LogicalUnit → Cdb → List ℕ → List ℕ → Served
performed u c luns out =
    if is_read c then gives u (bytes_from u.contents (first_block c) (block_count c))
    else (if is_write c then takes u (first_block c) (take (512 * block_count c) out)
    else effect u c luns)

-- ---- together

abbrev pub tried : LogicalUnit → Cdb → List ℕ → List ℕ → Option Sense → Served
tried u c luns out (Some s) = refused (reported u c) s
tried u c luns out None = performed u c luns out

-- a command
unfoldable pub run : LogicalUnit → Cdb → List ℕ → List ℕ → Served
run u c luns out = tried u c luns out (first_refusal (refusals u c))

abbrev pub run_read : LogicalUnit → List ℕ → List ℕ → Result Cdb Sense → Served
run_read u luns out (Err s) = refused u s
run_read u luns out (Ok c) = run u c luns out

-- a block: what a unit of a target with these LUNs, in ascending order, makes of it and of this data-out
unfoldable pub serve : LogicalUnit → List ℕ → List ℕ → List ℕ → Served
serve u cdb luns out = run_read u luns out (read_command cdb)

-- the block is that of a write which nothing refuses
abbrev pub is_accepted_write : LogicalUnit → Result Cdb Sense → Bool
is_accepted_write u (Err s) = false
is_accepted_write u (Ok c) = is_write c && is_none (first_refusal (refusals u c))

-- an answer says of its data-in how many bytes were moved and what their sum is; of a write, how many were written
pub record TellsData (write : Bool) (s : Served) : Type 0 where
  pub sum_is : s.reply.sum ≡ sum s.data_in
  pub moved_is : write ≡ false → s.reply.moved ≡ length s.data_in
