-- The command in a block, and the kinds of commands that the rules of a logical unit speak of.
use Rattle.std.specs.Prelude.{ℕ, ◌*◌, ◌==◌, ◌&&◌, ◌||◌, not, nat_lt, List, drop, slice_index, Option, Some, None, Result, Ok, Err, Bool, true, false, if◌then◌else◌}
use Rattle.byteorder.specs.Endian.{big_number}
use Rattle.cdb_codec.specs.declared.cdb.Cdb.{Cdb}
use Rattle.cdb_codec.specs.declared.cdb.Cdb.TheVariants.{TestUnitReady, RequestSense, Read6, Write6, Inquiry, StartStop, ReadCapacity10, Read10, Write10, SyncCache10, Read16, Write16, ReportLuns}
use Rattle.cdb_codec.specs.declared.cdb.CdbFault.{CdbFault}
use Rattle.cdb_codec.specs.declared.cdb.CdbFault.TheVariants.{UnknownCode}
use Rattle.cdb_codec.specs.Grammar.{refusal}
use Rattle.sense_data.specs.Codes.{illegal_request, invalid_command_operation_code, invalid_field_in_cdb}
use Rattle.debug_lun.specs.declared.sense_code.Sense.{Sense}

abbrev pub sense : ℕ → ℕ × ℕ → Sense
sense key code = record { key = key; asc = code.0; ascq = code.1 }

-- the number in n bytes of a block, the highest first, from a place on
abbrev pub number_at : ℕ → ℕ → List ℕ → ℕ
number_at place n block = big_number n (drop place block)

-- the command of a block that isn't refused: each field stands at its place of SPC-4 and SBC-3
unfoldable pub command_in : List ℕ → Cdb
command_in b =
    let code = slice_index b 0 in
    if code == 0x00 then TestUnitReady (slice_index b 5)
    else (if code == 0x03 then RequestSense (slice_index b 1 == 1) (slice_index b 4) (slice_index b 5)
    else (if code == 0x08 then Read6 (number_at 1 3 b) (slice_index b 4) (slice_index b 5)
    else (if code == 0x0a then Write6 (number_at 1 3 b) (slice_index b 4) (slice_index b 5)
    else (if code == 0x12 then Inquiry (slice_index b 1 == 1) (slice_index b 2) (number_at 3 2 b) (slice_index b 5)
    else (if code == 0x1b then StartStop (slice_index b 1 == 1) (slice_index b 4) (slice_index b 5)
    else (if code == 0x25 then ReadCapacity10 (slice_index b 9)
    else (if code == 0x28 then Read10 (slice_index b 1) (number_at 2 4 b) (slice_index b 6) (number_at 7 2 b) (slice_index b 9)
    else (if code == 0x2a then Write10 (slice_index b 1) (number_at 2 4 b) (slice_index b 6) (number_at 7 2 b) (slice_index b 9)
    else (if code == 0x35 then SyncCache10 (slice_index b 1) (number_at 2 4 b) (slice_index b 6) (number_at 7 2 b) (slice_index b 9)
    else (if code == 0x88 then Read16 (slice_index b 1) (number_at 2 8 b) (number_at 10 4 b) (slice_index b 14) (slice_index b 15)
    else (if code == 0x8a then Write16 (slice_index b 1) (number_at 2 8 b) (number_at 10 4 b) (slice_index b 14) (slice_index b 15)
    else ReportLuns (slice_index b 2) (number_at 6 4 b) (slice_index b 11))))))))))))

-- an operation code that isn't known, else a field that isn't valid
abbrev pub fault_sense : CdbFault → Sense
fault_sense (UnknownCode code) = sense illegal_request invalid_command_operation_code
fault_sense _ = sense illegal_request invalid_field_in_cdb

abbrev pub command_or : Cdb → Option CdbFault → Result Cdb Sense
command_or c None = Ok c
command_or c (Some fault) = Err (fault_sense fault)

-- the command of a block, or the sense of its refusal
unfoldable pub read_command : List ℕ → Result Cdb Sense
read_command b = command_or (command_in b) (refusal b)

-- ---- kinds of commands

-- a unit attention keeps all but these from being served (SAM-5, unit attention conditions)
abbrev pub passes_attention : Cdb → Bool
passes_attention (Inquiry evpd page alloc control) = true
passes_attention (RequestSense desc alloc control) = true
passes_attention (ReportLuns select alloc control) = true
passes_attention _ = false

abbrev pub is_read : Cdb → Bool
is_read (Read6 lba len control) = true
is_read (Read10 flags lba group len control) = true
is_read (Read16 flags lba len group control) = true
is_read _ = false

abbrev pub is_write : Cdb → Bool
is_write (Write6 lba len control) = true
is_write (Write10 flags lba group len control) = true
is_write (Write16 flags lba len group control) = true
is_write _ = false

abbrev pub moves_blocks : Cdb → Bool
moves_blocks c = is_read c || is_write c

-- a unit that is stopped serves none of these
abbrev pub needs_start : Cdb → Bool
needs_start (TestUnitReady control) = true
needs_start (ReadCapacity10 control) = true
needs_start (SyncCache10 flags lba group len control) = true
needs_start c = moves_blocks c

-- SBC-3, READ(6) and WRITE(6): a TRANSFER LENGTH of 0 means 256 blocks
abbrev pub short_count : ℕ → ℕ
short_count len = if len == 0 then 256 else len

-- the blocks that a command is for: the number of the first, and how many; none for other commands
abbrev pub first_block : Cdb → ℕ
first_block (Read6 lba len control) = lba
first_block (Write6 lba len control) = lba
first_block (Read10 flags lba group len control) = lba
first_block (Write10 flags lba group len control) = lba
first_block (SyncCache10 flags lba group len control) = lba
first_block (Read16 flags lba len group control) = lba
first_block (Write16 flags lba len group control) = lba
first_block _ = 0

abbrev pub block_count : Cdb → ℕ
block_count (Read6 lba len control) = short_count len
block_count (Write6 lba len control) = short_count len
block_count (Read10 flags lba group len control) = len
block_count (Write10 flags lba group len control) = len
block_count (SyncCache10 flags lba group len control) = len
block_count (Read16 flags lba len group control) = len
block_count (Write16 flags lba len group control) = len
block_count _ = 0

-- the bytes at the front of the data-out that a command looks at: those of a write's blocks, and none of a write that is for
-- more than 256
abbrev pub needed_by : Cdb → ℕ
needed_by c = if is_write c && not (nat_lt 256 (block_count c)) then 512 * block_count c else 0

abbrev pub needed_for : Result Cdb Sense → ℕ
needed_for (Err s) = 0
needed_for (Ok c) = needed_by c

-- those that the command of a block looks at
unfoldable pub data_needed : List ℕ → ℕ
data_needed b = needed_for (read_command b)
