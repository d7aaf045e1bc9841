-- The grammar of the command descriptor blocks: their bytes, and why other bytes are refused.
-- A block begins with its operation code and ends with its CONTROL byte (SAM-5, the command descriptor block). Numbers
-- have their highest byte first. The layouts are those that SPC-4 and SBC-3 give under the commands' names, with the
-- fields that this crate names; each bit outside them counts as reserved and has to be 0.
use Rattle.std.specs.Prelude.{ℕ, ◌+◌, ◌-◌, ◌^◌, ◌<◌, List, [], ◌∷◌, ◌++◌, length, Option, Some, None, Bool, true, false, ◌==◌, if◌then◌else◌, bit_and, ⊤}
use Rattle.std.specs.Int.{bytes_high_first}
use Rattle.cdb_codec.specs.declared.cdb.Cdb.{Cdb}
use Rattle.cdb_codec.specs.declared.cdb.Cdb.TheVariants.{TestUnitReady, RequestSense, Read6, Write6, Inquiry, StartStop, ReadCapacity10, Read10, Write10, SyncCache10, Read16, Write16, ReportLuns}
use Rattle.cdb_codec.specs.declared.cdb.CdbFault.{CdbFault}
use Rattle.cdb_codec.specs.declared.cdb.CdbFault.TheVariants.{UnknownCode, WrongLength, ReservedField}

-- a flag in the lowest bit
abbrev pub flag : Bool → ℕ
flag false = 0
flag true = 1

-- READ(6) and WRITE(6) after the operation code: bits 4 to 0 of byte 1 with bytes 2 and 3 are the LOGICAL BLOCK
-- ADDRESS, byte 4 is the TRANSFER LENGTH, byte 5 CONTROL
abbrev pub short_transfer : ℕ → ℕ → ℕ → List ℕ
short_transfer lba len control = bytes_high_first 3 lba ++ len ∷ control ∷ []

-- READ(10), WRITE(10) and SYNCHRONIZE CACHE(10) after the operation code: byte 1 has flags, bytes 2 to 5 are the
-- LOGICAL BLOCK ADDRESS, byte 6 has the GROUP NUMBER, bytes 7 and 8 are the number of blocks, byte 9 CONTROL
abbrev pub transfer : ℕ → ℕ → ℕ → ℕ → ℕ → List ℕ
transfer flags lba group len control =
    (flags ∷ bytes_high_first 4 lba) ++ (group ∷ bytes_high_first 2 len) ++ control ∷ []

-- READ(16) and WRITE(16) after the operation code: byte 1 has flags, bytes 2 to 9 are the LOGICAL BLOCK ADDRESS, bytes
-- 10 to 13 the TRANSFER LENGTH, byte 14 has the GROUP NUMBER, byte 15 is CONTROL
abbrev pub long_transfer : ℕ → ℕ → ℕ → ℕ → ℕ → List ℕ
long_transfer flags lba len group control =
    (flags ∷ bytes_high_first 8 lba) ++ bytes_high_first 4 len ++ group ∷ control ∷ []

-- the bytes of a command
abbrev pub spelling : Cdb → List ℕ
-- SPC-4, TEST UNIT READY
spelling (TestUnitReady control) = 0x00 ∷ 0 ∷ 0 ∷ 0 ∷ 0 ∷ control ∷ []
-- SPC-4, REQUEST SENSE: byte 1 bit 0 DESC, byte 4 ALLOCATION LENGTH
spelling (RequestSense desc alloc control) = 0x03 ∷ flag desc ∷ 0 ∷ 0 ∷ alloc ∷ control ∷ []
-- SBC-3, READ(6) and WRITE(6)
spelling (Read6 lba len control) = 0x08 ∷ short_transfer lba len control
spelling (Write6 lba len control) = 0x0a ∷ short_transfer lba len control
-- SPC-4, INQUIRY: byte 1 bit 0 EVPD, byte 2 PAGE CODE, bytes 3 and 4 ALLOCATION LENGTH
spelling (Inquiry evpd page alloc control) = (0x12 ∷ flag evpd ∷ page ∷ bytes_high_first 2 alloc) ++ control ∷ []
-- SBC-3, START STOP UNIT: byte 1 bit 0 IMMED, byte 4 POWER CONDITION, NO_FLUSH, LOEJ and START
spelling (StartStop immed bits control) = 0x1b ∷ flag immed ∷ 0 ∷ 0 ∷ bits ∷ control ∷ []
-- SBC-3, READ CAPACITY(10)
spelling (ReadCapacity10 control) = 0x25 ∷ 0 ∷ 0 ∷ 0 ∷ 0 ∷ 0 ∷ 0 ∷ 0 ∷ 0 ∷ control ∷ []
-- SBC-3, READ(10), WRITE(10) and SYNCHRONIZE CACHE(10)
spelling (Read10 flags lba group len control) = 0x28 ∷ transfer flags lba group len control
spelling (Write10 flags lba group len control) = 0x2a ∷ transfer flags lba group len control
spelling (SyncCache10 flags lba group len control) = 0x35 ∷ transfer flags lba group len control
-- SBC-3, READ(16) and WRITE(16)
spelling (Read16 flags lba len group control) = 0x88 ∷ long_transfer flags lba len group control
spelling (Write16 flags lba len group control) = 0x8a ∷ long_transfer flags lba len group control
-- SPC-4, REPORT LUNS: byte 2 SELECT REPORT, bytes 6 to 9 ALLOCATION LENGTH
spelling (ReportLuns select alloc control) =
    (0xa0 ∷ 0 ∷ select ∷ 0 ∷ 0 ∷ 0 ∷ bytes_high_first 4 alloc) ++ 0 ∷ control ∷ []

-- each number has at most the bits of its field
abbrev pub FitsShortTransfer : ℕ → ℕ → ℕ → Type 0
FitsShortTransfer lba len control = (lba < 2 ^ 21) × (len < 2 ^ 8) × (control < 2 ^ 8)

abbrev pub FitsTransfer : ℕ → ℕ → ℕ → ℕ → ℕ → Type 0
FitsTransfer flags lba group len control =
    (flags < 2 ^ 8) × (lba < 2 ^ 32) × (group < 2 ^ 8) × (len < 2 ^ 16) × (control < 2 ^ 8)

abbrev pub FitsLongTransfer : ℕ → ℕ → ℕ → ℕ → ℕ → Type 0
FitsLongTransfer flags lba len group control =
    (flags < 2 ^ 8) × (lba < 2 ^ 64) × (len < 2 ^ 32) × (group < 2 ^ 8) × (control < 2 ^ 8)

-- the command has a spelling: each of its numbers has at most the bits of its field
abbrev pub Fits : Cdb → Type 0
Fits (TestUnitReady control) = control < 2 ^ 8
Fits (RequestSense desc alloc control) = (alloc < 2 ^ 8) × (control < 2 ^ 8)
Fits (Read6 lba len control) = FitsShortTransfer lba len control
Fits (Write6 lba len control) = FitsShortTransfer lba len control
Fits (Inquiry evpd page alloc control) = (page < 2 ^ 8) × (alloc < 2 ^ 16) × (control < 2 ^ 8)
Fits (StartStop immed bits control) = (bits < 2 ^ 8) × (control < 2 ^ 8)
Fits (ReadCapacity10 control) = control < 2 ^ 8
Fits (Read10 flags lba group len control) = FitsTransfer flags lba group len control
Fits (Write10 flags lba group len control) = FitsTransfer flags lba group len control
Fits (SyncCache10 flags lba group len control) = FitsTransfer flags lba group len control
Fits (Read16 flags lba len group control) = FitsLongTransfer flags lba len group control
Fits (Write16 flags lba len group control) = FitsLongTransfer flags lba len group control
Fits (ReportLuns select alloc control) = (select < 2 ^ 8) × (alloc < 2 ^ 32) × (control < 2 ^ 8)

-- the part of this that the types of the fields leave open: the address of a READ(6) or WRITE(6) has 21 bits
abbrev pub HasShortAddress : Cdb → Type 0
HasShortAddress (Read6 lba len control) = lba < 2 ^ 21
HasShortAddress (Write6 lba len control) = lba < 2 ^ 21
HasShortAddress _ = ⊤

-- READ(10), WRITE(10) or SYNCHRONIZE CACHE(10)
abbrev pub IsTransfer : Cdb → Type 0
IsTransfer (Read10 flags lba group len control) = ⊤
IsTransfer (Write10 flags lba group len control) = ⊤
IsTransfer (SyncCache10 flags lba group len control) = ⊤
IsTransfer _ = ⊥

-- READ(16) or WRITE(16)
abbrev pub IsLongTransfer : Cdb → Type 0
IsLongTransfer (Read16 flags lba len group control) = ⊤
IsLongTransfer (Write16 flags lba len group control) = ⊤
IsLongTransfer _ = ⊥

-- the named bits of each byte of the blocks that several commands have
abbrev pub short_transfer_bits : List ℕ
short_transfer_bits = 0xff ∷ 0x1f ∷ 0xff ∷ 0xff ∷ 0xff ∷ 0xff ∷ []

abbrev pub transfer_bits : List ℕ
transfer_bits = 0xff ∷ 0xff ∷ 0xff ∷ 0xff ∷ 0xff ∷ 0xff ∷ 0xff ∷ 0xff ∷ 0xff ∷ 0xff ∷ []

abbrev pub long_transfer_bits : List ℕ
long_transfer_bits =
    0xff ∷ 0xff ∷ 0xff ∷ 0xff ∷ 0xff ∷ 0xff ∷ 0xff ∷ 0xff ∷ 0xff ∷ 0xff ∷ 0xff ∷ 0xff ∷ 0xff ∷ 0xff ∷ 0xff ∷ 0xff ∷ []

-- the named bits of each byte of a block with this operation code, as many bytes as the block has; none where the code
-- is unknown
abbrev pub named_bits : ℕ → Option (List ℕ)
named_bits code =
    if code == 0x00 then Some (0xff ∷ 0 ∷ 0 ∷ 0 ∷ 0 ∷ 0xff ∷ [])
    else (if code == 0x03 then Some (0xff ∷ 0x01 ∷ 0 ∷ 0 ∷ 0xff ∷ 0xff ∷ [])
    else (if code == 0x08 then Some short_transfer_bits
    else (if code == 0x0a then Some short_transfer_bits
    else (if code == 0x12 then Some (0xff ∷ 0x01 ∷ 0xff ∷ 0xff ∷ 0xff ∷ 0xff ∷ [])
    else (if code == 0x1b then Some (0xff ∷ 0x01 ∷ 0 ∷ 0 ∷ 0xff ∷ 0xff ∷ [])
    else (if code == 0x25 then Some (0xff ∷ 0 ∷ 0 ∷ 0 ∷ 0 ∷ 0 ∷ 0 ∷ 0 ∷ 0 ∷ 0xff ∷ [])
    else (if code == 0x28 then Some transfer_bits
    else (if code == 0x2a then Some transfer_bits
    else (if code == 0x35 then Some transfer_bits
    else (if code == 0x88 then Some long_transfer_bits
    else (if code == 0x8a then Some long_transfer_bits
    else (if code == 0xa0 then Some (0xff ∷ 0 ∷ 0xff ∷ 0 ∷ 0 ∷ 0 ∷ 0xff ∷ 0xff ∷ 0xff ∷ 0xff ∷ 0 ∷ 0xff ∷ [])
    else None))))))))))))

-- the first place, counted from `place` on, whose byte has a bit that isn't named
abbrev pub first_reserved : ℕ → List ℕ → List ℕ → Option ℕ
first_reserved place [] named = None
first_reserved place (byte ∷ bytes) [] = None
first_reserved place (byte ∷ bytes) (bits ∷ named) =
    if bit_and (0xff - bits) byte == 0 then first_reserved (place + 1) bytes named else Some place

abbrev pub reserved_fault : Option ℕ → Option CdbFault
reserved_fault None = None
reserved_fault (Some place) = Some (ReservedField place)

-- a wrong length, else the first byte with a reserved bit that is set
abbrev pub layout_fault : List ℕ → List ℕ → Option CdbFault
layout_fault bytes named =
    if length bytes == length named then reserved_fault (first_reserved 0 bytes named)
    else Some (WrongLength (length bytes) (length named))

abbrev pub code_fault : ℕ → List ℕ → Option (List ℕ) → Option CdbFault
code_fault code bytes None = Some (UnknownCode code)
code_fault code bytes (Some named) = layout_fault bytes named

-- why these bytes are no command: the first that holds of no byte at all, the code, the length, a reserved bit
abbrev pub refusal : List ℕ → Option CdbFault
refusal [] = Some (WrongLength 0 1)
refusal (code ∷ rest) = code_fault code (code ∷ rest) (named_bits code)
