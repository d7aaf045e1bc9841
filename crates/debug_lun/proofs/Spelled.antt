-- The command that the definition reads from a block is the one that the block spells.
use Rattle.std.proofs.Common.{◌≡◌, ◌<◌, ◌^◌, ℕ, List, [], ◌∷◌, ◌++◌, true, false, Ok, Err, None, Some, refl, ap, ◌∙◌, arith}
use Rattle.std.specs.Int.{bytes_high_first}
use Rattle.byteorder.specs.Endian.{big_number}
use Rattle.byteorder.specs.Numbers.{big_number-reads_back}
use Rattle.cdb_codec.specs.declared.cdb.Cdb.{Cdb}
use Rattle.cdb_codec.specs.declared.cdb.Cdb.TheVariants.{TestUnitReady, RequestSense, Read6, Write6, Inquiry, StartStop, ReadCapacity10, Read10, Write10, SyncCache10, Read16, Write16, ReportLuns}
use Rattle.cdb_codec.specs.declared.cdb.CdbFault.{CdbFault}
use Rattle.cdb_codec.specs.Grammar.{spelling, Fits, refusal}
use Rattle.debug_lun.specs.Commands.{command_in, read_command, fault_sense}

-- two numbers of a block, each read back
two_numbers : (make : ℕ → ℕ → Cdb) (m n a b : ℕ) (rest last : List ℕ) → a < 256 ^ m → b < 256 ^ n
    → make (big_number m (bytes_high_first m a ++ rest)) (big_number n (bytes_high_first n b ++ last)) ≡ make a b
two_numbers make m n a b rest last small little =
    ap (λ (x : ℕ). make x (big_number n (bytes_high_first n b ++ last))) (big_number-reads_back m a rest small)
    ∙ ap (λ (y : ℕ). make a y) (big_number-reads_back n b last little)

-- the command of a block that is spelled
pub command_spelled : (c : Cdb) → Fits c → command_in (spelling c) ≡ c
unfolding command_in
command_spelled (TestUnitReady control) f = refl
command_spelled (RequestSense true alloc control) f = refl
command_spelled (RequestSense false alloc control) f = refl
command_spelled (Read6 lba len control) f =
    ap (λ (n : ℕ). Read6 n len control) (big_number-reads_back 3 lba (len ∷ control ∷ []) (omega arith))
command_spelled (Write6 lba len control) f =
    ap (λ (n : ℕ). Write6 n len control) (big_number-reads_back 3 lba (len ∷ control ∷ []) (omega arith))
command_spelled (Inquiry true page alloc control) f =
    ap (λ (n : ℕ). Inquiry true page n control) (big_number-reads_back 2 alloc (control ∷ []) (omega arith))
command_spelled (Inquiry false page alloc control) f =
    ap (λ (n : ℕ). Inquiry false page n control) (big_number-reads_back 2 alloc (control ∷ []) (omega arith))
command_spelled (StartStop true bits control) f = refl
command_spelled (StartStop false bits control) f = refl
command_spelled (ReadCapacity10 control) f = refl
command_spelled (Read10 flags lba group len control) f =
    two_numbers (λ a b. Read10 flags a group b control) 4 2 lba len (group ∷ (bytes_high_first 2 len ++ control ∷ [])) (control ∷ []) (omega arith) (omega arith)
command_spelled (Write10 flags lba group len control) f =
    two_numbers (λ a b. Write10 flags a group b control) 4 2 lba len (group ∷ (bytes_high_first 2 len ++ control ∷ [])) (control ∷ []) (omega arith) (omega arith)
command_spelled (SyncCache10 flags lba group len control) f =
    two_numbers (λ a b. SyncCache10 flags a group b control) 4 2 lba len (group ∷ (bytes_high_first 2 len ++ control ∷ [])) (control ∷ []) (omega arith) (omega arith)
command_spelled (Read16 flags lba len group control) f =
    two_numbers (λ a b. Read16 flags a b group control) 8 4 lba len (bytes_high_first 4 len ++ group ∷ control ∷ []) (group ∷ control ∷ []) (omega arith) (omega arith)
command_spelled (Write16 flags lba len group control) f =
    two_numbers (λ a b. Write16 flags a b group control) 8 4 lba len (bytes_high_first 4 len ++ group ∷ control ∷ []) (group ∷ control ∷ []) (omega arith) (omega arith)
command_spelled (ReportLuns select alloc control) f =
    ap (λ (n : ℕ). ReportLuns select n control) (big_number-reads_back 4 alloc (0 ∷ control ∷ []) (omega arith))

pub read_spelled : (c : Cdb) (b : List ℕ) → Fits c → refusal b ≡ None → spelling c ≡ b → read_command b ≡ Ok c
unfolding read_command
read_spelled c b f none e = rw (none, ← e) (ap Ok (command_spelled c f))

pub read_refused : (b : List ℕ) (fault : CdbFault) → refusal b ≡ Some fault → read_command b ≡ Err (fault_sense fault)
unfolding read_command
read_refused b fault e = rw e refl
