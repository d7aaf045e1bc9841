-- The five commands that recovery and scanning send, which are called probes.
use Rattle.std.specs.Prelude.{◌≡◌, ℕ, ◌==◌, List, [], ◌∷◌, min, take, slice_index, if◌then◌else◌}
use Rattle.mid_base.specs.declared.bytes.CdbBytes.{CdbBytes}
use Rattle.mid_base.specs.declared.answers.ProbeSay.{ProbeSay}
use Rattle.mid_base.specs.declared.answers.ProbeSay.TheVariants.{Answered, Silent}
use Rattle.mid_base.specs.Bytes.{cdb_list}
use Rattle.mid_base.specs.Codes.{test_unit_ready, request_sense, inquiry, start_stop_unit, report_luns}

-- the CDB of each: REQUEST SENSE for at most 252 bytes, INQUIRY for at most 36, START STOP UNIT with its START bit, and
-- REPORT LUNS for at most 2,056 (SPC-4 6.6, 6.33, 6.39, 6.47; SBC-3 5.25)
abbrev pub probe_cdb : ℕ → List ℕ
probe_cdb code =
    if code == test_unit_ready then 0 ∷ 0 ∷ 0 ∷ 0 ∷ 0 ∷ 0 ∷ []
    else if code == request_sense then 3 ∷ 0 ∷ 0 ∷ 0 ∷ 252 ∷ 0 ∷ []
    else if code == inquiry then 18 ∷ 0 ∷ 0 ∷ 0 ∷ 36 ∷ 0 ∷ []
    else if code == start_stop_unit then 27 ∷ 0 ∷ 0 ∷ 0 ∷ 1 ∷ 0 ∷ []
    else if code == report_luns then 160 ∷ 0 ∷ 0 ∷ 0 ∷ 0 ∷ 0 ∷ 0 ∷ 0 ∷ 8 ∷ 8 ∷ 0 ∷ 0 ∷ []
    else []

-- the first byte of a CDB is its operation code
abbrev pub code_of : CdbBytes → ℕ
code_of cdb = slice_index (cdb_list cdb) 0

-- the CDB is one of the five
abbrev pub IsProbe : CdbBytes → Type 0
IsProbe cdb = cdb_list cdb ≡ probe_cdb (code_of cdb)

-- how many bytes of data-in the CDB asks for at most: its allocation length, 0 where it has none
abbrev pub allocation : ℕ → ℕ
allocation code =
    if code == request_sense then 252
    else if code == inquiry then 36
    else if code == report_luns then 2056
    else 0

-- the data-in that a caller takes from its buffer: as many bytes as were moved, the allocation length and the buffer have
abbrev pub taken : ℕ → ProbeSay → List ℕ → List ℕ
taken code (Answered a) buffer = take (min a.moved (allocation code)) buffer
taken code Silent buffer = []
