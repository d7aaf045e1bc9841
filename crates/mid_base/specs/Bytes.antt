-- The bytes that a CDB or sense data holds, without the padding.
use Rattle.std.specs.Prelude.{ℕ, List, take, replicate}
use Rattle.mid_base.specs.Padded.{empty_padded}
use Rattle.mid_base.specs.declared.bytes.SenseBytes.{SenseBytes}
use Rattle.mid_base.specs.declared.bytes.CdbBytes.{CdbBytes}

abbrev pub sense_list : SenseBytes → List ℕ
sense_list s = take s.len s.bytes

abbrev pub cdb_list : CdbBytes → List ℕ
cdb_list c = take c.len c.bytes

abbrev pub no_sense : SenseBytes
no_sense = record { len = 0; bytes = replicate 252 0; padded = empty_padded 252 }
