-- The bytes of a word as a CDB and as sense data.
use Rattle.std.proofs.Common.{◌≡◌, ℕ, ◌≤◌, List, ◌++◌, length, take, drop, replicate, sym, ◌∙◌, arith}
use Rattle.std.proofs.lemmas.List.{take_all, take-append-le}
use Rattle.mid_base.specs.Bytes.{cdb_list, sense_list}
use Rattle.mid_base.specs.declared.bytes.CdbBytes.{CdbBytes}
use Rattle.mid_base.specs.declared.bytes.SenseBytes.{SenseBytes}
use Rattle.mid_base.proofs.Same.{same_cdb, same_sense}
use Rattle.script_words.specs.Hex.{cdb_of, sense_of}

front_is : (b rest : List ℕ) → take (length b) (b ++ rest) ≡ b
front_is b rest = take-append-le (length b) b rest (omega arith) ∙ take_all (length b) b (omega arith)

pub cdb_is : (b : List ℕ) (c : CdbBytes) → cdb_list c ≡ b → length b ≤ 16 → c ≡ cdb_of b
unfolding cdb_of
cdb_is b c e few =
    let all : take 16 b ≡ b = take_all 16 b few in
    same_cdb c (cdb_of b) (e ∙ sym (front_is (take 16 b) (drop (length (take 16 b)) (replicate 16 0)) ∙ all))

pub cdb_read : (b : List ℕ) → length b ≤ 16 → cdb_list (cdb_of b) ≡ b
unfolding cdb_of
cdb_read b few = front_is (take 16 b) (drop (length (take 16 b)) (replicate 16 0)) ∙ take_all 16 b few

pub sense_is : (b : List ℕ) (s : SenseBytes) → sense_list s ≡ b → length b ≤ 252 → s ≡ sense_of b
unfolding sense_of
sense_is b s e few =
    let all : take 252 b ≡ b = take_all 252 b few in
    same_sense s (sense_of b) (e ∙ sym (front_is (take 252 b) (drop (length (take 252 b)) (replicate 252 0)) ∙ all))
