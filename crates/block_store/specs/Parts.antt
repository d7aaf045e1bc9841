-- A buffer cut into parts of given lengths, one after the other.
use Rattle.std.specs.Prelude.{◌≡◌, ℕ, List, [], ◌∷◌, ◌++◌, length, map, sum, take, drop}
use Rattle.std.specs.Borrow.{MutBor}
use Rattle.std.specs.Fn.{CalledAtMut}
use Rattle.std.specs.List.{FoldsTo, flat_map}
use denote.Param.Members.{Mut}
use Rattle.block_store.specs.declared.part_iter.PartIter.{PartIter}

-- the bytes of each part, from the front on
abbrev pub cuts : List ℕ → List ℕ → List (List ℕ)
cuts bytes [] = []
cuts bytes (n ∷ ns) = take n bytes ∷ cuts (drop n bytes) ns

-- the part of the buffer that isn't handed out yet
abbrev pub buffer_left : PartIter → MutBor (List ℕ)
buffer_left p = p.rest

-- the lengths of the parts that are to come
abbrev pub lengths_left : PartIter → List ℕ
lengths_left p = p.lens.now

-- what a call at a part found there, and what it left there
abbrev pub Visit : Type 0
Visit = List ℕ × List ℕ

-- f was called at each part of a buffer, in order, and was f' then. What the calls left stands in the places of the parts, and behind them the buffer is as it was
pub record VisitsParts {F : Type 0} (g : Mut F (MutBor (List ℕ) × Unit {0}) (Unit {0} × (MutBor (List ℕ) × Unit {0}))) (f : F) (old lens : List ℕ) (f' : F) (new : List ℕ) : Type 0 where
  pub visits : List Visit
  pub found : map (λ (v : Visit). v.0) visits ≡ cuts old lens
  pub lengths : map (λ (v : Visit). length v.1) visits ≡ lens
  pub called : FoldsTo (λ p v q. CalledAtMut g p v.0 tt q v.1) f visits f'
  pub left : new ≡ flat_map (λ (v : Visit). v.1) visits ++ drop (sum lens) old
