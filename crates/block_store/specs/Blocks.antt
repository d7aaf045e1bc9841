-- What a store holds: a block of 512 bytes for each block number, zeros where nothing was written.
use Rattle.std.specs.Prelude.{ℕ, ◌+◌, ◌-◌, ◌*◌, ◌/◌, List, length, replicate, unwrap_or, slice_range, nat_lt, nat_le, ◌&&◌, if◌then◌else◌}
use Rattle.std.specs.List.{flat_map, range_with_len}
use Rattle.std.specs.Ordering.{nat_cmp}
use Rattle.std.specs.BTreeMap.{get, BTreeMap}
use Rattle.block_store.specs.declared.store.BlockStore.{BlockStore}

abbrev pub zero_block : List ℕ
zero_block = replicate 512 0

-- the block with number k, where the map has those that were written
abbrev pub block_in : BTreeMap ℕ (List ℕ) → ℕ → List ℕ
block_in written k = unwrap_or (get nat_cmp written k) zero_block

-- the number of blocks
unfoldable pub size : BlockStore → ℕ
size s = s.blocks

-- each block, by its number
unfoldable pub contents : BlockStore → ℕ → List ℕ
contents s = block_in s.written

-- the bytes of n blocks, from block k on
abbrev pub bytes_from : (ℕ → List ℕ) → ℕ → ℕ → List ℕ
bytes_from blocks k n = flat_map blocks (range_with_len k n)

-- the blocks after these bytes were written to those from block k on
abbrev pub with_bytes : (ℕ → List ℕ) → ℕ → List ℕ → ℕ → List ℕ
with_bytes blocks k bytes q =
    if nat_le k q && nat_lt q (k + length bytes / 512) then slice_range bytes (512 * (q - k)) (512 * (q - k) + 512)
    else blocks q
