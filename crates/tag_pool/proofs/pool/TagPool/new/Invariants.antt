use Rattle.std.proofs.Common.{◌≡◌, ◌≤◌, take, map, length}
use Rattle.std.specs.Prelude.{vec_capacity}
use Rattle.tag_pool.specs.Depths.{at_start}
use Rattle.tag_pool.proofs.pool.TagPool.new.Given as goal

abbrev pub invariant-loop-scripted : goal.invariant-loop-scripted
invariant-loop-scripted l =
    (l.depths.items ≡ map at_start (take l.scripted-index l.devices)) × (length l.devices ≤ vec_capacity l.depths)
