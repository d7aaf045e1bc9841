-- How many tags a pool counts for each of its devices.
use Rattle.std.specs.Prelude.{ℕ, ◌≡◌, List, Some, length, slice_index}
use Rattle.std.specs.List.{position}
use Rattle.mid_base.specs.declared.names.DevAddr.{DevAddr}
use Rattle.tag_pool.specs.declared.depths.DeviceDepth.{DeviceDepth}
use Rattle.tag_pool.specs.Depths.{is_at}
use Rattle.tag_pool.specs.Tags.{Holders, out_of}

-- at the place of each device stands how many tags are out for it
pub record AreCounted (tags : Holders) (devices : List DeviceDepth) (counts : List ℕ) : Type 0 where
  pub count : length counts ≡ length devices
  pub each : (dev : DevAddr) (i : ℕ) → position (is_at dev) devices ≡ Some i → slice_index counts i ≡ out_of dev tags
