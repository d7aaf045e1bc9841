-- What contracts see of a pool of tags.
use Rattle.std.specs.Prelude.{List}
use Rattle.tag_pool.specs.declared.depths.DeviceDepth.{DeviceDepth}
use Rattle.tag_pool.specs.Tags.{Holders}

-- for each tag the device that it is out for, and the devices with their depths
pub record Pool : Type 0 where
  pub tags : Holders
  pub devices : List DeviceDepth
