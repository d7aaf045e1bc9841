-- The levels of recovery's ladder, the number that each has in a journal, and the callback that it calls (scsi_eh.rst, "How
-- SCSI EH works").
use Rattle.std.specs.Prelude.{ℕ, ◌==◌, Bool, true, false, ◌||◌, List, [], ◌∷◌, Option, None, Some, is_none, if◌then◌else◌}
use Rattle.mid_base.specs.declared.host_spec.Handlers.{Handlers}
use Rattle.mid_base.specs.Callbacks.{has_callback, abort_bit, device_bit, target_bit, bus_bit, host_bit}

pub data Level : Type 0 where
  -- the device isn't online as recovery begins, and nothing is tried
  not_online : Level
  fetch_sense : Level
  abort : Level
  start_unit : Level
  reset_device : Level
  reset_target : Level
  reset_bus : Level
  reset_host : Level
  -- the device is put offline
  give_up : Level
  no_level : Level

abbrev pub number : Level → ℕ
number not_online = 0
number fetch_sense = 1
number abort = 2
number start_unit = 3
number reset_device = 4
number reset_target = 5
number reset_bus = 6
number reset_host = 7
number give_up = 8
number no_level = 9

abbrev pub levels : List Level
levels = not_online ∷ fetch_sense ∷ abort ∷ start_unit ∷ reset_device ∷ reset_target ∷ reset_bus ∷ reset_host ∷ give_up ∷ []

abbrev pub numbered : ℕ → List Level → Level
numbered n [] = no_level
numbered n (l ∷ ls) = if number l == n then l else numbered n ls

-- the level with this number
abbrev pub level_of : ℕ → Level
level_of n = numbered n levels

-- the callback that a level calls, by its bit
abbrev pub callback : Level → Option ℕ
callback abort = Some abort_bit
callback reset_device = Some device_bit
callback reset_target = Some target_bit
callback reset_bus = Some bus_bit
callback reset_host = Some host_bit
callback _ = None

abbrev pub has_bit : Handlers → Option ℕ → Bool
has_bit h None = false
has_bit h (Some bit) = has_callback h bit

-- the level calls a callback, and the host has it
abbrev pub calls : Handlers → Level → Bool
calls h level = has_bit h (callback level)

-- the level with this number does
abbrev pub has_level : Handlers → ℕ → Bool
has_level h level = calls h (level_of level)

-- it calls a callback that the host has, or none at all
abbrev pub can_succeed : Handlers → Level → Bool
can_succeed h level = is_none (callback level) || calls h level

-- it may fail
abbrev pub can_fail : Level → Bool
can_fail give_up = false
can_fail _ = true
