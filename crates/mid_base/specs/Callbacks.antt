-- Which callbacks of recovery a host has (scsi_eh.rst, "How SCSI EH works"), each with its bit.
use Rattle.std.specs.Prelude.{ℕ, ◌==◌, Bool, not, bit_and}
use Rattle.mid_base.specs.declared.host_spec.Handlers.{Handlers}

abbrev pub abort_bit : ℕ
abort_bit = 1

abbrev pub device_bit : ℕ
device_bit = 2

abbrev pub target_bit : ℕ
target_bit = 4

abbrev pub bus_bit : ℕ
bus_bit = 8

abbrev pub host_bit : ℕ
host_bit = 16

abbrev pub has_callback : Handlers → ℕ → Bool
has_callback h bit = not (bit_and bit h.0 == 0)
