-- What the end of recovery makes of a command that recovery is done with (scsi_eh.rst, "scsi_eh_flush_done_q").
use Rattle.std.specs.Prelude.{ℕ, Bool, not, ◌&&◌, if◌then◌else◌, Option, None, Some, nat_lt}
use Rattle.mid_base.specs.declared.answers.Answer.{Answer}
use Rattle.mid_base.specs.declared.host_spec.CmdSpec.{CmdSpec}
use Rattle.mid_base.specs.declared.states.DeviceState.{DeviceState}
use Rattle.mid_base.specs.Answers.{time_out}
use Rattle.device_states.specs.States.{is_online_state}
use Rattle.done_flush.specs.declared.flush.Flush.{Flush}
use Rattle.done_flush.specs.declared.flush.Flush.TheVariants.{Again, Told}

-- a command with this spec, retried so often, on a device in this state, may be retried once more
abbrev pub has_retry : CmdSpec → ℕ → DeviceState → Bool
has_retry spec retries state = is_online_state state && not spec.failfast && nat_lt retries spec.allowed

-- what it is told: its last answer, or that its time ran out where none was judged
abbrev pub told : Option Answer → Answer
told None = time_out
told (Some a) = a

abbrev pub flush : CmdSpec → ℕ → DeviceState → Option Answer → Bool → Flush
flush spec retries state last success =
    if not success && has_retry spec retries state then Again else Told (told last)
