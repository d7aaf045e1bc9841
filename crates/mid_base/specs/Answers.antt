-- What an answer is, and what is made of one.
use Rattle.std.specs.Prelude.{ℕ, ◌==◌, Bool, false, ◌&&◌}
use Rattle.mid_base.specs.Bytes.{no_sense}
use Rattle.mid_base.specs.Codes.{did_ok, did_no_connect, did_time_out, good}
use Rattle.mid_base.specs.declared.bytes.SenseBytes.{SenseBytes}
use Rattle.mid_base.specs.declared.answers.Answer.{Answer}
use Rattle.mid_base.specs.declared.answers.ProbeSay.{ProbeSay}
use Rattle.mid_base.specs.declared.answers.ProbeSay.TheVariants.{Answered, Silent}

-- DID_OK and GOOD
abbrev pub is_good : Answer → Bool
is_good a = (a.host.0 == did_ok) && (a.status == good)

abbrev pub said_good : ProbeSay → Bool
said_good (Answered a) = is_good a
said_good Silent = false

-- an answer that the mid level makes itself
abbrev pub made : ℕ → Answer
made h = record { host = record { 0 = h }; status = good; sense = no_sense; moved = 0; sum = 0 }

abbrev pub no_connect : Answer
no_connect = made did_no_connect

abbrev pub time_out : Answer
time_out = made did_time_out

abbrev pub with_sense : SenseBytes → Answer → Answer
with_sense s a = record { host = a.host; status = a.status; sense = s; moved = a.moved; sum = a.sum }
