-- What a test of a device says, and the entries that tell it (scsi_eh.rst, "scsi_eh_tur").
use Rattle.std.specs.Prelude.{◌≡◌, ℕ, Bool, if◌then◌else◌, List, [], ◌∷◌, Option, None, Some, min}
use Rattle.mid_base.specs.declared.names.DevAddr.{DevAddr}
use Rattle.mid_base.specs.declared.answers.ProbeSay.{ProbeSay}
use Rattle.mid_base.specs.declared.answers.ProbeSay.TheVariants.{Answered, Silent as Nothing}
use Rattle.mid_base.specs.declared.entries.Entry.{Entry}
use Rattle.mid_base.specs.declared.entries.Entry.TheVariants.{Probe as Probed}
use Rattle.mid_base.specs.Answers.{is_good, said_good}
use Rattle.mid_base.specs.Codes.{test_unit_ready, request_sense}
use Rattle.host_template.specs.Probes.{allocation}
use Rattle.trace_model.specs.Climb.{is_doubtful}
use Rattle.eh_probe.specs.declared.says.Probe.{Probe}
use Rattle.eh_probe.specs.declared.says.Probe.TheVariants.{Good, Bad, Silent}
use Rattle.eh_probe.specs.declared.says.Tested.{Tested}

-- what a probe said, sorted into GOOD and every other answer
abbrev pub sorted : ProbeSay → Probe
sorted (Answered a) = if is_good a then Good a else Bad a
sorted Nothing = Silent

-- and the other way round
abbrev pub said : Probe → ProbeSay
said (Good a) = Answered a
said (Bad a) = Answered a
said Silent = Nothing

-- the test whose first probe says so; `again` is what a second one says, which is made where the first is doubtful
abbrev pub test_by : ProbeSay → ProbeSay → Tested
test_by say again =
    if is_doubtful say then record { first = sorted say; second = Some (sorted again); ready = said_good again }
    else record { first = sorted say; second = None; ready = said_good say }

abbrev pub IsTest : Tested → Type 0
IsTest t = (say : ProbeSay) × (again : ProbeSay) × (t ≡ test_by say again)

-- the entries of a test, in the order of sending
abbrev pub second_entry : DevAddr → Option Probe → List Entry
second_entry d None = []
second_entry d (Some p) = Probed d test_unit_ready (said p) ∷ []

abbrev pub test_entries : DevAddr → Tested → List Entry
test_entries d t = Probed d test_unit_ready (said t.first) ∷ second_entry d t.second

-- how many bytes of sense data a probe of REQUEST SENSE has brought
abbrev pub sense_count : ProbeSay → ℕ
sense_count (Answered a) = if is_good a then min a.moved (allocation request_sense) else 0
sense_count Nothing = 0
