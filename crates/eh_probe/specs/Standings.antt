-- Where a lower layer stands after a probe of recovery.
use Rattle.std.specs.Prelude.{◌≡◌, ℕ, ◌&&◌, List, ◌∷◌}
use Rattle.mid_base.specs.Answers.{said_good}
use Rattle.mid_base.specs.Bytes.{sense_list}
use Rattle.mid_base.specs.declared.bytes.SenseBytes.{SenseBytes}
use Rattle.mid_base.specs.declared.names.CmdId.{CmdId}
use Rattle.mid_base.specs.declared.names.Attempt.{Attempt}
use Rattle.mid_base.specs.declared.names.DevAddr.{DevAddr}
use Rattle.mid_base.specs.declared.answers.ProbeSay.{ProbeSay}
use Rattle.mid_base.specs.declared.entries.Entry.{Entry}
use Rattle.mid_base.specs.declared.host_spec.CmdSpec.{CmdSpec}
use Rattle.mid_base.specs.declared.host_spec.HostSpec.{HostSpec}
use Rattle.sense_data.specs.Grammar.{is_valid_sense}
use Rattle.host_template.specs.Standing.{Before, Standing}
use Rattle.host_template.specs.Calls.{FitsLast, fetched}
use Rattle.trace_model.specs.Legal.{onto}

-- where each journal that it stood at, with these entries behind it, leaves it
abbrev pub StandsAfter : Standing → Standing → List Entry → Type 0
StandsAfter old new es = (s : HostSpec) (b : Before) (P : List Entry) → old s b P → new s b (onto es P)

-- where each journal that it stood at, with the act of level 1 on the command whose last attempt is n, leaves it: the act is
-- ok where the probe said GOOD and these bytes are valid sense, and then they were fetched
abbrev pub StandsFetched : Standing → Standing → DevAddr → ProbeSay → List ℕ → Type 0
StandsFetched old new dev say got =
    (s : HostSpec) (b : Before) (P : List Entry) (c : CmdId) (k : CmdSpec) (n : Attempt) (bytes : SenseBytes)
    → FitsLast s P c k n.0 dev → sense_list bytes ≡ got → old s b P
    → new s b (fetched c n dev say bytes (said_good say && is_valid_sense (sense_list bytes)) P)
