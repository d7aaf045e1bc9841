-- A command failed without sense data. Recovery fetches it, and the verdict on it sends the command again.
use Rattle.std.specs.Prelude.{true, false, List, [], ◌∷◌}
use Rattle.mid_base.specs.Bytes.{no_sense}
use Rattle.mid_base.specs.declared.answers.By.TheVariants.{Answer}
use Rattle.mid_base.specs.declared.answers.Disp.TheVariants.{Success, Retry, Fail}
use Rattle.mid_base.specs.declared.answers.Scope.TheVariants.{Cmd}
use Rattle.mid_base.specs.declared.entries.Entry.{Entry}
use Rattle.mid_base.specs.declared.entries.Entry.TheVariants.{EhBegin, EhEnd, Act, Tick}
use Rattle.mid_base.specs.declared.host_spec.HostSpec.{HostSpec}
use Rattle.worked_journals.specs.Hosts.{host, lun, test_unit, all_callbacks}
use Rattle.worked_journals.specs.Say.{fine, moved, checked, was_reset, took, sent, ready, owned, judged, failed, cleared, sensed, again, told, probe}

abbrev pub fetched_sense_spec : HostSpec
fetched_sense_spec = host 4 all_callbacks (lun 8 false) (test_unit 1 30 ∷ [])

abbrev pub fetched_sense : List Entry
fetched_sense =
    took 1 ∷
    sent 1 1 0 ∷
    Tick ∷
    ready 1 (checked no_sense) ∷
    owned 1 Answer ∷
    judged 1 1 Fail ∷
    failed 1 1 false ∷
    EhBegin ∷
    Act 1 (Cmd (record { 0 = 1 })) true ∷
    probe 3 (moved 18 169) ∷
    sensed 1 1 was_reset ∷
    judged 1 1 Retry ∷
    cleared 1 1 ∷
    again 1 true ∷
    EhEnd ∷
    Tick ∷
    sent 1 2 0 ∷
    Tick ∷
    ready 2 fine ∷
    owned 2 Answer ∷
    judged 1 2 Success ∷
    told 1 fine ∷
    []
