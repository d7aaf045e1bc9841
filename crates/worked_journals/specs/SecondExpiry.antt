-- A command expires twice. Its first expiry is aborted; for its second one no abort is scheduled, and recovery takes it.
use Rattle.std.specs.Prelude.{true, false, List, [], ◌∷◌}
use Rattle.mid_base.specs.declared.answers.By.TheVariants.{Answer, Expiry}
use Rattle.mid_base.specs.declared.answers.Disp.TheVariants.{Success}
use Rattle.mid_base.specs.declared.answers.Scope.TheVariants.{Dev}
use Rattle.mid_base.specs.declared.entries.Entry.TheVariants.{Act, EhBegin, EhEnd, Tick}
use Rattle.mid_base.specs.declared.entries.Entry.{Entry}
use Rattle.mid_base.specs.declared.host_spec.HostSpec.{HostSpec}
use Rattle.worked_journals.specs.Hosts.{all_callbacks, host, lun, test_unit, unit}
use Rattle.worked_journals.specs.Say.{abort_set, aborted, again, cleared, due, failed, fine, judged, owned, probe, ready, sent, told, took}

abbrev pub second_expiry_spec : HostSpec
second_expiry_spec = host 1 all_callbacks (lun 8 false) (test_unit 1 2 ∷ [])

abbrev pub second_expiry : List Entry
second_expiry =
    took 1 ∷
    sent 1 1 0 ∷
    Tick ∷
    Tick ∷
    due 1 ∷
    owned 1 Expiry ∷
    abort_set 1 1 ∷
    aborted 1 1 true ∷
    again 1 true ∷
    sent 1 2 0 ∷
    Tick ∷
    Tick ∷
    due 2 ∷
    owned 2 Expiry ∷
    failed 1 2 true ∷
    EhBegin ∷
    Act 4 (Dev unit) true ∷
    probe 0 fine ∷
    cleared 1 4 ∷
    again 1 true ∷
    EhEnd ∷
    sent 1 3 0 ∷
    ready 3 fine ∷
    owned 3 Answer ∷
    judged 1 3 Success ∷
    told 1 fine ∷
    []
