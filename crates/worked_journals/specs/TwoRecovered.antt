-- Recovery waits until both commands failed. The reset of their device succeeds, a test finds it ready, and both are
-- sent again.
use Rattle.std.specs.Prelude.{true, false, List, [], ◌∷◌}
use Rattle.mid_base.specs.declared.answers.By.TheVariants.{Answer, Expiry}
use Rattle.mid_base.specs.declared.answers.Disp.TheVariants.{Success}
use Rattle.mid_base.specs.declared.answers.Scope.TheVariants.{Dev}
use Rattle.mid_base.specs.declared.entries.Entry.{Entry}
use Rattle.mid_base.specs.declared.entries.Entry.TheVariants.{EhBegin, EhEnd, Act, Tick}
use Rattle.mid_base.specs.declared.host_spec.HostSpec.{HostSpec}
use Rattle.worked_journals.specs.Hosts.{host, lun, test_unit, unit, device_reset}
use Rattle.worked_journals.specs.Say.{fine, checked, was_reset, took, sent, ready, due, owned, judged, abort_set, aborted, failed, cleared, again, told, probe}

abbrev pub two_recovered_spec : HostSpec
two_recovered_spec = host 4 device_reset (lun 8 false) (test_unit 1 2 ∷ test_unit 2 4 ∷ [])

abbrev pub two_recovered : List Entry
two_recovered =
    took 1 ∷
    took 2 ∷
    sent 1 1 0 ∷
    sent 2 2 1 ∷
    Tick ∷
    Tick ∷
    due 1 ∷
    owned 1 Expiry ∷
    abort_set 1 1 ∷
    aborted 1 1 false ∷
    failed 1 1 true ∷
    Tick ∷
    Tick ∷
    due 2 ∷
    owned 2 Expiry ∷
    abort_set 2 2 ∷
    aborted 2 2 false ∷
    failed 2 2 true ∷
    EhBegin ∷
    Act 4 (Dev unit) true ∷
    probe 0 (checked was_reset) ∷
    probe 0 fine ∷
    cleared 1 4 ∷
    cleared 2 4 ∷
    again 1 true ∷
    again 2 true ∷
    EhEnd ∷
    Tick ∷
    sent 1 3 0 ∷
    sent 2 4 1 ∷
    Tick ∷
    ready 3 fine ∷
    ready 4 fine ∷
    owned 3 Answer ∷
    owned 4 Answer ∷
    judged 1 3 Success ∷
    told 1 fine ∷
    judged 2 4 Success ∷
    told 2 fine ∷
    []
