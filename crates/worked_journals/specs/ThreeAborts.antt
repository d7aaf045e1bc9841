-- Three aborts are scheduled, not in the order of attempts, and are tried in the order of their scheduling.
use Rattle.std.specs.Prelude.{true, false, List, [], ◌∷◌}
use Rattle.mid_base.specs.declared.answers.By.TheVariants.{Answer, Expiry}
use Rattle.mid_base.specs.declared.answers.Disp.TheVariants.{Success}
use Rattle.mid_base.specs.declared.entries.Entry.TheVariants.{Tick}
use Rattle.mid_base.specs.declared.entries.Entry.{Entry}
use Rattle.mid_base.specs.declared.host_spec.HostSpec.{HostSpec}
use Rattle.worked_journals.specs.Hosts.{all_callbacks, host, lun, test_unit}
use Rattle.worked_journals.specs.Say.{abort_set, aborted, again, due, fine, judged, owned, ready, sent, told, took}

abbrev pub three_aborts_spec : HostSpec
three_aborts_spec = host 3 all_callbacks (lun 8 false) (test_unit 1 1 ∷ test_unit 2 1 ∷ test_unit 3 1 ∷ [])

abbrev pub three_aborts : List Entry
three_aborts =
    took 1 ∷
    took 2 ∷
    took 3 ∷
    sent 1 1 0 ∷
    sent 2 2 1 ∷
    sent 3 3 2 ∷
    Tick ∷
    due 1 ∷
    due 2 ∷
    due 3 ∷
    owned 1 Expiry ∷
    owned 2 Expiry ∷
    owned 3 Expiry ∷
    abort_set 3 3 ∷
    abort_set 1 1 ∷
    abort_set 2 2 ∷
    aborted 3 3 true ∷
    again 3 true ∷
    aborted 1 1 true ∷
    again 1 true ∷
    aborted 2 2 true ∷
    again 2 true ∷
    sent 1 4 0 ∷
    ready 4 fine ∷
    owned 4 Answer ∷
    judged 1 4 Success ∷
    told 1 fine ∷
    sent 2 5 0 ∷
    sent 3 6 1 ∷
    ready 6 fine ∷
    ready 5 fine ∷
    owned 5 Answer ∷
    owned 6 Answer ∷
    judged 2 5 Success ∷
    told 2 fine ∷
    judged 3 6 Success ∷
    told 3 fine ∷
    []
