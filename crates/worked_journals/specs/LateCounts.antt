-- Answers to ignore are counted: those that came before their attempt was sent, that came again, and that came to an expired
-- attempt.
use Rattle.std.specs.Prelude.{true, false, List, [], ◌∷◌}
use Rattle.mid_base.specs.declared.answers.By.TheVariants.{Answer, Expiry}
use Rattle.mid_base.specs.declared.answers.Disp.TheVariants.{Success, Requeue}
use Rattle.mid_base.specs.declared.entries.Entry.TheVariants.{Tick}
use Rattle.mid_base.specs.declared.entries.Entry.{Entry}
use Rattle.mid_base.specs.declared.host_spec.HostSpec.{HostSpec}
use Rattle.worked_journals.specs.Hosts.{all_callbacks, host, lun, test_unit}
use Rattle.worked_journals.specs.Say.{abort_set, aborted, again, bare, due, fine, judged, late, owned, ready, sent, told, took}

abbrev pub late_counts_spec : HostSpec
late_counts_spec = host 2 all_callbacks (lun 8 false) (test_unit 1 1 ∷ test_unit 2 9 ∷ [])

abbrev pub late_counts : List Entry
late_counts =
    took 1 ∷
    ready 1 (bare 7 0) ∷
    took 2 ∷
    sent 1 1 0 ∷
    ready 2 (bare 7 0) ∷
    sent 2 2 1 ∷
    ready 1 (bare 0 8) ∷
    ready 1 fine ∷
    owned 1 Answer ∷
    ready 1 fine ∷
    judged 1 1 Requeue ∷
    again 1 false ∷
    late 1 ∷
    late 1 ∷
    late 1 ∷
    late 2 ∷
    Tick ∷
    sent 1 3 0 ∷
    Tick ∷
    ready 3 fine ∷
    ready 3 fine ∷
    due 3 ∷
    owned 3 Expiry ∷
    late 3 ∷
    abort_set 1 3 ∷
    late 3 ∷
    aborted 1 3 true ∷
    again 1 true ∷
    ready 2 fine ∷
    sent 1 4 0 ∷
    owned 2 Answer ∷
    ready 4 fine ∷
    owned 4 Answer ∷
    judged 1 4 Success ∷
    told 1 fine ∷
    judged 2 2 Success ∷
    told 2 fine ∷
    []
