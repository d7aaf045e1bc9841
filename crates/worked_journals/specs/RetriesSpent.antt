-- A retry is counted, and where retries are spent an answer is told, no abort is scheduled, and the flush tells.
use Rattle.std.specs.Prelude.{true, false, List, [], ◌∷◌}
use Rattle.mid_base.specs.declared.answers.By.TheVariants.{Answer, Expiry}
use Rattle.mid_base.specs.declared.answers.Disp.TheVariants.{Success, Retry}
use Rattle.mid_base.specs.declared.answers.Scope.TheVariants.{Dev}
use Rattle.mid_base.specs.declared.entries.Entry.TheVariants.{Act, EhBegin, EhEnd, Tick}
use Rattle.mid_base.specs.declared.entries.Entry.{Entry}
use Rattle.mid_base.specs.declared.host_spec.HostSpec.{HostSpec}
use Rattle.worked_journals.specs.Hosts.{all_callbacks, ask_of, host, lun, unit}
use Rattle.worked_journals.specs.Say.{again, bare, cleared, due, failed, fine, judged, owned, probe, ready, sent, told, took}

abbrev pub retries_spent_spec : HostSpec
retries_spent_spec = host 2 all_callbacks (lun 8 false) (ask_of unit 1 0 2 2 ∷ ask_of unit 2 0 2 1 ∷ [])

abbrev pub retries_spent : List Entry
retries_spent =
    took 1 ∷
    sent 1 1 0 ∷
    ready 1 (bare 7 40) ∷
    owned 1 Answer ∷
    judged 1 1 Retry ∷
    again 1 true ∷
    sent 1 2 0 ∷
    ready 2 (bare 7 0) ∷
    owned 2 Answer ∷
    judged 1 2 Retry ∷
    again 1 true ∷
    sent 1 3 0 ∷
    Tick ∷
    Tick ∷
    due 3 ∷
    owned 3 Expiry ∷
    failed 1 3 true ∷
    EhBegin ∷
    Act 4 (Dev unit) true ∷
    probe 0 fine ∷
    cleared 1 4 ∷
    told 1 (bare 3 0) ∷
    EhEnd ∷
    took 2 ∷
    sent 2 4 0 ∷
    ready 4 (bare 11 0) ∷
    owned 4 Answer ∷
    judged 2 4 Retry ∷
    again 2 true ∷
    sent 2 5 0 ∷
    ready 5 (bare 7 0) ∷
    owned 5 Answer ∷
    judged 2 5 Success ∷
    told 2 (bare 7 0) ∷
    []
