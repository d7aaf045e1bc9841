-- Sense data whose descriptor isn't whole is fetched anew, judged a success at level 1, and told by the flush.
use Rattle.std.specs.Prelude.{true, false, List, [], ◌∷◌}
use Rattle.mid_base.specs.declared.answers.By.TheVariants.{Answer}
use Rattle.mid_base.specs.declared.answers.Disp.TheVariants.{Success, Retry, Fail}
use Rattle.mid_base.specs.declared.answers.Scope.TheVariants.{Cmd}
use Rattle.mid_base.specs.declared.entries.Entry.TheVariants.{Act, EhBegin, EhEnd}
use Rattle.mid_base.specs.declared.entries.Entry.{Entry}
use Rattle.mid_base.specs.declared.host_spec.HostSpec.{HostSpec}
use Rattle.worked_journals.specs.Hosts.{all_callbacks, host, lun, test_unit}
use Rattle.worked_journals.specs.Say.{again, bare, checked, cleared, cut_short, failed, fine, judged, moved, not_known, owned, probe, ready, sensed, sent, told, took, was_reset}

abbrev pub cut_descriptor_spec : HostSpec
cut_descriptor_spec = host 4 all_callbacks (lun 8 false) (test_unit 7 30 ∷ test_unit 9 30 ∷ [])

abbrev pub cut_descriptor : List Entry
cut_descriptor =
    took 7 ∷
    took 9 ∷
    sent 7 1 0 ∷
    sent 9 2 1 ∷
    ready 2 (bare 0 2) ∷
    ready 1 (checked cut_short) ∷
    owned 1 Answer ∷
    owned 2 Answer ∷
    judged 9 2 Fail ∷
    failed 9 2 false ∷
    judged 7 1 Fail ∷
    failed 7 1 false ∷
    EhBegin ∷
    Act 1 (Cmd (record { 0 = 9 })) true ∷
    probe 3 (moved 18 169) ∷
    sensed 9 2 was_reset ∷
    judged 9 2 Retry ∷
    cleared 9 1 ∷
    Act 1 (Cmd (record { 0 = 7 })) true ∷
    probe 3 (moved 18 159) ∷
    sensed 7 1 not_known ∷
    judged 7 1 Success ∷
    cleared 7 1 ∷
    again 9 true ∷
    told 7 (checked not_known) ∷
    EhEnd ∷
    sent 9 3 0 ∷
    ready 3 fine ∷
    owned 3 Answer ∷
    judged 9 3 Success ∷
    told 9 fine ∷
    []
