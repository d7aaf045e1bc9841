-- Commands that fail at the first error: after an abort, at an answer, at level 1, and in the flush.
use Rattle.std.specs.Prelude.{true, false, List, [], ◌∷◌}
use Rattle.mid_base.specs.declared.answers.By.TheVariants.{Answer, Expiry}
use Rattle.mid_base.specs.declared.answers.Disp.TheVariants.{Success, Fail}
use Rattle.mid_base.specs.declared.answers.Scope.TheVariants.{Cmd, Dev}
use Rattle.mid_base.specs.declared.entries.Entry.TheVariants.{Act, EhBegin, EhEnd, Tick}
use Rattle.mid_base.specs.declared.entries.Entry.{Entry}
use Rattle.mid_base.specs.declared.host_spec.HostSpec.{HostSpec}
use Rattle.worked_journals.specs.Hosts.{all_callbacks, fail_fast, host, lun, test_unit, unit}
use Rattle.worked_journals.specs.Say.{abort_set, aborted, bare, checked, cleared, due, failed, fine, judged, moved, owned, probe, ready, sensed, sent, told, took, was_reset}

abbrev pub fails_fast_spec : HostSpec
fails_fast_spec =
    host 4 all_callbacks
    (lun 8 false)
    (fail_fast (test_unit 1 1)
    ∷ fail_fast (test_unit 2 30)
    ∷ fail_fast (test_unit 3 2)
    ∷ fail_fast (test_unit 4 30)
    ∷ [])

abbrev pub fails_fast : List Entry
fails_fast =
    took 1 ∷
    took 2 ∷
    took 3 ∷
    took 4 ∷
    sent 1 1 0 ∷
    sent 2 2 1 ∷
    sent 3 3 2 ∷
    sent 4 4 3 ∷
    Tick ∷
    due 1 ∷
    owned 1 Expiry ∷
    abort_set 1 1 ∷
    aborted 1 1 true ∷
    told 1 (bare 3 0) ∷
    ready 4 (bare 7 0) ∷
    owned 4 Answer ∷
    judged 4 4 Success ∷
    told 4 (bare 7 0) ∷
    Tick ∷
    ready 2 (bare 0 2) ∷
    due 3 ∷
    owned 2 Answer ∷
    owned 3 Expiry ∷
    judged 2 2 Fail ∷
    failed 2 2 false ∷
    abort_set 3 3 ∷
    aborted 3 3 false ∷
    failed 3 3 true ∷
    EhBegin ∷
    Act 1 (Cmd (record { 0 = 2 })) true ∷
    probe 3 (moved 18 169) ∷
    sensed 2 2 was_reset ∷
    judged 2 2 Success ∷
    cleared 2 1 ∷
    Act 4 (Dev unit) true ∷
    probe 0 fine ∷
    cleared 3 4 ∷
    told 2 (checked was_reset) ∷
    told 3 (bare 3 0) ∷
    EhEnd ∷
    []
