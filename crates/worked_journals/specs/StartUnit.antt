-- A unit that isn't started is started by recovery; but a device with a cancelled command is reset instead.
use Rattle.std.specs.Prelude.{true, false, List, [], ◌∷◌}
use Rattle.mid_base.specs.declared.answers.By.TheVariants.{Answer, Expiry}
use Rattle.mid_base.specs.declared.answers.Disp.TheVariants.{Success, Fail}
use Rattle.mid_base.specs.declared.answers.Scope.TheVariants.{Dev}
use Rattle.mid_base.specs.declared.entries.Entry.{Entry}
use Rattle.mid_base.specs.declared.entries.Entry.TheVariants.{EhBegin, EhEnd, Act, Tick}
use Rattle.mid_base.specs.declared.host_spec.HostSpec.{HostSpec}
use Rattle.worked_journals.specs.Hosts.{host, lun, read_one, unit, all_callbacks, device_reset}
use Rattle.worked_journals.specs.Say.{fine, moved, checked, was_reset, not_started, took, sent, ready, due, owned, judged, abort_set, aborted, failed, cleared, again, told, probe}

abbrev pub start_unit_spec : HostSpec
start_unit_spec = host 4 all_callbacks (lun 8 true) (read_one 1 30 ∷ [])

abbrev pub start_unit : List Entry
start_unit =
    took 1 ∷
    sent 1 1 0 ∷
    Tick ∷
    ready 1 (checked not_started) ∷
    owned 1 Answer ∷
    judged 1 1 Fail ∷
    failed 1 1 false ∷
    EhBegin ∷
    Act 3 (Dev unit) true ∷
    probe 27 fine ∷
    probe 0 fine ∷
    cleared 1 3 ∷
    again 1 true ∷
    EhEnd ∷
    Tick ∷
    sent 1 2 0 ∷
    Tick ∷
    ready 2 (moved 512 0) ∷
    owned 2 Answer ∷
    judged 1 2 Success ∷
    told 1 (moved 512 0) ∷
    []

abbrev pub reset_unit_spec : HostSpec
reset_unit_spec = host 4 device_reset (lun 8 true) (read_one 1 30 ∷ read_one 2 2 ∷ [])

abbrev pub reset_unit : List Entry
reset_unit =
    took 1 ∷
    took 2 ∷
    sent 1 1 0 ∷
    sent 2 2 1 ∷
    Tick ∷
    ready 1 (checked not_started) ∷
    owned 1 Answer ∷
    judged 1 1 Fail ∷
    failed 1 1 false ∷
    Tick ∷
    due 2 ∷
    owned 2 Expiry ∷
    abort_set 2 2 ∷
    aborted 2 2 false ∷
    failed 2 2 true ∷
    EhBegin ∷
    Act 4 (Dev unit) true ∷
    probe 0 (checked was_reset) ∷
    probe 0 fine ∷
    cleared 1 4 ∷
    cleared 2 4 ∷
    again 1 true ∷
    again 2 true ∷
    EhEnd ∷
    Tick ∷
    sent 1 3 0 ∷
    sent 2 4 1 ∷
    Tick ∷
    ready 3 (moved 512 0) ∷
    ready 4 (moved 512 0) ∷
    owned 3 Answer ∷
    owned 4 Answer ∷
    judged 1 3 Success ∷
    told 1 (moved 512 0) ∷
    judged 2 4 Success ∷
    told 2 (moved 512 0) ∷
    []
