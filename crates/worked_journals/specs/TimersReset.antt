-- A timer is reset twice, of an attempt that was sent after the first tick. Another attempt reaches the same deadline, and the
-- lower layer says that it is done.
use Rattle.std.specs.Prelude.{true, false, List, [], ◌∷◌}
use Rattle.mid_base.specs.declared.answers.By.TheVariants.{Answer, Expiry}
use Rattle.mid_base.specs.declared.answers.Disp.TheVariants.{Success}
use Rattle.mid_base.specs.declared.entries.Entry.TheVariants.{Tick}
use Rattle.mid_base.specs.declared.entries.Entry.{Entry}
use Rattle.mid_base.specs.declared.host_spec.HostSpec.{HostSpec}
use Rattle.worked_journals.specs.Hosts.{all_callbacks, host, lun, test_unit}
use Rattle.worked_journals.specs.Say.{abort_set, aborted, again, done_said, due, fine, judged, longer, owned, ready, sent, told, took}

abbrev pub timers_reset_spec : HostSpec
timers_reset_spec = host 2 all_callbacks (lun 8 false) (test_unit 1 2 ∷ test_unit 2 1 ∷ [])

abbrev pub timers_reset : List Entry
timers_reset =
    took 1 ∷
    Tick ∷
    sent 1 1 0 ∷
    Tick ∷
    Tick ∷
    longer 1 ∷
    Tick ∷
    took 2 ∷
    sent 2 2 1 ∷
    Tick ∷
    longer 1 ∷
    done_said 2 ∷
    ready 2 fine ∷
    owned 2 Answer ∷
    judged 2 2 Success ∷
    told 2 fine ∷
    Tick ∷
    Tick ∷
    due 1 ∷
    owned 1 Expiry ∷
    abort_set 1 1 ∷
    aborted 1 1 true ∷
    again 1 true ∷
    sent 1 3 0 ∷
    ready 3 fine ∷
    owned 3 Answer ∷
    judged 1 3 Success ∷
    told 1 fine ∷
    []
