-- The same moment, and the attempt is given to its expired timer: its answer is ignored, its abort succeeds, and the
-- command is sent again.
use Rattle.std.specs.Prelude.{true, false, List, [], ◌∷◌}
use Rattle.mid_base.specs.declared.answers.By.TheVariants.{Answer, Expiry}
use Rattle.mid_base.specs.declared.answers.Disp.TheVariants.{Success}
use Rattle.mid_base.specs.declared.entries.Entry.{Entry}
use Rattle.mid_base.specs.declared.entries.Entry.TheVariants.{Tick}
use Rattle.mid_base.specs.declared.host_spec.HostSpec.{HostSpec}
use Rattle.worked_journals.specs.Hosts.{host, lun, test_unit, all_callbacks}
use Rattle.worked_journals.specs.Say.{fine, took, sent, ready, due, owned, late, judged, abort_set, aborted, again, told}

abbrev pub expiry_wins_spec : HostSpec
expiry_wins_spec = host 1 all_callbacks (lun 8 false) (test_unit 1 2 ∷ [])

abbrev pub expiry_wins : List Entry
expiry_wins =
    took 1 ∷
    sent 1 1 0 ∷
    Tick ∷
    Tick ∷
    ready 1 fine ∷
    due 1 ∷
    owned 1 Expiry ∷
    abort_set 1 1 ∷
    late 1 ∷
    aborted 1 1 true ∷
    again 1 true ∷
    Tick ∷
    sent 1 2 0 ∷
    Tick ∷
    ready 2 fine ∷
    owned 2 Answer ∷
    judged 1 2 Success ∷
    told 1 fine ∷
    []
