-- An answer and the deadline come at the same tick, and the attempt is given to its answer.
use Rattle.std.specs.Prelude.{false, List, [], ◌∷◌}
use Rattle.mid_base.specs.declared.answers.By.TheVariants.{Answer}
use Rattle.mid_base.specs.declared.answers.Disp.TheVariants.{Success}
use Rattle.mid_base.specs.declared.entries.Entry.{Entry}
use Rattle.mid_base.specs.declared.entries.Entry.TheVariants.{Tick}
use Rattle.mid_base.specs.declared.host_spec.HostSpec.{HostSpec}
use Rattle.worked_journals.specs.Hosts.{host, lun, test_unit, all_callbacks}
use Rattle.worked_journals.specs.Say.{fine, took, sent, ready, due, owned, judged, told}

abbrev pub answer_wins_spec : HostSpec
answer_wins_spec = host 1 all_callbacks (lun 8 false) (test_unit 1 2 ∷ [])

abbrev pub answer_wins : List Entry
answer_wins =
    took 1 ∷
    sent 1 1 0 ∷
    Tick ∷
    Tick ∷
    ready 1 fine ∷
    due 1 ∷
    owned 1 Answer ∷
    judged 1 1 Success ∷
    told 1 fine ∷
    []
