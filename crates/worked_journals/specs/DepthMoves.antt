-- TASK SET FULL makes the depth of a device less, and four GOODs raise it again. BUSY has the command wait for the next tick.
use Rattle.std.specs.Prelude.{false, List, [], ◌∷◌}
use Rattle.mid_base.specs.declared.answers.By.TheVariants.{Answer}
use Rattle.mid_base.specs.declared.answers.Disp.TheVariants.{Success, Requeue}
use Rattle.mid_base.specs.declared.states.DeviceState.TheVariants.{Running}
use Rattle.mid_base.specs.declared.entries.Entry.TheVariants.{Tick}
use Rattle.mid_base.specs.declared.entries.Entry.{Entry}
use Rattle.mid_base.specs.declared.host_spec.HostSpec.{HostSpec}
use Rattle.worked_journals.specs.Hosts.{all_callbacks, ask_of, at, host_of, unit_at}
use Rattle.worked_journals.specs.Say.{again, bare, fine, judged, owned, ready, sent, told, took}

abbrev pub depth_moves_spec : HostSpec
depth_moves_spec =
    host_of 4 all_callbacks
    (unit_at (at 0 0 0) 3 Running
    ∷ unit_at (at 0 1 0) 2 Running
    ∷ [])
    (ask_of (at 0 0 0) 1 0 30 5
    ∷ ask_of (at 0 0 0) 2 0 30 5
    ∷ ask_of (at 0 0 0) 3 0 30 5
    ∷ ask_of (at 0 0 0) 5 0 30 5
    ∷ ask_of (at 0 0 0) 6 0 30 5
    ∷ ask_of (at 0 1 0) 4 1 30 5
    ∷ ask_of (at 0 1 0) 7 1 30 5
    ∷ [])

abbrev pub depth_moves : List Entry
depth_moves =
    took 1 ∷
    took 2 ∷
    took 3 ∷
    took 5 ∷
    took 4 ∷
    took 7 ∷
    sent 1 1 0 ∷
    sent 2 2 1 ∷
    sent 3 3 2 ∷
    sent 4 4 3 ∷
    ready 1 (bare 0 40) ∷
    ready 4 fine ∷
    owned 1 Answer ∷
    owned 4 Answer ∷
    judged 1 1 Requeue ∷
    again 1 false ∷
    sent 7 5 0 ∷
    judged 4 4 Success ∷
    told 4 fine ∷
    Tick ∷
    ready 2 (bare 0 8) ∷
    owned 2 Answer ∷
    judged 2 2 Requeue ∷
    again 2 false ∷
    ready 5 fine ∷
    owned 5 Answer ∷
    judged 7 5 Success ∷
    told 7 fine ∷
    Tick ∷
    sent 1 6 0 ∷
    ready 3 fine ∷
    owned 3 Answer ∷
    judged 3 3 Success ∷
    told 3 fine ∷
    sent 2 7 1 ∷
    ready 6 fine ∷
    owned 6 Answer ∷
    judged 1 6 Success ∷
    told 1 fine ∷
    sent 5 8 0 ∷
    ready 7 fine ∷
    owned 7 Answer ∷
    judged 2 7 Success ∷
    told 2 fine ∷
    took 6 ∷
    sent 6 9 1 ∷
    ready 8 fine ∷
    owned 8 Answer ∷
    judged 5 8 Success ∷
    told 5 fine ∷
    ready 9 fine ∷
    owned 9 Answer ∷
    judged 6 9 Success ∷
    told 6 fine ∷
    []
