-- A device is set to each state from outside. While it is held nothing is sent to it, while it is offline each answer is told, and
-- once it is cancelled its commands are refused. A command of another lane isn't touched.
use Rattle.std.specs.Prelude.{true, List, [], ◌∷◌}
use Rattle.mid_base.specs.declared.answers.By.TheVariants.{Answer, Expiry}
use Rattle.mid_base.specs.declared.answers.Disp.TheVariants.{Success}
use Rattle.mid_base.specs.declared.states.DeviceState.TheVariants.{Created, Running, Quiesce, Block, Offline as OfflineState, Cancel, Del}
use Rattle.mid_base.specs.declared.entries.Entry.TheVariants.{State, Tick}
use Rattle.mid_base.specs.declared.entries.Entry.{Entry}
use Rattle.mid_base.specs.declared.host_spec.HostSpec.{HostSpec}
use Rattle.worked_journals.specs.Hosts.{all_callbacks, ask_of, at, host_of, unit_at}
use Rattle.worked_journals.specs.Say.{abort_set, aborted, bare, due, fine, judged, owned, ready, sent, told, took}

abbrev pub states_change_spec : HostSpec
states_change_spec =
    host_of 4 all_callbacks
    (unit_at (at 0 0 0) 8 Created
    ∷ unit_at (at 0 0 1) 8 Running
    ∷ [])
    (ask_of (at 0 0 0) 1 0 2 5
    ∷ ask_of (at 0 0 0) 2 0 2 5
    ∷ ask_of (at 0 0 0) 3 0 2 5
    ∷ ask_of (at 0 0 1) 4 1 30 5
    ∷ ask_of (at 0 0 0) 5 0 2 5
    ∷ ask_of (at 0 0 0) 6 0 2 5
    ∷ [])

abbrev pub states_change : List Entry
states_change =
    took 1 ∷
    State (at 0 0 0) Running ∷
    State (at 0 0 0) Quiesce ∷
    took 4 ∷
    sent 4 1 0 ∷
    took 2 ∷
    State (at 0 0 0) Running ∷
    sent 1 2 1 ∷
    State (at 0 0 0) Block ∷
    State (at 0 0 0) Running ∷
    sent 2 3 2 ∷
    ready 2 (bare 7 0) ∷
    owned 2 Answer ∷
    State (at 0 0 0) OfflineState ∷
    judged 1 2 Success ∷
    told 1 (bare 7 0) ∷
    Tick ∷
    Tick ∷
    due 3 ∷
    owned 3 Expiry ∷
    abort_set 2 3 ∷
    aborted 2 3 true ∷
    told 2 (bare 3 0) ∷
    took 3 ∷
    told 3 (bare 1 0) ∷
    State (at 0 0 0) Cancel ∷
    told 5 (bare 1 0) ∷
    State (at 0 0 0) Del ∷
    told 6 (bare 1 0) ∷
    ready 1 fine ∷
    owned 1 Answer ∷
    judged 4 1 Success ∷
    told 4 fine ∷
    []
