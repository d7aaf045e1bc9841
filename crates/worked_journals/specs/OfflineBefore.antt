-- A device goes offline before recovery begins. Its commands are cleared at once.
use Rattle.std.specs.Prelude.{true, List, [], ◌∷◌}
use Rattle.mid_base.specs.declared.answers.By.TheVariants.{Expiry}
use Rattle.mid_base.specs.declared.answers.Scope.TheVariants.{Dev}
use Rattle.mid_base.specs.declared.states.DeviceState.TheVariants.{Running, Offline as OfflineState}
use Rattle.mid_base.specs.declared.entries.Entry.TheVariants.{Act, EhBegin, EhEnd, State, Tick}
use Rattle.mid_base.specs.declared.entries.Entry.{Entry}
use Rattle.mid_base.specs.declared.host_spec.HostSpec.{HostSpec}
use Rattle.worked_journals.specs.Hosts.{all_callbacks, ask_of, at, host_of, unit_at}
use Rattle.worked_journals.specs.Say.{bare, cleared, due, failed, fine, owned, probe_of, sent, told, took}

abbrev pub offline_before_spec : HostSpec
offline_before_spec =
    host_of 4 all_callbacks
    (unit_at (at 0 0 0) 8 Running
    ∷ unit_at (at 0 0 1) 8 Running
    ∷ [])
    (ask_of (at 0 0 0) 1 0 1 0
    ∷ ask_of (at 0 0 1) 2 0 1 0
    ∷ ask_of (at 0 0 0) 3 0 1 0
    ∷ [])

abbrev pub offline_before : List Entry
offline_before =
    took 1 ∷
    took 2 ∷
    took 3 ∷
    sent 1 1 0 ∷
    sent 2 2 1 ∷
    sent 3 3 2 ∷
    Tick ∷
    due 1 ∷
    due 2 ∷
    due 3 ∷
    owned 1 Expiry ∷
    owned 2 Expiry ∷
    owned 3 Expiry ∷
    failed 2 2 true ∷
    failed 3 3 true ∷
    failed 1 1 true ∷
    State (at 0 0 0) OfflineState ∷
    EhBegin ∷
    cleared 3 0 ∷
    cleared 1 0 ∷
    Act 4 (Dev (at 0 0 1)) true ∷
    probe_of (at 0 0 1) 0 fine ∷
    cleared 2 4 ∷
    told 2 (bare 3 0) ∷
    told 3 (bare 3 0) ∷
    told 1 (bare 3 0) ∷
    EhEnd ∷
    State (at 0 0 0) Running ∷
    []
