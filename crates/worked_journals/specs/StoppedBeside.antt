-- A stopped unit is started beside a cancelled command on another device. The start fails, every reset fails or doesn't help, and
-- both devices go offline.
use Rattle.std.specs.Prelude.{true, false, List, [], ◌∷◌}
use Rattle.mid_base.specs.declared.answers.By.TheVariants.{Answer, Expiry}
use Rattle.mid_base.specs.declared.answers.Disp.TheVariants.{Fail}
use Rattle.mid_base.specs.declared.answers.Scope.TheVariants.{Dev, Target, Bus, Host}
use Rattle.mid_base.specs.declared.states.DeviceState.TheVariants.{Running}
use Rattle.mid_base.specs.declared.entries.Entry.TheVariants.{Act, EhBegin, EhEnd, Offline, Tick}
use Rattle.mid_base.specs.declared.entries.Entry.{Entry}
use Rattle.mid_base.specs.declared.host_spec.HostSpec.{HostSpec}
use Rattle.worked_journals.specs.Hosts.{all_callbacks, ask_of, at, host_of, unit_at}
use Rattle.worked_journals.specs.Say.{bare, checked, cleared, due, failed, judged, not_known, not_started, owned, probe_of, ready, sent, silence, told, took}

abbrev pub stopped_beside_spec : HostSpec
stopped_beside_spec =
    host_of 4 all_callbacks
    (unit_at (at 0 0 0) 8 Running
    ∷ unit_at (at 0 1 0) 8 Running
    ∷ [])
    (ask_of (at 0 0 0) 1 0 30 5
    ∷ ask_of (at 0 1 0) 2 1 1 0
    ∷ [])

abbrev pub stopped_beside : List Entry
stopped_beside =
    took 1 ∷
    took 2 ∷
    sent 1 1 0 ∷
    sent 2 2 1 ∷
    Tick ∷
    ready 1 (checked not_started) ∷
    due 2 ∷
    owned 2 Expiry ∷
    owned 1 Answer ∷
    judged 1 1 Fail ∷
    failed 1 1 false ∷
    failed 2 2 true ∷
    EhBegin ∷
    Act 3 (Dev (at 0 0 0)) false ∷
    probe_of (at 0 0 0) 27 (checked not_started) ∷
    Act 4 (Dev (at 0 0 0)) false ∷
    Act 4 (Dev (at 0 1 0)) true ∷
    silence (at 0 1 0) 0 ∷
    Act 5 (Target 0 0) false ∷
    Act 5 (Target 0 1) true ∷
    probe_of (at 0 1 0) 0 (checked not_known) ∷
    Act 6 (Bus 0) false ∷
    Act 7 Host false ∷
    Act 8 (Dev (at 0 0 0)) true ∷
    Offline (at 0 0 0) ∷
    cleared 1 8 ∷
    Act 8 (Dev (at 0 1 0)) true ∷
    Offline (at 0 1 0) ∷
    cleared 2 8 ∷
    told 1 (checked not_started) ∷
    told 2 (bare 3 0) ∷
    EhEnd ∷
    []
