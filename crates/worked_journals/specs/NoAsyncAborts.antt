-- A host without asynchronous aborts aborts in recovery, at level 2. A later recovery begins at level 1 again.
use Rattle.std.specs.Prelude.{true, false, List, [], ◌∷◌}
use Rattle.mid_base.specs.declared.answers.By.TheVariants.{Answer, Expiry}
use Rattle.mid_base.specs.declared.answers.Disp.TheVariants.{Success, Fail}
use Rattle.mid_base.specs.declared.answers.Scope.TheVariants.{Cmd, Dev, Target, Bus, Host}
use Rattle.mid_base.specs.declared.states.DeviceState.TheVariants.{Running}
use Rattle.mid_base.specs.declared.entries.Entry.TheVariants.{Act, EhBegin, EhEnd, Offline, Tick}
use Rattle.mid_base.specs.declared.entries.Entry.{Entry}
use Rattle.mid_base.specs.declared.host_spec.HostSpec.{HostSpec}
use Rattle.worked_journals.specs.Hosts.{ask_of, at, host_of, no_async, unit_at}
use Rattle.worked_journals.specs.Say.{again, bare, cleared, due, failed, fine, judged, owned, probe_of, ready, sent, silence, told, took}

abbrev pub no_async_aborts_spec : HostSpec
no_async_aborts_spec =
    no_async (
    host_of 4 5
    (unit_at (at 0 0 0) 8 Running
    ∷ unit_at (at 0 0 1) 8 Running
    ∷ [])
    (ask_of (at 0 0 0) 1 0 1 5
    ∷ ask_of (at 0 0 1) 2 0 1 5
    ∷ []))

abbrev pub no_async_aborts : List Entry
no_async_aborts =
    took 1 ∷
    took 2 ∷
    sent 1 1 0 ∷
    sent 2 2 1 ∷
    Tick ∷
    due 1 ∷
    due 2 ∷
    owned 1 Expiry ∷
    owned 2 Expiry ∷
    failed 2 2 true ∷
    failed 1 1 true ∷
    EhBegin ∷
    Act 2 (Cmd (record { 0 = 2 })) true ∷
    probe_of (at 0 0 1) 0 fine ∷
    cleared 2 2 ∷
    Act 2 (Cmd (record { 0 = 1 })) false ∷
    Act 4 (Dev (at 0 0 0)) false ∷
    Act 5 (Target 0 0) false ∷
    Act 6 (Bus 0) false ∷
    Act 7 Host false ∷
    Act 8 (Dev (at 0 0 0)) true ∷
    Offline (at 0 0 0) ∷
    cleared 1 8 ∷
    again 2 true ∷
    told 1 (bare 3 0) ∷
    EhEnd ∷
    sent 2 3 0 ∷
    ready 3 (bare 0 2) ∷
    owned 3 Answer ∷
    judged 2 3 Fail ∷
    failed 2 3 false ∷
    EhBegin ∷
    Act 1 (Cmd (record { 0 = 2 })) false ∷
    silence (at 0 0 1) 3 ∷
    Act 4 (Dev (at 0 0 1)) false ∷
    Act 5 (Target 0 0) true ∷
    probe_of (at 0 0 1) 0 fine ∷
    cleared 2 5 ∷
    again 2 true ∷
    EhEnd ∷
    sent 2 4 0 ∷
    ready 4 fine ∷
    owned 4 Answer ∷
    judged 2 4 Success ∷
    told 2 fine ∷
    []
