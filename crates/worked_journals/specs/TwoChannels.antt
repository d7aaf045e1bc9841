-- Five commands on four devices, three targets and two channels. Each reset is made once for what it is aimed at, in the order of
-- addresses, and one device goes offline with two commands.
use Rattle.std.specs.Prelude.{true, false, List, [], ◌∷◌}
use Rattle.mid_base.specs.declared.answers.By.TheVariants.{Expiry}
use Rattle.mid_base.specs.declared.answers.Scope.TheVariants.{Dev, Target, Bus, Host}
use Rattle.mid_base.specs.declared.states.DeviceState.TheVariants.{Running}
use Rattle.mid_base.specs.declared.entries.Entry.TheVariants.{Act, EhBegin, EhEnd, Offline, Tick}
use Rattle.mid_base.specs.declared.entries.Entry.{Entry}
use Rattle.mid_base.specs.declared.host_spec.HostSpec.{HostSpec}
use Rattle.worked_journals.specs.Hosts.{all_callbacks, ask_of, at, host_of, unit_at}
use Rattle.worked_journals.specs.Say.{bare, cleared, due, failed, fine, owned, probe_of, sent, silence, told, took}

abbrev pub two_channels_spec : HostSpec
two_channels_spec =
    host_of 8 all_callbacks
    (unit_at (at 1 0 0) 8 Running
    ∷ unit_at (at 0 1 0) 8 Running
    ∷ unit_at (at 1 0 2) 8 Running
    ∷ unit_at (at 0 0 1) 8 Running
    ∷ [])
    (ask_of (at 1 0 0) 1 0 1 0
    ∷ ask_of (at 0 0 1) 2 0 1 0
    ∷ ask_of (at 1 0 2) 5 0 1 0
    ∷ ask_of (at 0 1 0) 3 0 1 0
    ∷ ask_of (at 1 0 0) 4 0 1 0
    ∷ [])

abbrev pub two_channels : List Entry
two_channels =
    took 1 ∷
    took 2 ∷
    took 5 ∷
    took 3 ∷
    took 4 ∷
    sent 1 1 0 ∷
    sent 2 2 1 ∷
    sent 5 3 2 ∷
    sent 3 4 3 ∷
    sent 4 5 4 ∷
    Tick ∷
    due 1 ∷
    due 2 ∷
    due 3 ∷
    due 4 ∷
    due 5 ∷
    owned 1 Expiry ∷
    owned 2 Expiry ∷
    owned 3 Expiry ∷
    owned 4 Expiry ∷
    owned 5 Expiry ∷
    failed 1 1 true ∷
    failed 2 2 true ∷
    failed 5 3 true ∷
    failed 3 4 true ∷
    failed 4 5 true ∷
    EhBegin ∷
    Act 4 (Dev (at 0 0 1)) false ∷
    Act 4 (Dev (at 0 1 0)) true ∷
    probe_of (at 0 1 0) 0 fine ∷
    cleared 3 4 ∷
    Act 4 (Dev (at 1 0 0)) true ∷
    silence (at 1 0 0) 0 ∷
    Act 4 (Dev (at 1 0 2)) false ∷
    Act 5 (Target 0 0) true ∷
    silence (at 0 0 1) 0 ∷
    Act 5 (Target 1 0) true ∷
    silence (at 1 0 0) 0 ∷
    silence (at 1 0 2) 0 ∷
    Act 6 (Bus 0) true ∷
    probe_of (at 0 0 1) 0 fine ∷
    cleared 2 6 ∷
    Act 6 (Bus 1) true ∷
    silence (at 1 0 0) 0 ∷
    probe_of (at 1 0 2) 0 fine ∷
    cleared 5 6 ∷
    Act 7 Host true ∷
    silence (at 1 0 0) 0 ∷
    Act 8 (Dev (at 1 0 0)) true ∷
    Offline (at 1 0 0) ∷
    cleared 1 8 ∷
    cleared 4 8 ∷
    told 1 (bare 3 0) ∷
    told 2 (bare 3 0) ∷
    told 5 (bare 3 0) ∷
    told 3 (bare 3 0) ∷
    told 4 (bare 3 0) ∷
    EhEnd ∷
    []
