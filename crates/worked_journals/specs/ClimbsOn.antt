-- A reset that is ok doesn't help a unit that isn't ready, and the ladder climbs on. A unit that is silent isn't asked twice,
-- one whose first answer would be a retry is.
use Rattle.std.specs.Prelude.{true, false, List, [], ◌∷◌}
use Rattle.mid_base.specs.declared.answers.By.TheVariants.{Answer, Expiry}
use Rattle.mid_base.specs.declared.answers.Disp.TheVariants.{Success}
use Rattle.mid_base.specs.declared.answers.Scope.TheVariants.{Dev, Target, Bus, Host}
use Rattle.mid_base.specs.declared.states.DeviceState.TheVariants.{Running}
use Rattle.mid_base.specs.declared.entries.Entry.TheVariants.{Act, EhBegin, EhEnd, Tick}
use Rattle.mid_base.specs.declared.entries.Entry.{Entry}
use Rattle.mid_base.specs.declared.host_spec.HostSpec.{HostSpec}
use Rattle.worked_journals.specs.Hosts.{all_callbacks, ask_of, at, host_of, unit_at}
use Rattle.worked_journals.specs.Say.{abort_set, aborted, again, checked, cleared, due, failed, fine, judged, not_known, not_started, owned, probe_of, ready, sent, silence, told, took, was_reset}

abbrev pub climbs_on_spec : HostSpec
climbs_on_spec =
    host_of 2 all_callbacks
    (unit_at (at 0 0 0) 8 Running
    ∷ unit_at (at 0 0 1) 8 Running
    ∷ [])
    (ask_of (at 0 0 0) 1 0 1 5
    ∷ ask_of (at 0 0 1) 2 1 1 5
    ∷ [])

abbrev pub climbs_on : List Entry
climbs_on =
    took 1 ∷
    took 2 ∷
    sent 1 1 0 ∷
    sent 2 2 1 ∷
    Tick ∷
    due 1 ∷
    due 2 ∷
    owned 1 Expiry ∷
    owned 2 Expiry ∷
    abort_set 2 2 ∷
    abort_set 1 1 ∷
    aborted 2 2 false ∷
    failed 2 2 true ∷
    aborted 1 1 false ∷
    failed 1 1 true ∷
    EhBegin ∷
    Act 4 (Dev (at 0 0 0)) true ∷
    silence (at 0 0 0) 0 ∷
    Act 4 (Dev (at 0 0 1)) true ∷
    probe_of (at 0 0 1) 0 (checked was_reset) ∷
    probe_of (at 0 0 1) 0 (checked not_started) ∷
    Act 5 (Target 0 0) true ∷
    probe_of (at 0 0 0) 0 (checked not_known) ∷
    probe_of (at 0 0 1) 0 fine ∷
    cleared 2 5 ∷
    Act 6 (Bus 0) false ∷
    Act 7 Host true ∷
    probe_of (at 0 0 0) 0 fine ∷
    cleared 1 7 ∷
    again 2 true ∷
    again 1 true ∷
    EhEnd ∷
    sent 1 3 0 ∷
    sent 2 4 1 ∷
    ready 3 fine ∷
    ready 4 fine ∷
    owned 4 Answer ∷
    judged 2 4 Success ∷
    told 2 fine ∷
    owned 3 Answer ∷
    judged 1 3 Success ∷
    told 1 fine ∷
    []
