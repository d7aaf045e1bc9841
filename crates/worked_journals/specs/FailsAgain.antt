-- The sense data that was fetched is a failure again, and has its unit started. That of another device can't be fetched.
use Rattle.std.specs.Prelude.{true, false, List, [], ◌∷◌}
use Rattle.mid_base.specs.declared.answers.By.TheVariants.{Answer}
use Rattle.mid_base.specs.declared.answers.Disp.TheVariants.{Success, Fail}
use Rattle.mid_base.specs.declared.answers.Scope.TheVariants.{Cmd, Dev}
use Rattle.mid_base.specs.declared.states.DeviceState.TheVariants.{Running}
use Rattle.mid_base.specs.declared.entries.Entry.TheVariants.{Act, EhBegin, EhEnd}
use Rattle.mid_base.specs.declared.entries.Entry.{Entry}
use Rattle.mid_base.specs.declared.host_spec.HostSpec.{HostSpec}
use Rattle.worked_journals.specs.Hosts.{all_callbacks, ask_of, at, host_of, unit, unit_at}
use Rattle.worked_journals.specs.Say.{again, bare, cleared, failed, fine, judged, moved, not_started, owned, probe, probe_of, ready, sensed, sent, silence, told, took}

abbrev pub fails_again_spec : HostSpec
fails_again_spec =
    host_of 4 all_callbacks
    (unit_at (at 0 0 0) 8 Running
    ∷ unit_at (at 1 0 0) 8 Running
    ∷ [])
    (ask_of (at 0 0 0) 1 0 30 5
    ∷ ask_of (at 1 0 0) 2 0 30 5
    ∷ [])

abbrev pub fails_again : List Entry
fails_again =
    took 1 ∷
    took 2 ∷
    sent 1 1 0 ∷
    sent 2 2 1 ∷
    ready 1 (bare 0 2) ∷
    ready 2 (bare 0 2) ∷
    owned 1 Answer ∷
    owned 2 Answer ∷
    judged 1 1 Fail ∷
    failed 1 1 false ∷
    judged 2 2 Fail ∷
    failed 2 2 false ∷
    EhBegin ∷
    Act 1 (Cmd (record { 0 = 1 })) true ∷
    probe 3 (moved 18 128) ∷
    sensed 1 1 not_started ∷
    judged 1 1 Fail ∷
    Act 1 (Cmd (record { 0 = 2 })) false ∷
    probe_of (at 1 0 0) 3 (bare 7 0) ∷
    Act 3 (Dev (at 0 0 0)) true ∷
    probe 27 fine ∷
    probe 0 fine ∷
    cleared 1 3 ∷
    Act 4 (Dev (at 1 0 0)) true ∷
    probe_of (at 1 0 0) 0 fine ∷
    cleared 2 4 ∷
    again 1 true ∷
    again 2 true ∷
    EhEnd ∷
    sent 1 3 0 ∷
    sent 2 4 1 ∷
    ready 4 fine ∷
    ready 3 (bare 0 2) ∷
    owned 3 Answer ∷
    judged 1 3 Fail ∷
    failed 1 3 false ∷
    owned 4 Answer ∷
    judged 2 4 Success ∷
    told 2 fine ∷
    EhBegin ∷
    Act 1 (Cmd (record { 0 = 1 })) false ∷
    silence unit 3 ∷
    Act 4 (Dev unit) true ∷
    probe 0 fine ∷
    cleared 1 4 ∷
    again 1 true ∷
    EhEnd ∷
    sent 1 5 0 ∷
    ready 5 fine ∷
    owned 5 Answer ∷
    judged 1 5 Success ∷
    told 1 fine ∷
    []
