-- Two stopped units are started, in the order of their addresses, one of them with two commands. Three commands go again in the
-- order in which they failed.
use Rattle.std.specs.Prelude.{true, false, List, [], ◌∷◌}
use Rattle.mid_base.specs.declared.answers.By.TheVariants.{Answer}
use Rattle.mid_base.specs.declared.answers.Disp.TheVariants.{Success, Fail}
use Rattle.mid_base.specs.declared.answers.Scope.TheVariants.{Dev}
use Rattle.mid_base.specs.declared.states.DeviceState.TheVariants.{Running}
use Rattle.mid_base.specs.declared.entries.Entry.TheVariants.{Act, EhBegin, EhEnd}
use Rattle.mid_base.specs.declared.entries.Entry.{Entry}
use Rattle.mid_base.specs.declared.host_spec.HostSpec.{HostSpec}
use Rattle.worked_journals.specs.Hosts.{ask_of, at, host_of, unit_at}
use Rattle.worked_journals.specs.Say.{again, checked, cleared, failed, fine, judged, not_started, owned, probe, probe_of, ready, sent, told, took, was_reset}

abbrev pub both_started_spec : HostSpec
both_started_spec =
    host_of 3 0
    (unit_at (at 0 0 0) 8 Running
    ∷ unit_at (at 0 0 1) 8 Running
    ∷ [])
    (ask_of (at 0 0 1) 1 0 30 5
    ∷ ask_of (at 0 0 0) 2 0 30 5
    ∷ ask_of (at 0 0 1) 3 0 30 5
    ∷ [])

abbrev pub both_started : List Entry
both_started =
    took 1 ∷
    took 2 ∷
    took 3 ∷
    sent 1 1 0 ∷
    sent 2 2 1 ∷
    sent 3 3 2 ∷
    ready 1 (checked not_started) ∷
    ready 2 (checked not_started) ∷
    ready 3 (checked not_started) ∷
    owned 1 Answer ∷
    owned 2 Answer ∷
    owned 3 Answer ∷
    judged 3 3 Fail ∷
    failed 3 3 false ∷
    judged 1 1 Fail ∷
    failed 1 1 false ∷
    judged 2 2 Fail ∷
    failed 2 2 false ∷
    EhBegin ∷
    Act 3 (Dev (at 0 0 0)) true ∷
    probe 27 fine ∷
    probe 0 fine ∷
    cleared 2 3 ∷
    Act 3 (Dev (at 0 0 1)) true ∷
    probe_of (at 0 0 1) 27 fine ∷
    probe_of (at 0 0 1) 0 (checked was_reset) ∷
    probe_of (at 0 0 1) 0 fine ∷
    cleared 3 3 ∷
    cleared 1 3 ∷
    again 3 true ∷
    again 1 true ∷
    again 2 true ∷
    EhEnd ∷
    sent 1 4 0 ∷
    sent 2 5 1 ∷
    sent 3 6 2 ∷
    ready 4 fine ∷
    owned 4 Answer ∷
    judged 1 4 Success ∷
    told 1 fine ∷
    ready 5 fine ∷
    owned 5 Answer ∷
    judged 2 5 Success ∷
    told 2 fine ∷
    ready 6 fine ∷
    owned 6 Answer ∷
    judged 3 6 Success ∷
    told 3 fine ∷
    []
