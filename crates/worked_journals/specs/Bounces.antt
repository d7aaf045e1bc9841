-- The lower layer is busy: for a device, for the whole host, and for both devices. Then both units are, and say it by BUSY.
use Rattle.std.specs.Prelude.{false, List, [], ◌∷◌}
use Rattle.mid_base.specs.declared.answers.BusyOf.TheVariants.{Host as HostBusy, Device as DeviceBusy}
use Rattle.mid_base.specs.declared.answers.By.TheVariants.{Answer}
use Rattle.mid_base.specs.declared.answers.Disp.TheVariants.{Success, Requeue}
use Rattle.mid_base.specs.declared.states.DeviceState.TheVariants.{Running}
use Rattle.mid_base.specs.declared.entries.Entry.TheVariants.{Tick}
use Rattle.mid_base.specs.declared.entries.Entry.{Entry}
use Rattle.mid_base.specs.declared.host_spec.HostSpec.{HostSpec}
use Rattle.worked_journals.specs.Hosts.{all_callbacks, ask_of, at, host_of, unit_at}
use Rattle.worked_journals.specs.Say.{again, bare, bounced, fine, judged, late, owned, ready, sent, told, took}

abbrev pub bounces_spec : HostSpec
bounces_spec =
    host_of 3 all_callbacks
    (unit_at (at 0 0 0) 8 Running
    ∷ unit_at (at 0 0 1) 8 Running
    ∷ [])
    (ask_of (at 0 0 0) 1 0 30 5
    ∷ ask_of (at 0 0 1) 2 1 30 5
    ∷ ask_of (at 0 0 0) 3 0 30 5
    ∷ [])

abbrev pub bounces : List Entry
bounces =
    took 1 ∷
    took 2 ∷
    sent 1 1 0 ∷
    bounced 1 1 DeviceBusy ∷
    ready 1 fine ∷
    late 1 ∷
    sent 2 2 0 ∷
    bounced 2 2 HostBusy ∷
    took 3 ∷
    Tick ∷
    sent 1 3 0 ∷
    sent 2 4 1 ∷
    bounced 2 4 DeviceBusy ∷
    sent 3 5 1 ∷
    bounced 3 5 DeviceBusy ∷
    Tick ∷
    sent 2 6 1 ∷
    ready 3 fine ∷
    sent 3 7 2 ∷
    ready 6 (bare 0 8) ∷
    ready 7 (bare 0 8) ∷
    owned 3 Answer ∷
    owned 6 Answer ∷
    owned 7 Answer ∷
    judged 1 3 Success ∷
    told 1 fine ∷
    judged 2 6 Requeue ∷
    again 2 false ∷
    judged 3 7 Requeue ∷
    again 3 false ∷
    Tick ∷
    sent 2 8 0 ∷
    ready 8 fine ∷
    sent 3 9 1 ∷
    owned 8 Answer ∷
    judged 2 8 Success ∷
    told 2 fine ∷
    ready 9 fine ∷
    owned 9 Answer ∷
    judged 3 9 Success ∷
    told 3 fine ∷
    []
