-- A host without callbacks climbs every level, the device goes offline, and the other command is refused.
use Rattle.std.specs.Prelude.{true, false, List, [], ◌∷◌}
use Rattle.mid_base.specs.declared.answers.By.TheVariants.{Expiry}
use Rattle.mid_base.specs.declared.answers.Scope.TheVariants.{Dev, Target, Bus, Host}
use Rattle.mid_base.specs.declared.entries.Entry.{Entry}
use Rattle.mid_base.specs.declared.entries.Entry.TheVariants.{EhBegin, EhEnd, Act, Offline, Tick}
use Rattle.mid_base.specs.declared.host_spec.HostSpec.{HostSpec}
use Rattle.worked_journals.specs.Hosts.{host, lun, test_unit, unit}
use Rattle.worked_journals.specs.Say.{bare, took, sent, due, owned, abort_set, aborted, failed, cleared, told}

abbrev pub no_callbacks_spec : HostSpec
no_callbacks_spec = host 4 0 (lun 1 false) (test_unit 1 2 ∷ test_unit 2 2 ∷ [])

abbrev pub no_callbacks : List Entry
no_callbacks =
    took 1 ∷
    took 2 ∷
    sent 1 1 0 ∷
    Tick ∷
    Tick ∷
    due 1 ∷
    owned 1 Expiry ∷
    abort_set 1 1 ∷
    aborted 1 1 false ∷
    failed 1 1 true ∷
    EhBegin ∷
    Act 4 (Dev unit) false ∷
    Act 5 (Target 0 0) false ∷
    Act 6 (Bus 0) false ∷
    Act 7 Host false ∷
    Act 8 (Dev unit) true ∷
    Offline unit ∷
    cleared 1 8 ∷
    told 1 (bare 3 0) ∷
    EhEnd ∷
    Tick ∷
    told 2 (bare 1 0) ∷
    []
