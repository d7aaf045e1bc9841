-- Addresses of devices, and what a scope of recovery covers.
use Rattle.std.specs.Prelude.{◌==◌, ◌&&◌, Bool, true, false, List}
use Rattle.std.specs.List.{list_any}
use Rattle.mid_base.specs.declared.names.DevAddr.{DevAddr}
use Rattle.mid_base.specs.declared.answers.Scope.{Scope}
use Rattle.mid_base.specs.declared.answers.Scope.TheVariants.{Cmd, Dev, Target, Bus, Host}
use Rattle.mid_base.specs.declared.host_spec.LunSpec.{LunSpec}

abbrev pub same_dev : DevAddr → DevAddr → Bool
same_dev a b = (a.channel == b.channel) && (a.target == b.target) && (a.lun == b.lun)

-- the scope of a reset has the device
abbrev pub in_scope : Scope → DevAddr → Bool
in_scope (Cmd c) d = false
in_scope (Dev e) d = same_dev e d
in_scope (Target c t) d = (c == d.channel) && (t == d.target)
in_scope (Bus c) d = c == d.channel
in_scope Host d = true

-- the device is one of these units
abbrev pub has_dev : List LunSpec → DevAddr → Bool
has_dev luns d = list_any (λ l. same_dev l.dev d) luns
