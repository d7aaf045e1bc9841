-- The targets of some devices.
use Rattle.std.specs.Prelude.{ℕ, ◌==◌, ◌&&◌, ◌||◌, nat_lt, Bool, if◌then◌else◌, List, [], ◌∷◌}
use Rattle.mid_base.specs.declared.names.DevAddr.{DevAddr}
use Rattle.lun_scan.specs.Scans.{unit_zero}
use Rattle.host_scan.specs.declared.target.Target.{Target}

abbrev pub target_of : DevAddr → Target
target_of d = record { channel = d.channel; target = d.target }

-- logical unit 0 of a target
abbrev pub zero_of : Target → DevAddr
zero_of t = unit_zero t.channel t.target

abbrev pub same_target : Target → Target → Bool
same_target t u = (t.channel == u.channel) && (t.target == u.target)

-- in address order
abbrev pub comes_before : Target → Target → Bool
comes_before t u = nat_lt t.channel u.channel || ((t.channel == u.channel) && nat_lt t.target u.target)

-- a target among others in address order, where it isn't there
abbrev pub with_target : Target → List Target → List Target
with_target t [] = t ∷ []
with_target t (u ∷ us) = if same_target t u then u ∷ us else if comes_before t u then t ∷ u ∷ us else u ∷ with_target t us

-- the targets of these devices in address order, each once
abbrev pub targets_of : List DevAddr → List Target
targets_of [] = []
targets_of (d ∷ ds) = with_target (target_of d) (targets_of ds)
