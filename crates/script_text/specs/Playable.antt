-- What whoever plays a good script may rely on.
use Rattle.std.specs.Prelude.{◌≡◌, ℕ, ◌==◌, ◌^◌, ◌<◌, Bool, true, not, ◌&&◌, List, [], ◌∷◌, None, Option, Some, All}
use Rattle.std.specs.List.{list_any}
use Rattle.mid_base.specs.Limits.{KeepsLimits}
use Rattle.mid_base.specs.Address.{has_dev}
use Rattle.mid_base.specs.declared.host_spec.HostSpec.{HostSpec}
use Rattle.mid_base.specs.declared.names.HostNo.{HostNo}
use Rattle.mid_base.specs.declared.steps.Step.{Step}
use Rattle.mid_base.specs.declared.steps.Step.TheVariants.{Submit, Own, Settle, Drop, SetState}
use Rattle.script_text.specs.declared.script.Script.{Script}
use Rattle.script_text.specs.Said.{host_of, has_lane}

-- what a step names is of this host: a lane has commands, a device is one of its units; and attempts have numbers
abbrev pub IsStepOn : HostSpec → Step → Type 0
IsStepOn h (Submit lane) = has_lane h.cmds lane.0 ≡ true
IsStepOn h (Own n by) = n.0 < 2 ^ 60
IsStepOn h (Settle n) = n.0 < 2 ^ 60
IsStepOn h (Drop n) = n.0 < 2 ^ 60
IsStepOn h (SetState dev state) = has_dev h.luns dev ≡ true
IsStepOn h _ = Unit {0}

-- the host of a step is one of these, and the step is one on it
abbrev pub IsStepOnSome : Option HostSpec → Step → Type 0
IsStepOnSome None step = ⊥
IsStepOnSome (Some h) step = IsStepOn h step

abbrev pub IsStepOf : List HostSpec → ℕ × HostNo × Step → Type 0
IsStepOf hosts s = IsStepOnSome (host_of hosts s.1.0) s.2

abbrev pub differ_in_number : List HostSpec → Bool
differ_in_number [] = true
differ_in_number (h ∷ hosts) = not (list_any (λ g. g.no.0 == h.no.0) hosts) && differ_in_number hosts

pub record IsPlayable (s : Script) : Type 0 where
  pub limits : All KeepsLimits s.hosts
  pub numbers : differ_in_number s.hosts ≡ true
  pub steps : All (IsStepOf s.hosts) s.steps
