-- A host is drained.
use Rattle.std.specs.Prelude.{◌≡◌, ℕ, ◌+◌, ◌==◌, ◌&&◌, ◌||◌, not, Bool, true, false, if◌then◌else◌, List, [], ◌∷◌, reverse, ⊤}
use Rattle.std.specs.List.{list_all}
use Rattle.mid_base.specs.declared.entries.Entry.{Entry}
use Rattle.mid_base.specs.declared.entries.Entry.TheVariants.{Took, Told}
use Rattle.mid_base.specs.declared.host_spec.CmdSpec.{CmdSpec}
use Rattle.mid_base.specs.declared.host_spec.HostSpec.{HostSpec}
use Rattle.trace_model.specs.Commands.{is_own}

abbrev pub was_taken : ℕ → List Entry → Bool
was_taken c [] = false
was_taken c (Took d ∷ P) = if d.0 == c then true else was_taken c P
was_taken c (_ ∷ P) = was_taken c P

-- how often c was reported
abbrev pub tellings : ℕ → List Entry → ℕ
tellings c [] = 0
tellings c (Told d a ∷ P) = if d.0 == c then tellings c P + 1 else tellings c P
tellings c (_ ∷ P) = tellings c P

abbrev pub was_told : ℕ → List Entry → Bool
was_told c P = not (tellings c P == 0)

-- k is handed in, and told where it was taken
abbrev pub is_done : List Entry → CmdSpec → Bool
is_done P k = (was_taken k.id.0 P || was_told k.id.0 P) && (not (was_taken k.id.0 P) || was_told k.id.0 P)

abbrev pub Drained : HostSpec → List Entry → Type 0
Drained s journal = list_all (is_done (reverse journal)) s.cmds ≡ true

-- no own entry of c stands after it was told
abbrev pub NoneAfterTold : ℕ → List Entry → Type 0
NoneAfterTold c [] = ⊤
NoneAfterTold c (e ∷ P) = (is_own c e ≡ true → tellings c P ≡ 0) × NoneAfterTold c P
