-- How many rounds were made. P, Q and R have the newest entry first.
use Rattle.std.specs.Prelude.{◌≡◌, ◌⊎◌, ℕ, zero, suc, true, false, List}
use Rattle.mid_base.specs.declared.entries.Entry.{Entry}
use Rattle.mid_base.specs.declared.host_spec.HostSpec.{HostSpec}
use Rattle.host_template.specs.Standing.{Before}
use Rattle.drain_rounds.specs.Rounds.{Round, is_drained}

-- n rounds of at most so many, each where the host wasn't drained; then it was, or no more were left
abbrev pub DrainsIn : ℕ → ℕ → HostSpec → Before → List Entry → List Entry → Type 0
DrainsIn zero most s b P Q = (Q ≡ P) × ((most ≡ 0) ⊎ (is_drained s P ≡ true))
DrainsIn (suc n) zero s b P Q = ⊥
DrainsIn (suc n) (suc most) s b P Q = (is_drained s P ≡ false) × (R : List Entry) × Round s b P R × DrainsIn n most s b R Q
