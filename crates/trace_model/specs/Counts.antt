-- What is counted: a host's busy and failed commands, and the owners of an attempt.
use Rattle.std.specs.Prelude.{◌≡◌, ℕ, ◌+◌, ◌==◌, Bool, true, false, ◌&&◌, if◌then◌else◌, List, [], ◌∷◌, count_by, ⊤}
use Rattle.mid_base.specs.declared.entries.Entry.{Entry}
use Rattle.mid_base.specs.declared.entries.Entry.TheVariants.{Owned, Act, Cleared}
use Rattle.mid_base.specs.declared.host_spec.HostSpec.{HostSpec}
use Rattle.mid_base.specs.declared.names.DevAddr.{DevAddr}
use Rattle.mid_base.specs.Address.{same_dev}
use Rattle.trace_model.specs.Commands.{standing, is_busy, is_failed}

-- how many owners n has had
abbrev pub owners : ℕ → List Entry → ℕ
owners n [] = 0
owners n (Owned m by ∷ P) = if m.0 == n then owners n P + 1 else owners n P
owners n (_ ∷ P) = owners n P

-- how many commands are busy, and so hold a tag
abbrev pub busy_count : HostSpec → List Entry → ℕ
busy_count s P = count_by (λ k. is_busy (standing k.id.0 P)) s.cmds

-- those of one device
abbrev pub busy_on : HostSpec → List Entry → DevAddr → ℕ
busy_on s P d = count_by (λ k. same_dev k.dev d && is_busy (standing k.id.0 P)) s.cmds

abbrev pub failed_count : HostSpec → List Entry → ℕ
failed_count s P = count_by (λ k. is_failed k.id.0 P) s.cmds

abbrev pub is_acting : Entry → Bool
is_acting (Act level scope ok) = true
is_acting (Cleared c level) = true
is_acting _ = false

-- at each Act and Cleared as many commands are busy as failed
abbrev pub QuietActs : HostSpec → List Entry → Type 0
QuietActs s [] = ⊤
QuietActs s (e ∷ P) = (is_acting e ≡ true → busy_count s P ≡ failed_count s P) × QuietActs s P
