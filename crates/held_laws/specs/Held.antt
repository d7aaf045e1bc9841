-- Which attempts an honest lower layer may hold where a journal stands. P has the newest entry first.
use Rattle.std.specs.Prelude.{◌≡◌, ℕ, ◌==◌, Bool, true, false, List}
use Rattle.mid_base.specs.declared.names.DevAddr.{DevAddr}
use Rattle.mid_base.specs.declared.entries.Entry.{Entry}
use Rattle.mid_base.specs.declared.host_spec.HostSpec.{HostSpec}
use Rattle.mid_base.specs.Past.{was_sent, sent_for}
use Rattle.host_template.specs.Meaning.{Meaning, Holds}
use Rattle.trace_model.specs.declared.standing.Standing.{Standing}
use Rattle.trace_model.specs.declared.standing.Standing.TheVariants.{Busy, Ended}
use Rattle.trace_model.specs.Names.{dev_of}
use Rattle.trace_model.specs.Attempts.{is_answered}
use Rattle.trace_model.specs.Commands.{standing}
use Rattle.trace_model.specs.Devices.{has_begun, is_online}
use Rattle.trace_model.specs.Recovery.{is_cleared}

-- the attempts that are held, each with its device
abbrev pub Held : Type 0
Held = List (ℕ × DevAddr)

-- the command has ended, or is busy with n
abbrev pub is_over_or_with : ℕ → Standing → Bool
is_over_or_with n (Busy m t) = m.0 == n
is_over_or_with n Ended = true
is_over_or_with n _ = false

-- n may be held on d: it is its command's device, n wasn't answered, its command has ended or is busy with n, and where
-- recovery has cleared the command, its device isn't online
pub record MayBeHeld (s : HostSpec) (P : List Entry) (n : ℕ) (d : DevAddr) : Type 0 where
  pub device : d ≡ dev_of s (sent_for n P)
  pub unanswered : is_answered n P ≡ false
  pub rests : is_over_or_with n (standing (sent_for n P) P) ≡ true
  pub lost : has_begun P ≡ true → is_cleared (sent_for n P) P ≡ true → is_online s (dev_of s (sent_for n P)) P ≡ false

-- each held attempt that was sent may be held
abbrev pub HoldsRight : HostSpec → List Entry → Held → Type 0
HoldsRight s P held = (n : ℕ) (d : DevAddr) → Holds held n d → was_sent n P ≡ true → MayBeHeld s P n d

-- this is so of a lower layer that is honest and tells its attempts
abbrev pub IsRight : HostSpec → List Entry → Meaning → Type 0
IsRight s P m = m.honest ≡ true → m.tells ≡ true → HoldsRight s P m.holds

-- no attempt of c that was sent is held
abbrev pub NoneHeld : List Entry → ℕ → Held → Type 0
NoneHeld P c held = (n : ℕ) (d : DevAddr) → Holds held n d → was_sent n P ≡ true → sent_for n P ≡ c → ⊥
