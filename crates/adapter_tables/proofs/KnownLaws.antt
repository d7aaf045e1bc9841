-- The devices of held attempts have units.
use Rattle.std.proofs.Common.{◌≡◌, ℕ, ◌==◌, ◌&&◌, Bool, true, false, if◌then◌else◌, List, [], ◌∷◌, Option, None, Some, refl}
use Rattle.std.specs.Prelude.{option_map}
use Rattle.mid_base.specs.declared.names.Attempt.{Attempt}
use Rattle.mid_base.specs.declared.host_spec.CmdSpec.{CmdSpec}
use Rattle.mid_base.specs.declared.host_spec.HostSpec.{HostSpec}
use Rattle.mid_base.specs.declared.entries.Entry.{Entry}
use Rattle.mid_base.specs.declared.entries.Entry.TheVariants.{Sent, Bounced, Ready, DoneSaid, Aborted, Act}
use Rattle.mid_base.specs.Past.{ticks, find_command}
use Rattle.mid_base.specs.Address.{has_dev}
use Rattle.host_template.specs.Standing.{Before}
use Rattle.adapter_tables.specs.declared.held.Held.{Held}
use Rattle.adapter_tables.specs.Held.{held, without, is_attempt, due_from, lets_go, sent_as}
use Rattle.adapter_tables.specs.Ties.{Within}

abbrev pub IsKnown : HostSpec → Option Held → Type 0
IsKnown s None = Unit {0}
IsKnown s (Some h) = has_dev s.luns h.dev ≡ true

known_without : (s : HostSpec) (p : Held → Bool) (o : Option Held) → IsKnown s o → IsKnown s (without p o)
known_without s p None k = tt
known_without s p (Some h) k = by (p h)
  where
    by : (t : Bool) → IsKnown s (if t then None else Some h)
    by true = tt
    by false = k

known_changed : (s : HostSpec) (m t : ℕ) (o : Option Held) → IsKnown s o → IsKnown s (option_map (due_from m t) o)
known_changed s m t None k = tt
known_changed s m t (Some h) k = by (h.n.0 == m)
  where
    by : (x : Bool) → has_dev s.luns (if x then record h { due = Some t } else h).dev ≡ true
    by true = k
    by false = k

known_sent : (s : HostSpec) (b : Before) (P : List Entry) (m : Attempt) (c : ℕ) (o : Option CmdSpec) → Within s → find_command s c ≡ o → IsKnown s (option_map (sent_as s b P m) o)
known_sent s b P m c None in_limits e = tt
known_sent s b P m c (Some k) in_limits e = in_limits.known c k e

known_if : (s : HostSpec) (t : Bool) (o q : Option Held) → IsKnown s o → IsKnown s q → IsKnown s (if t then o else q)
known_if s true o q a b = a
known_if s false o q a b = b

pub known : (s : HostSpec) (b : Before) (P : List Entry) (n : ℕ) → Within s → IsKnown s (held s b P n)
known s b [] n w = tt
known s b (Sent c m t ∷ P) n w = known_if s (m.0 == n) _ _ (known_sent s b P m c.0 (find_command s c.0) w refl) (known s b P n w)
known s b (Bounced c m why ∷ P) n w = known_without s (is_attempt m.0) _ (known s b P n w)
known s b (Ready m a ∷ P) n w = known_without s (is_attempt m.0) _ (known s b P n w)
known s b (DoneSaid m ∷ P) n w = known_changed s m.0 (ticks P) _ (known s b P n w)
known s b (Aborted c m ok ∷ P) n w = known_without s (λ h. ok && is_attempt m.0 h) _ (known s b P n w)
known s b (Act level scope ok ∷ P) n w = known_without s (λ h. ok && lets_go level scope P h) _ (known s b P n w)
known s b (_ ∷ P) n w = known s b P n w
