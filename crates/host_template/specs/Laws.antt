-- The laws of a lower layer.
use Rattle.std.specs.Prelude.{◌≡◌, ℕ, ◌+◌, ◌⊎◌, Bool, false, List, [], ◌∷◌}
use Rattle.mid_base.specs.declared.names.DevAddr.{DevAddr}
use Rattle.mid_base.specs.declared.entries.Entry.{Entry}
use Rattle.mid_base.specs.declared.entries.Entry.TheVariants.{Sent, Bounced, Ready, Due, Longer, DoneSaid, Aborted, Sensed, Act, Probe, Tick}
use Rattle.mid_base.specs.declared.host_spec.HostSpec.{HostSpec}
use Rattle.mid_base.specs.Past.{ticks}
use Rattle.mid_base.specs.Levels.{has_level}
use Rattle.mid_base.specs.Codes.{inquiry, report_luns}
use Rattle.host_template.specs.Standing.{Before, Standing, earlier, probes}

-- The entry tells nothing of a lower layer: it comes of none of its calls. An abort or a reset without its callback isn't
-- called.
abbrev pub IsSilent : HostSpec → Entry → Type 0
IsSilent s (Sent c n t) = ⊥
IsSilent s (Bounced c n why) = ⊥
IsSilent s (Ready n a) = ⊥
IsSilent s (Due n) = ⊥
IsSilent s (Longer n) = ⊥
IsSilent s (DoneSaid n) = ⊥
IsSilent s (Aborted c n ok) = (has_level s.handlers 2 ≡ false) × (ok ≡ false)
IsSilent s (Sensed c n bytes) = ⊥
IsSilent s (Probe d code say) = ⊥
IsSilent s Tick = ⊥
IsSilent s (Act level scope ok) = (level ≡ 3) ⊎ (level ≡ 8)
    ⊎ ((has_level s.handlers level ≡ false) × (ok ≡ false) × ((level ≡ 2) ⊎ (level ≡ 4) ⊎ (level ≡ 5) ⊎ (level ≡ 6) ⊎ (level ≡ 7)))
IsSilent s _ = Unit {0}

abbrev pub SilentLaw : Standing → Type 0
SilentLaw stands = (s : HostSpec) (b : Before) (P : List Entry) (e : Entry) → IsSilent s e → stands s b P → stands s b (e ∷ P)

abbrev pub TickLaw : Standing → (ℕ → Bool) → Type 0
TickLaw stands due = (s : HostSpec) (b : Before) (P : List Entry) → due (ticks P) ≡ false → stands s b P → stands s b (Tick ∷ P)

-- probes of INQUIRY and REPORT LUNS alone, which scanning sends
abbrev pub OnlyScans : List Entry → Type 0
OnlyScans [] = Unit {0}
OnlyScans (Probe d code say ∷ P) = ((code ≡ inquiry) ⊎ (code ≡ report_luns)) × OnlyScans P
OnlyScans (_ ∷ P) = ⊥

-- after such probes it also stands at the empty journal, with them counted as earlier ones
abbrev pub ScanLaw : Standing → Type 0
ScanLaw stands = (s : HostSpec) (b c : Before) (P : List Entry) → OnlyScans P
    → ((d : DevAddr) → earlier c d ≡ earlier b d + probes d P) → stands s b P → stands s c []
