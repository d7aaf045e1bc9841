-- Whether a lower layer stands, for a spec and the probes made before, where a journal leaves it. The journal's newest
-- entry is first.
use Rattle.std.specs.Prelude.{◌≡◌, ℕ, ◌+◌, Bool, List, [], ◌∷◌, if◌then◌else◌}
use Rattle.mid_base.specs.declared.names.DevAddr.{DevAddr}
use Rattle.mid_base.specs.declared.entries.Entry.{Entry}
use Rattle.mid_base.specs.declared.entries.Entry.TheVariants.{Probe}
use Rattle.mid_base.specs.declared.host_spec.HostSpec.{HostSpec}
use Rattle.mid_base.specs.Address.{same_dev}

-- the devices with the numbers of probes made on them before the journal began; a device that isn't listed has 0
abbrev pub Before : Type 0
Before = List (DevAddr × ℕ)

abbrev pub earlier : Before → DevAddr → ℕ
earlier [] d = 0
earlier (x ∷ b) d = if same_dev x.0 d then x.1 else earlier b d

-- the number of probes on the device that stand in the journal
abbrev pub probes : DevAddr → List Entry → ℕ
probes d [] = 0
probes d (Probe e code say ∷ P) = if same_dev e d then probes d P + 1 else probes d P
probes d (_ ∷ P) = probes d P

abbrev pub Standing : Type 1
Standing = HostSpec → Before → List Entry → Type 0

-- these bytes are the data-in of the probe with this operation code on a device, where a journal leaves the lower layer
abbrev pub DataIn : Type 1
DataIn = HostSpec → Before → List Entry → DevAddr → ℕ → List ℕ → Type 0

-- it stands wherever it stood
abbrev pub Stays : Standing → Standing → Type 0
Stays old new = (s : HostSpec) (b : Before) (P : List Entry) → old s b P → new s b P

-- it stands wherever it stood, and the same answers are due
pub record Unchanged (old new : Standing) (old_due new_due : ℕ → Bool) : Type 0 where
  pub stands : (s : HostSpec) (b : Before) (P : List Entry) → old s b P → new s b P
  pub due : (t : ℕ) → new_due t ≡ old_due t
