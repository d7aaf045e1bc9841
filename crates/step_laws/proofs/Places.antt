-- Devices and states that are the same.
use Rattle.std.proofs.Common.{eq-eqb, ◌≡◌, ℕ, ◌==◌, true, ◌&&◌, refl, ap, ◌∙◌}
use Rattle.std.proofs.lemmas.Bool.{eqb-true, and_parts}
use Rattle.mid_base.specs.declared.names.DevAddr.{DevAddr}
use Rattle.mid_base.specs.declared.states.DeviceState.{DeviceState}
use Rattle.mid_base.specs.declared.states.DeviceState.TheVariants.{Created, Running, Quiesce, Block, Offline, Cancel, Del}
use Rattle.mid_base.specs.Address.{same_dev}
use Rattle.device_states.specs.States.{same_state}

abbrev dev : ℕ → ℕ → ℕ → DevAddr
dev c t l = record { channel = c; target = t; lun = l }

pub same_dev_is : (a b : DevAddr) → same_dev a b ≡ true → a ≡ b
same_dev_is a b h =
    let ab = and_parts ((a.channel == b.channel) && (a.target == b.target)) (a.lun == b.lun) h in
    let a1 = and_parts (a.channel == b.channel) (a.target == b.target) ab.0 in
    ap (λ (k : ℕ). dev k a.target a.lun) (eqb-true a.channel b.channel a1.0)
    ∙ (ap (λ (k : ℕ). dev b.channel k a.lun) (eqb-true a.target b.target a1.1) ∙ ap (λ (k : ℕ). dev b.channel b.target k) (eqb-true a.lun b.lun ab.1))

pub same_dev_itself : (a : DevAddr) → same_dev a a ≡ true
same_dev_itself a = rw (eq-eqb a.channel a.channel refl, eq-eqb a.target a.target refl, eq-eqb a.lun a.lun refl) refl

pub same_state_is : (x y : DeviceState) → same_state x y ≡ true → x ≡ y
same_state_is Created Created h = refl
same_state_is Running Running h = refl
same_state_is Quiesce Quiesce h = refl
same_state_is Block Block h = refl
same_state_is Offline Offline h = refl
same_state_is Cancel Cancel h = refl
same_state_is Del Del h = refl
same_state_is x y h = cc h

pub same_state_itself : (x : DeviceState) → same_state x x ≡ true
same_state_itself Created = refl
same_state_itself Running = refl
same_state_itself Quiesce = refl
same_state_itself Block = refl
same_state_itself Offline = refl
same_state_itself Cancel = refl
same_state_itself Del = refl
