-- Probes that were made before a journal, and some more.
use Rattle.std.proofs.Common.{◌≡◌, ℕ, ◌+◌, Bool, true, false, List, [], ◌∷◌, ◌++◌, refl, sym, ap, ◌∙◌, inl, inr, arith}
use Rattle.std.specs.Prelude.{if◌then◌else◌, ◌||◌}
use Rattle.std.proofs.lemmas.Bool.{cases_Bool}
use Rattle.std.proofs.lemmas.Bool.Decides.{nat_tests}
use Rattle.mid_base.specs.declared.names.DevAddr.{DevAddr}
use Rattle.mid_base.specs.Address.{same_dev}
use Rattle.host_template.specs.Standing.{Before, earlier}
use Rattle.host_scan.specs.Findings.{is_listed}

neither : (a b : Bool) → (a || b) ≡ false → (a ≡ false) × (b ≡ false)
neither true b e = absurd (cc)
neither false b e = (refl, e)

pub none_earlier : (b : Before) (z : DevAddr) → is_listed b z ≡ false → earlier b z ≡ 0
none_earlier [] z off = refl
none_earlier (x ∷ b) z off = let both = neither (same_dev x.0 z) (is_listed b z) off in rw both.0 (none_earlier b z both.1)

other_unit : (x z d : DevAddr) → same_dev x z ≡ false → same_dev x d ≡ true → same_dev z d ≡ false
other_unit x z d off is = grind (arith, nat_tests, off, is)

abbrev at : DevAddr → DevAddr → ℕ → ℕ
at z d k = if same_dev z d then k else 0

pub earlier_more : (b : Before) (z : DevAddr) (k : ℕ) (d : DevAddr) → is_listed b z ≡ false → earlier (b ++ (z, k) ∷ []) d ≡ earlier b d + (if same_dev z d then k else 0)
earlier_more [] z k d off = omega arith
earlier_more (x ∷ b) z k d off =
    let both = neither (same_dev x.0 z) (is_listed b z) off in
    elim (cases_Bool (same_dev x.0 d)) [
      | inl is ↦ rw (is, other_unit x.0 z d both.0 is) (omega arith)
      | inr isnt ↦ rw isnt (earlier_more b z k d both.1)
    ]
