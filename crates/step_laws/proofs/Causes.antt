-- What it means that no rule is the first cause.
use Rattle.std.proofs.Common.{◌≡◌, Bool, true, false, List, ◌∷◌, Option, None, Some, refl, is_none}
use Rattle.mid_base.specs.declared.steps.Why.{Why}
use Rattle.trace_model.specs.Steps.{first_why}
use Rattle.step_laws.specs.Enabled.{bars}

-- the first condition of a list holds back nothing, nor does the rest
pub passed : (b : Bool) (w : Why) (bs : List (Bool × Why)) → bars (Some w) ≡ true → bars (first_why ((b, w) ∷ bs)) ≡ false → (b ≡ false) × (bars (first_why bs) ≡ false)
passed true w bs r h = cc (r, h)
passed false w bs r h = (refl, h)

pub passes : (b : Bool) (w : Why) (bs : List (Bool × Why)) → b ≡ false → bars (first_why bs) ≡ false → bars (first_why ((b, w) ∷ bs)) ≡ false
passes b w bs e h = rw e h

pub not_none : {A : Type 0} (o : Option A) → is_none o ≡ false → (x : A) × (o ≡ Some x)
not_none None h = cc h
not_none (Some x) h = (x, refl)

pub is_it : {A : Type 0} (o : Option A) (x : A) → o ≡ Some x → is_none o ≡ false
is_it o x e = rw e refl
