-- The table of held attempts, looked at key by key.
use Rattle.std.proofs.Common.{zero, suc, ◌≡◌, ℕ, ◌≤◌, ◌||◌, ◌↔◌, Bool, true, false, List, [], ◌∷◌, length, Option, None, Some, refl, sym, ap, ◌∙◌, arith}
use Rattle.std.specs.Prelude.{option_map, filter_map, slice_index_or}
use Rattle.std.specs.List.{list_any}
use Rattle.std.proofs.lemmas.Option.{same_Some, none-some}
use Rattle.slab.specs.Slab.{Slab, get}
use Rattle.adapter_tables.specs.declared.held.Held.{Held}
use Rattle.adapter_tables.specs.Tests.{passes}
use Rattle.adapter_tables.specs.Ties.{IsKept}

abbrev pub kept_in : List (Option Held) → List Held
kept_in xs = filter_map (λ slot. slot) xs

or_right : (a b : Bool) → b ≡ true → a || b ≡ true
or_right true b e = refl
or_right false b e = e

pub any_found : (f : Held → Bool) (xs : List (Option Held)) (k : ℕ) → passes f (slice_index_or xs k None) ≡ true → list_any f (kept_in xs) ≡ true
any_found f [] k e = absurd (cc e)
any_found f (None ∷ xs) zero e = absurd (cc e)
any_found f (Some h ∷ xs) zero e = rw e refl
any_found f (None ∷ xs) (suc k) e = any_found f xs k e
any_found f (Some h ∷ xs) (suc k) e = or_right (f h) _ (any_found f xs k e)

pub any_none : (f : Held → Bool) (xs : List (Option Held)) → ((k : ℕ) → passes f (slice_index_or xs k None) ≡ false) → list_any f (kept_in xs) ≡ false
any_none f [] off = refl
any_none f (None ∷ xs) off = any_none f xs (λ k. off (suc k))
any_none f (Some h ∷ xs) off = rw (off 0) (any_none f xs (λ k. off (suc k)))

-- behind the last slot there is nothing
pub past : (xs : List (Option Held)) (k : ℕ) → length xs ≤ k → slice_index_or xs k None ≡ None
past [] k le = refl
past (x ∷ xs) zero le = absurd (omega (arith, le))
past (x ∷ xs) (suc k) le = past xs k (omega (arith, le))

from_some : (f : Held → Held) (o : Option Held) (g : Held) → option_map f o ≡ Some g → (x : Held) × (o ≡ Some x) × (f x ≡ g)
from_some f None g e = absurd (none-some g e)
from_some f (Some x) g e = (x, refl, same_Some (f x) g e)

-- each slot was changed
pub changed_kept : (f : Held → Held) (old new : Slab Held) → ((k : ℕ) → get new k ≡ option_map f (get old k))
    → (g : Held) → IsKept new g ↔ ((x : Held) × IsKept old x × (f x ≡ g))
changed_kept f old new same g = (
  (λ i. let r = from_some f (get old i.0) g (sym (same i.0) ∙ i.1) in (r.0, (i.0, r.1), r.2)),
  (λ i. (i.1.0, same i.1.0 ∙ (ap (option_map f) i.1.1 ∙ ap (λ (y : Held). Some y) i.2))),
)
