-- Hosts by their numbers, and the lanes of their commands.
use Rattle.std.proofs.Common.{◌≡◌, ℕ, ◌<◌, ◌≤◌, Bool, false, List, [], ◌∷◌, length, Some, None, get_or, set, replicate, refl, ap, subst, arith, inl, inr, one-add}
use Rattle.std.specs.Prelude.{◌==◌, nat_lt}
use Rattle.std.specs.List.{position, position_or_len}
use Rattle.std.proofs.lemmas.Bool.{cases_Bool, cases_lt, lt-ltb, eqb-true}
use Rattle.std.proofs.lemmas.Bool.Decides.{nat_tests}
use Rattle.std.proofs.lemmas.List.{get_or-replicate}
use Rattle.mid_base.specs.declared.host_spec.HostSpec.{HostSpec}
use Rattle.script_text.specs.Said.{is_host, host_of, on_host, has_lane}

-- a change at the first place is one of the host with that number
on_first : (n : ℕ) (f : HostSpec → HostSpec) (hs : List HostSpec) (d : HostSpec) → position_or_len (is_host n) hs < length hs → set hs (position_or_len (is_host n) hs) (f (get_or hs (position_or_len (is_host n) hs) d)) ≡ on_host n f hs
on_first n f [] d some = absurd (omega arith)
on_first n f (x ∷ xs) d some =
    elim (cases_Bool (x.no.0 == n)) [
      | inl t ↦ rw t refl
      | inr g ↦ let below = rw (g, one-add) at some in rw (g, one-add) (ap (λ (ys : List HostSpec). x ∷ ys) (on_first n f xs d (omega (arith, below))))
    ]

place_parts : (p : HostSpec → Bool) (hs : List HostSpec) (i : ℕ) → position p hs ≡ Some i → (position_or_len p hs < length hs) × (i ≡ position_or_len p hs)
place_parts p hs i e =
    elim (cases_lt (position_or_len p hs) (length hs)) [
      | inl lt ↦ let h = rw (lt-ltb (position_or_len p hs) (length hs) lt) at e in (lt, cc h)
      | inr le ↦ absurd (let f : nat_lt (position_or_len p hs) (length hs) ≡ false = grind (arith, nat_tests) in let h = rw f at e in cc h)
    ]

pub place_below : (n : ℕ) (hs : List HostSpec) (i : ℕ) → position (is_host n) hs ≡ Some i → i < length hs
place_below n hs i e = let p = place_parts (is_host n) hs i e in omega (arith, p.0, p.1)

pub changed : (n : ℕ) (f : HostSpec → HostSpec) (hs : List HostSpec) (i : ℕ) (d new : HostSpec) → position (is_host n) hs ≡ Some i → new ≡ f (get_or hs i d) → set hs i new ≡ on_host n f hs
changed n f hs i d new e made =
    let p = place_parts (is_host n) hs i e in
    rw (made, p.1) (on_first n f hs d p.0)

on_absent : (n : ℕ) (f : HostSpec → HostSpec) (hs : List HostSpec) → length hs ≤ position_or_len (is_host n) hs → hs ≡ on_host n f hs
on_absent n f [] none = refl
on_absent n f (x ∷ xs) none =
    elim (cases_Bool (x.no.0 == n)) [
      | inl t ↦ absurd (let h = rw t at none in omega (arith, h))
      | inr g ↦ let below = rw (g, one-add) at none in rw g (ap (λ (ys : List HostSpec). x ∷ ys) (on_absent n f xs (omega (arith, below))))
    ]

-- without such a host nothing changes
pub on_none : (n : ℕ) (f : HostSpec → HostSpec) (hs : List HostSpec) → position (is_host n) hs ≡ None → hs ≡ on_host n f hs
on_none n f hs e =
    elim (cases_lt (position_or_len (is_host n) hs) (length hs)) [
      | inl lt ↦ absurd (let h = rw (lt-ltb (position_or_len (is_host n) hs) (length hs) lt) at e in cc h)
      | inr le ↦ on_absent n f hs (omega arith)
    ]

-- a host that was found has the number
pub found_is : (n : ℕ) (hs : List HostSpec) (h : HostSpec) → host_of hs n ≡ Some h → h.no.0 ≡ n
found_is n [] h e = absurd (cc)
found_is n (x ∷ xs) h e =
    elim (cases_Bool (x.no.0 == n)) [
      | inl t ↦ let here = rw t at e in let same : x ≡ h = cc here in subst (λ (y : HostSpec). y.no.0 ≡ n) same (eqb-true x.no.0 n t)
      | inr g ↦ found_is n xs h (rw g at e)
    ]

-- without commands no lane has one
pub no_lanes : (n : ℕ) → n < 64 → get_or (replicate 64 false) n false ≡ has_lane [] n
no_lanes n below = get_or-replicate 64 n false false below
