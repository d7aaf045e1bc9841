-- Texts in parts with a byte between that none of the parts has: the parts follow from the text.
use Rattle.std.proofs.Common.{◌≡◌, ℕ, ◌==◌, Bool, true, false, if◌then◌else◌, List, [], ◌∷◌, ◌++◌, refl, sym, ap, arith}
use Rattle.std.specs.Bool.{⊤}
use Rattle.std.specs.List.{join_with_byte}
use Rattle.std.proofs.lemmas.Bool.{eqb-false}
use Rattle.std.proofs.lemmas.Grind.{common_steps}

-- the byte isn't in the list
abbrev pub lacks : ℕ → List ℕ → Bool
lacks c [] = true
lacks c (x ∷ xs) = if x == c then false else lacks c xs

abbrev pub AllLack : ℕ → List (List ℕ) → Type 0
AllLack c [] = ⊤
AllLack c (w ∷ ws) = (lacks c w ≡ true) × AllLack c ws

both : (b r : Bool) → (if b then false else r) ≡ true → (b ≡ false) × (r ≡ true)
both true r h = absurd (cc)
both false r h = (refl, h)

pub lacks-append : (c : ℕ) (a b : List ℕ) → lacks c a ≡ true → lacks c b ≡ true → lacks c (a ++ b) ≡ true
lacks-append c [] b p q = q
lacks-append c (x ∷ a) b p q =
    let parts = both (x == c) (lacks c a) p in
    rw parts.0 (lacks-append c a b parts.1 q)

pub lacks-one : (c x : ℕ) → (x == c) ≡ false → lacks c (x ∷ []) ≡ true
lacks-one c x h = rw h refl

pub lacks-two : (c x y : ℕ) → (x == c) ≡ false → (y == c) ≡ false → lacks c (x ∷ y ∷ []) ≡ true
lacks-two c x y p q = rw (p, q) refl

skipped : (b r : Bool) → r ≡ false → (if b then false else r) ≡ false
skipped true r h = refl
skipped false r h = h

has : (c : ℕ) (w y : List ℕ) → lacks c (w ++ (c ∷ y)) ≡ false
has c [] y = grind (arith, common_steps)
has c (b ∷ w) y = skipped (b == c) (lacks c (w ++ (c ∷ y))) (has c w y)

-- a part doesn't go on past the byte
inside : (c : ℕ) (v w y : List ℕ) → lacks c v ≡ true → v ≡ w ++ (c ∷ y) → ⊥
inside c v w y p h =
    let here : lacks c v ≡ lacks c (w ++ (c ∷ y)) = ap (lacks c) h in
    let there : lacks c (w ++ (c ∷ y)) ≡ false = has c w y in
    absurd (cc)

pub cut : (c : ℕ) (v w x y : List ℕ) → lacks c v ≡ true → lacks c w ≡ true → v ++ (c ∷ x) ≡ w ++ (c ∷ y) → (v ≡ w) × (x ≡ y)
cut c [] [] x y p q h = (refl, cc)
cut c [] (b ∷ w) x y p q h = let e : b ≡ c = cc in absurd (eqb-false b c (both (b == c) (lacks c w) q).0 e)
cut c (a ∷ v) [] x y p q h = let e : a ≡ c = cc in absurd (eqb-false a c (both (a == c) (lacks c v) p).0 e)
cut c (a ∷ v) (b ∷ w) x y p q h =
    let first : a ≡ b = cc in
    let later : v ++ (c ∷ x) ≡ w ++ (c ∷ y) = cc in
    let rest = cut c v w x y (both (a == c) (lacks c v) p).1 (both (b == c) (lacks c w) q).1 later in
    let same : ◌≡◌ {A = List ℕ} (a ∷ v) (b ∷ w) = cc in
    (same, rest.1)

pub same_parts : (c : ℕ) (v w : List ℕ) (vs ws : List (List ℕ)) → AllLack c (v ∷ vs) → AllLack c (w ∷ ws)
    → join_with_byte c (v ∷ vs) ≡ join_with_byte c (w ∷ ws) → ◌≡◌ {A = List (List ℕ)} (v ∷ vs) (w ∷ ws)
same_parts c v w [] [] p q h = ap (λ (t : List ℕ). t ∷ []) h
same_parts c v w [] (w2 ∷ ws) p q h = absurd (inside c v w (join_with_byte c (w2 ∷ ws)) p.0 h)
same_parts c v w (v2 ∷ vs) [] p q h = absurd (inside c w v (join_with_byte c (v2 ∷ vs)) q.0 (sym h))
same_parts c v w (v2 ∷ vs) (w2 ∷ ws) p q h =
    let first = cut c v w (join_with_byte c (v2 ∷ vs)) (join_with_byte c (w2 ∷ ws)) p.0 q.0 h in
    let rest = same_parts c v2 w2 vs ws p.1 q.1 first.1 in
    cc
