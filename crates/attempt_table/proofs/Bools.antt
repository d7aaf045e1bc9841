-- Small facts on tests.
use Rattle.std.proofs.Common.{◌≡◌, ◌≢◌, ℕ, ◌==◌, Bool, true, false, not, ◌&&◌, ◌||◌, cond, Option, Some, None, is_some, refl, ◌∙◌}
use Rattle.std.specs.Prelude.{option_map}
use Rattle.std.proofs.lemmas.Bool.{ne_eqb, eq-eqb}

pub same : (n : ℕ) → (n == n) ≡ true
same n = eq-eqb n n refl

pub differ : {m n : ℕ} → m ≢ n → (m == n) ≡ false
differ {m} {n} ne = ne_eqb m n ne

pub and_false : (b : Bool) → b && false ≡ false
and_false true = refl
and_false false = refl

pub and_true : (b : Bool) → b && true ≡ b
and_true true = refl
and_true false = refl

pub and_first : (a b : Bool) → a && b ≡ true → a ≡ true
and_first true b h = refl
and_first false b h = h

pub and_second : (a b : Bool) → a && b ≡ true → b ≡ true
and_second true b h = h
and_second false b h = cc

pub not_true : (a : Bool) → not a ≡ true → a ≡ false
not_true true h = cc
not_true false h = refl

pub or_first : (a b : Bool) → a ≡ true → a || b ≡ true
or_first true b h = refl
or_first false b h = cc

pub or_second : (a b : Bool) → b ≡ true → a || b ≡ true
or_second true b h = refl
or_second false b h = h

-- what an answer would be good for: `o` says that an attempt is open, `t` that it is answered
pub wanted_by : (o t x c : Bool) → o ≡ x → o && t ≡ x && c → o && not t ≡ x && not c
wanted_by false t x c h k = rw (← h) refl
wanted_by true true true true h k = refl
wanted_by true true true false h k = cc
wanted_by true true false c h k = cc
wanted_by true false true true h k = cc
wanted_by true false true false h k = refl
wanted_by true false false c h k = cc

-- an answer that isn't wanted leaves what is answered; `b` says that it is of this attempt
pub strays : (b o t c : Bool) → (b ≡ true → o && not t ≡ false) → o && t ≡ c → o && cond b true t ≡ c
strays false o t c h k = k
strays true true true c h k = k
strays true true false c h k = h refl ∙ k
strays true false t c h k = k

pub unwanted_by : (b w : Bool) → (b ≡ true → w ≡ false) → b && w ≡ false
unwanted_by true w h = h refl
unwanted_by false w h = refl

pub some_map : {A B : Type 0} (f : A → B) (o : Option A) → is_some (option_map f o) ≡ is_some o
some_map f None = refl
some_map f (Some x) = refl
