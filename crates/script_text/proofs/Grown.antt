-- Lists with one more element at their end.
use Rattle.std.proofs.Common.{◌≡◌, ℕ, Bool, true, false, not, ◌&&◌, ◌||◌, List, [], ◌∷◌, ◌++◌, refl, ◌∙◌, arith, inl, inr}
use Rattle.std.specs.Prelude.{◌==◌}
use Rattle.std.specs.List.{list_any, list_all}
use Rattle.std.proofs.lemmas.Bool.{cases_Bool, and_from, and_parts, eqb-true}
use Rattle.std.proofs.lemmas.Bool.Decides.{nat_tests}
use Rattle.std.proofs.lemmas.List.Folds.{list_any-append, list_all-append}
use Rattle.mid_base.specs.Address.{same_dev, has_dev}
use Rattle.mid_base.specs.Limits.{differ_in_address, differ_in_id}
use Rattle.mid_base.specs.declared.names.DevAddr.{DevAddr}
use Rattle.mid_base.specs.declared.host_spec.LunSpec.{LunSpec}
use Rattle.mid_base.specs.declared.host_spec.CmdSpec.{CmdSpec}
use Rattle.mid_base.specs.declared.host_spec.HostSpec.{HostSpec}
use Rattle.script_text.specs.Said.{is_id}
use Rattle.script_text.specs.Playable.{differ_in_number}

pub or_left : (a b : Bool) → a ≡ true → (a || b) ≡ true
or_left a b e = rw e refl

pub or_right : (a b : Bool) → b ≡ true → (a || b) ≡ true
or_right true b e = refl
or_right false b e = e

neither : (a b : Bool) → (a || b) ≡ false → (a ≡ false) × (b ≡ false)
neither true b e = absurd (cc)
neither false b e = (refl, e)

pub true_not : (b : Bool) → not b ≡ true → b ≡ false
true_not true e = absurd (cc)
true_not false e = refl

pub not_true : (b : Bool) → b ≡ false → not b ≡ true
not_true b e = rw e refl

pub all_where : {A : Type 0} (p q : A → Bool) → ((x : A) → p x ≡ true → q x ≡ true) → (xs : List A) → list_all p xs ≡ true → list_all q xs ≡ true
all_where p q w [] e = refl
all_where p q w (x ∷ xs) e =
    let b = and_parts (p x) (list_all p xs) e in
    and_from (q x) (list_all q xs) (w x b.0) (all_where p q w xs b.1)

pub all_more : {A : Type 0} (p : A → Bool) (xs : List A) (x : A) → list_all p xs ≡ true → p x ≡ true → list_all p (xs ++ x ∷ []) ≡ true
all_more p xs x e f = list_all-append p xs (x ∷ []) ∙ and_from (list_all p xs) (p x && true) e (and_from (p x) true f refl)

pub any_kept : {A : Type 0} (p : A → Bool) (xs ys : List A) → list_any p xs ≡ true → list_any p (xs ++ ys) ≡ true
any_kept p xs ys e = list_any-append p xs ys ∙ or_left (list_any p xs) (list_any p ys) e

none_more : {A : Type 0} (p : A → Bool) (xs : List A) (x : A) → list_any p xs ≡ false → p x ≡ false → list_any p (xs ++ x ∷ []) ≡ false
none_more p xs x e f = list_any-append p xs (x ∷ []) ∙ rw (e, f) refl

eq_symm : (a b : ℕ) → (a == b) ≡ (b == a)
eq_symm a b = grind (arith, nat_tests)

same_symm : (a b : DevAddr) → same_dev a b ≡ same_dev b a
same_symm a b = rw (eq_symm a.channel b.channel, eq_symm a.target b.target, eq_symm a.lun b.lun) refl

-- one that differs from all others, behind them
pub addresses_more : (luns : List LunSpec) (l : LunSpec) → differ_in_address luns ≡ true → has_dev luns l.dev ≡ false → differ_in_address (luns ++ l ∷ []) ≡ true
addresses_more [] l e n = refl
addresses_more (x ∷ xs) l e n =
    let a = and_parts (not (has_dev xs x.dev)) (differ_in_address xs) e in
    let b = neither (same_dev x.dev l.dev) (has_dev xs l.dev) n in
    and_from (not (has_dev (xs ++ l ∷ []) x.dev)) (differ_in_address (xs ++ l ∷ []))
    (not_true (has_dev (xs ++ l ∷ []) x.dev) (none_more (λ m. same_dev m.dev x.dev) xs l (true_not (has_dev xs x.dev) a.0) (same_symm l.dev x.dev ∙ b.0)))
    (addresses_more xs l a.1 b.1)

pub ids_more : (cmds : List CmdSpec) (k : CmdSpec) → differ_in_id cmds ≡ true → list_any (λ j. j.id.0 == k.id.0) cmds ≡ false → differ_in_id (cmds ++ k ∷ []) ≡ true
ids_more [] k e n = refl
ids_more (x ∷ xs) k e n =
    let a = and_parts (not (list_any (λ j. j.id.0 == x.id.0) xs)) (differ_in_id xs) e in
    let b = neither (x.id.0 == k.id.0) (list_any (λ j. j.id.0 == k.id.0) xs) n in
    and_from (not (list_any (λ j. j.id.0 == x.id.0) (xs ++ k ∷ []))) (differ_in_id (xs ++ k ∷ []))
    (not_true (list_any (λ j. j.id.0 == x.id.0) (xs ++ k ∷ [])) (none_more (λ j. j.id.0 == x.id.0) xs k (true_not (list_any (λ j. j.id.0 == x.id.0) xs) a.0) (eq_symm k.id.0 x.id.0 ∙ b.0)))
    (ids_more xs k a.1 b.1)

pub numbers_more : (hosts : List HostSpec) (h : HostSpec) → differ_in_number hosts ≡ true → list_any (λ g. g.no.0 == h.no.0) hosts ≡ false → differ_in_number (hosts ++ h ∷ []) ≡ true
numbers_more [] h e n = refl
numbers_more (x ∷ xs) h e n =
    let a = and_parts (not (list_any (λ g. g.no.0 == x.no.0) xs)) (differ_in_number xs) e in
    let b = neither (x.no.0 == h.no.0) (list_any (λ g. g.no.0 == h.no.0) xs) n in
    and_from (not (list_any (λ g. g.no.0 == x.no.0) (xs ++ h ∷ []))) (differ_in_number (xs ++ h ∷ []))
    (not_true (list_any (λ g. g.no.0 == x.no.0) (xs ++ h ∷ [])) (none_more (λ g. g.no.0 == x.no.0) xs h (true_not (list_any (λ g. g.no.0 == x.no.0) xs) a.0) (eq_symm h.no.0 x.no.0 ∙ b.0)))
    (numbers_more xs h a.1 b.1)

-- no command has an id that isn't known
pub unknown_id : (ids : List ℕ) (i : ℕ) (cmds : List CmdSpec) → list_all (λ k. is_id ids k.id.0) cmds ≡ true → is_id ids i ≡ false → list_any (λ j. j.id.0 == i) cmds ≡ false
unknown_id ids i [] e n = refl
unknown_id ids i (x ∷ xs) e n =
    let a = and_parts (is_id ids x.id.0) (list_all (λ k. is_id ids k.id.0) xs) e in
    elim (cases_Bool (x.id.0 == i)) [
      | inl t ↦ absurd (let same : x.id.0 ≡ i = eqb-true x.id.0 i t in let h : is_id ids i ≡ true = rw (← same) a.0 in cc)
      | inr f ↦ rw f (unknown_id ids i xs a.1 n)
    ]
