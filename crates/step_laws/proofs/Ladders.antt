-- The pairs of a ladder: those of level 8 stand last, each once, and the next act leaves none of them behind.
use Rattle.std.proofs.Common.{eq-eqb, ◌≡◌, ◌⊎◌, ℕ, ◌<◌, ◌≤◌, ◌==◌, Bool, true, false, not, ◌&&◌, map, List, [], ◌∷◌, ◌++◌, refl, sym, ◌∙◌, subst, ap, inl, inr, ⊎_elim, Option, None, Some, find, nat_le, nat_lt, le-leb, leb-true, ltb-true, ltb-false, arith, append_assoc}
use Rattle.std.specs.Prelude.{⊤}
use Rattle.std.specs.List.{list_all, list_any}
use Rattle.std.proofs.lemmas.Bool.{eqb-true, cases_Bool, and_parts, and_from, not-true, not-false, or_right, or_left, or_parts, or_from, or_cases, false_from_ne_true}
use Rattle.std.proofs.lemmas.Option.{none-some, same_Some}
use Rattle.mid_base.specs.declared.names.DevAddr.{DevAddr}
use Rattle.mid_base.specs.declared.answers.Scope.{Scope}
use Rattle.mid_base.specs.declared.answers.Scope.TheVariants.{Cmd, Dev, Target, Bus, Host}
use Rattle.mid_base.specs.Address.{same_dev}
use Rattle.disposition.specs.declared.todo.Todo.{Todo}
use Rattle.disposition.specs.Ladder.{address, with_dev, devs, Pair, pairs, same_scope, same_pair, beyond_pair, beyond}
use Rattle.step_laws.proofs.Places.{same_dev_is, same_dev_itself}

-- devices in address order

abbrev from_on : ℕ → List DevAddr → Bool
from_on a ds = list_all (λ e. nat_le a (address e)) ds

abbrev Ordered : List DevAddr → Type 0
Ordered [] = ⊤
Ordered (d ∷ ds) = (from_on (address d) ds ≡ true) × (list_any (same_dev d) ds ≡ false) × Ordered ds

from_less : (a b : ℕ) (ds : List DevAddr) → a ≤ b → from_on b ds ≡ true → from_on a ds ≡ true
from_less a b [] le h = refl
from_less a b (e ∷ ds) le h =
    let parts = and_parts (nat_le b (address e)) (from_on b ds) h in
    and_from (nat_le a (address e)) (from_on a ds) (le-leb a (address e) (omega (arith, le, leb-true b (address e) parts.0))) (from_less a b ds le parts.1)

from_with : (a : ℕ) (d : DevAddr) (ds : List DevAddr) → nat_le a (address d) ≡ true → from_on a ds ≡ true → from_on a (with_dev d ds) ≡ true
from_with a d [] le h = and_from (nat_le a (address d)) true le refl
from_with a d (e ∷ ds) le h =
    let parts = and_parts (nat_le a (address e)) (from_on a ds) h in
    ⊎_elim
    (λ same. rw same h)
    (λ other. ⊎_elim
    (λ less. rw other (rw less (and_from (nat_le a (address d)) (from_on a (e ∷ ds)) le h)))
    (λ more. rw other (rw more (and_from (nat_le a (address e)) (from_on a (with_dev d ds)) parts.0 (from_with a d ds le parts.1))))
    (cases_Bool (nat_lt (address d) (address e))))
    (cases_Bool (same_dev d e))

-- no device of a higher address is the same
none_above : (d : DevAddr) (a : ℕ) (ds : List DevAddr) → address d < a → from_on a ds ≡ true → list_any (same_dev d) ds ≡ false
none_above d a [] lt h = refl
none_above d a (e ∷ ds) lt h =
    let parts = and_parts (nat_le a (address e)) (from_on a ds) h in
    let le : a ≤ address e = leb-true a (address e) parts.0 in
    or_from (same_dev d e) (list_any (same_dev d) ds)
    (false_from_ne_true (same_dev d e) (λ same. apart (address d) (address e) a lt le (ap address (same_dev_is d e same))))
    (none_above d a ds lt parts.1)
  where
    apart : (x y b : ℕ) → x < b → b ≤ y → x ≡ y → ⊥
    apart x y b p q e = absurd (omega (arith, p, q, e))

none_with : (x d : DevAddr) (ds : List DevAddr) → same_dev x d ≡ false → list_any (same_dev x) ds ≡ false → list_any (same_dev x) (with_dev d ds) ≡ false
none_with x d [] n h = or_from (same_dev x d) false n refl
none_with x d (e ∷ ds) n h =
    let parts = or_parts (same_dev x e) (list_any (same_dev x) ds) h in
    ⊎_elim
    (λ same. rw same h)
    (λ other. ⊎_elim
    (λ less. rw other (rw less (or_from (same_dev x d) (list_any (same_dev x) (e ∷ ds)) n h)))
    (λ more. rw other (rw more (or_from (same_dev x e) (list_any (same_dev x) (with_dev d ds)) parts.0 (none_with x d ds n parts.1))))
    (cases_Bool (nat_lt (address d) (address e))))
    (cases_Bool (same_dev d e))

turned : (d e : DevAddr) → same_dev d e ≡ false → same_dev e d ≡ false
turned d e n = false_from_ne_true (same_dev e d) (λ same. cc (sym n ∙ subst (λ (x : DevAddr). same_dev x e ≡ true) (same_dev_is e d same) (same_dev_itself e)))

with_ordered : (d : DevAddr) (ds : List DevAddr) → Ordered ds → Ordered (with_dev d ds)
with_ordered d [] h = (refl, refl, tt)
with_ordered d (e ∷ ds) h = ⊎_elim
    (λ same. rw same h)
    (λ other. ⊎_elim
    (λ less.
    let lt : address d < address e = ltb-true (address d) (address e) less in
    let up : from_on (address e) (e ∷ ds) ≡ true = and_from (nat_le (address e) (address e)) (from_on (address e) ds) (le-leb (address e) (address e) (itself (address e))) h.0 in
    rw other (rw less (from_less (address d) (address e) (e ∷ ds) (weak (address d) (address e) lt) up, none_above d (address e) (e ∷ ds) lt up, h)))
    (λ more.
    rw other (rw more (from_with (address e) d ds (le-leb (address e) (address d) (ltb-false (address d) (address e) more)) h.0, none_with e d ds (turned d e other) h.1, with_ordered d ds h.2)))
    (cases_Bool (nat_lt (address d) (address e))))
    (cases_Bool (same_dev d e))
  where
    itself : (a : ℕ) → a ≤ a
    itself a = omega arith

    weak : (a b : ℕ) → a < b → a ≤ b
    weak a b l = omega (arith, l)

devs_ordered : (xs : List Todo) → Ordered (devs xs)
devs_ordered [] = tt
devs_ordered (x ∷ xs) = with_ordered x.dev (devs xs) (devs_ordered xs)

-- a device that is put in is there, and the others stay
pub with_there : (d : DevAddr) (ds : List DevAddr) → list_any (same_dev d) (with_dev d ds) ≡ true
with_there d [] = or_left (same_dev d d) false (same_dev_itself d)
with_there d (e ∷ ds) = ⊎_elim
    (λ same. rw same (or_left (same_dev d e) (list_any (same_dev d) ds) same))
    (λ other. ⊎_elim
    (λ less. rw other (rw less (or_left (same_dev d d) (list_any (same_dev d) (e ∷ ds)) (same_dev_itself d))))
    (λ more. rw other (rw more (or_right (same_dev d e) (list_any (same_dev d) (with_dev d ds)) (with_there d ds))))
    (cases_Bool (nat_lt (address d) (address e))))
    (cases_Bool (same_dev d e))

pub with_stays : (x d : DevAddr) (ds : List DevAddr) → list_any (same_dev x) ds ≡ true → list_any (same_dev x) (with_dev d ds) ≡ true
with_stays x d [] h = cc h
with_stays x d (e ∷ ds) h = ⊎_elim
    (λ same. rw same h)
    (λ other. ⊎_elim
    (λ less. rw other (rw less (or_right (same_dev x d) (list_any (same_dev x) (e ∷ ds)) h)))
    (λ more. rw other (rw more (⊎_elim
    (λ here. or_left (same_dev x e) (list_any (same_dev x) (with_dev d ds)) here)
    (λ later. or_right (same_dev x e) (list_any (same_dev x) (with_dev d ds)) (with_stays x d ds later))
    (or_cases (same_dev x e) (list_any (same_dev x) ds) h))))
    (cases_Bool (nat_lt (address d) (address e))))
    (cases_Bool (same_dev d e))

-- level 8 is last

abbrev is_last : Pair → Bool
is_last p = p.0 == 8

abbrev is_early : Pair → Bool
is_early p = not (p.0 == 8)

abbrev pub lost : DevAddr → Pair
lost d = (8, Dev d)

record Split (ps : List Pair) (ds : List DevAddr) : Type 0 where
  pre : List Pair
  parts : ps ≡ pre ++ map lost ds
  early : list_all is_early pre ≡ true

map_early : {A : Type 0} (f : A → Pair) (xs : List A) → ((x : A) → is_early (f x) ≡ true) → list_all is_early (map f xs) ≡ true
map_early f [] h = refl
map_early f (x ∷ xs) h = and_from (is_early (f x)) (list_all is_early (map f xs)) (h x) (map_early f xs h)

append_early : (ps qs : List Pair) → list_all is_early ps ≡ true → list_all is_early qs ≡ true → list_all is_early (ps ++ qs) ≡ true
append_early [] qs h k = k
append_early (p ∷ ps) qs h k = let parts = and_parts (is_early p) (list_all is_early ps) h in and_from (is_early p) (list_all is_early (ps ++ qs)) parts.0 (append_early ps qs parts.1 k)

before : (seg ps : List Pair) (ds : List DevAddr) → list_all is_early seg ≡ true → Split ps ds → Split (seg ++ ps) ds
before seg ps ds e h = record {
  pre = seg ++ h.pre;
  parts = ap (λ (r : List Pair). seg ++ r) h.parts ∙ sym (append_assoc seg h.pre (map lost ds));
  early = append_early seg h.pre e h.early;
}

pairs_split : (xs : List Todo) → Split (pairs xs) (devs xs)
pairs_split xs =
    let cmds : List Scope = map (λ (x : Todo). Cmd x.cmd) xs in
    let ds : List DevAddr = devs xs in
    let fetches : List Pair = map (λ (c : Scope). (1, c)) cmds in
    let aborts : List Pair = map (λ (c : Scope). (2, c)) cmds in
    let starts : List Pair = map (λ (d : DevAddr). (3, Dev d)) ds in
    let devices : List Pair = map (λ (d : DevAddr). (4, Dev d)) ds in
    let targets : List Pair = map (λ (d : DevAddr). (5, Target d.channel d.target)) ds in
    let buses : List Pair = map (λ (d : DevAddr). (6, Bus d.channel)) ds in
    let end : List Pair = (7, Host) ∷ map lost ds in
    before fetches (aborts ++ (starts ++ (devices ++ (targets ++ (buses ++ end))))) ds (map_early (λ (c : Scope). (1, c)) cmds (λ c. refl))
    (before aborts (starts ++ (devices ++ (targets ++ (buses ++ end)))) ds (map_early (λ (c : Scope). (2, c)) cmds (λ c. refl))
    (before starts (devices ++ (targets ++ (buses ++ end))) ds (map_early (λ (d : DevAddr). (3, Dev d)) ds (λ d. refl))
    (before devices (targets ++ (buses ++ end)) ds (map_early (λ (d : DevAddr). (4, Dev d)) ds (λ d. refl))
    (before targets (buses ++ end) ds (map_early (λ (d : DevAddr). (5, Target d.channel d.target)) ds (λ d. refl))
    (before buses end ds (map_early (λ (d : DevAddr). (6, Bus d.channel)) ds (λ d. refl))
    (record { pre = (7, Host) ∷ []; parts = refl; early = refl }))))))

any_append : (f : Pair → Bool) (ps qs : List Pair) → list_any f qs ≡ true → list_any f (ps ++ qs) ≡ true
any_append f [] qs h = h
any_append f (p ∷ ps) qs h = or_right (f p) (list_any f (ps ++ qs)) (any_append f ps qs h)

append_any : (f : Pair → Bool) (ps qs : List Pair) → list_any f (ps ++ qs) ≡ true → (list_any f ps ≡ true) ⊎ (list_any f qs ≡ true)
append_any f [] qs h = inr h
append_any f (p ∷ ps) qs h = ⊎_elim
    (λ here. inl (or_left (f p) (list_any f ps) here))
    (λ later. ⊎_elim (λ y. inl (or_right (f p) (list_any f ps) y)) (λ z. inr z) (append_any f ps qs later))
    (or_cases (f p) (list_any f (ps ++ qs)) h)

lost_among : (d : DevAddr) (ds : List DevAddr) → list_any (same_dev d) ds ≡ true → list_any (same_pair (lost d)) (map lost ds) ≡ true
lost_among d [] h = cc h
lost_among d (e ∷ ds) h = ⊎_elim
    (λ here. or_left (same_dev d e) (list_any (same_pair (lost d)) (map lost ds)) here)
    (λ later. or_right (same_dev d e) (list_any (same_pair (lost d)) (map lost ds)) (lost_among d ds later))
    (or_cases (same_dev d e) (list_any (same_dev d) ds) h)

-- the level 8 pair of a device is among the pairs
pub lost_in : (d : DevAddr) (xs : List Todo) → list_any (same_dev d) (devs xs) ≡ true → list_any (same_pair (lost d)) (pairs xs) ≡ true
lost_in d xs h =
    let split = pairs_split xs in
    subst (λ (ps : List Pair). list_any (same_pair (lost d)) ps ≡ true) (sym split.parts) (any_append (same_pair (lost d)) split.pre (map lost (devs xs)) (lost_among d (devs xs) h))

-- pairs that are the same

same_scope_itself : (x : Scope) → same_scope x x ≡ true
same_scope_itself (Cmd c) = eq-eqb c.0 c.0 refl
same_scope_itself (Dev d) = same_dev_itself d
same_scope_itself (Target c t) = and_from (c == c) (t == t) (eq-eqb c c refl) (eq-eqb t t refl)
same_scope_itself (Bus c) = eq-eqb c c refl
same_scope_itself Host = refl

same_pair_itself : (p : Pair) → same_pair p p ≡ true
same_pair_itself p = and_from (p.0 == p.0) (same_scope p.1 p.1) (eq-eqb p.0 p.0 refl) (same_scope_itself p.1)

dev_scope : (d : DevAddr) (y : Scope) → same_scope (Dev d) y ≡ true → y ≡ Dev d
dev_scope d (Dev e) h = ap (λ (x : DevAddr). Dev x) (sym (same_dev_is d e h))
dev_scope d (Cmd c) h = cc h
dev_scope d (Target c t) h = cc h
dev_scope d (Bus c) h = cc h
dev_scope d Host h = cc h

abbrev pair : ℕ → Scope → Pair
pair n y = (n, y)

pub same_lost : (d : DevAddr) (r : Pair) → same_pair (lost d) r ≡ true → r ≡ lost d
same_lost d r h =
    let parts = and_parts (8 == r.0) (same_scope (Dev d) r.1) h in
    ap (λ (n : ℕ). pair n r.1) (sym (eqb-true 8 r.0 parts.0)) ∙ ap (λ (y : Scope). pair 8 y) (dev_scope d r.1 parts.1)

-- a pair of another level isn't among those of level 8, and none of level 8 is among the others
none_lost : (p : Pair) (ds : List DevAddr) → is_last p ≡ false → list_any (same_pair p) (map lost ds) ≡ false
none_lost p [] n = refl
none_lost p (d ∷ ds) n = or_from (same_pair p (lost d)) (list_any (same_pair p) (map lost ds)) (rw n refl) (none_lost p ds n)

none_early : (d : DevAddr) (ps : List Pair) → list_all is_early ps ≡ true → list_any (same_pair (lost d)) ps ≡ true → ⊥
none_early d [] e h = cc h
none_early d (p ∷ ps) e h =
    let parts = and_parts (is_early p) (list_all is_early ps) e in
    ⊎_elim
    (λ here. cc (sym (not-true _ parts.0) ∙ eq-eqb p.0 8 (sym (eqb-true 8 p.0 (and_parts (8 == p.0) (same_scope (Dev d) p.1) here).0))))
    (λ later. none_early d ps parts.1 later)
    (or_cases (same_pair (lost d) p) (list_any (same_pair (lost d)) ps) h)

-- each of level 8 stands once
abbrev Once8 : List Pair → Type 0
Once8 [] = ⊤
Once8 (p ∷ ps) = (is_last p ≡ true → list_any (same_pair p) ps ≡ false) × Once8 ps

lost_none : (d : DevAddr) (ds : List DevAddr) → list_any (same_dev d) ds ≡ false → list_any (same_pair (lost d)) (map lost ds) ≡ false
lost_none d [] h = refl
lost_none d (e ∷ ds) h = let parts = or_parts (same_dev d e) (list_any (same_dev d) ds) h in or_from (same_dev d e) (list_any (same_pair (lost d)) (map lost ds)) parts.0 (lost_none d ds parts.1)

lost_once : (ds : List DevAddr) → Ordered ds → Once8 (map lost ds)
lost_once [] h = tt
lost_once (d ∷ ds) h = (λ l. lost_none d ds h.1, lost_once ds h.2)

early_once : (ps qs : List Pair) → list_all is_early ps ≡ true → Once8 qs → Once8 (ps ++ qs)
early_once [] qs e h = h
early_once (p ∷ ps) qs e h =
    let parts = and_parts (is_early p) (list_all is_early ps) e in
    (λ l. absurd (cc (sym (not-true _ parts.0) ∙ l)), early_once ps qs parts.1 h)

pairs_once : (xs : List Todo) → Once8 (pairs xs)
pairs_once xs =
    let split = pairs_split xs in
    subst Once8 (sym split.parts) (early_once split.pre (map lost (devs xs)) split.early (lost_once (devs xs) (devs_ordered xs)))

none_behind : (p : Pair) (xs post : List Pair) → is_last p ≡ true → Once8 (xs ++ p ∷ post) → list_any (same_pair p) post ≡ false
none_behind p [] post l h = h.0 l
none_behind p (x ∷ xs) post l h = none_behind p xs post l h.1

-- what is beyond a pair

beyond_sub : (f : Pair → Bool) (p : Pair) (ps : List Pair) → list_any f (beyond_pair p ps) ≡ true → list_any f ps ≡ true
beyond_sub f p [] h = cc h
beyond_sub f p (q ∷ ps) h = ⊎_elim
    (λ yes. or_right (f q) (list_any f ps) (rw yes at h))
    (λ no. or_right (f q) (list_any f ps) (beyond_sub f p ps (rw no at h)))
    (cases_Bool (same_pair p q && not (list_any (same_pair p) ps)))

from_sub : (f : Pair → Bool) (last : Option Pair) (ps : List Pair) → list_any f (beyond last ps) ≡ true → list_any f ps ≡ true
from_sub f None ps h = h
from_sub f (Some p) ps h = beyond_sub f p ps h

-- a list is the end of another
abbrev Ends : List Pair → List Pair → Type 0
Ends qs ps = (pre : List Pair) × (ps ≡ pre ++ qs)

beyond_ends : (p : Pair) (ps : List Pair) → Ends (beyond_pair p ps) ps
beyond_ends p [] = ([], refl)
beyond_ends p (q ∷ ps) = ⊎_elim
    (λ yes. rw yes (q ∷ [], refl))
    (λ no. let rest = beyond_ends p ps in rw no (q ∷ rest.0, ap (λ (r : List Pair). q ∷ r) rest.1))
    (cases_Bool (same_pair p q && not (list_any (same_pair p) ps)))

from_ends : (last : Option Pair) (ps : List Pair) → Ends (beyond last ps) ps
from_ends None ps = ([], refl)
from_ends (Some p) ps = beyond_ends p ps

found_among : (f : Pair → Bool) (ps : List Pair) (p : Pair) → find f ps ≡ Some p → list_any (same_pair p) ps ≡ true
found_among f [] p e = absurd (none-some p e)
found_among f (q ∷ ps) p e = ⊎_elim
    (λ yes. or_left (same_pair p q) (list_any (same_pair p) ps) (subst (λ (r : Pair). same_pair p r ≡ true) (sym (same_Some q p (rw yes at e))) (same_pair_itself p)))
    (λ no. or_right (same_pair p q) (list_any (same_pair p) ps) (found_among f ps p (rw no at e)))
    (cases_Bool (f q))

-- where a pair of another level is the next one, all of level 8 is beyond it
front_beyond : (p q : Pair) (pre qs : List Pair) → list_any (same_pair p) pre ≡ true → list_any (same_pair p) qs ≡ false → list_any (same_pair q) qs ≡ true → list_any (same_pair q) (beyond_pair p (pre ++ qs)) ≡ true
front_beyond p q [] qs h n k = cc h
front_beyond p q (r ∷ pre) qs h n k = ⊎_elim
    (λ yes. rw yes (any_append (same_pair q) pre qs k))
    (λ no. rw no (front_beyond p q pre qs
    (⊎_elim
    (λ here.
    let more : list_any (same_pair p) (pre ++ qs) ≡ true = not-false _ (rw here at no) in
    ⊎_elim (λ y. y) (λ z. absurd (cc (sym n ∙ z))) (append_any (same_pair p) pre qs more))
    (λ later. later)
    (or_cases (same_pair p r) (list_any (same_pair p) pre) h))
    n k))
    (cases_Bool (same_pair p r && not (list_any (same_pair p) (pre ++ qs))))

-- where one of level 8 is next, what stands behind it is beyond it
after_found : (f : Pair → Bool) (d : DevAddr) (ms : List Pair) (p : Pair) → find f ms ≡ Some p → f (lost d) ≡ true → same_pair (lost d) p ≡ false → list_any (same_pair (lost d)) ms ≡ true
    → (pre : List Pair) × (post : List Pair) × (ms ≡ pre ++ p ∷ post) × (list_any (same_pair (lost d)) post ≡ true)
after_found f d [] p e w n h = cc h
after_found f d (r ∷ ms) p e w n h = ⊎_elim
    (λ yes.
    let same : r ≡ p = same_Some r p (rw yes at e) in
    ([], ms, ap (λ (x : Pair). x ∷ ms) same, ⊎_elim (λ here. absurd (cc (sym n ∙ subst (λ (x : Pair). same_pair (lost d) x ≡ true) same here))) (λ later. later) (or_cases (same_pair (lost d) r) _ h)))
    (λ no.
    let later : list_any (same_pair (lost d)) ms ≡ true = ⊎_elim (λ here. absurd (cc (sym no ∙ subst (λ (x : Pair). f x ≡ true) (sym (same_lost d r here)) w))) (λ l. l) (or_cases (same_pair (lost d) r) _ h) in
    let rest = after_found f d ms p (rw no at e) w n later in
    (r ∷ rest.0, rest.1, ap (λ (x : List Pair). r ∷ x) rest.2, rest.3))
    (cases_Bool (f r))

behind_beyond : (p : Pair) (xs post : List Pair) → list_any (same_pair p) post ≡ false → beyond_pair p (xs ++ p ∷ post) ≡ post
behind_beyond p [] post n = rw (same_pair_itself p, n) refl
behind_beyond p (x ∷ xs) post n =
    let more : list_any (same_pair p) (xs ++ p ∷ post) ≡ true = any_append (same_pair p) xs (p ∷ post) (or_left (same_pair p p) (list_any (same_pair p) post) (same_pair_itself p)) in
    let no : same_pair p x && not (list_any (same_pair p) (xs ++ p ∷ post)) ≡ false = rw more (never (same_pair p x)) in
    rw no (behind_beyond p xs post n)
  where
    never : (b : Bool) → b && false ≡ false
    never true = refl
    never false = refl

-- the next act leaves no wanted device of level 8 behind
pub stays_beyond : (f : Pair → Bool) (d : DevAddr) (last : Option Pair) (xs : List Todo) (p : Pair) → find f (beyond last (pairs xs)) ≡ Some p → f (lost d) ≡ true → same_pair (lost d) p ≡ false
    → list_any (same_pair (lost d)) (beyond last (pairs xs)) ≡ true → list_any (same_pair (lost d)) (beyond_pair p (pairs xs)) ≡ true
stays_beyond f d last xs p e w n h = ⊎_elim
    (λ eight.
    let ends = from_ends last (pairs xs) in
    let found = after_found f d (beyond last (pairs xs)) p e w n h in
    let parts : pairs xs ≡ (ends.0 ++ found.0) ++ p ∷ found.1 = ends.1 ∙ (ap (λ (r : List Pair). ends.0 ++ r) found.2 ∙ sym (append_assoc ends.0 found.0 (p ∷ found.1))) in
    let single : list_any (same_pair p) found.1 ≡ false = none_behind p (ends.0 ++ found.0) found.1 eight (subst Once8 parts (pairs_once xs)) in
    subst (λ (ps : List Pair). list_any (same_pair (lost d)) (beyond_pair p ps) ≡ true) (sym parts)
    (subst (λ (ps : List Pair). list_any (same_pair (lost d)) ps ≡ true) (sym (behind_beyond p (ends.0 ++ found.0) found.1 single)) found.3))
    (λ other.
    let split = pairs_split xs in
    let ls : List Pair = map lost (devs xs) in
    let there : list_any (same_pair p) (split.pre ++ ls) ≡ true = subst (λ (ps : List Pair). list_any (same_pair p) ps ≡ true) split.parts (from_sub (same_pair p) last (pairs xs) (found_among f (beyond last (pairs xs)) p e)) in
    let early : list_any (same_pair p) split.pre ≡ true = ⊎_elim (λ y. y) (λ z. absurd (cc (sym (none_lost p (devs xs) other) ∙ z))) (append_any (same_pair p) split.pre ls there) in
    let mine : list_any (same_pair (lost d)) (split.pre ++ ls) ≡ true = subst (λ (ps : List Pair). list_any (same_pair (lost d)) ps ≡ true) split.parts (from_sub (same_pair (lost d)) last (pairs xs) h) in
    let late : list_any (same_pair (lost d)) ls ≡ true = ⊎_elim (λ y. absurd (none_early d split.pre split.early y)) (λ z. z) (append_any (same_pair (lost d)) split.pre ls mine) in
    subst (λ (ps : List Pair). list_any (same_pair (lost d)) (beyond_pair p ps) ≡ true) (sym split.parts) (front_beyond p (lost d) split.pre ls early (none_lost p (devs xs) other) late))
    (cases_Bool (is_last p))

found_later : (f : Pair → Bool) (r : Pair) (ms : List Pair) (p : Pair) → f r ≡ false → find f ms ≡ Some p → find f (r ∷ ms) ≡ Some p
found_later f r ms p n e = rw n e

-- where a wanted one is left, there is a next one
pub some_next : (f : Pair → Bool) (d : DevAddr) (ms : List Pair) → f (lost d) ≡ true → list_any (same_pair (lost d)) ms ≡ true → (p : Pair) × (find f ms ≡ Some p)
some_next f d [] w h = cc h
some_next f d (r ∷ ms) w h = ⊎_elim
    (λ yes. (r, rw yes refl))
    (λ no.
    let later : list_any (same_pair (lost d)) ms ≡ true = ⊎_elim (λ here. absurd (cc (sym no ∙ subst (λ (x : Pair). f x ≡ true) (sym (same_lost d r here)) w))) (λ l. l) (or_cases (same_pair (lost d) r) _ h) in
    let rest = some_next f d ms w later in
    (rest.0, found_later f r ms rest.0 no rest.1))
    (cases_Bool (f r))
