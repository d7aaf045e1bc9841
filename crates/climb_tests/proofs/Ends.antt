-- A climb comes to its end: each act passes one that is ahead, and what is left are the commands that none has cleared.
use Rattle.std.proofs.Common.{◌≡◌, ◌≤◌, ◌<◌, ℕ, suc, ◌+◌, ◌*◌, Bool, true, false, not, ◌&&◌, ◌||◌, List, [], ◌∷◌, ◌++◌, length, map, filter, find, refl, sym, ap, ◌∙◌, subst, ⊎_elim, Some, Vec, Global, arith}
use Rattle.std.specs.List.{list_any}
use Rattle.std.proofs.lemmas.Bool.{cases_Bool}
use Rattle.std.proofs.lemmas.List.{length-append, length-map}
use Rattle.std.proofs.lemmas.Option.{none-some}
use Rattle.mid_base.specs.declared.names.DevAddr.{DevAddr}
use Rattle.mid_base.specs.declared.answers.Scope.{Scope}
use Rattle.mid_base.specs.declared.answers.Scope.TheVariants.{Cmd, Dev, Target, Bus, Host}
use Rattle.mid_base.specs.declared.entries.Entry.{Entry}
use Rattle.disposition.specs.declared.todo.Todo.{Todo}
use Rattle.disposition.specs.Ladder.{Pair, pairs, devs, same_pair, is_wanted_pair, beyond_pair}
use Rattle.escalation.specs.declared.acted.Acted.{Acted}
use Rattle.escalation.specs.declared.acted.Acted.TheVariants as acted
use Rattle.escalation.specs.Climbing.{Climb, Climbs, clears, is_left, as_told}
use Rattle.escalation.proofs.Tested.{devs_length}
use Rattle.escalation.proofs.Cleared.{told_both}

-- how many acts are ahead

pub pairs_length : (xs : List Todo) → length (pairs xs) ≤ 7 * length xs + 1
pairs_length xs =
    let own : Todo → Scope = λ x. Cmd x.cmd in
    let p1 : Scope → Pair = λ c. (1, c) in
    let p2 : Scope → Pair = λ c. (2, c) in
    let p3 : DevAddr → Pair = λ d. (3, Dev d) in
    let p4 : DevAddr → Pair = λ d. (4, Dev d) in
    let p5 : DevAddr → Pair = λ d. (5, Target d.channel d.target) in
    let p6 : DevAddr → Pair = λ d. (6, Bus d.channel) in
    let p8 : DevAddr → Pair = λ d. (8, Dev d) in
    let cmds : List Scope = map own xs in
    let ds : List DevAddr = devs xs in
    let r7 : List Pair = (7, Host) ∷ map p8 ds in
    let r6 : List Pair = map p6 ds ++ r7 in
    let r5 : List Pair = map p5 ds ++ r6 in
    let r4 : List Pair = map p4 ds ++ r5 in
    let r3 : List Pair = map p3 ds ++ r4 in
    let r2 : List Pair = map p2 cmds ++ r3 in
    let whole : length (pairs xs) ≡ length (map p1 cmds) + length r2 = length-append (map p1 cmds) r2 in
    total (length xs) (length cmds) (length ds) (length (map p1 cmds)) (length (map p2 cmds)) (length (map p3 ds)) (length (map p4 ds)) (length (map p5 ds)) (length (map p6 ds)) (length (map p8 ds))
    (length r2) (length r3) (length r4) (length r5) (length r6) (length (pairs xs))
    (devs_length xs) (length-map xs own) (length-map cmds p1) (length-map cmds p2) (length-map ds p3) (length-map ds p4) (length-map ds p5) (length-map ds p6) (length-map ds p8)
    whole (length-append (map p2 cmds) r3) (length-append (map p3 ds) r4) (length-append (map p4 ds) r5) (length-append (map p5 ds) r6) (length-append (map p6 ds) r7)
  where
    total : (n c d a1 a2 a3 a4 a5 a6 a8 r2 r3 r4 r5 r6 all : ℕ) → d ≤ n → c ≡ n → a1 ≡ c → a2 ≡ c → a3 ≡ d → a4 ≡ d → a5 ≡ d → a6 ≡ d → a8 ≡ d
        → all ≡ a1 + r2 → r2 ≡ a2 + r3 → r3 ≡ a3 + r4 → r4 ≡ a4 + r5 → r5 ≡ a5 + r6 → r6 ≡ a6 + suc a8 → all ≤ 7 * n + 1
    total n c d a1 a2 a3 a4 a5 a6 a8 r2 r3 r4 r5 r6 all h1 h2 h3 h4 h5 h6 h7 h8 h9 k1 k2 k3 k4 k5 k6 =
        omega (arith, h1, h2, h3, h4, h5, h6, h7, h8, h9, k1, k2, k3, k4, k5, k6)

-- an act passes one that is ahead

shorter : (p : Pair) (ps : List Pair) → length (beyond_pair p ps) ≤ length ps
shorter p [] = omega arith
shorter p (q ∷ qs) = ⊎_elim
    (λ yes. rw yes (omega arith))
    (λ no. rw no (more (length (beyond_pair p qs)) (length qs) (shorter p qs)))
    (cases_Bool (same_pair p q && not (list_any (same_pair p) qs)))
  where
    more : (m n : ℕ) → m ≤ n → m ≤ suc n
    more m n h = omega (arith, h)

pub passes_one : (f : Pair → Bool) (p : Pair) (ps : List Pair) → find f ps ≡ Some p → length (beyond_pair p ps) < length ps
passes_one f p [] e = absurd (none-some p e)
passes_one f p (q ∷ qs) e = ⊎_elim
    (λ yes. rw yes (omega arith))
    (λ no. rw no (more (length (beyond_pair p qs)) (length qs) (shorter p qs)))
    (cases_Bool (same_pair p q && not (list_any (same_pair p) qs)))
  where
    more : (m n : ℕ) → m ≤ n → m < suc n
    more m n h = omega (arith, h)

-- what is left after acts

left_both : (es fs : List Entry) (x : Todo) → is_left (es ++ fs) x ≡ (is_left es x && is_left fs x)
left_both [] fs x = refl
left_both (e ∷ es) fs x = by (clears x.cmd.0 e) (left_both es fs x)
  where
    by : (b : Bool) → is_left (es ++ fs) x ≡ (is_left es x && is_left fs x) → not (b || list_any (clears x.cmd.0) (es ++ fs)) ≡ (not (b || list_any (clears x.cmd.0) es) && is_left fs x)
    by true h = refl
    by false h = h

abbrev pub left_after : List Entry → List Todo → List Todo
left_after es xs = map (as_told es) (filter (is_left es) xs)

pub left_of_both : (es fs : List Entry) (xs : List Todo) → left_after fs (left_after es xs) ≡ left_after (es ++ fs) xs
left_of_both es fs [] = refl
left_of_both es fs (x ∷ xs) = ⊎_elim
    (λ yes. ⊎_elim
    (λ stays. here yes stays (left_of_both es fs xs))
    (λ goes. rw (left_both es fs x) (rw yes (rw goes (left_of_both es fs xs))))
    (cases_Bool (is_left fs x)))
    (λ no. rw (left_both es fs x) (rw no (left_of_both es fs xs)))
    (cases_Bool (is_left es x))
  where
    here : is_left es x ≡ true → is_left fs x ≡ true → left_after fs (left_after es xs) ≡ left_after (es ++ fs) xs → left_after fs (left_after es (x ∷ xs)) ≡ left_after (es ++ fs) (x ∷ xs)
    here in_es in_fs h = rw (left_both es fs x) (rw in_es (rw in_fs (ap (λ (y : Todo). y ∷ left_after fs (left_after es xs)) (told_both es fs x) ∙ ap (λ (ys : List Todo). as_told (es ++ fs) x ∷ ys) h)))

pub none_told : (xs : List Todo) → left_after [] xs ≡ xs
none_told [] = refl
none_told (x ∷ xs) = ap (λ (ys : List Todo). x ∷ ys) (none_told xs)

pub all_cleared : (es : List Entry) (xs : List Todo) → left_after es xs ≡ [] → filter (is_left es) xs ≡ []
all_cleared es xs h = by (filter (is_left es) xs) h
  where
    by : (ys : List Todo) → map (as_told es) ys ≡ [] → ys ≡ []
    by [] e = refl
    by (y ∷ ys) e = cc e

-- what an act does to them

pub acted_left : (old new : Climb) (x : Acted) (level : ℕ) (scope : Scope) (ok : Bool) (entries : Vec Entry Global) → x ≡ acted.Act level scope ok entries → Climbs old new x
    → (first : List Todo) (told more : List Entry) → old.left ≡ left_after told first → more ≡ told ++ entries.items → new.left ≡ left_after more first
acted_left old new x level scope ok entries e h first told more is all =
    let climbs : Climbs old new (acted.Act level scope ok entries) = subst (λ (y : Acted). Climbs old new y) e h in
    ap (λ (k : Climb). k.left) climbs.1 ∙ (ap (λ (xs : List Todo). left_after entries.items xs) is
    ∙ (left_of_both told entries.items first ∙ ap (λ (es : List Entry). left_after es first) (sym all)))

pub acted_ahead : (old new : Climb) (x : Acted) (level : ℕ) (scope : Scope) (ok : Bool) (entries : Vec Entry Global) → x ≡ acted.Act level scope ok entries → Climbs old new x
    → (n calls : ℕ) → length old.ahead + n < calls → length new.ahead + (n + 1) < calls
acted_ahead old new x level scope ok entries e h n calls few =
    let climbs : Climbs old new (acted.Act level scope ok entries) = subst (λ (y : Acted). Climbs old new y) e h in
    let short : length (beyond_pair (level, scope) old.ahead) < length old.ahead = passes_one (is_wanted_pair old.aborts old.left) (level, scope) old.ahead climbs.0.next in
    let same : length new.ahead ≡ length (beyond_pair (level, scope) old.ahead) = ap (λ (k : Climb). length k.ahead) climbs.1 in
    omega (arith, short, same, few)

pub finished_left : (old new : Climb) (x : Acted) → x ≡ acted.Finished → Climbs old new x → old.left ≡ []
finished_left old new x e h =
    let climbs : Climbs old new acted.Finished = subst (λ (y : Acted). Climbs old new y) e h in
    climbs.0
