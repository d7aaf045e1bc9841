-- What an act leaves of a ladder, and that a command that is left always has an act ahead.
use Rattle.std.proofs.Common.{eq-eqb, ◌≡◌, ◌≤◌, ℕ, suc, ◌+◌, ◌*◌, ◌==◌, Bool, true, false, cond, not, ◌&&◌, List, [], ◌∷◌, ◌++◌, length, map, filter, find, refl, sym, ap, ◌∙◌, subst, ⊎_elim, Option, None, Some, arith, append_assoc}
use Rattle.std.specs.List.{list_any}
use Rattle.std.proofs.lemmas.Bool.{cases_Bool, and_from, or_left, or_right}
use Rattle.std.proofs.lemmas.Option.{none-some, same_Some}
use Rattle.mid_base.specs.declared.names.DevAddr.{DevAddr}
use Rattle.mid_base.specs.declared.answers.Scope.{Scope}
use Rattle.mid_base.specs.declared.answers.Scope.TheVariants.{Cmd, Dev, Target, Bus, Host}
use Rattle.mid_base.specs.declared.entries.Entry.{Entry}
use Rattle.mid_base.specs.declared.entries.Entry.TheVariants.{Act}
use Rattle.mid_base.specs.declared.host_spec.Handlers.{Handlers}
use Rattle.mid_base.specs.declared.host_spec.HostSpec.{HostSpec}
use Rattle.mid_base.specs.Address.{same_dev}
use Rattle.mid_base.specs.Levels.{Level, level_of, number, can_succeed, can_fail}
use Rattle.disposition.specs.declared.todo.Todo.{Todo}
use Rattle.disposition.specs.Ladder.{Pair, pairs, devs, is_in_scope, is_of_kind, is_wanted_pair, same_scope, same_pair, beyond_pair, beyond}
use Rattle.host_template.specs.Meaning.{Meaning, IfHonest}
use Rattle.host_template.specs.Standing.{Standing}
use Rattle.trace_model.specs.Climb.{act_on, offline_for}
use Rattle.trace_model.specs.Course.{over, in_turn, Follows}
use Rattle.step_laws.proofs.Places.{same_dev_is, same_dev_itself}
use Rattle.step_laws.proofs.Ladders.{lost, lost_in, stays_beyond, some_next, with_there, with_stays}
use Rattle.escalation.specs.declared.rungs.Rung.{Rung}
use Rattle.escalation.specs.declared.rungs.Rung.TheVariants.{FetchSense, Abort, StartUnit, ResetDevice, ResetTarget, ResetBus, ResetHost, GiveUp}
use Rattle.escalation.specs.Rungs.{level_at, scope_at, pair_at}
use Rattle.escalation.specs.Climbing.{Climb, clears, is_left, as_told, next_pair, IsNextAct, AreLast, StandsActed, HonestAct}
use Rattle.escalation.specs.Acts.{IsAct, BeginsIn, AreAhead, IsClimbing, cleared}

pub level_again : (r : Rung) → level_of (number (level_at r)) ≡ level_at r
level_again (FetchSense c) = refl
level_again (Abort c) = refl
level_again (StartUnit d) = refl
level_again (ResetDevice d) = refl
level_again (ResetTarget c t) = refl
level_again (ResetBus c) = refl
level_again ResetHost = refl
level_again (GiveUp d) = refl

-- the pair that was found

found_holds : (f : Pair → Bool) (ps : List Pair) (p : Pair) → find f ps ≡ Some p → f p ≡ true
found_holds f [] p e = absurd (none-some p e)
found_holds f (q ∷ ps) p e = ⊎_elim
    (λ yes. subst (λ (x : Pair). f x ≡ true) (same_Some q p (rw yes at e)) yes)
    (λ no. found_holds f ps p (rw no at e))
    (cases_Bool (f q))

scope_itself : (x : Scope) → same_scope x x ≡ true
scope_itself (Cmd c) = eq-eqb c.0 c.0 refl
scope_itself (Dev d) = same_dev_itself d
scope_itself (Target c t) = and_from (c == c) (t == t) (eq-eqb c c refl) (eq-eqb t t refl)
scope_itself (Bus c) = eq-eqb c c refl
scope_itself Host = refl

pair_itself : (p : Pair) → same_pair p p ≡ true
pair_itself p = and_from (p.0 == p.0) (same_scope p.1 p.1) (eq-eqb p.0 p.0 refl) (scope_itself p.1)

found_among : (f : Pair → Bool) (ps : List Pair) (p : Pair) → find f ps ≡ Some p → list_any (same_pair p) ps ≡ true
found_among f [] p e = absurd (none-some p e)
found_among f (q ∷ ps) p e = ⊎_elim
    (λ yes. or_left (same_pair p q) (list_any (same_pair p) ps) (subst (λ (x : Pair). same_pair p x ≡ true) (sym (same_Some q p (rw yes at e))) (pair_itself p)))
    (λ no. or_right (same_pair p q) (list_any (same_pair p) ps) (found_among f ps p (rw no at e)))
    (cases_Bool (f q))

-- what is beyond a pair behind another one

passes : (p q : Pair) (qs : List Pair) → list_any (same_pair p) qs ≡ true → beyond_pair p (q ∷ qs) ≡ beyond_pair p qs
passes p q qs h = rw h (never (same_pair p q))
  where
    never : (b : Bool) → cond (b && false) qs (beyond_pair p qs) ≡ beyond_pair p qs
    never true = refl
    never false = refl

within_beyond : (p l : Pair) (ps : List Pair) → list_any (same_pair p) (beyond_pair l ps) ≡ true → list_any (same_pair p) ps ≡ true
within_beyond p l [] h = h
within_beyond p l (q ∷ ps) h = ⊎_elim
    (λ yes. or_right (same_pair p q) (list_any (same_pair p) ps) (rw yes at h))
    (λ no. or_right (same_pair p q) (list_any (same_pair p) ps) (within_beyond p l ps (rw no at h)))
    (cases_Bool (same_pair l q && not (list_any (same_pair l) ps)))

beyond_twice : (p l : Pair) (ps : List Pair) → list_any (same_pair p) (beyond_pair l ps) ≡ true → beyond_pair p (beyond_pair l ps) ≡ beyond_pair p ps
beyond_twice p l [] h = refl
beyond_twice p l (q ∷ ps) h = ⊎_elim
    (λ yes. rw yes (sym (passes p q ps (rw yes at h))))
    (λ no.
    let later : list_any (same_pair p) (beyond_pair l ps) ≡ true = rw no at h in
    let here : beyond_pair p (beyond_pair l ps) ≡ beyond_pair p (q ∷ ps) = beyond_twice p l ps later ∙ sym (passes p q ps (within_beyond p l ps later)) in
    rw no here)
    (cases_Bool (same_pair l q && not (list_any (same_pair l) ps)))

beyond_again : (p : Pair) (last : Option Pair) (ps : List Pair) → list_any (same_pair p) (beyond last ps) ≡ true → beyond_pair p (beyond last ps) ≡ beyond_pair p ps
beyond_again p None ps h = refl
beyond_again p (Some l) ps h = beyond_twice p l ps h

pub next_beyond : (k : Climb) (all : List Todo) (last : Option Pair) (p : Pair) → k.ahead ≡ beyond last (pairs all) → next_pair k ≡ Some p → beyond_pair p k.ahead ≡ beyond (Some p) (pairs all)
next_beyond k all last p h e =
    let f = is_wanted_pair k.aborts k.left in
    ap (beyond_pair p) h ∙ beyond_again p last (pairs all) (found_among f (beyond last (pairs all)) p (subst (λ (ps : List Pair). find f ps ≡ Some p) h e))

-- a command that is left has an act ahead

cover : (ps : List Pair) (keep : Todo → Bool) (left : List Todo) → ((pre post : List Todo) (x : Todo) → left ≡ pre ++ x ∷ post → keep x ≡ true → list_any (same_pair (lost x.dev)) ps ≡ true)
    → (pre zs : List Todo) → left ≡ pre ++ zs → AreAhead ps (filter keep zs)
cover ps keep left h pre [] e = tt
cover ps keep left h pre (x ∷ zs) e =
    let rest = cover ps keep left h (pre ++ x ∷ []) zs (e ∙ sym (append_assoc pre (x ∷ []) zs)) in
    ⊎_elim
    (λ yes. rw yes (h pre zs x e yes, rest))
    (λ no. rw no rest)
    (cases_Bool (keep x))

cover_all : (ps : List Pair) (left : List Todo) → ((pre post : List Todo) (x : Todo) → left ≡ pre ++ x ∷ post → list_any (same_pair (lost x.dev)) ps ≡ true)
    → (pre zs : List Todo) → left ≡ pre ++ zs → AreAhead ps zs
cover_all ps left h pre [] e = tt
cover_all ps left h pre (x ∷ zs) e = (h pre zs x e, cover_all ps left h (pre ++ x ∷ []) zs (e ∙ sym (append_assoc pre (x ∷ []) zs)))

covered : (ps : List Pair) (pre post : List Todo) (x : Todo) → AreAhead ps (pre ++ x ∷ post) → list_any (same_pair (lost x.dev)) ps ≡ true
covered ps [] post x h = h.0
covered ps (y ∷ pre) post x h = covered ps pre post x h.1

any_there : (g : Todo → Bool) (pre post : List Todo) (x : Todo) → g x ≡ true → list_any g (pre ++ x ∷ post) ≡ true
any_there g [] post x h = or_left (g x) (list_any g post) h
any_there g (y ∷ pre) post x h = or_right (g y) (list_any g (pre ++ x ∷ post)) (any_there g pre post x h)

-- its device may always be put offline
last_wanted : (aborts : Bool) (left pre post : List Todo) (x : Todo) → left ≡ pre ++ x ∷ post → is_wanted_pair aborts left (lost x.dev) ≡ true
last_wanted aborts left pre post x e =
    let g : Todo → Bool = λ y. is_in_scope (Dev x.dev) y && is_of_kind aborts (level_of 8) left y in
    subst (λ (zs : List Todo). list_any g zs ≡ true) (sym e) (any_there g pre post x (and_from (same_dev x.dev x.dev) true (same_dev_itself x.dev) refl))

dev_there : (pre post : List Todo) (x : Todo) → list_any (same_dev x.dev) (devs (pre ++ x ∷ post)) ≡ true
dev_there [] post x = with_there x.dev (devs post)
dev_there (y ∷ pre) post x = with_stays x.dev y.dev (devs (pre ++ x ∷ post)) (dev_there pre post x)

pub begun_climbing : (xs : List Todo) (ps : List Pair) → ps ≡ pairs xs → IsClimbing xs ps
begun_climbing xs ps e = record {
  all = xs;
  last = None;
  above = e;
  covers = subst (λ (qs : List Pair). AreAhead qs xs) (sym e)
      (cover_all (pairs xs) xs (λ pre post x is. lost_in x.dev xs (subst (λ (zs : List Todo). list_any (same_dev x.dev) (devs zs) ≡ true) (sym is) (dev_there pre post x))) [] xs refl);
}

pub none_left : (aborts : Bool) (left : List Todo) (ahead : List Pair) → IsClimbing left ahead → find (is_wanted_pair aborts left) ahead ≡ None → left ≡ []
none_left aborts [] ahead h e = refl
none_left aborts (x ∷ xs) ahead h e =
    let some = some_next (is_wanted_pair aborts (x ∷ xs)) x.dev ahead (last_wanted aborts (x ∷ xs) [] xs x refl) h.covers.0 in
    absurd (none-some some.0 (sym e ∙ some.1))

-- fewer commands, over the same acts
pub kept_climbing : (keep : Todo → Bool) (left : List Todo) (ahead : List Pair) → IsClimbing left ahead → IsClimbing (filter keep left) ahead
kept_climbing keep left ahead h = record {
  all = h.all;
  last = h.last;
  above = h.above;
  covers = cover ahead keep left (λ pre post x is kept. covered ahead pre post x (subst (λ (zs : List Todo). AreAhead ahead zs) is h.covers)) [] left refl;
}

-- an act of the last level clears each command of its device

in_turn_is : (fs es : List Entry) → Follows (in_turn fs over) es → es ≡ fs
in_turn_is [] [] h = refl
in_turn_is [] (e ∷ es) h = absurd h.0
in_turn_is (f ∷ fs) [] h = absurd h
in_turn_is (f ∷ fs) (e ∷ es) h = ap (λ (x : Entry). x ∷ es) h.0 ∙ ap (λ (xs : List Entry). f ∷ xs) (in_turn_is fs es h.1)

any_cleared : (keep : Todo → Bool) (pre post : List Todo) (x : Todo) → keep x ≡ true → list_any (clears x.cmd.0) (cleared 8 (filter keep (pre ++ x ∷ post))) ≡ true
any_cleared keep [] post x h = rw h (or_left (x.cmd.0 == x.cmd.0) (list_any (clears x.cmd.0) (cleared 8 (filter keep post))) (eq-eqb x.cmd.0 x.cmd.0 refl))
any_cleared keep (y ∷ pre) post x h =
    let later = any_cleared keep pre post x h in
    ⊎_elim
    (λ yes. rw yes (or_right (y.cmd.0 == x.cmd.0) (list_any (clears x.cmd.0) (cleared 8 (filter keep (pre ++ x ∷ post)))) later))
    (λ no. rw no later)
    (cases_Bool (keep y))

offline_clears : (c : ℕ) (zs : List Todo) (rest : List Entry) → Follows (offline_for zs) rest → list_any (clears c) (cleared 8 zs) ≡ true → list_any (clears c) rest ≡ true
offline_clears c [] rest f h = cc h
offline_clears c (z ∷ zs) [] f h = absurd f
offline_clears c (z ∷ zs) (e ∷ es) f h =
    or_right (clears c e) (list_any (clears c) es) (subst (λ (xs : List Entry). list_any (clears c) xs ≡ true) (sym (in_turn_is (cleared 8 (z ∷ zs)) es f.1)) h)

other_device : (r : Rung) (left pre post : List Todo) (x : Todo) (rest : List Entry) (ok : Bool) (head : Entry) → left ≡ pre ++ x ∷ post
    → Follows (act_on (level_at r) (number (level_at r)) ok (filter (is_in_scope (scope_at r)) left)) rest → is_left (head ∷ rest) x ≡ true → same_pair (lost x.dev) (pair_at r) ≡ false
other_device (FetchSense c) left pre post x rest ok head e f k = refl
other_device (Abort c) left pre post x rest ok head e f k = refl
other_device (StartUnit d) left pre post x rest ok head e f k = refl
other_device (ResetDevice d) left pre post x rest ok head e f k = refl
other_device (ResetTarget c t) left pre post x rest ok head e f k = refl
other_device (ResetBus c) left pre post x rest ok head e f k = refl
other_device ResetHost left pre post x rest ok head e f k = refl
other_device (GiveUp d) left pre post x rest ok head e f k = ⊎_elim
    (λ same.
    let mine : is_in_scope (Dev d) x ≡ true = subst (λ (y : DevAddr). same_dev y x.dev ≡ true) (same_dev_is x.dev d same) (same_dev_itself x.dev) in
    let some : list_any (clears x.cmd.0) rest ≡ true =
    offline_clears x.cmd.0 (filter (is_in_scope (Dev d)) left) rest f
    (subst (λ (zs : List Todo). list_any (clears x.cmd.0) (cleared 8 (filter (is_in_scope (Dev d)) zs)) ≡ true) (sym e) (any_cleared (is_in_scope (Dev d)) pre post x mine))
    in
    absurd (clash (list_any (clears x.cmd.0) (head ∷ rest)) (or_right (clears x.cmd.0 head) (list_any (clears x.cmd.0) rest) some) k))
    (λ no. no)
    (cases_Bool (same_dev x.dev d))
  where
    clash : (b : Bool) → b ≡ true → not b ≡ true → ⊥
    clash true y n = cc n
    clash false y n = cc y

told_ahead : (ps : List Pair) (entries : List Entry) (xs : List Todo) → AreAhead ps xs → AreAhead ps (map (as_told entries) xs)
told_ahead ps entries [] h = tt
told_ahead ps entries (x ∷ xs) h = (h.0, told_ahead ps entries xs h.1)

-- the ladder after an act
pub goes_climbing : (handlers : Handlers) (aborts : Bool) (r : Rung) (left : List Todo) (ahead ahead' : List Pair) (ok : Bool) (old new : Standing) (entries : List Entry)
    → IsClimbing left ahead → find (is_wanted_pair aborts left) ahead ≡ Some (pair_at r) → IsAct handlers (level_at r) (scope_at r) (filter (is_in_scope (scope_at r)) left) ok old new entries
    → ahead' ≡ beyond_pair (pair_at r) ahead → IsClimbing (map (as_told entries) (filter (is_left entries) left)) ahead'
goes_climbing handlers aborts r left ahead ahead' ok old new entries h found act e =
    let f = is_wanted_pair aborts left in
    let found' : find f (beyond h.last (pairs h.all)) ≡ Some (pair_at r) = subst (λ (ps : List Pair). find f ps ≡ Some (pair_at r)) h.above found in
    let next : ahead' ≡ beyond_pair (pair_at r) (pairs h.all) =
    e ∙ (ap (beyond_pair (pair_at r)) h.above ∙ beyond_again (pair_at r) h.last (pairs h.all) (found_among f (beyond h.last (pairs h.all)) (pair_at r) found'))
    in
    record {
      all = h.all;
      last = Some (pair_at r);
      above = next;
      covers = subst (λ (ps : List Pair). AreAhead ps (map (as_told entries) (filter (is_left entries) left))) (sym next)
          (told_ahead (beyond_pair (pair_at r) (pairs h.all)) entries (filter (is_left entries) left)
          (cover (beyond_pair (pair_at r) (pairs h.all)) (is_left entries) left
          (λ pre post x is keeps.
          stays_beyond f x.dev h.last h.all (pair_at r) found' (last_wanted aborts left pre post x is)
          (other_device r left pre post x act.rest ok (Act (number (level_at r)) (scope_at r) ok) is act.course (subst (λ (es : List Entry). is_left es x ≡ true) act.told keeps))
          (subst (λ (ps : List Pair). list_any (same_pair (lost x.dev)) ps ≡ true) h.above (covered ahead pre post x (subst (λ (zs : List Todo). AreAhead ahead zs) is h.covers))))
          [] left refl));
    }

-- the commands of the scope

begins_in : (scope : Scope) (q : Todo → Bool) (left : List Todo) → list_any (λ x. is_in_scope scope x && q x) left ≡ true → BeginsIn scope (filter (is_in_scope scope) left)
begins_in scope q [] h = cc h
begins_in scope q (x ∷ xs) h = ⊎_elim
    (λ yes. rw yes yes)
    (λ no. let later : list_any (λ y. is_in_scope scope y && q y) xs ≡ true = rw no at h in rw no (begins_in scope q xs later))
    (cases_Bool (is_in_scope scope x))

pub found_begins : (aborts : Bool) (left : List Todo) (ahead : List Pair) (r : Rung) → find (is_wanted_pair aborts left) ahead ≡ Some (pair_at r) → BeginsIn (scope_at r) (filter (is_in_scope (scope_at r)) left)
found_begins aborts left ahead r e =
    begins_in (scope_at r) (is_of_kind aborts (level_of (number (level_at r))) left) left (found_holds (is_wanted_pair aborts left) ahead (pair_at r) e)

last_of_some : (s : HostSpec) (P : List Entry) (keep : Todo → Bool) (xs : List Todo) → AreLast s P xs → AreLast s P (filter keep xs)
last_of_some s P keep [] h = tt
last_of_some s P keep (x ∷ xs) h = ⊎_elim
    (λ yes. rw yes (h.0, last_of_some s P keep xs h.1))
    (λ no. rw no (last_of_some s P keep xs h.1))
    (cases_Bool (keep x))

pub stands_of_scope : (handlers : Handlers) (keep : Todo → Bool) (left : List Todo) (old new : Standing) (entries : List Entry) → StandsActed handlers (filter keep left) old new entries → StandsActed handlers left old new entries
stands_of_scope handlers keep left old new entries h = λ s b P he last stood. h s b P he (last_of_some s P keep left last) stood

few_of_scope : {X : Type 0} (keep : X → Bool) (xs : List X) → length (filter keep xs) ≤ length xs
few_of_scope keep [] = omega arith
few_of_scope keep (x ∷ xs) = ⊎_elim
    (λ yes. rw yes (more (length (filter keep xs)) (length xs) (few_of_scope keep xs)))
    (λ no. rw no (less (length (filter keep xs)) (length xs) (few_of_scope keep xs)))
    (cases_Bool (keep x))
  where
    more : (m n : ℕ) → m ≤ n → suc m ≤ suc n
    more m n h = omega (arith, h)

    less : (m n : ℕ) → m ≤ n → m ≤ suc n
    less m n h = omega (arith, h)

pub next_act_is : (k : Climb) (r : Rung) (ok : Bool) (old new : Standing) (entries : List Entry) → next_pair k ≡ Some (pair_at r)
    → IsAct k.handlers (level_at r) (scope_at r) (filter (is_in_scope (scope_at r)) k.left) ok old new entries → IsNextAct k (number (level_at r)) (scope_at r) ok entries
next_act_is k r ok old new entries e a = record {
  next = e;
  can = subst (λ (l : Level). cond ok (can_succeed k.handlers l) (can_fail l) ≡ true) (sym (level_again r)) a.can;
  rest = a.rest;
  told = a.told;
  course = subst (λ (l : Level). Follows (act_on l (number (level_at r)) ok (filter (is_in_scope (scope_at r)) k.left)) a.rest) (sym (level_again r)) a.course;
  few = less (length entries) (length (filter (is_in_scope (scope_at r)) k.left)) (length k.left) a.few (few_of_scope (is_in_scope (scope_at r)) k.left);
}
  where
    less : (m n p : ℕ) → m ≤ 4 + 3 * n → n ≤ p → m ≤ 4 + 3 * p
    less m n p h i = omega (arith, h, i)

pub honest_next : (r : Rung) (ok : Bool) (xs : List Todo) (old new : Meaning) → IfHonest (HonestAct (level_at r) (scope_at r) ok xs) old new → IfHonest (HonestAct (level_of (number (level_at r))) (scope_at r) ok xs) old new
honest_next r ok xs old new h = subst (λ (l : Level). IfHonest (HonestAct l (scope_at r) ok xs) old new) (sym (level_again r)) h
