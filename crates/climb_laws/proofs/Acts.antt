-- An act of a ladder by the rules, and what it leaves.
use Rattle.std.proofs.Common.{◌≡◌, ℕ, Bool, true, false, not, ◌&&◌, cond, filter, find, map, List, [], ◌∷◌, ◌++◌, refl, sym, subst, ap, ap₂, ◌∙◌, ⊎_elim, Option, None, Some}
use Rattle.std.specs.List.{list_any, list_all}
use Rattle.std.proofs.lemmas.Bool.{cases_Bool, and_parts, and_from}
use Rattle.std.proofs.lemmas.Option.{none-some, same_Some}
use Rattle.mid_base.specs.declared.names.DevAddr.{DevAddr}
use Rattle.mid_base.specs.declared.answers.Scope.{Scope}
use Rattle.mid_base.specs.declared.answers.Scope.TheVariants.{Cmd, Dev, Target, Bus}
use Rattle.mid_base.specs.declared.entries.Entry.{Entry}
use Rattle.mid_base.specs.declared.entries.Entry.TheVariants.{Act}
use Rattle.mid_base.specs.declared.host_spec.Handlers.{Handlers}
use Rattle.mid_base.specs.declared.host_spec.HostSpec.{HostSpec}
use Rattle.mid_base.specs.Address.{in_scope}
use Rattle.mid_base.specs.Levels.{level_of, can_succeed, can_fail}
use Rattle.device_states.specs.States.{is_online_state}
use Rattle.disposition.specs.declared.todo.Todo.{Todo}
use Rattle.disposition.specs.Ladder.{Pair, pairs, devs, is_wanted_pair, is_in_scope, beyond_pair, beyond, same_pair}
use Rattle.trace_model.specs.Names.{dev_of}
use Rattle.trace_model.specs.Devices.{has_begun, is_online}
use Rattle.trace_model.specs.Recovery.{Failure, failed, listed, todo, todo_of, is_cleared, last_act, next_act, is_quiet}
use Rattle.trace_model.specs.Flush.{is_empty}
use Rattle.trace_model.specs.Course.{Follows}
use Rattle.trace_model.specs.Climb.{climb, act_on}
use Rattle.trace_model.specs.Legal.{onto, Group}
use Rattle.trace_model.proofs.Owes.{is_calm, act_calm}
use Rattle.escalation.specs.Climbing.{Climb, clears, is_left, as_told, next_pair, gone_on, IsNextAct}
use Rattle.escalation.proofs.Climbs.{next_beyond}
use Rattle.climb_laws.specs.LadderOf.{IsLadderOf, IsActAt, LeadTo, is_on_list}
use Rattle.climb_laws.proofs.Calm.{follows_all, Stays, stays_onto, answer_onto, cleared_onto}
use Rattle.climb_laws.proofs.Online.{is_fit, state_onto, act_spares}
use Rattle.climb_laws.proofs.Listed.{todos, stands, same_pairs, in_todo, told_todo}

-- a ladder with nothing left has no next act

pub none_wanted : (aborts : Bool) (ps : List Pair) → find (is_wanted_pair aborts []) ps ≡ None
none_wanted aborts [] = refl
none_wanted aborts (p ∷ ps) = none_wanted aborts ps

pub some_left : (aborts : Bool) (xs : List Todo) (ps : List Pair) (p : Pair) → find (is_wanted_pair aborts xs) ps ≡ Some p → is_empty xs ≡ false
some_left aborts [] ps p h = absurd (none-some p (sym (none_wanted aborts ps) ∙ h))
some_left aborts (x ∷ xs) ps p h = refl

-- the next act is that of the rules

pub next_is : (s : HostSpec) (P : List Entry) (k : Climb) → IsLadderOf s P k → is_empty (todo s P) ≡ false → next_pair k ≡ next_act s P
next_is s P k h n =
    ap (λ (ps : List Pair). find (is_wanted_pair k.aborts k.left) ps) (h.ahead n)
    ∙ (ap (λ (b : Bool). find (is_wanted_pair b k.left) (beyond (last_act P) (pairs (listed s P)))) h.aborts
    ∙ ap (λ (xs : List Todo). find (is_wanted_pair s.no_async_abort xs) (beyond (last_act P) (pairs (listed s P)))) h.left)

-- each pair that is ahead is fit

abbrev is_fit_pair : Pair → Bool
is_fit_pair p = is_fit (level_of p.0) p.1

map_fit : {A : Type 0} (f : A → Pair) (xs : List A) → ((x : A) → is_fit_pair (f x) ≡ true) → list_all is_fit_pair (map f xs) ≡ true
map_fit f [] h = refl
map_fit f (x ∷ xs) h = and_from (is_fit_pair (f x)) (list_all is_fit_pair (map f xs)) (h x) (map_fit f xs h)

both_fit : (ps qs : List Pair) → list_all is_fit_pair ps ≡ true → list_all is_fit_pair qs ≡ true → list_all is_fit_pair (ps ++ qs) ≡ true
both_fit [] qs h k = k
both_fit (p ∷ ps) qs h k =
    let parts = and_parts (is_fit_pair p) (list_all is_fit_pair ps) h in
    and_from (is_fit_pair p) (list_all is_fit_pair (ps ++ qs)) parts.0 (both_fit ps qs parts.1 k)

any_fit : (n : ℕ) → (b : (x : Scope) → is_fit (level_of n) x ≡ true) → (xs : List Scope) → list_all is_fit_pair (map (λ (c : Scope). (n, c)) xs) ≡ true
any_fit n b [] = refl
any_fit n b (x ∷ xs) = and_from (is_fit (level_of n) x) _ (b x) (any_fit n b xs)

pairs_fit : (xs : List Todo) → list_all is_fit_pair (pairs xs) ≡ true
pairs_fit xs =
    let cmds : List Scope = map (λ (x : Todo). Cmd x.cmd) xs in
    let ds : List DevAddr = devs xs in
    both_fit (map (λ (c : Scope). (1, c)) cmds) _ (any_fit 1 (λ c. refl) cmds)
    (both_fit (map (λ (c : Scope). (2, c)) cmds) _ (any_fit 2 (λ c. refl) cmds)
    (both_fit (map (λ (d : DevAddr). (3, Dev d)) ds) _ (map_fit (λ (d : DevAddr). (3, Dev d)) ds (λ d. refl))
    (both_fit (map (λ (d : DevAddr). (4, Dev d)) ds) _ (map_fit (λ (d : DevAddr). (4, Dev d)) ds (λ d. refl))
    (both_fit (map (λ (d : DevAddr). (5, Target d.channel d.target)) ds) _ (map_fit (λ (d : DevAddr). (5, Target d.channel d.target)) ds (λ d. refl))
    (both_fit (map (λ (d : DevAddr). (6, Bus d.channel)) ds) _ (map_fit (λ (d : DevAddr). (6, Bus d.channel)) ds (λ d. refl))
    (map_fit (λ (d : DevAddr). (8, Dev d)) ds (λ d. refl)))))))

beyond_fit : (p : Pair) (ps : List Pair) → list_all is_fit_pair ps ≡ true → list_all is_fit_pair (beyond_pair p ps) ≡ true
beyond_fit p [] h = refl
beyond_fit p (q ∷ ps) h =
    let rest = (and_parts (is_fit_pair q) (list_all is_fit_pair ps) h).1 in
    ⊎_elim
    (λ yes. rw yes rest)
    (λ no. rw no (beyond_fit p ps rest))
    (cases_Bool (same_pair p q && not (list_any (same_pair p) ps)))

ahead_fit : (last : Option Pair) (ps : List Pair) → list_all is_fit_pair ps ≡ true → list_all is_fit_pair (beyond last ps) ≡ true
ahead_fit None ps h = h
ahead_fit (Some p) ps h = beyond_fit p ps h

found_fit : (f : Pair → Bool) (ps : List Pair) (p : Pair) → list_all is_fit_pair ps ≡ true → find f ps ≡ Some p → is_fit_pair p ≡ true
found_fit f [] p h e = absurd (none-some p e)
found_fit f (q ∷ ps) p h e =
    let parts = and_parts (is_fit_pair q) (list_all is_fit_pair ps) h in
    ⊎_elim
    (λ yes. subst (λ (x : Pair). is_fit_pair x ≡ true) (same_Some q p (rw yes at e)) parts.0)
    (λ no. found_fit f ps p parts.1 (rw no at e))
    (cases_Bool (f q))

pub next_fit : (s : HostSpec) (P : List Entry) (level : ℕ) (scope : Scope) → next_act s P ≡ Some (level, scope) → is_fit (level_of level) scope ≡ true
next_fit s P level scope h =
    found_fit (is_wanted_pair s.no_async_abort (todo s P)) (beyond (last_act P) (pairs (listed s P))) (level, scope) (ahead_fit (last_act P) (pairs (listed s P)) (pairs_fit (listed s P))) h

-- an act by the rules

pub record ByRules (s : HostSpec) (P : List Entry) (level : ℕ) (scope : Scope) (ok : Bool) (rest : List Entry) : Type 0 where
  pub next : next_act s P ≡ Some (level, scope)
  pub course : Follows (climb (todo s P) level scope ok) rest

pub by_rules : (s : HostSpec) (P : List Entry) (k : Climb) (level : ℕ) (scope : Scope) (ok : Bool) (es : List Entry) → (h : IsLadderOf s P k) → (a : IsNextAct k level scope ok es) → ByRules s P level scope ok a.rest
by_rules s P k level scope ok es h a =
    let n : is_empty (todo s P) ≡ false = subst (λ (xs : List Todo). is_empty xs ≡ false) h.left (some_left k.aborts k.left k.ahead (level, scope) a.next) in
    record {
      next = sym (next_is s P k h n) ∙ a.next;
      course = subst (λ (xs : List Todo). Follows (climb xs level scope ok) a.rest) h.left a.course;
    }

-- what it leaves

all_calm : (s : HostSpec) (P : List Entry) (level : ℕ) (scope : Scope) (ok : Bool) (rest : List Entry) → ByRules s P level scope ok rest → list_all is_calm rest ≡ true
all_calm s P level scope ok rest h =
    let xs = filter (is_in_scope scope) (todo s P) in
    follows_all is_calm (act_on (level_of level) level ok xs) rest (act_calm (level_of level) level ok xs) h.course

kept_online : (s : HostSpec) (P : List Entry) (level : ℕ) (scope : Scope) (ok : Bool) (rest : List Entry) → ByRules s P level scope ok rest
    → (c : ℕ) → is_on_list c (failed P) ≡ true → is_cleared c P ≡ false → list_any (clears c) rest ≡ false
    → is_online s (dev_of s c) (onto rest (Act level scope ok ∷ P)) ≡ is_online s (dev_of s c) P
kept_online s P level scope ok rest h c on n miss =
    ap is_online_state (state_onto s (dev_of s c) rest (Act level scope ok ∷ P)
    (act_spares (dev_of s c) c (level_of level) level scope ok (todo s P) rest (next_fit s P level scope h.next) h.course
    (λ wide i. in_todo s P (is_in_scope scope) c (failed P)
    (λ f same. wide (todo_of s P f) ∙ subst (λ (d : ℕ). in_scope scope (dev_of s d) ≡ true) (sym same) i)
    on n)
    miss))

pub acted_stays : (s : HostSpec) (P : List Entry) (level : ℕ) (scope : Scope) (ok : Bool) (rest : List Entry) → ByRules s P level scope ok rest → Stays (Act level scope ok ∷ P) (onto rest (Act level scope ok ∷ P))
acted_stays s P level scope ok rest h = stays_onto rest (Act level scope ok ∷ P) (all_calm s P level scope ok rest h)

pub acted_todo : (s : HostSpec) (P : List Entry) (level : ℕ) (scope : Scope) (ok : Bool) (rest : List Entry) → ByRules s P level scope ok rest
    → todo s (onto rest (Act level scope ok ∷ P)) ≡ map (as_told (Act level scope ok ∷ rest)) (filter (is_left (Act level scope ok ∷ rest)) (todo s P))
acted_todo s P level scope ok rest h =
    let Q : List Entry = onto rest (Act level scope ok ∷ P) in
    let calm : list_all is_calm rest ≡ true = all_calm s P level scope ok rest h in
    let stays : Stays (Act level scope ok ∷ P) Q = acted_stays s P level scope ok rest h in
    ap (λ (fs : List Failure). filter (stands Q) (todos s Q fs)) stays.failed
    ∙ told_todo s P Q (Act level scope ok ∷ rest) (failed P)
    (record {
      answers = λ n. answer_onto n rest (Act level scope ok ∷ P) calm;
      retries = stays.retries;
      cleared = λ c. cleared_onto c rest (Act level scope ok ∷ P) calm;
    })
    (kept_online s P level scope ok rest h)

acted_ladder : (s : HostSpec) (P : List Entry) (k : Climb) (level : ℕ) (scope : Scope) (ok : Bool) (rest : List Entry) → IsLadderOf s P k → next_pair k ≡ Some (level, scope) → is_empty (todo s P) ≡ false
    → ByRules s P level scope ok rest → IsLadderOf s (onto rest (Act level scope ok ∷ P)) (gone_on (level, scope) (Act level scope ok ∷ rest) k)
acted_ladder s P k level scope ok rest h found n by =
    let Q : List Entry = onto rest (Act level scope ok ∷ P) in
    let es : List Entry = Act level scope ok ∷ rest in
    let stays : Stays (Act level scope ok ∷ P) Q = acted_stays s P level scope ok rest by in
    let same : pairs (listed s Q) ≡ pairs (listed s P) = ap (λ (fs : List Failure). pairs (todos s Q fs)) stays.failed ∙ same_pairs s P Q (failed P) in
    record {
      left = ap (λ (xs : List Todo). map (as_told es) (filter (is_left es) xs)) h.left ∙ sym (acted_todo s P level scope ok rest by);
      ahead = λ some. next_beyond k (listed s P) (last_act P) (level, scope) (h.ahead n) found ∙ sym (ap₂ beyond stays.act same);
      handlers = h.handlers;
      aborts = h.aborts;
    }

goes_on : (s : HostSpec) (P : List Entry) (k : Climb) (level : ℕ) (scope : Scope) (ok : Bool) (es : List Entry) → IsActAt s P k level scope ok es → IsLadderOf s (onto es P) (gone_on (level, scope) es k)
goes_on s P k level scope ok es x =
    let h = x.ladder in
    let a = x.act in
    let n : is_empty (todo s P) ≡ false = subst (λ (xs : List Todo). is_empty xs ≡ false) h.left (some_left k.aborts k.left k.ahead (level, scope) a.next) in
    subst (λ (fs : List Entry). IsLadderOf s (onto fs P) (gone_on (level, scope) fs k)) (sym a.told)
    (acted_ladder s P k level scope ok a.rest h a.next n (by_rules s P k level scope ok es h a))

is_group : (s : HostSpec) (P : List Entry) (k : Climb) (level : ℕ) (scope : Scope) (ok : Bool) (es : List Entry) → IsActAt s P k level scope ok es → Group s P es
is_group s P k level scope ok es x =
    let by = by_rules s P k level scope ok es x.ladder x.act in
    let can = subst (λ (h : Handlers). cond ok (can_succeed h (level_of level)) (can_fail (level_of level)) ≡ true) x.ladder.handlers x.act.can in
    subst (λ (fs : List Entry). Group s P fs) (sym x.act.told)
    ((and_from (is_quiet s P && has_begun P) _ (and_from (is_quiet s P) (has_begun P) x.quiet x.begun) can, by.next), by.course)

still_begun : (s : HostSpec) (P : List Entry) (k : Climb) (level : ℕ) (scope : Scope) (ok : Bool) (es : List Entry) → IsActAt s P k level scope ok es → has_begun (onto es P) ≡ true
still_begun s P k level scope ok es x =
    subst (λ (fs : List Entry). has_begun (onto fs P) ≡ true) (sym x.act.told)
    ((acted_stays s P level scope ok x.act.rest (by_rules s P k level scope ok es x.ladder x.act)).begun ∙ x.begun)

still_failed : (s : HostSpec) (P : List Entry) (k : Climb) (level : ℕ) (scope : Scope) (ok : Bool) (es : List Entry) → IsActAt s P k level scope ok es → failed (onto es P) ≡ failed P
still_failed s P k level scope ok es x =
    subst (λ (fs : List Entry). failed (onto fs P) ≡ failed P) (sym x.act.told)
    (acted_stays s P level scope ok x.act.rest (by_rules s P k level scope ok es x.ladder x.act)).failed

pub leads_on : (s : HostSpec) (P : List Entry) (k : Climb) (level : ℕ) (scope : Scope) (ok : Bool) (es : List Entry) → IsActAt s P k level scope ok es → LeadTo s P es (gone_on (level, scope) es k)
leads_on s P k level scope ok es x = record {
  group = is_group s P k level scope ok es x;
  ladder = goes_on s P k level scope ok es x;
  begun = still_begun s P k level scope ok es x;
  failed = still_failed s P k level scope ok es x;
}
