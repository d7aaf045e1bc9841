-- What the next act is of, and the failed commands that it is for.
use Rattle.std.proofs.Common.{eq-eqb, ◌≡◌, ℕ, ◌==◌, Bool, true, false, not, ◌&&◌, cond, find, map, List, [], ◌∷◌, ◌++◌, refl, subst, ap, ◌∙◌, ⊎_elim, Option, None, Some}
use Rattle.std.specs.List.{list_any, list_all}
use Rattle.std.proofs.lemmas.Bool.{cases_Bool, and_parts, and_from, or_left, or_right, or_cases}
use Rattle.std.proofs.lemmas.Option.{none-some, same_Some}
use Rattle.mid_base.specs.declared.answers.By.TheVariants.{Answer as ByAnswer, Expiry as ByExpiry}
use Rattle.mid_base.specs.declared.answers.Scope.{Scope}
use Rattle.mid_base.specs.declared.answers.Scope.TheVariants.{Cmd, Dev, Target, Bus, Host}
use Rattle.mid_base.specs.declared.entries.Entry.{Entry}
use Rattle.mid_base.specs.declared.host_spec.HostSpec.{HostSpec}
use Rattle.mid_base.specs.declared.names.DevAddr.{DevAddr}
use Rattle.mid_base.specs.Levels.{Level, fetch_sense, abort, start_unit, reset_device, reset_target, reset_bus, reset_host, give_up, level_of}
use Rattle.disposition.specs.declared.todo.Todo.{Todo}
use Rattle.disposition.specs.Ladder.{Pair, pairs, devs, is_wanted_pair, beyond_pair, beyond, same_pair}
use Rattle.trace_model.specs.Attempts.{is_answered, is_by_answer}
use Rattle.trace_model.specs.Legal.{EachStands}
use Rattle.trace_model.specs.Names.{dev_of}
use Rattle.trace_model.specs.Recovery.{Failure, failed, listed, todo, todo_of, is_cleared, last_act, next_act}
use Rattle.recovery_laws.specs.Failed.{AreOwned, IsOwned}
use Rattle.recovery_laws.proofs.Busy.{failed_busy}
use Rattle.recovery_laws.proofs.Owned.{failed_owned}
use Rattle.verdict_table.specs.Taken.{has_failed}
use Rattle.held_laws.proofs.Answered.{owned_answered}
use Rattle.held_laws.proofs.Courses.{Each, each_kept}
use Rattle.held_laws.proofs.Idle.{IsWith}

-- a level acts on scopes of its own kind
abbrev pub is_meant : Level → Scope → Bool
is_meant fetch_sense (Cmd c) = true
is_meant abort (Cmd c) = true
is_meant start_unit (Dev d) = true
is_meant reset_device (Dev d) = true
is_meant reset_target (Target c t) = true
is_meant reset_bus (Bus c) = true
is_meant reset_host Host = true
is_meant give_up (Dev d) = true
is_meant level scope = false

abbrev is_meant_pair : Pair → Bool
is_meant_pair p = is_meant (level_of p.0) p.1

map_meant : {A : Type 0} (f : A → Pair) (xs : List A) → ((x : A) → is_meant_pair (f x) ≡ true) → list_all is_meant_pair (map f xs) ≡ true
map_meant f [] h = refl
map_meant f (x ∷ xs) h = and_from (is_meant_pair (f x)) (list_all is_meant_pair (map f xs)) (h x) (map_meant f xs h)

both_meant : (ps qs : List Pair) → list_all is_meant_pair ps ≡ true → list_all is_meant_pair qs ≡ true → list_all is_meant_pair (ps ++ qs) ≡ true
both_meant [] qs h k = k
both_meant (p ∷ ps) qs h k =
    let parts = and_parts (is_meant_pair p) (list_all is_meant_pair ps) h in
    and_from (is_meant_pair p) (list_all is_meant_pair (ps ++ qs)) parts.0 (both_meant ps qs parts.1 k)

cmds_meant : (n : ℕ) → ((x : Todo) → is_meant (level_of n) (Cmd x.cmd) ≡ true) → (xs : List Todo) → list_all is_meant_pair (map (λ (c : Scope). (n, c)) (map (λ (x : Todo). Cmd x.cmd) xs)) ≡ true
cmds_meant n b [] = refl
cmds_meant n b (x ∷ xs) = and_from (is_meant (level_of n) (Cmd x.cmd)) _ (b x) (cmds_meant n b xs)

pairs_meant : (xs : List Todo) → list_all is_meant_pair (pairs xs) ≡ true
pairs_meant xs =
    let cmds : List Scope = map (λ (x : Todo). Cmd x.cmd) xs in
    let ds : List DevAddr = devs xs in
    both_meant (map (λ (c : Scope). (1, c)) cmds) _ (cmds_meant 1 (λ x. refl) xs)
    (both_meant (map (λ (c : Scope). (2, c)) cmds) _ (cmds_meant 2 (λ x. refl) xs)
    (both_meant (map (λ (d : DevAddr). (3, Dev d)) ds) _ (map_meant (λ (d : DevAddr). (3, Dev d)) ds (λ d. refl))
    (both_meant (map (λ (d : DevAddr). (4, Dev d)) ds) _ (map_meant (λ (d : DevAddr). (4, Dev d)) ds (λ d. refl))
    (both_meant (map (λ (d : DevAddr). (5, Target d.channel d.target)) ds) _ (map_meant (λ (d : DevAddr). (5, Target d.channel d.target)) ds (λ d. refl))
    (both_meant (map (λ (d : DevAddr). (6, Bus d.channel)) ds) _ (map_meant (λ (d : DevAddr). (6, Bus d.channel)) ds (λ d. refl))
    (map_meant (λ (d : DevAddr). (8, Dev d)) ds (λ d. refl)))))))

beyond_meant : (p : Pair) (ps : List Pair) → list_all is_meant_pair ps ≡ true → list_all is_meant_pair (beyond_pair p ps) ≡ true
beyond_meant p [] h = refl
beyond_meant p (q ∷ ps) h =
    let rest = (and_parts (is_meant_pair q) (list_all is_meant_pair ps) h).1 in
    ⊎_elim
    (λ yes. rw yes rest)
    (λ no. rw no (beyond_meant p ps rest))
    (cases_Bool (same_pair p q && not (list_any (same_pair p) ps)))

ahead_meant : (last : Option Pair) (ps : List Pair) → list_all is_meant_pair ps ≡ true → list_all is_meant_pair (beyond last ps) ≡ true
ahead_meant None ps h = h
ahead_meant (Some p) ps h = beyond_meant p ps h

found_both : (f : Pair → Bool) (ps : List Pair) (p : Pair) → list_all is_meant_pair ps ≡ true → find f ps ≡ Some p → (is_meant_pair p ≡ true) × (f p ≡ true)
found_both f [] p h e = absurd (none-some p e)
found_both f (q ∷ ps) p h e =
    let parts = and_parts (is_meant_pair q) (list_all is_meant_pair ps) h in
    ⊎_elim
    (λ yes. subst (λ (x : Pair). (is_meant_pair x ≡ true) × (f x ≡ true)) (same_Some q p (rw yes at e)) (parts.0, yes))
    (λ no. found_both f ps p parts.1 (rw no at e))
    (cases_Bool (f q))

-- the next act is on such a scope, and some command of it wants it
pub next_wanted : (s : HostSpec) (P : List Entry) (level : ℕ) (scope : Scope) → next_act s P ≡ Some (level, scope)
    → (is_meant (level_of level) scope ≡ true) × (is_wanted_pair s.no_async_abort (todo s P) (level, scope) ≡ true)
next_wanted s P level scope h =
    found_both (is_wanted_pair s.no_async_abort (todo s P)) (beyond (last_act P) (pairs (listed s P))) (level, scope) (ahead_meant (last_act P) (pairs (listed s P)) (pairs_meant (listed s P))) h

-- a command that is left to do is busy with its attempt, which was answered where it wasn't cancelled
pub record IsBack (s : HostSpec) (P : List Entry) (x : Todo) : Type 0 where
  pub on_it : IsWith P x.cmd.0 x.n.0
  pub device : x.dev ≡ dev_of s x.cmd.0
  pub answered : x.cancelled ≡ false → is_answered x.n.0 P ≡ true

one_back : (s : HostSpec) (P : List Entry) (f : Failure) → EachStands s P → has_failed f.cmd.0 f.attempt.0 (failed P) ≡ true → IsOwned P f → IsBack s P (todo_of s P f)
one_back s P f each h o =
    let b = failed_busy s P f.cmd.0 f.attempt.0 each h in
    record {
      on_it = (b.tag, b.busy);
      device = refl;
      answered = λ plain. owned_answered s f.attempt.0 P each (ap is_by_answer (o.by ∙ ap (λ (x : Bool). Some (cond x ByExpiry ByAnswer)) plain));
    }

all_back : (s : HostSpec) (P : List Entry) (fs : List Failure) → EachStands s P → ((c n : ℕ) → has_failed c n fs ≡ true → has_failed c n (failed P) ≡ true) → AreOwned P fs
    → Each (IsBack s P) (map (todo_of s P) fs)
all_back s P [] each sub o = tt
all_back s P (f ∷ fs) each sub o = (
  one_back s P f each (sub f.cmd.0 f.attempt.0 (or_left ((f.cmd.0 == f.cmd.0) && (f.attempt.0 == f.attempt.0)) _ (and_from (f.cmd.0 == f.cmd.0) (f.attempt.0 == f.attempt.0) (eq-eqb f.cmd.0 f.cmd.0 refl) (eq-eqb f.attempt.0 f.attempt.0 refl)))) o.0,
  all_back s P fs each (λ c n h. sub c n (or_right ((f.cmd.0 == c) && (f.attempt.0 == n)) (has_failed c n fs) h)) o.1,
)

pub todo_back : (s : HostSpec) (P : List Entry) → EachStands s P → Each (IsBack s P) (todo s P)
todo_back s P each = each_kept (IsBack s P) (IsBack s P) (λ x. not (is_cleared x.cmd.0 P)) (listed s P) (λ x is b. b) (all_back s P (failed P) each (λ c n h. h) (failed_owned s P each))

-- one of the list of which a test holds
pub some_of : (A : Todo → Type 0) (test : Todo → Bool) (xs : List Todo) → Each A xs → list_any test xs ≡ true → (x : Todo) × (A x × (test x ≡ true))
some_of A test [] h any = cc any
some_of A test (x ∷ xs) h any = ⊎_elim
    (λ yes. (x, (h.0, yes)))
    (λ no. some_of A test xs h.1 no)
    (or_cases (test x) (list_any test xs) any)

-- a test that holds of none holds of each not
pub none_of : (A : Todo → Type 0) (test : Todo → Bool) (xs : List Todo) → Each A xs → (list_any test xs ≡ true → ⊥) → Each (λ x. A x × (test x ≡ true → ⊥)) xs
none_of A test [] h never = tt
none_of A test (x ∷ xs) h never = ((h.0, λ yes. never (or_left (test x) (list_any test xs) yes)), none_of A test xs h.1 (λ yes. never (or_right (test x) (list_any test xs) yes)))
