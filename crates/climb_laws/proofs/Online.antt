-- An act takes no device offline of which a command is left.
use Rattle.std.proofs.Common.{◌≡◌, ℕ, ◌==◌, Bool, true, false, not, filter, List, [], ◌∷◌, refl, sym, subst, ◌∙◌, ⊎_elim}
use Rattle.std.specs.List.{list_any, list_all}
use Rattle.std.proofs.lemmas.Bool.{cases_Bool, and_parts, not-true, or_left, or_right, or_cases}
use Rattle.mid_base.specs.declared.names.DevAddr.{DevAddr}
use Rattle.mid_base.specs.declared.answers.Disp.{Disp}
use Rattle.mid_base.specs.declared.answers.Disp.TheVariants.{Success, Retry, Requeue, Fail}
use Rattle.mid_base.specs.declared.answers.Scope.{Scope}
use Rattle.mid_base.specs.declared.answers.Scope.TheVariants.{Cmd, Dev, Target, Bus, Host}
use Rattle.mid_base.specs.declared.entries.Entry.{Entry}
use Rattle.mid_base.specs.declared.entries.Entry.TheVariants.{Offline, State}
use Rattle.mid_base.specs.declared.host_spec.HostSpec.{HostSpec}
use Rattle.mid_base.specs.Address.{same_dev, in_scope}
use Rattle.mid_base.specs.Levels.{Level, fetch_sense, abort, start_unit, reset_device, reset_target, reset_bus, reset_host, give_up, not_online, no_level}
use Rattle.disposition.specs.declared.todo.Todo.{Todo}
use Rattle.disposition.specs.Ladder.{is_in_scope, devs}
use Rattle.trace_model.specs.Devices.{state}
use Rattle.trace_model.specs.Course.{Course, Follows}
use Rattle.trace_model.specs.Climb.{tests, clear, test_and_clear, on_one_of, is_doubtful, kept_if, judge_again, offline_for, act_on}
use Rattle.trace_model.specs.Legal.{onto}
use Rattle.trace_model.proofs.Owes.{Owes, either}
use Rattle.escalation.specs.Climbing.{clears}
use Rattle.step_laws.proofs.Places.{same_dev_is}
use Rattle.climb_laws.proofs.Calm.{follows_all}

-- the entry leaves the device in its state
abbrev pub spares : DevAddr → Entry → Bool
spares d (State e x) = false
spares d (Offline e) = not (same_dev e d)
spares d e = true

spared_state : (s : HostSpec) (d : DevAddr) (P : List Entry) (e : Entry) → spares d e ≡ true → state s d (e ∷ P) ≡ state s d P
spared_state s d P (State e x) h = cc h
spared_state s d P (Offline e) h = rw (not-true _ h) refl
spared_state s d P e h = refl

pub state_onto : (s : HostSpec) (d : DevAddr) (es P : List Entry) → list_all (spares d) es ≡ true → state s d (onto es P) ≡ state s d P
state_onto s d [] P h = refl
state_onto s d (e ∷ es) P h =
    let parts = and_parts (spares d e) (list_all (spares d) es) h in
    state_onto s d es (e ∷ P) parts.1 ∙ spared_state s d P e parts.0

abbrev Spared : DevAddr → Course → Type 0
Spared d k = Owes (λ e. spares d e ≡ true) k

clear_spared : (d : DevAddr) (level : ℕ) (xs : List Todo) → Spared d (clear level xs)
clear_spared d level [] = tt
clear_spared d level (x ∷ xs) = (refl, clear_spared d level xs)

tests_spared : (e : DevAddr) (ds : List DevAddr) (k : List DevAddr → Course) → ((r : List DevAddr) → Spared e (k r)) → Spared e (tests ds k)
tests_spared e [] k h = h []
tests_spared e (d ∷ ds) k h = (
  λ say. refl,
  λ say. either (λ x. spares e x ≡ true) (is_doubtful say) _ _
      (λ again. refl, λ again. tests_spared e ds (λ ready. k (kept_if again d ready)) (λ r. h (kept_if again d r)))
      (tests_spared e ds (λ ready. k (kept_if say d ready)) (λ r. h (kept_if say d r))),
)

test_spared : (d : DevAddr) (level : ℕ) (xs : List Todo) → Spared d (test_and_clear level xs)
test_spared d level xs = tests_spared d (devs xs) _ (λ ready. clear_spared d level (filter (on_one_of ready) xs))

again_spared : (d : DevAddr) (x : Todo) (v : Disp) → Spared d (judge_again x v)
again_spared d x Success = (refl, (refl, tt))
again_spared d x Retry = (refl, (refl, tt))
again_spared d x Requeue = (refl, tt)
again_spared d x Fail = (refl, tt)

abbrev is_last : Level → Bool
is_last give_up = true
is_last level = false

-- an act of another level than 8
act_spared : (d : DevAddr) (at : Level) (level : ℕ) (ok : Bool) (xs : List Todo) → is_last at ≡ false → Spared d (act_on at level ok xs)
act_spared d give_up level ok xs n = cc n
act_spared d fetch_sense level ok [] n = tt
act_spared d fetch_sense level false (x ∷ xs) n = (λ say. refl, λ say. tt)
act_spared d fetch_sense level true (x ∷ xs) n = (λ say. refl, λ say. (λ sense. refl, λ sense. again_spared d x _))
act_spared d start_unit level ok [] n = tt
act_spared d start_unit level false (x ∷ xs) n = (λ say. refl, λ say. tt)
act_spared d start_unit level true (x ∷ xs) n = (λ say. refl, λ say. test_spared d 3 (x ∷ xs))
act_spared d not_online level ok xs n = tt
act_spared d no_level level ok xs n = tt
act_spared d abort level true xs n = test_spared d level xs
act_spared d reset_device level true xs n = test_spared d level xs
act_spared d reset_target level true xs n = test_spared d level xs
act_spared d reset_bus level true xs n = test_spared d level xs
act_spared d reset_host level true xs n = test_spared d level xs
act_spared d abort level false xs n = tt
act_spared d reset_device level false xs n = tt
act_spared d reset_target level false xs n = tt
act_spared d reset_bus level false xs n = tt
act_spared d reset_host level false xs n = tt

-- each command of the scope is cleared where its device is put offline

abbrev pub has_command : ℕ → List Todo → Bool
has_command c xs = list_any (λ x. x.cmd.0 == c) xs

turn_clears : (c level : ℕ) (zs : List Todo) (es : List Entry) → Follows (clear level zs) es → has_command c zs ≡ true → list_any (clears c) es ≡ true
turn_clears c level [] es f h = cc h
turn_clears c level (z ∷ zs) [] f h = absurd f
turn_clears c level (z ∷ zs) (e ∷ es) f h = ⊎_elim
    (λ here. or_left (clears c e) (list_any (clears c) es) (subst (λ (x : Entry). clears c x ≡ true) (sym f.0) here))
    (λ later. or_right (clears c e) (list_any (clears c) es) (turn_clears c level zs es f.1 later))
    (or_cases (z.cmd.0 == c) (has_command c zs) h)

offline_clears : (c : ℕ) (zs : List Todo) (es : List Entry) → Follows (offline_for zs) es → has_command c zs ≡ true → list_any (clears c) es ≡ true
offline_clears c [] es f h = cc h
offline_clears c (z ∷ zs) [] f h = absurd f
offline_clears c (z ∷ zs) (e ∷ es) f h = or_right (clears c e) (list_any (clears c) es) (turn_clears c 8 (z ∷ zs) es f.1 h)

abbrev is_of_first : DevAddr → List Todo → Bool
is_of_first d [] = false
is_of_first d (z ∷ zs) = same_dev z.dev d

offline_spares : (d : DevAddr) (c : ℕ) (zs : List Todo) (es : List Entry) → Follows (offline_for zs) es → (is_of_first d zs ≡ true → has_command c zs ≡ true) → list_any (clears c) es ≡ false → list_all (spares d) es ≡ true
offline_spares d c [] [] f h n = refl
offline_spares d c [] (e ∷ es) f h n = absurd f.0
offline_spares d c (z ∷ zs) es f h n = ⊎_elim
    (λ yes. absurd (cc (sym n ∙ offline_clears c (z ∷ zs) es f (h yes))))
    (λ no. follows_all (spares d) (offline_for (z ∷ zs)) es (rw no refl, clear_spared d 8 (z ∷ zs)) f)
    (cases_Bool (same_dev z.dev d))

-- the scope of a reset has each command of a device or none
abbrev pub IsWide : Scope → Type 0
IsWide scope = (x : Todo) → is_in_scope scope x ≡ in_scope scope x.dev

first_in : (scope : Scope) (d : DevAddr) (xs : List Todo) → IsWide scope → is_of_first d (filter (is_in_scope scope) xs) ≡ true → in_scope scope d ≡ true
first_in scope d [] w h = cc h
first_in scope d (x ∷ xs) w h = ⊎_elim
    (λ yes. subst (λ (e : DevAddr). in_scope scope e ≡ true) (same_dev_is x.dev d (rw yes at h)) (sym (w x) ∙ yes))
    (λ no. first_in scope d xs w (rw no at h))
    (cases_Bool (is_in_scope scope x))

-- level 8 isn't on a command alone
abbrev pub is_fit : Level → Scope → Bool
is_fit give_up (Cmd c) = false
is_fit level scope = true

wide_spares : (d : DevAddr) (c : ℕ) (scope : Scope) (xs : List Todo) (es : List Entry) → IsWide scope → Follows (offline_for (filter (is_in_scope scope) xs)) es
    → (in_scope scope d ≡ true → has_command c (filter (is_in_scope scope) xs) ≡ true) → list_any (clears c) es ≡ false → list_all (spares d) es ≡ true
wide_spares d c scope xs es w f h n = offline_spares d c (filter (is_in_scope scope) xs) es f (λ i. h (first_in scope d xs w i)) n

-- where each command of the device is in a scope that has the device, and this one isn't cleared, its device is left alone
pub act_spares : (d : DevAddr) (c : ℕ) (at : Level) (level : ℕ) (scope : Scope) (ok : Bool) (xs : List Todo) (es : List Entry) → is_fit at scope ≡ true
    → Follows (act_on at level ok (filter (is_in_scope scope) xs)) es → (IsWide scope → in_scope scope d ≡ true → has_command c (filter (is_in_scope scope) xs) ≡ true)
    → list_any (clears c) es ≡ false → list_all (spares d) es ≡ true
act_spares d c give_up level (Cmd k) ok xs es g f h n = cc g
act_spares d c give_up level (Dev e) ok xs es g f h n = wide_spares d c (Dev e) xs es (λ x. refl) f (h (λ x. refl)) n
act_spares d c give_up level (Target a t) ok xs es g f h n = wide_spares d c (Target a t) xs es (λ x. refl) f (h (λ x. refl)) n
act_spares d c give_up level (Bus a) ok xs es g f h n = wide_spares d c (Bus a) xs es (λ x. refl) f (h (λ x. refl)) n
act_spares d c give_up level Host ok xs es g f h n = wide_spares d c Host xs es (λ x. refl) f (h (λ x. refl)) n
act_spares d c at level scope ok xs es g f h n = follows_all (spares d) (act_on at level ok (filter (is_in_scope scope) xs)) es (act_spared d at level ok (filter (is_in_scope scope) xs) refl) f
