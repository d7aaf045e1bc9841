-- What EhAct begins with: the next act, and whether it is ok.
use Rattle.std.proofs.Common.{◌≡◌, ◌⊎◌, ℕ, Bool, true, false, ◌&&◌, filter, List, [], ◌∷◌, Some, refl, sym, ap, ap₂, ◌∙◌, subst, inl, inr, ⊎_elim}
use mathlib.Core.Bool.{beq}
use Rattle.std.specs.List.{list_any}
use Rattle.std.proofs.lemmas.Bool.{cases_Bool, and_parts, and_right, or_from}
use Rattle.std.proofs.lemmas.Bool.Decides.{eqb_tells}
use Rattle.std.proofs.lemmas.Option.{same_Some}
use Rattle.mid_base.specs.declared.names.DevAddr.{DevAddr}
use Rattle.mid_base.specs.declared.answers.ProbeSay.{ProbeSay}
use Rattle.mid_base.specs.declared.answers.Scope.{Scope}
use Rattle.mid_base.specs.declared.entries.Entry.{Entry}
use Rattle.mid_base.specs.declared.entries.Entry.TheVariants.{Act, Probe}
use Rattle.mid_base.specs.declared.steps.Step.TheVariants.{EhAct}
use Rattle.mid_base.specs.declared.host_spec.HostSpec.{HostSpec}
use Rattle.mid_base.specs.Answers.{said_good}
use Rattle.mid_base.specs.Codes.{start_stop_unit}
use Rattle.mid_base.specs.Levels.{Level, start_unit, give_up, not_online, no_level, level_of}
use Rattle.host_template.specs.Standing.{Before}
use Rattle.disposition.specs.declared.todo.Todo.{Todo}
use Rattle.disposition.specs.Ladder.{is_in_scope, is_of_kind, Pair, pairs, is_wanted_pair, beyond}
use Rattle.trace_model.specs.Devices.{has_begun}
use Rattle.trace_model.specs.Course.{Course, ask, Follows}
use Rattle.trace_model.specs.Climb.{climb, start_for}
use Rattle.trace_model.specs.Recovery.{todo, listed, last_act, next_act, is_quiet, may_act}
use Rattle.trace_model.specs.Steps.{opens}
use Rattle.trace_model.specs.Legal.{onto, Group}
use Rattle.step_laws.proofs.Sends.{found_has}
use Rattle.debug_adapter.specs.LowerRun.{LowerRun, tells_act, act_ok}
use Rattle.debug_adapter.proofs.Once.{probe_once}
use Rattle.adds_laws.proofs.Along.{Says, Ran, says_there, asked}

-- ---- the kinds of levels

-- nothing is of such a level
abbrev is_idle : Level → Bool
is_idle not_online = true
is_idle no_level = true
is_idle level = false

kind : (n : ℕ) → (tells_act n ≡ true) ⊎ ((3 ≡ n) ⊎ ((8 ≡ n) ⊎ (is_idle (level_of n) ≡ true)))
kind n = ⊎_elim
    (λ y. inr (inr (inr (subst (λ (m : ℕ). is_idle (level_of m) ≡ true) y.1 refl))))
    (λ a. ⊎_elim
    (λ y. inl (subst tells y.1 refl))
    (λ b. ⊎_elim
    (λ y. inl (subst tells y.1 refl))
    (λ c. ⊎_elim
    (λ y. inr (inl y.1))
    (λ d. ⊎_elim
    (λ y. inl (subst tells y.1 refl))
    (λ e. ⊎_elim
    (λ y. inl (subst tells y.1 refl))
    (λ f. ⊎_elim
    (λ y. inl (subst tells y.1 refl))
    (λ g. ⊎_elim
    (λ y. inl (subst tells y.1 refl))
    (λ h. ⊎_elim
    (λ y. inr (inr (inl y.1)))
    (λ i. inr (inr (inr (rw (a.0, b.0, c.0, d.0, e.0, f.0, g.0, h.0, i.0) refl))))
    (eqb_tells 8 n))
    (eqb_tells 7 n))
    (eqb_tells 6 n))
    (eqb_tells 5 n))
    (eqb_tells 4 n))
    (eqb_tells 3 n))
    (eqb_tells 2 n))
    (eqb_tells 1 n))
    (eqb_tells 0 n)
  where
    tells : ℕ → Type 0
    tells m = tells_act m ≡ true

-- ---- the next act has a command

abbrev wants : HostSpec → List Todo → ℕ → Scope → Todo → Bool
wants s xs level scope x = is_in_scope scope x && is_of_kind s.no_async_abort (level_of level) xs x

next_wanted : (s : HostSpec) (P : List Entry) (level : ℕ) (scope : Scope) → next_act s P ≡ Some (level, scope) → list_any (wants s (todo s P) level scope) (todo s P) ≡ true
next_wanted s P level scope h = found_has (is_wanted_pair s.no_async_abort (todo s P)) (beyond (last_act P) (pairs (listed s P))) (level, scope) h

none_any : (f : Todo → Bool) (xs : List Todo) → ((x : Todo) → f x ≡ false) → list_any f xs ≡ false
none_any f [] h = refl
none_any f (x ∷ xs) h = or_from (f x) (list_any f xs) (h x) (none_any f xs h)

idle_kind : (aborts : Bool) (l : Level) (xs : List Todo) (x : Todo) → is_idle l ≡ true → is_of_kind aborts l xs x ≡ false
idle_kind aborts not_online xs x h = refl
idle_kind aborts no_level xs x h = refl
idle_kind aborts l xs x h = cc h

idle_none : (s : HostSpec) (xs ys : List Todo) (level : ℕ) (scope : Scope) → is_idle (level_of level) ≡ true → list_any (wants s xs level scope) ys ≡ false
idle_none s xs ys level scope h = none_any (wants s xs level scope) ys (λ x. and_right (is_in_scope scope x) (is_of_kind s.no_async_abort (level_of level) xs x) (idle_kind s.no_async_abort (level_of level) xs x h))

has_first : (f k : Todo → Bool) (xs : List Todo) → list_any (λ x. f x && k x) xs ≡ true → (x : Todo) × (ys : List Todo) × (filter f xs ≡ x ∷ ys)
has_first f k [] h = cc h
has_first f k (x ∷ xs) h = ⊎_elim
    (λ yes. rw yes (x, filter f xs, refl))
    (λ no. rw no (has_first f k xs (rw no at h)))
    (cases_Bool (f x))

-- ---- level 3 goes by its probe

beq_is : (a b : Bool) → beq a b ≡ true → a ≡ b
beq_is true true h = refl
beq_is false false h = refl
beq_is true false h = cc h
beq_is false true h = cc h

record StartsWith (s : HostSpec) (b : Before) (P : List Entry) (d : DevAddr) (ok : Bool) : Type 0 where
  say : ProbeSay
  good : said_good say ≡ ok
  there : LowerRun s b (Probe d start_stop_unit say ∷ P)

-- the act itself changes nothing that the probe meets
before_act : (s : HostSpec) (b : Before) (P : List Entry) (d : DevAddr) (say : ProbeSay) (scope : Scope) (ok : Bool)
    → LowerRun s b (Probe d start_stop_unit say ∷ Act 3 scope ok ∷ P) → LowerRun s b (Probe d start_stop_unit say ∷ P)
before_act s b P d say scope true r = (r.0, r.1.1)
before_act s b P d say scope false r = (r.0, r.1.1)

starts : (s : HostSpec) (b : Before) (P : List Entry) (d : DevAddr) (scope : Scope) (ok : Bool) (k : ProbeSay → Course) (g : List Entry)
    → Follows (ask d start_stop_unit (Some ok) k) g → Ran s b (onto g (Act 3 scope ok ∷ P)) → StartsWith s b P d ok
starts s b P d scope ok k [] f r = absurd f
starts s b P d scope ok k (e ∷ g) f r =
    let p = asked d start_stop_unit (Some ok) k e f.0 in
    let there : LowerRun s b (Probe d start_stop_unit p.0 ∷ Act 3 scope ok ∷ P) = subst (Says s b (Act 3 scope ok ∷ P)) p.1 (says_there s b e g (Act 3 scope ok ∷ P) r) in
    record { say = p.0; good = beq_is (said_good p.0) ok p.2; there = before_act s b P d p.0 scope ok there }

first_probe : (s : HostSpec) (b : Before) (P : List Entry) (x : Todo) (xs : List Todo) (scope : Scope) (ok : Bool) (g : List Entry)
    → Follows (start_for ok (x ∷ xs)) g → Ran s b (onto g (Act 3 scope ok ∷ P)) → StartsWith s b P x.dev ok
first_probe s b P x xs scope true g f r = starts s b P x.dev scope true _ g f r
first_probe s b P x xs scope false g f r = starts s b P x.dev scope false _ g f r

start_one : (s : HostSpec) (b : Before) (P : List Entry) (x : Todo) (xs : List Todo) (scope : Scope) (ok v : Bool) (g h : List Entry)
    → Follows (start_for ok (x ∷ xs)) g → Ran s b (onto g (Act 3 scope ok ∷ P))
    → Follows (start_for v (x ∷ xs)) h → Ran s b (onto h (Act 3 scope v ∷ P)) → ok ≡ v
start_one s b P x xs scope ok v g h f q k r =
    let one = first_probe s b P x xs scope ok g f q in
    let two = first_probe s b P x xs scope v h k r in
    sym one.good ∙ (ap said_good (probe_once s b P x.dev start_stop_unit one.say two.say one.there two.there) ∙ two.good)

-- ---- whether an act is ok

record IsActOf (s : HostSpec) (b : Before) (P : List Entry) (level : ℕ) (scope : Scope) (ok : Bool) (g : List Entry) : Type 0 where
  may : may_act s P (level_of level) ok ≡ true
  rest : Follows (climb (todo s P) level scope ok) g
  ran : Ran s b (onto g (Act level scope ok ∷ P))

told_ok : (s : HostSpec) (b : Before) (P : List Entry) (level : ℕ) (scope : Scope) (ok : Bool) (g : List Entry) → IsActOf s b P level scope ok g → tells_act level ≡ true → ok ≡ act_ok s b P level scope
told_ok s b P level scope ok g x t = (says_there s b (Act level scope ok) g P x.ran).0 t

last_ok : (s : HostSpec) (P : List Entry) (ok : Bool) → may_act s P give_up ok ≡ true → ok ≡ true
last_ok s P true h = refl
last_ok s P false h = absurd (cc (and_parts (is_quiet s P && has_begun P) false h).1)

started_ok : (s : HostSpec) (b : Before) (P : List Entry) (scope : Scope) (ok v : Bool) (g h : List Entry) → list_any (wants s (todo s P) 3 scope) (todo s P) ≡ true
    → IsActOf s b P 3 scope ok g → IsActOf s b P 3 scope v h → ok ≡ v
started_ok s b P scope ok v g h w x y =
    let some = has_first (is_in_scope scope) (is_of_kind s.no_async_abort start_unit (todo s P)) (todo s P) w in
    start_one s b P some.0 some.1 scope ok v g h
    (subst (λ (xs : List Todo). Follows (start_for ok xs) g) some.2 x.rest) x.ran
    (subst (λ (xs : List Todo). Follows (start_for v xs) h) some.2 y.rest) y.ran

same_ok : (s : HostSpec) (b : Before) (P : List Entry) (level : ℕ) (scope : Scope) (ok v : Bool) (g h : List Entry) → list_any (wants s (todo s P) level scope) (todo s P) ≡ true
    → IsActOf s b P level scope ok g → IsActOf s b P level scope v h
    → (tells_act level ≡ true) ⊎ ((3 ≡ level) ⊎ ((8 ≡ level) ⊎ (is_idle (level_of level) ≡ true))) → ok ≡ v
same_ok s b P level scope ok v g h w x y (inl t) = told_ok s b P level scope ok g x t ∙ sym (told_ok s b P level scope v h y t)
same_ok s b P level scope ok v g h w x y (inr (inl e)) =
    started_ok s b P scope ok v g h
    (subst (λ (m : ℕ). list_any (wants s (todo s P) m scope) (todo s P) ≡ true) (sym e) w)
    (subst (λ (m : ℕ). IsActOf s b P m scope ok g) (sym e) x)
    (subst (λ (m : ℕ). IsActOf s b P m scope v h) (sym e) y)
same_ok s b P level scope ok v g h w x y (inr (inr (inl e))) =
    last_ok s P ok (subst (λ (m : ℕ). may_act s P (level_of m) ok ≡ true) (sym e) x.may)
    ∙ sym (last_ok s P v (subst (λ (m : ℕ). may_act s P (level_of m) v ≡ true) (sym e) y.may))
same_ok s b P level scope ok v g h w x y (inr (inr (inr i))) = absurd (cc (sym w ∙ idle_none s (todo s P) (todo s P) level scope i))

record IsNextActOf (s : HostSpec) (b : Before) (P : List Entry) (e : Entry) (g : List Entry) : Type 0 where
  pair : Pair
  ok : Bool
  opener : e ≡ Act pair.0 pair.1 ok
  next : next_act s P ≡ Some pair
  act : IsActOf s b P pair.0 pair.1 ok g

next_act_of : (s : HostSpec) (b : Before) (P : List Entry) (e : Entry) (g : List Entry) → opens s P EhAct e ≡ true → Group s P (e ∷ g) → Ran s b (onto g (e ∷ P)) → IsNextActOf s b P e g
next_act_of s b P (Act level scope ok) g o x r = record { pair = (level, scope); ok = ok; opener = refl; next = x.0.1; act = record { may = x.0.0; rest = x.1; ran = r } }
next_act_of s b P e g o x r = cc o

pub acts_one : (s : HostSpec) (b : Before) (P : List Entry) (e f : Entry) (g h : List Entry)
    → opens s P EhAct e ≡ true → Group s P (e ∷ g) → Ran s b (onto g (e ∷ P))
    → opens s P EhAct f ≡ true → Group s P (f ∷ h) → Ran s b (onto h (f ∷ P)) → e ≡ f
acts_one s b P e f g h o x q p y r =
    let a = next_act_of s b P e g o x q in
    let c = next_act_of s b P f h p y r in
    let same : a.pair ≡ c.pair = same_Some a.pair c.pair (sym a.next ∙ c.next) in
    let other : IsActOf s b P a.pair.0 a.pair.1 c.ok h = subst (λ (z : Pair). IsActOf s b P z.0 z.1 c.ok h) (sym same) c.act in
    let ok : a.ok ≡ c.ok = same_ok s b P a.pair.0 a.pair.1 a.ok c.ok g h (next_wanted s P a.pair.0 a.pair.1 a.next) a.act other (kind a.pair.0) in
    a.opener ∙ (ap₂ (λ (z : Pair) (u : Bool). Act z.0 z.1 u) same ok ∙ sym c.opener)
