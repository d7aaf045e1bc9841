-- What is held right stays so over an act of recovery.
use Rattle.std.proofs.Common.{◌≡◌, ℕ, ◌==◌, Bool, true, false, not, ◌&&◌, filter, List, [], ◌∷◌, refl, sym, subst, ap, ◌∙◌, ⊎_elim, Some}
use Rattle.std.specs.List.{list_any}
use Rattle.std.proofs.lemmas.Bool.{cases_Bool, and_parts, and_from, false≢true, eqb-true, not-true}
use Rattle.mid_base.specs.declared.answers.Scope.{Scope}
use Rattle.mid_base.specs.declared.answers.Scope.TheVariants.{Cmd, Dev, Target, Bus, Host}
use Rattle.mid_base.specs.declared.entries.Entry.{Entry}
use Rattle.mid_base.specs.declared.entries.Entry.TheVariants.{Act, Offline}
use Rattle.mid_base.specs.declared.host_spec.HostSpec.{HostSpec}
use Rattle.mid_base.specs.declared.names.DevAddr.{DevAddr}
use Rattle.mid_base.specs.Address.{same_dev, in_scope}
use Rattle.mid_base.specs.Levels.{Level, fetch_sense, abort, start_unit, reset_device, reset_target, reset_bus, reset_host, give_up, level_of}
use Rattle.disposition.specs.declared.todo.Todo.{Todo}
use Rattle.disposition.specs.Ladder.{is_in_scope, is_of_kind, is_wanted_pair, wants_sense, wants_start}
use Rattle.host_template.specs.Meaning.{Meaning, Holds}
use Rattle.trace_model.specs.Climb.{climb, act_on, offline_for}
use Rattle.trace_model.specs.Course.{Follows}
use Rattle.trace_model.specs.Legal.{EachStands, onto}
use Rattle.trace_model.specs.Names.{dev_of}
use Rattle.trace_model.specs.Recovery.{todo, next_act}
use Rattle.escalation.specs.Climbing.{LetsGo}
use Rattle.step_laws.proofs.Places.{same_dev_is}
use Rattle.held_laws.specs.Held.{Held, HoldsRight, NoneHeld}
use Rattle.held_laws.proofs.Courses.{Each, AreAll, each_kept, act_owes, follows_right, clear_right}
use Rattle.held_laws.proofs.Entries.{AllLost, stays_right}
use Rattle.held_laws.proofs.Idle.{answered_none, free_none}
use Rattle.held_laws.proofs.Wanted.{IsBack, is_meant, next_wanted, todo_back, some_of, none_of}

-- the device of no command of the list is online where an attempt of the command is held
abbrev pub AreLost : HostSpec → List Entry → Meaning → List Todo → Type 0
AreLost s P m xs = AreAll (λ c. AllLost s P c m.holds) xs

none_lost : (s : HostSpec) (P : List Entry) (c : ℕ) (held : Held) → NoneHeld P c held → AllLost s P c held
none_lost s P c held none n d on sent is = absurd (none n d on sent is)

-- a scope that is one command
own_lost : (s : HostSpec) (P : List Entry) (m : Meaning) (c : ℕ) (xs : List Todo) (A : Todo → Type 0) (keep : Todo → Bool) → ((x : Todo) → keep x ≡ true → (x.cmd.0 == c) ≡ true) → NoneHeld P c m.holds
    → Each A xs → AreLost s P m (filter keep xs)
own_lost s P m c xs A keep own none h =
    each_kept A (λ x. AllLost s P x.cmd.0 m.holds) keep xs
    (λ x in_it back. subst (λ (k : ℕ). AllLost s P k m.holds) (sym (eqb-true x.cmd.0 c (own x in_it))) (none_lost s P c m.holds none)) h

-- some command of the scope, which wants its sense, was answered
fetched_lost : (s : HostSpec) (P : List Entry) (m : Meaning) (c : _) (aborts : Bool) (xs : List Todo) → HoldsRight s P m.holds → Each (IsBack s P) xs
    → is_wanted_pair aborts xs (1, Cmd c) ≡ true → AreLost s P m (filter (is_in_scope (Cmd c)) xs)
fetched_lost s P m c aborts xs h backs wanted =
    let some = some_of (IsBack s P) (λ x. is_in_scope (Cmd c) x && is_of_kind aborts fetch_sense xs x) xs backs wanted in
    let x : Todo = some.0 in
    let parts = and_parts (x.cmd.0 == c.0) (not x.cancelled && wants_sense x.answer) some.1.1 in
    let plain : x.cancelled ≡ false = not-true _ (and_parts (not x.cancelled) (wants_sense x.answer) parts.1).0 in
    let none : NoneHeld P x.cmd.0 m.holds = answered_none s P x.cmd.0 x.n.0 m.holds h some.1.0.on_it (some.1.0.answered plain) in
    own_lost s P m c.0 xs (IsBack s P) (is_in_scope (Cmd c)) (λ y in_it. in_it) (subst (λ (k : ℕ). NoneHeld P k m.holds) (eqb-true x.cmd.0 c.0 parts.0) none) backs

-- its attempt was aborted
aborted_lost : (s : HostSpec) (P : List Entry) (m : Meaning) (c : ℕ) (xs : List Todo) → HoldsRight s P m.holds → Each (λ x. IsBack s P x × ((x.cmd.0 == c) ≡ true)) xs
    → LetsGo abort (Cmd (record { 0 = c })) true xs m → AreLost s P m xs
aborted_lost s P m c [] h backs free = tt
aborted_lost s P m c (x ∷ xs) h backs free =
    let none : NoneHeld P c m.holds = subst (λ (k : ℕ). NoneHeld P k m.holds) (eqb-true x.cmd.0 c backs.0.1) (free_none s P x.cmd.0 x.n.0 m h backs.0.0.on_it free) in (
      subst (λ (k : ℕ). AllLost s P k m.holds) (sym (eqb-true x.cmd.0 c backs.0.1)) (none_lost s P c m.holds none),
      others c none xs backs.1,
    )
  where
    others : (c : ℕ) → NoneHeld P c m.holds → (ys : List Todo) → Each (λ x. IsBack s P x × ((x.cmd.0 == c) ≡ true)) ys → AreLost s P m ys
    others c none [] h = tt
    others c none (y ∷ ys) h = (subst (λ (k : ℕ). AllLost s P k m.holds) (sym (eqb-true y.cmd.0 c h.0.1)) (none_lost s P c m.holds none), others c none ys h.1)

-- no command of the device was cancelled, so each was answered
started_lost : (s : HostSpec) (P : List Entry) (m : Meaning) (d : DevAddr) (aborts : Bool) (xs : List Todo) → HoldsRight s P m.holds → Each (IsBack s P) xs
    → is_wanted_pair aborts xs (3, Dev d) ≡ true → AreLost s P m (filter (is_in_scope (Dev d)) xs)
started_lost s P m d aborts xs h backs wanted =
    let some = some_of (IsBack s P) (λ x. is_in_scope (Dev d) x && is_of_kind aborts start_unit xs x) xs backs wanted in
    let x : Todo = some.0 in
    let parts = and_parts (same_dev d x.dev) (wants_start x.answer && not (list_any (λ y. y.cancelled && same_dev y.dev x.dev) xs)) some.1.1 in
    let nobody : list_any (λ y. y.cancelled && same_dev y.dev x.dev) xs ≡ false = not-true _ (and_parts (wants_start x.answer) _ parts.1).1 in
    each_kept (λ y. IsBack s P y × (y.cancelled && same_dev y.dev x.dev ≡ true → ⊥)) (λ y. AllLost s P y.cmd.0 m.holds) (is_in_scope (Dev d)) xs
    (λ y in_it back.
    let here : same_dev y.dev x.dev ≡ true = subst (λ (e : DevAddr). same_dev e x.dev ≡ true) (same_dev_is d y.dev in_it) parts.0 in
    let plain : y.cancelled ≡ false = ⊎_elim (λ yes. absurd (back.1 (and_from y.cancelled (same_dev y.dev x.dev) yes here))) (λ no. no) (cases_Bool y.cancelled) in
    none_lost s P y.cmd.0 m.holds (answered_none s P y.cmd.0 y.n.0 m.holds h back.0.on_it (back.0.answered plain)))
    (none_of (IsBack s P) (λ y. y.cancelled && same_dev y.dev x.dev) xs backs (λ yes. false≢true (sym nobody ∙ yes)))

-- the devices of the scope were reset
reset_lost : (s : HostSpec) (P : List Entry) (m : Meaning) (scope : Scope) (xs : List Todo) → HoldsRight s P m.holds → Each (IsBack s P) xs
    → ((x : Todo) → is_in_scope scope x ≡ true → in_scope scope x.dev ≡ true) → ((n : ℕ) (d : DevAddr) → Holds m.holds n d → in_scope scope d ≡ false)
    → AreLost s P m (filter (is_in_scope scope) xs)
reset_lost s P m scope xs h backs wide gone =
    each_kept (IsBack s P) (λ x. AllLost s P x.cmd.0 m.holds) (is_in_scope scope) xs
    (λ x in_it back n d on sent is.
    let same : d ≡ x.dev = (h n d on sent).device ∙ ap (λ (k : ℕ). dev_of s k) is ∙ sym back.device in
    absurd (false≢true (sym (gone n d on) ∙ subst (λ (e : DevAddr). in_scope scope e ≡ true) (sym same) (wide x in_it))))
    backs

-- where an act went well, that of none of the commands in its scope is
acted_lost : (s : HostSpec) (P : List Entry) (m : Meaning) (at : Level) (scope : Scope) (aborts : Bool) (xs : List Todo) → HoldsRight s P m.holds → Each (IsBack s P) xs
    → is_meant at scope ≡ true → list_any (λ x. is_in_scope scope x && is_of_kind aborts at xs x) xs ≡ true → LetsGo at scope true (filter (is_in_scope scope) xs) m
    → (at ≡ give_up → ⊥) → AreLost s P m (filter (is_in_scope scope) xs)
acted_lost s P m fetch_sense (Cmd c) aborts xs h backs meant wanted gone other = fetched_lost s P m c aborts xs h backs wanted
acted_lost s P m abort (Cmd c) aborts xs h backs meant wanted gone other =
    aborted_lost s P m c.0 (filter (is_in_scope (Cmd c)) xs) h (each_kept (IsBack s P) (λ x. IsBack s P x × ((x.cmd.0 == c.0) ≡ true)) (is_in_scope (Cmd c)) xs (λ x in_it back. (back, in_it)) backs) gone
acted_lost s P m start_unit (Dev d) aborts xs h backs meant wanted gone other = started_lost s P m d aborts xs h backs wanted
acted_lost s P m reset_device (Dev d) aborts xs h backs meant wanted gone other = reset_lost s P m (Dev d) xs h backs (λ x in_it. in_it) gone
acted_lost s P m reset_target (Target a t) aborts xs h backs meant wanted gone other = reset_lost s P m (Target a t) xs h backs (λ x in_it. in_it) gone
acted_lost s P m reset_bus (Bus a) aborts xs h backs meant wanted gone other = reset_lost s P m (Bus a) xs h backs (λ x in_it. in_it) gone
acted_lost s P m reset_host Host aborts xs h backs meant wanted gone other = reset_lost s P m Host xs h backs (λ x in_it. in_it) gone
acted_lost s P m give_up scope aborts xs h backs meant wanted gone other = absurd (other refl)
acted_lost s P m at scope aborts xs h backs meant wanted gone other = absurd (false≢true meant)

-- the device is put offline first
given_up_right : (s : HostSpec) (P : List Entry) (m : Meaning) (d : DevAddr) (xs : List Todo) (es : List Entry) → Each (λ x. IsBack s P x × (same_dev d x.dev ≡ true)) xs
    → Follows (offline_for xs) es → HoldsRight s P m.holds → HoldsRight s (onto es P) m.holds
given_up_right s P m d [] [] backs f h = h
given_up_right s P m d [] (e ∷ es) backs f h = absurd f.0
given_up_right s P m d (x ∷ xs) [] backs f h = absurd f
given_up_right s P m d (x ∷ xs) (e ∷ es) backs f h =
    let first : d ≡ x.dev = same_dev_is d x.dev backs.0.1 in
    let off : HoldsRight s (onto es (Offline x.dev ∷ P)) m.holds =
    clear_right s (Offline x.dev ∷ P) m.holds 8 (x ∷ xs) es
    (each_mapped (λ y. IsBack s P y × (same_dev d y.dev ≡ true)) (λ y. AllLost s (Offline x.dev ∷ P) y.cmd.0 m.holds)
    (λ y back n e on sent is.
    let here : same_dev x.dev (dev_of s y.cmd.0) ≡ true = subst (λ (a : DevAddr). same_dev a (dev_of s y.cmd.0) ≡ true) first (subst (λ (a : DevAddr). same_dev d a ≡ true) back.0.device back.1) in
    rw here refl)
    (x ∷ xs) backs)
    f.1 (stays_right s P m.holds (Offline x.dev) tt h)
    in
    subst (λ (a : Entry). HoldsRight s (onto es (a ∷ P)) m.holds) (sym f.0) off
  where
    each_mapped : (A B : Todo → Type 0) → ((x : Todo) → A x → B x) → (ys : List Todo) → Each A ys → Each B ys
    each_mapped A B g [] a = tt
    each_mapped A B g (y ∷ ys) a = (g y a.0, each_mapped A B g ys a.1)

gives_up : (s : HostSpec) (P : List Entry) (m : Meaning) (scope : Scope) (xs : List Todo) (es : List Entry) → is_meant give_up scope ≡ true → Each (IsBack s P) xs
    → Follows (offline_for (filter (is_in_scope scope) xs)) es → HoldsRight s P m.holds → HoldsRight s (onto es P) m.holds
gives_up s P m (Dev d) xs es meant backs f h =
    given_up_right s P m d (filter (is_in_scope (Dev d)) xs) es (each_kept (IsBack s P) (λ x. IsBack s P x × (same_dev d x.dev ≡ true)) (is_in_scope (Dev d)) xs (λ x in_it back. (back, in_it)) backs) f h
gives_up s P m scope xs es meant backs f h = absurd (false≢true meant)

-- an act on a journal that already ends with its Act
acts_right : (s : HostSpec) (P : List Entry) (m : Meaning) (at : Level) (level : ℕ) (scope : Scope) (ok aborts : Bool) (xs : List Todo) (es : List Entry) → HoldsRight s P m.holds → Each (IsBack s P) xs
    → is_meant at scope ≡ true → list_any (λ x. is_in_scope scope x && is_of_kind aborts at xs x) xs ≡ true → LetsGo at scope ok (filter (is_in_scope scope) xs) m
    → Follows (act_on at level ok (filter (is_in_scope scope) xs)) es → HoldsRight s (onto es P) m.holds
acts_right s P m give_up level scope ok aborts xs es h backs meant wanted gone f = gives_up s P m scope xs es meant backs f h
acts_right s P m at level scope ok aborts xs es h backs meant wanted gone f =
    follows_right s P m.holds (act_on at level ok (filter (is_in_scope scope) xs)) es
    (act_owes (λ c. AllLost s P c m.holds) at level ok (filter (is_in_scope scope) xs) (λ e. cc e)
    (λ well. acted_lost s P m at scope aborts xs h backs meant wanted (subst (λ (b : Bool). LetsGo at scope b (filter (is_in_scope scope) xs) m) well gone) (λ e. cc e)))
    f h

-- the words of what is left to do are the same behind the Act
pub act_right : (s : HostSpec) (P : List Entry) (m : Meaning) (level : ℕ) (scope : Scope) (ok : Bool) (es : List Entry) → EachStands s P → next_act s P ≡ Some (level, scope)
    → LetsGo (level_of level) scope ok (filter (is_in_scope scope) (todo s P)) m → Follows (climb (todo s P) level scope ok) es → HoldsRight s P m.holds
    → HoldsRight s (onto es (Act level scope ok ∷ P)) m.holds
act_right s P m level scope ok es each next gone f h =
    let wanted = next_wanted s P level scope next in
    acts_right s (Act level scope ok ∷ P) m (level_of level) level scope ok s.no_async_abort (todo s P) es
    (stays_right s P m.holds (Act level scope ok) tt h)
    (each_behind (todo s P) (todo_back s P each))
    wanted.0 wanted.1 gone f
  where
    behind : (x : Todo) → IsBack s P x → IsBack s (Act level scope ok ∷ P) x
    behind x b = record { on_it = b.on_it; device = b.device; answered = b.answered }

    each_behind : (xs : List Todo) → Each (IsBack s P) xs → Each (IsBack s (Act level scope ok ∷ P)) xs
    each_behind [] b = tt
    each_behind (x ∷ xs) b = (behind x b.0, each_behind xs b.1)
