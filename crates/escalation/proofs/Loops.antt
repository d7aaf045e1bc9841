-- One turn more of a loop.
use Rattle.std.proofs.Common.{◌≡◌, ℕ, ◌+◌, ◌<◌, ◌≤◌, Bool, true, false, cond, List, [], ◌∷◌, ◌++◌, map, filter, take, drop, get_or, length, refl, sym, ap, ◌∙◌, subst, ⊎_elim, arith, append_assoc}
use Rattle.std.proofs.lemmas.Bool.{cases_Bool}
use Rattle.std.proofs.lemmas.List.{take_more, map_more, map-append}
use Rattle.mid_base.specs.declared.names.DevAddr.{DevAddr}
use Rattle.mid_base.specs.declared.entries.Entry.{Entry}
use Rattle.mid_base.specs.declared.entries.Entry.TheVariants.{Cleared}
use Rattle.disposition.specs.declared.todo.Todo.{Todo}
use Rattle.host_template.specs.Standing.{Standing}
use Rattle.eh_probe.specs.declared.says.Tested.{Tested}
use Rattle.eh_probe.specs.Tests.{IsTest, test_entries}
use Rattle.eh_probe.specs.Standings.{StandsAfter}
use Rattle.escalation.specs.Acts.{Tests, cleared}
use Rattle.escalation.proofs.Tested.{kept, more_tests}

pub pushed : {X Y : Type 0} (f : X → Y) (xs : List X) (i : ℕ) (d : X) (before cur next : List Y) → i < length xs → cur ≡ before ++ map f (take i xs) → next ≡ cur ++ f (get_or xs i d) ∷ []
    → next ≡ before ++ map f (take (i + 1) xs)
pushed {X} {Y} f xs i d before cur next lt h e =
    e ∙ (ap (λ (r : List Y). r ++ f (get_or xs i d) ∷ []) h ∙ (append_assoc before (map f (take i xs)) (f (get_or xs i d) ∷ []) ∙ ap (λ (r : List Y). before ++ r) (sym (map_more f xs i d lt))))

filter_append : {X : Type 0} (p : X → Bool) (xs ys : List X) → filter p (xs ++ ys) ≡ filter p xs ++ filter p ys
filter_append p [] ys = refl
filter_append {X} p (x ∷ xs) ys = ⊎_elim
    (λ yes. rw yes (ap (λ (r : List X). x ∷ r) (filter_append p xs ys)))
    (λ no. rw no (filter_append p xs ys))
    (cases_Bool (p x))

pub cleared_more : (level : ℕ) (p : Todo → Bool) (xs : List Todo) (i : ℕ) (d : Todo) (before cur next : List Entry) → i < length xs → cur ≡ before ++ cleared level (filter p (take i xs))
    → next ≡ cur ++ cleared level (filter p (get_or xs i d ∷ [])) → next ≡ before ++ cleared level (filter p (take (i + 1) xs))
cleared_more level p xs i d before cur next lt h e =
    let f : Todo → Entry = λ x. Cleared x.cmd level in
    let x = get_or xs i d in
    let more : cleared level (filter p (take i xs)) ++ cleared level (filter p (x ∷ [])) ≡ cleared level (filter p (take (i + 1) xs)) =
    sym (map-append f (filter p (take i xs)) (filter p (x ∷ []))) ∙ ap (cleared level) (sym (filter_append p (take i xs) (x ∷ [])) ∙ ap (filter p) (sym (take_more xs i d lt)))
    in
    e ∙ (ap (λ (r : List Entry). r ++ cleared level (filter p (x ∷ []))) h ∙ (append_assoc before (cleared level (filter p (take i xs))) (cleared level (filter p (x ∷ []))) ∙ ap (λ (r : List Entry). before ++ r) more))

pub tests_more : (old mid new : Standing) (devices : List DevAddr) (i : ℕ) (d : DevAddr) (ready ready' : List DevAddr) (before behind behind' : List Entry) (t : Tested) → i < length devices
    → Tests old mid (take i devices) ready before behind → IsTest t → StandsAfter mid new (test_entries (get_or devices i d) t)
    → ready' ≡ ready ++ cond t.ready (get_or devices i d ∷ []) [] → behind' ≡ behind ++ test_entries (get_or devices i d) t
    → Tests old new (take (i + 1) devices) ready' before behind'
tests_more old mid new devices i d ready ready' before behind behind' t lt h is stood r b =
    let x = get_or devices i d in
    subst (λ (ds : List DevAddr). Tests old new ds ready' before behind') (sym (take_more devices i d lt))
    (subst (λ (rs : List DevAddr). Tests old new (take i devices ++ x ∷ []) rs before behind') (sym r)
    (subst (λ (es : List Entry). Tests old new (take i devices ++ x ∷ []) (ready ++ kept t x) before es) (sym b)
    (more_tests old mid new (take i devices) x ready before behind t h is stood)))
