-- Sense is fetched for an answer that lacks it, and such an answer moves no depth.
use Rattle.std.proofs.Common.{◌≡◌, ℕ, ◌==◌, Bool, true, false, not, ◌&&◌, filter, List, [], ◌∷◌, refl, sym, ◌∙◌, subst, ⊎_elim, Option, None, Some}
use Rattle.std.specs.List.{list_any}
use Rattle.std.proofs.lemmas.Bool.{eqb-true, cases_Bool, and_parts, not-true}
use Rattle.mid_base.specs.Codes.{did_ok, check_condition}
use Rattle.mid_base.specs.Levels.{Level, fetch_sense, level_of}
use Rattle.mid_base.specs.declared.answers.Answer.{Answer}
use Rattle.mid_base.specs.declared.answers.Scope.{Scope}
use Rattle.mid_base.specs.declared.answers.Scope.TheVariants.{Cmd, Dev, Target, Bus, Host}
use Rattle.mid_base.specs.declared.entries.Entry.{Entry}
use Rattle.mid_base.specs.declared.host_spec.HostSpec.{HostSpec}
use Rattle.mid_base.specs.declared.names.CmdId.{CmdId}
use Rattle.disposition.specs.Ladder.{Pair, pairs, beyond, is_in_scope, is_of_kind, is_wanted_pair, wants_sense}
use Rattle.disposition.specs.declared.todo.Todo.{Todo}
use Rattle.trace_model.specs.Attempts.{answer}
use Rattle.trace_model.specs.Legal.{EachStands}
use Rattle.trace_model.specs.Recovery.{failed, listed, todo, last_act, next_act}
use Rattle.trace_model.proofs.Backed.{is_cmd, found_apt, from_apt, pairs_apt, level_one}
use Rattle.verdict_table.specs.Taken.{has_failed, moves_no_depth}
use Rattle.recovery_laws.proofs.Busy.{failed_busy}
use Rattle.recovery_laws.proofs.Listed.{AreListed}

lacking_moves : (o : Option Answer) → wants_sense o ≡ true → moves_no_depth o ≡ true
lacking_moves None h = refl
lacking_moves (Some a) h =
    let two = and_parts ((a.host.0 == did_ok) && (a.status == check_condition)) _ h in
    let check : a.status ≡ check_condition = eqb-true a.status check_condition (and_parts (a.host.0 == did_ok) (a.status == check_condition) two.0).1 in
    rw check (neither (a.host.0 == did_ok))
  where
    neither : (b : Bool) → not (b && false) && not (b && false) ≡ true
    neither true = refl
    neither false = refl

-- an attempt of c on the failed list whose answer lacks sense
abbrev Lacks : List Entry → ℕ → Type 0
Lacks P c = (n : ℕ) × (has_failed c n (failed P) ≡ true) × (wants_sense (answer n P) ≡ true)

lacking : (s : HostSpec) (P : List Entry) (aborts : Bool) (c : CmdId) (all xs : List Todo) → AreListed s P xs
    → list_any (λ x. is_in_scope (Cmd c) x && is_of_kind aborts fetch_sense all x) xs ≡ true → Lacks P c.0
lacking s P aborts c all [] h w = cc w
lacking s P aborts c all (x ∷ xs) h w = ⊎_elim
    (λ yes.
    let parts = and_parts (x.cmd.0 == c.0) (not x.cancelled && wants_sense x.answer) yes in
    let kind = and_parts (not x.cancelled) (wants_sense x.answer) parts.1 in (
      x.n.0,
      subst (λ (k : ℕ). has_failed k x.n.0 (failed P) ≡ true) (eqb-true x.cmd.0 c.0 parts.0) h.0.fails,
      subst (λ (o : Option Answer). wants_sense o ≡ true) (h.0.same_answer (not-true x.cancelled kind.0)) kind.1,
    ))
    (λ no. lacking s P aborts c all xs h.1 (rw no at w))
    (cases_Bool (is_in_scope (Cmd c) x && is_of_kind aborts fetch_sense all x))

-- each of these is on the failed list, and its answer moves no depth
abbrev pub AreFetched : List Entry → List Todo → Type 0
AreFetched P [] = Unit {0}
AreFetched P (x ∷ xs) = ((has_failed x.cmd.0 x.n.0 (failed P) ≡ true) × (moves_no_depth (answer x.n.0 P) ≡ true)) × AreFetched P xs

scope_fetched : (s : HostSpec) (P : List Entry) (c : CmdId) (xs : List Todo) → EachStands s P → Lacks P c.0 → AreListed s P xs → AreFetched P (filter (is_in_scope (Cmd c)) xs)
scope_fetched s P c [] each a h = tt
scope_fetched s P c (x ∷ xs) each a h = ⊎_elim
    (λ yes.
    let here : has_failed c.0 x.n.0 (failed P) ≡ true = subst (λ (k : ℕ). has_failed k x.n.0 (failed P) ≡ true) (eqb-true x.cmd.0 c.0 yes) h.0.fails in
    let same : a.0 ≡ x.n.0 = sym (failed_busy s P c.0 a.0 each a.1).last ∙ (failed_busy s P c.0 x.n.0 each here).last in
    rw yes ((h.0.fails, lacking_moves (answer x.n.0 P) (subst (λ (n : ℕ). wants_sense (answer n P) ≡ true) same a.2)), scope_fetched s P c xs each a h.1))
    (λ no. rw no (scope_fetched s P c xs each a h.1))
    (cases_Bool (x.cmd.0 == c.0))

first_fetched : (s : HostSpec) (P : List Entry) (aborts : Bool) (at : Level) (scope : Scope) (xs : List Todo) → EachStands s P → at ≡ fetch_sense → is_cmd scope ≡ true → AreListed s P xs
    → list_any (λ x. is_in_scope scope x && is_of_kind aborts at xs x) xs ≡ true → AreFetched P (filter (is_in_scope scope) xs)
first_fetched s P aborts at (Cmd c) xs each e cmd h w =
    scope_fetched s P c xs each (lacking s P aborts c xs xs h (subst (λ (l : Level). list_any (λ x. is_in_scope (Cmd c) x && is_of_kind aborts l xs x) xs ≡ true) e w)) h
first_fetched s P aborts at (Dev d) xs each e cmd h w = cc cmd
first_fetched s P aborts at (Target c t) xs each e cmd h w = cc cmd
first_fetched s P aborts at (Bus c) xs each e cmd h w = cc cmd
first_fetched s P aborts at Host xs each e cmd h w = cc cmd

pub act_fetched : (s : HostSpec) (P : List Entry) (level : ℕ) (scope : Scope) → EachStands s P → AreListed s P (todo s P) → next_act s P ≡ Some (level, scope) → level_of level ≡ fetch_sense
    → AreFetched P (filter (is_in_scope scope) (todo s P))
act_fetched s P level scope each h e one =
    let ps : List Pair = beyond (last_act P) (pairs (listed s P)) in
    let f = found_apt (is_wanted_pair s.no_async_abort (todo s P)) ps (level, scope) (from_apt (last_act P) (pairs (listed s P)) (pairs_apt (listed s P))) e in
    let cmd : is_cmd scope ≡ true = rw (level_one level one) at f.0 in
    first_fetched s P s.no_async_abort (level_of level) scope (todo s P) each one cmd h f.1
