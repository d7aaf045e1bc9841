-- An answer is judged, also within recovery, only where it owns its attempt.
use Rattle.std.proofs.Common.{◌≡◌, ◌⊎◌, inl, inr, ◌||◌, if◌then◌else◌, ℕ, ◌==◌, Bool, true, false, not, ◌&&◌, cond, List, [], ◌∷◌, ◌++◌, Option, None, Some, refl, sym, ◌∙◌, ap, subst, ⊎_elim, filter, map, find}
use Rattle.std.specs.Prelude.{⊤}
use Rattle.std.specs.List.{list_all, list_any}
use Rattle.std.proofs.lemmas.Bool.{eqb-true, eq-eqb, cases_Bool}
use Rattle.std.proofs.lemmas.Bool.Decides.{eqb_tells}
use Rattle.std.proofs.lemmas.Option.{none-some, same_Some}
use Rattle.mid_base.specs.declared.names.CmdId.{CmdId}
use Rattle.mid_base.specs.declared.names.Attempt.{Attempt}
use Rattle.mid_base.specs.declared.names.DevAddr.{DevAddr}
use Rattle.mid_base.specs.declared.answers.Answer.{Answer}
use Rattle.mid_base.specs.declared.answers.By.{By}
use Rattle.mid_base.specs.declared.answers.Disp.{Disp}
use Rattle.mid_base.specs.declared.answers.Disp.TheVariants.{Success, Retry, Requeue, Fail}
use Rattle.mid_base.specs.declared.answers.Scope.{Scope}
use Rattle.mid_base.specs.declared.answers.Scope.TheVariants.{Cmd, Dev, Target, Bus, Host}
use Rattle.mid_base.specs.declared.entries.Entry.{Entry}
use Rattle.mid_base.specs.declared.entries.Entry.TheVariants.{Owned, Judged, Aborted, Failed, Cleared, Sensed, Again, Told, EhBegin, Act, Probe, Offline}
use Rattle.mid_base.specs.declared.host_spec.HostSpec.{HostSpec}
use Rattle.disposition.specs.declared.todo.Todo.{Todo}
use Rattle.mid_base.specs.Levels.{Level, levels, number, numbered, fetch_sense, abort, start_unit, reset_device, reset_target, reset_bus, reset_host, give_up, not_online, no_level, level_of}
use Rattle.disposition.specs.Ladder.{is_in_scope, is_of_kind, devs, Pair, pairs, is_wanted_pair, same_pair, beyond_pair, beyond, next_of}
use Rattle.trace_model.specs.Attempts.{owner, is_by_answer, is_settled, answer}
use Rattle.mid_base.specs.Answers.{time_out}
use Rattle.trace_model.specs.Judging.{to_judge, to_abort, has_abort_left, may_retry}
use Rattle.trace_model.specs.Recovery.{Failure, failed, todo, listed, todo_of, is_cleared, last_act}
use Rattle.trace_model.specs.Course.{Course, over, next, ask, fetch, Meets, after}
use Rattle.trace_model.specs.Climb.{tests, clear, test_and_clear, on_one_of, is_doubtful, kept_if, judge_again, fetch_for, start_for, offline_for, act_on}
use Rattle.trace_model.specs.Rules.{MayJudge, Allowed, course, judged, is_lost}
use Rattle.trace_model.specs.Legal.{goes_on, owed, Stands, EachStands}
use Rattle.trace_model.proofs.Owes.{Owes, Calm, End, Owing, meets_owes, after_owes, owed_owing}
use Rattle.trace_model.proofs.Owners.{owns_open, open_unowned}
use Rattle.trace_model.proofs.Stage.{Stage, failing, stage, has_failure}
use Rattle.trace_model.proofs.Once.{and_left, and_right}
use Rattle.trace_model.proofs.OnceMore.{held_all}

abbrev pub Owner : Type 0
Owner = ℕ → Option By

-- who owned each attempt
abbrev pub owner_in : List Entry → Owner
owner_in P n = owner n P

-- an answer that is judged, or that failed its command, owns its attempt
abbrev pub Backed : Owner → Entry → Type 0
Backed o (Judged c n d) = is_by_answer (o n.0) ≡ true
Backed o (Failed c n cancelled) = cancelled ≡ false → is_by_answer (o n.0) ≡ true
Backed o e = ⊤

abbrev pub IsBacked : Owner → Failure → Type 0
IsBacked o f = f.cancelled ≡ false → is_by_answer (o f.attempt.0) ≡ true

abbrev pub Backs : Owner → List Failure → Type 0
Backs o [] = ⊤
Backs o (f ∷ fs) = IsBacked o f × Backs o fs

pub backs_more : (o : Owner) (fs : List Failure) (f : Failure) → Backs o fs → IsBacked o f → Backs o (fs ++ f ∷ [])
backs_more o [] f h b = (b, tt)
backs_more o (g ∷ fs) f h b = (h.0, backs_more o fs f h.1 b)

pub backs_filter : (o : Owner) (p : Failure → Bool) (fs : List Failure) → Backs o fs → Backs o (filter p fs)
backs_filter o p [] h = tt
backs_filter o p (f ∷ fs) h = ⊎_elim (λ kept. rw kept (h.0, backs_filter o p fs h.1)) (λ gone. rw gone (backs_filter o p fs h.1)) (cases_Bool (p f))

pub backs_owned : (o : Owner) (m : ℕ) (by : By) (fs : List Failure) → ((n : ℕ) → is_by_answer (o n) ≡ true → (m == n) ≡ false) → Backs o fs
    → Backs (λ n. if m == n then Some by else o n) fs
backs_owned o m by [] other h = tt
backs_owned o m by (f ∷ fs) other h = (λ c. let x = h.0 c in rw (other f.attempt.0 x) x, backs_owned o m by fs other h.1)

-- what recovery's courses owe

pub either : (Q : Entry → Type 0) (b : Bool) (x y : Course) → Owes Q x → Owes Q y → Owes Q (cond b x y)
either Q true x y h k = h
either Q false x y h k = k

pub clear_backed : (o : Owner) (level : ℕ) (xs : List Todo) → Owes (Backed o) (clear level xs)
clear_backed o level [] = tt
clear_backed o level (x ∷ xs) = (tt, clear_backed o level xs)

pub tests_backed : (o : Owner) (ds : List DevAddr) (k : List DevAddr → Course) → ((r : List DevAddr) → Owes (Backed o) (k r)) → Owes (Backed o) (tests ds k)
tests_backed o [] k h = h []
tests_backed o (d ∷ ds) k h = (
  λ say. tt,
  λ say. either (Backed o) (is_doubtful say) _ _
      (λ again. tt, λ again. tests_backed o ds (λ ready. k (kept_if again d ready)) (λ r. h (kept_if again d r)))
      (tests_backed o ds (λ ready. k (kept_if say d ready)) (λ r. h (kept_if say d r))),
)

pub test_backed : (o : Owner) (level : ℕ) (xs : List Todo) → Owes (Backed o) (test_and_clear level xs)
test_backed o level xs = tests_backed o (devs xs) _ (λ ready. clear_backed o level (filter (on_one_of ready) xs))

pub again_backed : (o : Owner) (x : Todo) (d : Disp) → is_by_answer (o x.n.0) ≡ true → Owes (Backed o) (judge_again x d)
again_backed o x Success h = (h, (tt, tt))
again_backed o x Retry h = (h, (tt, tt))
again_backed o x Requeue h = (h, tt)
again_backed o x Fail h = (h, tt)

-- each of the list is owned by its answer
abbrev pub AllBy : Owner → List Todo → Type 0
AllBy o [] = ⊤
AllBy o (x ∷ xs) = (is_by_answer (o x.n.0) ≡ true) × AllBy o xs

pub fetch_backed : (o : Owner) (ok : Bool) (xs : List Todo) → AllBy o xs → Owes (Backed o) (fetch_for ok xs)
fetch_backed o ok [] h = tt
fetch_backed o false (x ∷ xs) h = (λ say. tt, λ say. tt)
fetch_backed o true (x ∷ xs) h = (λ say. tt, λ say. (λ sense. tt, λ sense. again_backed o x _ h.0))

pub start_backed : (o : Owner) (ok : Bool) (xs : List Todo) → Owes (Backed o) (start_for ok xs)
start_backed o ok [] = tt
start_backed o false (x ∷ xs) = (λ say. tt, λ say. tt)
start_backed o true (x ∷ xs) = (λ say. tt, λ say. test_backed o 3 (x ∷ xs))

pub offline_backed : (o : Owner) (xs : List Todo) → Owes (Backed o) (offline_for xs)
offline_backed o [] = tt
offline_backed o (x ∷ xs) = (tt, clear_backed o 8 (x ∷ xs))

pub act_backed : (o : Owner) (at : Level) (level : ℕ) (ok : Bool) (xs : List Todo) → (at ≡ fetch_sense → AllBy o xs) → Owes (Backed o) (act_on at level ok xs)
act_backed o fetch_sense level ok xs h = fetch_backed o ok xs (h refl)
act_backed o start_unit level ok xs h = start_backed o ok xs
act_backed o give_up level ok xs h = offline_backed o xs
act_backed o not_online level ok xs h = tt
act_backed o no_level level ok xs h = tt
act_backed o abort level true xs h = test_backed o level xs
act_backed o reset_device level true xs h = test_backed o level xs
act_backed o reset_target level true xs h = test_backed o level xs
act_backed o reset_bus level true xs h = test_backed o level xs
act_backed o reset_host level true xs h = test_backed o level xs
act_backed o abort level false xs h = tt
act_backed o reset_device level false xs h = tt
act_backed o reset_target level false xs h = tt
act_backed o reset_bus level false xs h = tt
act_backed o reset_host level false xs h = tt

-- the pairs of level 1 are of commands

abbrev pub is_cmd : Scope → Bool
is_cmd (Cmd c) = true
is_cmd _ = false

abbrev pub is_apt : Pair → Bool
is_apt p = if p.0 == 1 then is_cmd p.1 else true

pub first_apt : (xs : List Todo) → list_all is_apt (map (λ c. (1, c)) (map (λ x. Cmd x.cmd) xs)) ≡ true
first_apt [] = refl
first_apt (x ∷ xs) = first_apt xs

pub map_apt : {A : Type 0} (f : A → Pair) (xs : List A) → ((x : A) → is_apt (f x) ≡ true) → list_all is_apt (map f xs) ≡ true
map_apt f [] h = refl
map_apt f (x ∷ xs) h = rw (h x) (map_apt f xs h)

pub append_apt : (ps qs : List Pair) → list_all is_apt ps ≡ true → list_all is_apt qs ≡ true → list_all is_apt (ps ++ qs) ≡ true
append_apt [] qs h k = k
append_apt (p ∷ ps) qs h k = rw (and_left (is_apt p) (list_all is_apt ps) h) (append_apt ps qs (and_right (is_apt p) (list_all is_apt ps) h) k)

pub pairs_apt : (xs : List Todo) → list_all is_apt (pairs xs) ≡ true
pairs_apt xs =
    let cmds : List Scope = map (λ (x : Todo). Cmd x.cmd) xs in
    let ds : List DevAddr = devs xs in
    let fetches : List Pair = map (λ (c : Scope). (1, c)) cmds in
    let aborts : List Pair = map (λ (c : Scope). (2, c)) cmds in
    let starts : List Pair = map (λ (d : DevAddr). (3, Dev d)) ds in
    let devices : List Pair = map (λ (d : DevAddr). (4, Dev d)) ds in
    let targets : List Pair = map (λ (d : DevAddr). (5, Target d.channel d.target)) ds in
    let buses : List Pair = map (λ (d : DevAddr). (6, Bus d.channel)) ds in
    let lost : List Pair = map (λ (d : DevAddr). (8, Dev d)) ds in
    append_apt fetches (aborts ++ (starts ++ (devices ++ (targets ++ (buses ++ ((7, Host) ∷ lost)))))) (first_apt xs)
    (append_apt aborts (starts ++ (devices ++ (targets ++ (buses ++ ((7, Host) ∷ lost))))) (map_apt (λ (c : Scope). (2, c)) cmds (λ c. refl))
    (append_apt starts (devices ++ (targets ++ (buses ++ ((7, Host) ∷ lost)))) (map_apt (λ (d : DevAddr). (3, Dev d)) ds (λ d. refl))
    (append_apt devices (targets ++ (buses ++ ((7, Host) ∷ lost))) (map_apt (λ (d : DevAddr). (4, Dev d)) ds (λ d. refl))
    (append_apt targets (buses ++ ((7, Host) ∷ lost)) (map_apt (λ (d : DevAddr). (5, Target d.channel d.target)) ds (λ d. refl))
    (append_apt buses ((7, Host) ∷ lost) (map_apt (λ (d : DevAddr). (6, Bus d.channel)) ds (λ d. refl))
    (map_apt (λ (d : DevAddr). (8, Dev d)) ds (λ d. refl)))))))

pub beyond_apt : (p : Pair) (qs : List Pair) → list_all is_apt qs ≡ true → list_all is_apt (beyond_pair p qs) ≡ true
beyond_apt p [] h = refl
beyond_apt p (q ∷ qs) h =
    let rest = and_right (is_apt q) (list_all is_apt qs) h in
    ⊎_elim (λ yes. rw yes rest) (λ no. rw no (beyond_apt p qs rest)) (cases_Bool (same_pair p q && not (list_any (same_pair p) qs)))

pub from_apt : (last : Option Pair) (ps : List Pair) → list_all is_apt ps ≡ true → list_all is_apt (beyond last ps) ≡ true
from_apt None ps h = h
from_apt (Some p) ps h = beyond_apt p ps h

pub found_apt : (f : Pair → Bool) (ps : List Pair) (p : Pair) → list_all is_apt ps ≡ true → find f ps ≡ Some p → (is_apt p ≡ true) × (f p ≡ true)
found_apt f [] p h e = absurd (none-some p e)
found_apt f (q ∷ ps) p h e = ⊎_elim
    (λ yes. let same : q ≡ p = same_Some q p (rw yes at e) in
    (subst (λ (r : Pair). is_apt r ≡ true) same (and_left (is_apt q) (list_all is_apt ps) h), subst (λ (r : Pair). f r ≡ true) same yes))
    (λ no. found_apt f ps p (and_right (is_apt q) (list_all is_apt ps) h) (rw no at e))
    (cases_Bool (f q))

-- commands on the failed list

abbrev pub Known : Owner → List Failure → Todo → Type 0
Known o fs x = (has_failure x.cmd.0 x.n.0 fs ≡ true) × (x.cancelled ≡ false → is_by_answer (o x.n.0) ≡ true)

abbrev pub AllKnown : Owner → List Failure → List Todo → Type 0
AllKnown o fs [] = ⊤
AllKnown o fs (x ∷ xs) = Known o fs x × AllKnown o fs xs

pub map_known : (s : HostSpec) (P : List Entry) (o : Owner) (fs gs : List Failure) → ((c n : ℕ) → has_failure c n gs ≡ true → has_failure c n fs ≡ true)
    → Backs o gs → AllKnown o fs (map (todo_of s P) gs)
map_known s P o fs [] sub h = tt
map_known s P o fs (g ∷ gs) sub h = (
  (sub g.cmd.0 g.attempt.0 (rw (eq-eqb g.cmd.0 g.cmd.0 refl, eq-eqb g.attempt.0 g.attempt.0 refl) refl), h.0),
  map_known s P o fs gs (λ c n q. sub c n (or_right ((g.cmd.0 == c) && (g.attempt.0 == n)) (has_failure c n gs) q)) h.1,
)
  where
    or_right : (a b : Bool) → b ≡ true → a || b ≡ true
    or_right true b q = refl
    or_right false b q = q

pub filter_known : (o : Owner) (fs : List Failure) (f : Todo → Bool) (xs : List Todo) → AllKnown o fs xs → AllKnown o fs (filter f xs)
filter_known o fs f [] h = tt
filter_known o fs f (x ∷ xs) h = ⊎_elim (λ yes. rw yes (h.0, filter_known o fs f xs h.1)) (λ no. rw no (filter_known o fs f xs h.1)) (cases_Bool (f x))

-- an attempt of c on the list that is owned by its answer
abbrev pub Attested : Owner → List Failure → ℕ → Type 0
Attested o fs c = (n : ℕ) × (has_failure c n fs ≡ true) × (is_by_answer (o n) ≡ true)

pub attested : (o : Owner) (fs : List Failure) (aborts : Bool) (c : CmdId) (all xs : List Todo) → AllKnown o fs xs
    → list_any (λ x. is_in_scope (Cmd c) x && is_of_kind aborts fetch_sense all x) xs ≡ true → Attested o fs c.0
attested o fs aborts c all [] h w = cc w
attested o fs aborts c all (x ∷ xs) h w = ⊎_elim
    (λ yes.
    let named : x.cmd.0 ≡ c.0 = eqb-true x.cmd.0 c.0 (and_left (x.cmd.0 == c.0) _ yes) in
    let uncancelled : x.cancelled ≡ false = plain x.cancelled (and_left (not x.cancelled) _ (and_right (x.cmd.0 == c.0) _ yes)) in
    (x.n.0, subst (λ (k : ℕ). has_failure k x.n.0 fs ≡ true) named h.0.0, h.0.1 uncancelled))
    (λ no. attested o fs aborts c all xs h.1 (rw no at w))
    (cases_Bool (is_in_scope (Cmd c) x && is_of_kind aborts fetch_sense all x))
  where
    plain : (b : Bool) → not b ≡ true → b ≡ false
    plain false h = refl
    plain true h = cc h

-- of each command one attempt at most is on the list
abbrev pub Single : List Failure → Type 0
Single fs = (c n m : ℕ) → has_failure c n fs ≡ true → has_failure c m fs ≡ true → n ≡ m

pub scoped : (o : Owner) (fs : List Failure) (c : CmdId) (xs : List Todo) → Single fs → Attested o fs c.0 → AllKnown o fs xs → AllBy o (filter (is_in_scope (Cmd c)) xs)
scoped o fs c [] single a h = tt
scoped o fs c (x ∷ xs) single a h = ⊎_elim
    (λ yes.
    let here : has_failure c.0 x.n.0 fs ≡ true = subst (λ (k : ℕ). has_failure k x.n.0 fs ≡ true) (eqb-true x.cmd.0 c.0 yes) h.0.0 in
    rw yes (subst (λ (n : ℕ). is_by_answer (o n) ≡ true) (single c.0 a.0 x.n.0 a.1 here) a.2, scoped o fs c xs single a h.1))
    (λ no. rw no (scoped o fs c xs single a h.1))
    (cases_Bool (x.cmd.0 == c.0))

-- a level that is found has the number that was looked for
pub numbered_is : (n : ℕ) (ls : List Level) (l : Level) → numbered n ls ≡ l → (l ≡ no_level → ⊥) → (number l == n) ≡ true
numbered_is n [] l e some = absurd (some (sym e))
numbered_is n (m ∷ ms) l e some = ⊎_elim
    (λ yes. subst (λ (k : Level). (number k == n) ≡ true) (rw yes at e) yes)
    (λ no. numbered_is n ms l (rw no at e) some)
    (cases_Bool (number m == n))

pub level_one : (level : ℕ) → level_of level ≡ fetch_sense → (level == 1) ≡ true
level_one level h = eq-eqb level 1 (sym (eqb-true 1 level (numbered_is level levels fetch_sense h (λ q. cc q))))

pub first_by : (o : Owner) (fs : List Failure) (aborts : Bool) (at : Level) (scope : Scope) (xs : List Todo) → at ≡ fetch_sense → is_cmd scope ≡ true → Single fs → AllKnown o fs xs
    → list_any (λ x. is_in_scope scope x && is_of_kind aborts at xs x) xs ≡ true → AllBy o (filter (is_in_scope scope) xs)
first_by o fs aborts at (Cmd c) xs e cmd single known w =
    scoped o fs c xs single (attested o fs aborts c xs xs known (subst (λ (l : Level). list_any (λ x. is_in_scope (Cmd c) x && is_of_kind aborts l xs x) xs ≡ true) e w)) known
first_by o fs aborts at (Dev d) xs e cmd single known w = cc cmd
first_by o fs aborts at (Target c t) xs e cmd single known w = cc cmd
first_by o fs aborts at (Bus c) xs e cmd single known w = cc cmd
first_by o fs aborts at Host xs e cmd single known w = cc cmd

pub act_by : (s : HostSpec) (P : List Entry) (level : ℕ) (scope : Scope) → Single (failed P) → Backs (owner_in P) (failed P)
    → next_of s.no_async_abort (last_act P) (listed s P) (todo s P) ≡ Some (level, scope) → level_of level ≡ fetch_sense
    → AllBy (owner_in P) (filter (is_in_scope scope) (todo s P))
act_by s P level scope single backs e one =
    let ps = beyond (last_act P) (pairs (listed s P)) in
    let f = found_apt (is_wanted_pair s.no_async_abort (todo s P)) ps (level, scope) (from_apt (last_act P) (pairs (listed s P)) (pairs_apt (listed s P))) e in
    let cmd : is_cmd scope ≡ true = rw (level_one level one) at f.0 in
    let known : AllKnown (owner_in P) (failed P) (listed s P) = map_known s P (owner_in P) (failed P) (failed P) (λ c n q. q) backs in
    first_by (owner_in P) (failed P) s.no_async_abort (level_of level) scope (todo s P) one cmd single
    (filter_known (owner_in P) (failed P) (λ x. not (is_cleared x.cmd.0 P)) (listed s P) known) f.1

-- each entry keeps it

pub record Kept (s : HostSpec) (P : List Entry) (k : Course) : Type 0 where
  pub backs : Backs (owner_in P) (failed P)
  pub owes : Owes (Backed (owner_in P)) k

pub judge_by : (s : HostSpec) (P : List Entry) (c n : ℕ) (d : Disp) (a : Option Answer) → MayJudge s P c n d a → is_by_answer (owner n P) ≡ true
judge_by s P c n d None may = absurd may
judge_by s P c n d (Some a) may = and_left (is_by_answer (owner n P)) _ (and_left (is_by_answer (owner n P) && not (is_settled n P)) _ (and_left (to_judge P c n) _ may.0))

pub judged_backed : (o : Owner) (c : CmdId) (n : Attempt) (d : Disp) (a : Option Answer) → is_by_answer (o n.0) ≡ true → Owes (Backed o) (judged c n d a)
judged_backed o c n Success (Some a) h = (tt, tt)
judged_backed o c n Success None h = tt
judged_backed o c n Retry a h = (tt, tt)
judged_backed o c n Requeue a h = (tt, tt)
judged_backed o c n Fail a h = (λ plain. h, tt)

pub told_or_again : (o : Owner) (b : Bool) (c : CmdId) → Backed o (cond b (Again c true) (Told c time_out))
told_or_again o true c = tt
told_or_again o false c = tt

pub answered_owner : (w : Option By) → w ≡ None → is_by_answer w ≡ true → ⊥
answered_owner None e h = cc h
answered_owner (Some w) e h = cc e

-- an attempt without an owner is none that its answer owns
pub not_it : (s : HostSpec) (P : List Entry) (m : ℕ) → owner m P ≡ None → (n : ℕ) → is_by_answer (owner n P) ≡ true → (m == n) ≡ false
not_it s P m none n h = ⊎_elim
    (λ yes. absurd (answered_owner (owner n P) (subst (λ (k : ℕ). owner k P ≡ None) yes.1 none) h))
    (λ no. no.0)
    (eqb_tells m n)

pub cancels : (x b c : Bool) → x && b && c ≡ true → x ≡ false → ⊥
cancels true b c h e = cc e
cancels false b c h e = cc h

abbrev pub number_of : Stage → ℕ
number_of (failing n) = n
number_of x = 0

pub failing_same : (x : Stage) (n m : ℕ) → x ≡ failing n → x ≡ failing m → n ≡ m
failing_same x n m e f = ap number_of (sym e ∙ f)

pub opens_kept : (s : HostSpec) (P : List Entry) (e : Entry) → EachStands s P → Allowed s P e → Backs (owner_in P) (failed P) → Kept s (e ∷ P) (course s P e)
opens_kept s P (Judged c n d) each al b = record { backs = b; owes = judged_backed (owner_in P) c n d (answer n.0 P) (judge_by s P c.0 n.0 d (answer n.0 P) al) }
opens_kept s P (Aborted c n true) each al b = record { backs = b; owes = (told_or_again (owner_in P) (may_retry s P c.0) c, tt) }
opens_kept s P (Aborted c n false) each al b = record { backs = b; owes = (λ plain. absurd (cc plain), tt) }
opens_kept s P (Failed c n x) each al b =
    record { backs = backs_more (owner_in P) (failed P) _ b (λ plain. absurd (cancels x (to_abort P c.0 n.0) (not (has_abort_left s P c.0)) al plain)); owes = tt }
opens_kept s P (Again c x) each al b = record { backs = backs_filter (owner_in P) _ (failed P) b; owes = tt }
opens_kept s P (Told c a) each al b = record { backs = backs_filter (owner_in P) _ (failed P) b; owes = tt }
opens_kept s P (Owned m by) each al b = record {
  backs = backs_owned (owner_in P) m.0 by (failed P) (not_it s P m.0 (open_unowned s P m.0 each (owns_open m.0 by P al))) b;
  owes = tt;
}
opens_kept s P EhBegin each al b = record { backs = b; owes = clear_backed (owner_in P) 0 (filter (is_lost s P) (listed s P)) }
opens_kept s P (Act level scope ok) each al b = record {
  backs = b;
  owes = act_backed (owner_in P) (level_of level) level ok (filter (is_in_scope scope) (todo s P))
      (act_by s P level scope (λ c n m p q. failing_same (stage c P) n m ((held_all s c P each).1 n p) ((held_all s c P each).1 m q)) b al.1);
}
opens_kept s P e each al b = record { backs = b; owes = tt }

-- an entry that is owed
pub follows_kept : (s : HostSpec) (P : List Entry) (k : Course) (e : Entry) → (Calm e ⊎ End e) → Meets k e → Kept s P k → Kept s (e ∷ P) (after k e)
follows_kept s P k (Judged c n d) f m h = record { backs = h.backs; owes = after_owes (Backed (owner_in P)) k _ h.owes }
follows_kept s P k (Cleared c level) f m h = record { backs = h.backs; owes = after_owes (Backed (owner_in P)) k _ h.owes }
follows_kept s P k (Sensed c n x) f m h = record { backs = h.backs; owes = after_owes (Backed (owner_in P)) k _ h.owes }
follows_kept s P k (Probe d code say) f m h = record { backs = h.backs; owes = after_owes (Backed (owner_in P)) k _ h.owes }
follows_kept s P k (Offline d) f m h = record { backs = h.backs; owes = after_owes (Backed (owner_in P)) k _ h.owes }
follows_kept s P k (Failed c n x) f m h =
    record { backs = backs_more (owner_in P) (failed P) _ h.backs (meets_owes (Backed (owner_in P)) k _ h.owes m); owes = after_owes (Backed (owner_in P)) k _ h.owes }
follows_kept s P k (Again c x) f m h = record { backs = backs_filter (owner_in P) _ (failed P) h.backs; owes = after_owes (Backed (owner_in P)) k _ h.owes }
follows_kept s P k (Told c a) f m h = record { backs = backs_filter (owner_in P) _ (failed P) h.backs; owes = after_owes (Backed (owner_in P)) k _ h.owes }
follows_kept s P k e f m h = absurd (⊎_elim (λ c. cc c) (λ c. cc c) f)

pub follower : (k : Course) (e : Entry) → Owing k → Meets k e → Calm e ⊎ End e
follower k e o m = ⊎_elim (λ c. inl (meets_owes Calm k e c m)) (λ c. inr (meets_owes End k e c m)) o

pub goes_kept : (s : HostSpec) (P : List Entry) (k : Course) (e : Entry) → EachStands s P → Owing k → Stands k s P e → Kept s P k → Kept s (e ∷ P) (goes_on k s P e)
goes_kept s P over e each o st h = opens_kept s P e each st h.backs
goes_kept s P (next x k) e each o st h = follows_kept s P (next x k) e (follower (next x k) e o st) st h
goes_kept s P (ask d code want k) e each o st h = follows_kept s P (ask d code want k) e (follower (ask d code want k) e o st) st h
goes_kept s P (fetch c n k) e each o st h = follows_kept s P (fetch c n k) e (follower (fetch c n k) e o st) st h

pub owed_backed : (s : HostSpec) (P : List Entry) → EachStands s P → Kept s P (owed s P)
owed_backed s [] each = record { backs = tt; owes = tt }
owed_backed s (e ∷ P) each = goes_kept s P (owed s P) e each.1 (owed_owing s P) each.0 (owed_backed s P each.1)
