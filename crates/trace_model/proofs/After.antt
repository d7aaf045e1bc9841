-- No own entry of a command stands after it was told.
use Rattle.std.proofs.Common.{eq-eqb, ◌≡◌, ◌⊎◌, ℕ, ◌==◌, Bool, true, false, not, ◌&&◌, ◌||◌, cond, List, [], ◌∷◌, refl, sym, ◌∙◌, subst, inl, inr, ⊎_elim, filter, map}
use Rattle.std.specs.Prelude.{⊤}
use Rattle.std.proofs.lemmas.Bool.{eqb-true, cases_Bool}
use Rattle.mid_base.specs.declared.names.CmdId.{CmdId}
use Rattle.mid_base.specs.declared.names.DevAddr.{DevAddr}
use Rattle.mid_base.specs.declared.answers.Disp.{Disp}
use Rattle.mid_base.specs.declared.answers.Disp.TheVariants.{Success, Retry, Requeue, Fail}
use Rattle.mid_base.specs.declared.entries.Entry.{Entry}
use Rattle.mid_base.specs.declared.entries.Entry.TheVariants.{Took, Sent, Bounced, Judged, AbortSet, Aborted, Failed, Cleared, Sensed, Again, Told, EhBegin, Act, Probe, Offline}
use Rattle.mid_base.specs.declared.host_spec.HostSpec.{HostSpec}
use Rattle.disposition.specs.declared.todo.Todo.{Todo}
use Rattle.mid_base.specs.Levels.{Level, fetch_sense, abort, start_unit, reset_device, reset_target, reset_bus, reset_host, give_up, not_online, no_level, level_of}
use Rattle.disposition.specs.Ladder.{is_in_scope, devs}
use Rattle.trace_model.specs.Recovery.{Failure, failed, todo, listed, todo_of, is_cleared}
use Rattle.trace_model.specs.Course.{Course, over, next, ask, fetch, Meets, after}
use Rattle.trace_model.specs.Climb.{tests, clear, test_and_clear, on_one_of, is_doubtful, kept_if, judge_again, act_on}
use Rattle.trace_model.specs.Rules.{Allowed, course, is_lost}
use Rattle.trace_model.specs.Legal.{goes_on, owed, Stands, EachStands}
use Rattle.trace_model.proofs.Owes.{Owes, End, meets_owes, after_owes, judged_ends, aborted_ends}
use Rattle.trace_model.specs.declared.standing.Standing.TheVariants.{Ended}
use Rattle.trace_model.specs.Attempts.{answer}
use Rattle.trace_model.specs.Commands.{standing, is_own}
use Rattle.trace_model.specs.Drained.{NoneAfterTold}
use Rattle.trace_model.proofs.Stage.{Stage, idle, owned, aborting, settled, failing, stage, has_failure}
use Rattle.trace_model.proofs.Once.{Under, Held, Fits, stands_fits, owed_of, judge_fits}
use Rattle.trace_model.proofs.OnceMore.{not_ended, busy_not_ended, bounced_stage, From, not_told, held_all}

-- the command is on the failed list
abbrev pub In : List Failure → CmdId → Type 0
In fs c = (n : ℕ) × (has_failure c.0 n fs ≡ true)

-- a calm entry of a command on the list, with its attempt there
abbrev pub Named : List Failure → Entry → Type 0
Named fs (Judged c n d) = has_failure c.0 n.0 fs ≡ true
Named fs (Cleared c level) = In fs c
Named fs (Sensed c n s) = has_failure c.0 n.0 fs ≡ true
Named fs (Probe d code say) = ⊤
Named fs (Offline d) = ⊤
Named fs e = ⊥

abbrev pub AllIn : List Failure → List Todo → Type 0
AllIn fs [] = ⊤
AllIn fs (x ∷ xs) = (has_failure x.cmd.0 x.n.0 fs ≡ true) × AllIn fs xs

pub filter_in : (fs : List Failure) (f : Todo → Bool) (xs : List Todo) → AllIn fs xs → AllIn fs (filter f xs)
filter_in fs f [] h = tt
filter_in fs f (x ∷ xs) h = ⊎_elim (λ yes. rw yes (h.0, filter_in fs f xs h.1)) (λ no. rw no (filter_in fs f xs h.1)) (cases_Bool (f x))

pub map_in : (s : HostSpec) (P : List Entry) (fs gs : List Failure) → ((c n : ℕ) → has_failure c n gs ≡ true → has_failure c n fs ≡ true) → AllIn fs (map (todo_of s P) gs)
map_in s P fs [] h = tt
map_in s P fs (g ∷ gs) h = (
  h g.cmd.0 g.attempt.0 (rw (eq-eqb g.cmd.0 g.cmd.0 refl, eq-eqb g.attempt.0 g.attempt.0 refl) refl),
  map_in s P fs gs (λ c n q. h c n (or_right ((g.cmd.0 == c) && (g.attempt.0 == n)) (has_failure c n gs) q)),
)
  where
    or_right : (a b : Bool) → b ≡ true → a || b ≡ true
    or_right true b q = refl
    or_right false b q = q

pub listed_in : (s : HostSpec) (P : List Entry) → AllIn (failed P) (listed s P)
listed_in s P = map_in s P (failed P) (failed P) (λ c n q. q)

pub either : (Q : Entry → Type 0) (b : Bool) (x y : Course) → Owes Q x → Owes Q y → Owes Q (cond b x y)
either Q true x y h k = h
either Q false x y h k = k

pub clear_named : (fs : List Failure) (level : ℕ) (xs : List Todo) → AllIn fs xs → Owes (Named fs) (clear level xs)
clear_named fs level [] h = tt
clear_named fs level (x ∷ xs) h = ((x.n.0, h.0), clear_named fs level xs h.1)

pub tests_named : (fs : List Failure) (ds : List DevAddr) (k : List DevAddr → Course) → ((r : List DevAddr) → Owes (Named fs) (k r)) → Owes (Named fs) (tests ds k)
tests_named fs [] k h = h []
tests_named fs (d ∷ ds) k h = (
  λ say. tt,
  λ say. either (Named fs) (is_doubtful say) _ _
      (λ again. tt, λ again. tests_named fs ds (λ ready. k (kept_if again d ready)) (λ r. h (kept_if again d r)))
      (tests_named fs ds (λ ready. k (kept_if say d ready)) (λ r. h (kept_if say d r))),
)

pub test_named : (fs : List Failure) (level : ℕ) (xs : List Todo) → AllIn fs xs → Owes (Named fs) (test_and_clear level xs)
test_named fs level xs h = tests_named fs (devs xs) _ (λ ready. clear_named fs level (filter (on_one_of ready) xs) (filter_in fs (on_one_of ready) xs h))

pub again_named : (fs : List Failure) (x : Todo) (d : Disp) → has_failure x.cmd.0 x.n.0 fs ≡ true → Owes (Named fs) (judge_again x d)
again_named fs x Success h = (h, ((x.n.0, h), tt))
again_named fs x Retry h = (h, ((x.n.0, h), tt))
again_named fs x Requeue h = (h, tt)
again_named fs x Fail h = (h, tt)

pub act_named : (fs : List Failure) (at : Level) (level : ℕ) (ok : Bool) (xs : List Todo) → AllIn fs xs → Owes (Named fs) (act_on at level ok xs)
act_named fs fetch_sense level ok [] h = tt
act_named fs fetch_sense level false (x ∷ xs) h = (λ say. tt, λ say. tt)
act_named fs fetch_sense level true (x ∷ xs) h = (λ say. tt, λ say. (λ sense. h.0, λ sense. again_named fs x _ h.0))
act_named fs start_unit level ok [] h = tt
act_named fs start_unit level false (x ∷ xs) h = (λ say. tt, λ say. tt)
act_named fs start_unit level true (x ∷ xs) h = (λ say. tt, λ say. test_named fs 3 (x ∷ xs) h)
act_named fs give_up level ok [] h = tt
act_named fs give_up level ok (x ∷ xs) h = (tt, clear_named fs 8 (x ∷ xs) h)
act_named fs not_online level ok xs h = tt
act_named fs no_level level ok xs h = tt
act_named fs abort level true xs h = test_named fs level xs h
act_named fs reset_device level true xs h = test_named fs level xs h
act_named fs reset_target level true xs h = test_named fs level xs h
act_named fs reset_bus level true xs h = test_named fs level xs h
act_named fs reset_host level true xs h = test_named fs level xs h
act_named fs abort level false xs h = tt
act_named fs reset_device level false xs h = tt
act_named fs reset_target level false xs h = tt
act_named fs reset_bus level false xs h = tt
act_named fs reset_host level false xs h = tt

-- what is owed names failed commands, or ends one
abbrev pub Names : List Entry → Course → Type 0
Names P k = Owes (Named (failed P)) k ⊎ Owes End k

pub opens_names : (s : HostSpec) (P : List Entry) (e : Entry) → Names (e ∷ P) (course s P e)
opens_names s P (Judged c n d) = inr (judged_ends s P c n d)
opens_names s P (Aborted c n ok) = inr (aborted_ends s P c n ok)
opens_names s P EhBegin = inl (clear_named (failed P) 0 (filter (is_lost s P) (listed s P)) (filter_in (failed P) (is_lost s P) (listed s P) (listed_in s P)))
opens_names s P (Act level scope ok) = inl (act_named (failed P) (level_of level) level ok (filter (is_in_scope scope) (todo s P))
    (filter_in (failed P) (is_in_scope scope) (todo s P) (filter_in (failed P) (λ x. not (is_cleared x.cmd.0 P)) (listed s P) (listed_in s P))))
opens_names s P e = inl tt

pub named_same : (P : List Entry) (e : Entry) → Named (failed P) e → failed (e ∷ P) ≡ failed P
named_same P (Judged c n d) h = refl
named_same P (Cleared c level) h = refl
named_same P (Sensed c n s) h = refl
named_same P (Probe d code say) h = refl
named_same P (Offline d) h = refl
named_same P e h = absurd h

pub meets_names : (P : List Entry) (k : Course) (e : Entry) → Meets k e → Names P k → Names (e ∷ P) (after k e)
meets_names P k e m (inl h) = inl (subst (λ fs. Owes (Named fs) (after k e)) (sym (named_same P e (meets_owes (Named (failed P)) k e h m))) (after_owes (Named (failed P)) k e h))
meets_names P k e m (inr h) = inr (after_owes End k e h)

pub goes_names : (s : HostSpec) (P : List Entry) (k : Course) (e : Entry) → Stands k s P e → Names P k → Names (e ∷ P) (goes_on k s P e)
goes_names s P over e st h = opens_names s P e
goes_names s P (next x k) e st h = meets_names P (next x k) e st h
goes_names s P (ask d code want k) e st h = meets_names P (ask d code want k) e st h
goes_names s P (fetch c n k) e st h = meets_names P (fetch c n k) e st h

pub owed_names : (s : HostSpec) (P : List Entry) → EachStands s P → Names P (owed s P)
owed_names s [] each = inl tt
owed_names s (e ∷ P) each = goes_names s P (owed s P) e each.0 (owed_names s P each.1)

-- an entry that stands is allowed, of a failed command, or ends one
pub kind_of : (s : HostSpec) (P : List Entry) (k : Course) (e : Entry) → Meets k e → Names P k → Named (failed P) e ⊎ End e
kind_of s P k e m (inl h) = inl (meets_owes (Named (failed P)) k e h m)
kind_of s P k e m (inr h) = inr (meets_owes End k e h m)

pub stands_kind : (s : HostSpec) (P : List Entry) (k : Course) (e : Entry) → Stands k s P e → Names P k → Allowed s P e ⊎ (Named (failed P) e ⊎ End e)
stands_kind s P over e st h = inl st
stands_kind s P (next x k) e st h = inr (kind_of s P (next x k) e st h)
stands_kind s P (ask d code want k) e st h = inr (kind_of s P (ask d code want k) e st h)
stands_kind s P (fetch c n k) e st h = inr (kind_of s P (fetch c n k) e st h)

pub under_free : (c : ℕ) (P : List Entry) (x : Stage) → stage c P ≡ x → (x ≡ idle → ⊥) → Under c P → standing c P ≡ Ended → ⊥
under_free c P x e isnt (inl i) q = isnt (sym e ∙ i)
under_free c P x e isnt (inr b) q = busy_not_ended (standing c P) b q

pub named_free : (c : ℕ) (P : List Entry) (d : CmdId) → In (failed P) d → Held c P → (d.0 == c) ≡ true → standing c P ≡ Ended → ⊥
named_free c P d h held q = under_free c P (failing h.0) (held.1 h.0 (subst (λ k. has_failure k h.0 (failed P) ≡ true) (eqb-true d.0 c q) h.1)) (λ z. cc z) held.2

pub from_free : (c m : ℕ) (P : List Entry) → From (stage c P) m → Under c P → standing c P ≡ Ended → ⊥
from_free c m P (inl s) u = under_free c P (owned m) s (λ z. cc z) u
from_free c m P (inr s) u = under_free c P (settled m) s (λ z. cc z) u

pub own_free : (s : HostSpec) (c : ℕ) (P : List Entry) (e : Entry) → Fits c P e → Allowed s P e ⊎ (Named (failed P) e ⊎ End e) → Held c P → is_own c e ≡ true → standing c P ≡ Ended → ⊥
own_free s c P (Took d) f k held q = not_ended (standing c P) (inl (f (eqb-true d.0 c q)))
own_free s c P (Sent d m t) f k held q = not_ended (standing c P) (inr (f.0 (eqb-true d.0 c q)))
own_free s c P (Bounced d m why) f k held q = busy_not_ended (standing c P) (bounced_stage c d.0 m.0 P f (eqb-true d.0 c q)).1
own_free s c P (AbortSet d m) f k held q = under_free c P (owned m.0) ((held.0 m.0 (f.1 ∙ eqb-true d.0 c q)).1 f.0) (λ z. cc z) held.2
own_free s c P (Aborted d m ok) f k held q = under_free c P (aborting m.0) ((held.0 m.0 (f.1 ∙ eqb-true d.0 c q)).2 f.0) (λ z. cc z) held.2
own_free s c P (Failed d m x) f k held q = from_free c m.0 P (f (eqb-true d.0 c q)) held.2
own_free s c P (Again d x) f k held q = (f (eqb-true d.0 c q)).1
own_free s c P (Told d a) f k held q = (f (eqb-true d.0 c q)).1
own_free s c P (Judged d m x) f (inl al) held q = let u = judge_fits s P d.0 m.0 x (answer m.0 P) al in under_free c P (owned m.0) ((held.0 m.0 (u.1 ∙ eqb-true d.0 c q)).1 u.0) (λ z. cc z) held.2
own_free s c P (Judged d m x) f (inr (inl h)) held q = named_free c P d (m.0, h) held q
own_free s c P (Judged d m x) f (inr (inr h)) held q = cc h
own_free s c P (Cleared d level) f (inl al) held q = absurd al
own_free s c P (Cleared d level) f (inr (inl h)) held q = named_free c P d h held q
own_free s c P (Cleared d level) f (inr (inr h)) held q = cc h
own_free s c P (Sensed d m x) f (inl al) held q = absurd al
own_free s c P (Sensed d m x) f (inr (inl h)) held q = named_free c P d (m.0, h) held q
own_free s c P (Sensed d m x) f (inr (inr h)) held q = cc h
own_free s c P e f k held q = cc q

pub none_after : (s : HostSpec) (c : ℕ) (P : List Entry) → EachStands s P → NoneAfterTold c P
none_after s c [] each = tt
none_after s c (e ∷ P) each =
    let held = held_all s c P each.1 in
    let f = stands_fits s c P (owed s P) e (owed_of s c P each.1) each.0 held in
    (λ q. not_told c P held.4 (own_free s c P e f (stands_kind s P (owed s P) e each.0 (owed_names s P each.1)) held q), none_after s c P each.1)
