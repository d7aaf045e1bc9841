-- The last own entry of a cleared command that isn't flushed is a Cleared.
use Rattle.std.proofs.Common.{◌≡◌, ℕ, ◌==◌, Bool, true, false, not, cond, filter, List, [], ◌∷◌, refl, sym, ◌∙◌, subst, inl, inr, ⊎_elim, Option, None, Some}
use Rattle.std.specs.Prelude.{⊤}
use Rattle.std.specs.List.{list_all}
use Rattle.std.proofs.lemmas.Bool.{cases_Bool, and_parts, and_from, not-true}
use Rattle.std.proofs.lemmas.Bool.Decides.{eqb_tells}
use Rattle.mid_base.specs.declared.bytes.SenseBytes.{SenseBytes}
use Rattle.mid_base.specs.declared.names.CmdId.{CmdId}
use Rattle.mid_base.specs.declared.names.DevAddr.{DevAddr}
use Rattle.mid_base.specs.declared.answers.Answer.{Answer}
use Rattle.mid_base.specs.declared.answers.Disp.{Disp}
use Rattle.mid_base.specs.declared.answers.Disp.TheVariants.{Success, Retry, Requeue, Fail}
use Rattle.mid_base.specs.declared.answers.ProbeSay.{ProbeSay}
use Rattle.mid_base.specs.declared.entries.Entry.{Entry}
use Rattle.mid_base.specs.declared.entries.Entry.TheVariants.{Took, Sent, Bounced, Owned, Judged, AbortSet, Aborted, Failed, Cleared, Sensed, Again, Told, EhBegin, EhEnd, Act, Probe, Offline}
use Rattle.mid_base.specs.declared.host_spec.HostSpec.{HostSpec}
use Rattle.disposition.specs.declared.todo.Todo.{Todo}
use Rattle.mid_base.specs.Levels.{Level, fetch_sense, abort, start_unit, reset_device, reset_target, reset_bus, reset_host, give_up, not_online, no_level, level_of}
use Rattle.disposition.specs.Ladder.{is_in_scope, devs}
use Rattle.trace_model.specs.Attempts.{answer}
use Rattle.trace_model.specs.Judging.{to_judge}
use Rattle.trace_model.specs.Devices.{has_begun}
use Rattle.trace_model.specs.Recovery.{todo, listed, is_cleared}
use Rattle.trace_model.specs.Flush.{last_own}
use Rattle.trace_model.specs.Course.{Course, over, next, ask, fetch, Meets, after}
use Rattle.trace_model.specs.Climb.{tests, clear, test_and_clear, on_one_of, is_doubtful, kept_if, judge_again, act_on}
use Rattle.trace_model.specs.Rules.{Allowed, MayJudge, course, is_lost}
use Rattle.trace_model.specs.Legal.{goes_on, owed, Stands, EachStands}
use Rattle.trace_model.proofs.Owes.{Owes, Calm, End, Owing, Follower, meets_owes, after_owes, owed_owing, judged_ends, aborted_ends}
use Rattle.trace_model.proofs.Stage.{failing, stage}
use Rattle.trace_model.proofs.Once.{Fits, stands_fits, owed_of}
use Rattle.trace_model.proofs.OnceMore.{held_all}
use Rattle.step_laws.proofs.Rests.{IsRest, rests, own_failing}

abbrev is_plain : Entry → Bool
is_plain (Judged c n d) = false
is_plain (Sensed c n s) = false
is_plain _ = true

abbrev Plain : Entry → Type 0
Plain e = is_plain e ≡ true

-- no judgement and no sense of c
abbrev is_sparing : ℕ → Entry → Bool
is_sparing c (Judged d n x) = not (d.0 == c)
is_sparing c (Sensed d n s) = not (d.0 == c)
is_sparing c _ = true

abbrev Spares : ℕ → Entry → Type 0
Spares c e = is_sparing c e ≡ true

abbrev is_clearing : Entry → Bool
is_clearing (Cleared c level) = true
is_clearing _ = false

-- behind a Cleared nothing is judged
abbrev Settling : Course → Type 0
Settling over = ⊤
Settling (next x k) = (is_clearing x ≡ true → Owes Plain k) × Settling k
Settling (ask d code want k) = (say : ProbeSay) → Settling (k say)
Settling (fetch c n k) = (sense : SenseBytes) → Settling (k sense)

owes_map : (Q R : Entry → Type 0) → ((e : Entry) → Q e → R e) → (k : Course) → Owes Q k → Owes R k
owes_map Q R f over h = tt
owes_map Q R f (next x k) h = (f x h.0, owes_map Q R f k h.1)
owes_map Q R f (ask d code want k) h = (λ say. f (Probe d code say) (h.0 say), λ say. owes_map Q R f (k say) (h.1 say))
owes_map Q R f (fetch c n k) h = (λ sense. f (Sensed c n sense) (h.0 sense), λ sense. owes_map Q R f (k sense) (h.1 sense))

plain_spares : (c : ℕ) (e : Entry) → Plain e → Spares c e
plain_spares c (Judged d n x) h = cc h
plain_spares c (Sensed d n x) h = cc h
plain_spares c e h = refl

end_plain : (e : Entry) → End e → Plain e
end_plain (Judged d n x) h = cc h
end_plain (Sensed d n x) h = cc h
end_plain e h = refl

plain_settles : (k : Course) → Owes Plain k → Settling k
plain_settles over h = tt
plain_settles (next x k) h = (λ q. h.1, plain_settles k h.1)
plain_settles (ask d code want k) h = λ say. plain_settles (k say) (h.1 say)
plain_settles (fetch c n k) h = λ sense. absurd (cc (h.0 sense))

either : (Q : Entry → Type 0) (b : Bool) (x y : Course) → Owes Q x → Owes Q y → Owes Q (cond b x y)
either Q true x y h k = h
either Q false x y h k = k

clear_plain : (level : ℕ) (xs : List Todo) → Owes Plain (clear level xs)
clear_plain level [] = tt
clear_plain level (x ∷ xs) = (refl, clear_plain level xs)

tests_plain : (ds : List DevAddr) (k : List DevAddr → Course) → ((r : List DevAddr) → Owes Plain (k r)) → Owes Plain (tests ds k)
tests_plain [] k h = h []
tests_plain (d ∷ ds) k h = (
  λ say. refl,
  λ say. either Plain (is_doubtful say) _ _
      (λ again. refl, λ again. tests_plain ds (λ ready. k (kept_if again d ready)) (λ r. h (kept_if again d r)))
      (tests_plain ds (λ ready. k (kept_if say d ready)) (λ r. h (kept_if say d r))),
)

test_plain : (level : ℕ) (xs : List Todo) → Owes Plain (test_and_clear level xs)
test_plain level xs = tests_plain (devs xs) _ (λ ready. clear_plain level (filter (on_one_of ready) xs))

-- an act of another level than 1
act_plain : (at : Level) (level : ℕ) (ok : Bool) (xs : List Todo) → (at ≡ fetch_sense → ⊥) → Owes Plain (act_on at level ok xs)
act_plain fetch_sense level ok xs n = absurd (n refl)
act_plain start_unit level ok [] n = tt
act_plain start_unit level false (x ∷ xs) n = (λ say. refl, λ say. tt)
act_plain start_unit level true (x ∷ xs) n = (λ say. refl, λ say. test_plain 3 (x ∷ xs))
act_plain give_up level ok [] n = tt
act_plain give_up level ok (x ∷ xs) n = (refl, clear_plain 8 (x ∷ xs))
act_plain not_online level ok xs n = tt
act_plain no_level level ok xs n = tt
act_plain abort level true xs n = test_plain level xs
act_plain reset_device level true xs n = test_plain level xs
act_plain reset_target level true xs n = test_plain level xs
act_plain reset_bus level true xs n = test_plain level xs
act_plain reset_host level true xs n = test_plain level xs
act_plain abort level false xs n = tt
act_plain reset_device level false xs n = tt
act_plain reset_target level false xs n = tt
act_plain reset_bus level false xs n = tt
act_plain reset_host level false xs n = tt

again_settles : (x : Todo) (d : Disp) → Settling (judge_again x d)
again_settles x Success = (λ q. cc q, (λ q. tt, tt))
again_settles x Retry = (λ q. cc q, (λ q. tt, tt))
again_settles x Requeue = (λ q. tt, tt)
again_settles x Fail = (λ q. tt, tt)

act_settles : (at : Level) (level : ℕ) (ok : Bool) (xs : List Todo) → Settling (act_on at level ok xs)
act_settles fetch_sense level ok [] = tt
act_settles fetch_sense level false (x ∷ xs) = λ say. tt
act_settles fetch_sense level true (x ∷ xs) = λ say sense. again_settles x _
act_settles at level ok xs = plain_settles (act_on at level ok xs) (act_plain at level ok xs (λ e. cc e))

abbrev is_other : ℕ → Todo → Bool
is_other c x = not (x.cmd.0 == c)

again_spares : (c : ℕ) (x : Todo) (d : Disp) → is_other c x ≡ true → Owes (Spares c) (judge_again x d)
again_spares c x Success h = (h, (refl, tt))
again_spares c x Retry h = (h, (refl, tt))
again_spares c x Requeue h = (h, tt)
again_spares c x Fail h = (h, tt)

act_spares : (c : ℕ) (at : Level) (level : ℕ) (ok : Bool) (xs : List Todo) → list_all (is_other c) xs ≡ true → Owes (Spares c) (act_on at level ok xs)
act_spares c fetch_sense level ok [] h = tt
act_spares c fetch_sense level false (x ∷ xs) h = (λ say. refl, λ say. tt)
act_spares c fetch_sense level true (x ∷ xs) h =
    let other : is_other c x ≡ true = (and_parts (is_other c x) _ h).0 in
    (λ say. refl, λ say. (λ sense. other, λ sense. again_spares c x _ other))
act_spares c at level ok xs h = owes_map Plain (Spares c) (plain_spares c) (act_on at level ok xs) (act_plain at level ok xs (λ e. cc e))

-- a cleared command isn't on the to-do list

uncleared : (c : ℕ) (P : List Entry) (xs : List Todo) → is_cleared c P ≡ true → list_all (is_other c) (filter (λ x. not (is_cleared x.cmd.0 P)) xs) ≡ true
uncleared c P [] q = refl
uncleared c P (x ∷ xs) q = ⊎_elim
    (λ yes. rw yes (and_from (is_other c x) _ (apart x yes) (uncleared c P xs q)))
    (λ no. rw no (uncleared c P xs q))
    (cases_Bool (not (is_cleared x.cmd.0 P)))
  where
    apart : (y : Todo) → not (is_cleared y.cmd.0 P) ≡ true → not (y.cmd.0 == c) ≡ true
    apart y u = ⊎_elim
        (λ same. absurd (cc (sym (not-true _ u) ∙ subst (λ (k : ℕ). is_cleared k P ≡ true) (sym same.1) q)))
        (λ other. rw other.0 refl)
        (eqb_tells y.cmd.0 c)

all_filter : (f p : Todo → Bool) (xs : List Todo) → list_all f xs ≡ true → list_all f (filter p xs) ≡ true
all_filter f p [] h = refl
all_filter f p (x ∷ xs) h =
    let parts = and_parts (f x) (list_all f xs) h in
    ⊎_elim (λ yes. rw yes (and_from (f x) _ parts.0 (all_filter f p xs parts.1))) (λ no. rw no (all_filter f p xs parts.1)) (cases_Bool (p x))

-- what is owed has no judgement of a cleared command

abbrev Spared : ℕ → List Entry → Course → Type 0
Spared c P k = Settling k × (has_begun P ≡ true → is_cleared c P ≡ true → Owes (Spares c) k)

plain_spared : (c : ℕ) (P : List Entry) (k : Course) → Owes Plain k → Spared c P k
plain_spared c P k h = (plain_settles k h, λ b q. owes_map Plain (Spares c) (plain_spares c) k h)

opens_spared : (s : HostSpec) (c : ℕ) (P : List Entry) (e : Entry) → Spared c (e ∷ P) (course s P e)
opens_spared s c P (Judged d n x) = plain_spared c (Judged d n x ∷ P) (course s P (Judged d n x)) (owes_map End Plain end_plain (course s P (Judged d n x)) (judged_ends s P d n x))
opens_spared s c P (Aborted d n ok) = plain_spared c (Aborted d n ok ∷ P) (course s P (Aborted d n ok)) (owes_map End Plain end_plain (course s P (Aborted d n ok)) (aborted_ends s P d n ok))
opens_spared s c P EhBegin = plain_spared c (EhBegin ∷ P) (course s P EhBegin) (clear_plain 0 (filter (is_lost s P) (listed s P)))
opens_spared s c P (Act level scope ok) = (
  act_settles (level_of level) level ok (filter (is_in_scope scope) (todo s P)),
  λ b q. act_spares c (level_of level) level ok (filter (is_in_scope scope) (todo s P)) (all_filter (is_other c) (is_in_scope scope) (todo s P) (uncleared c P (listed s P) q)),
)
opens_spared s c P e = (tt, λ b q. tt)

settling_after : (k : Course) (e : Entry) → Settling k → Settling (after k e)
settling_after over e h = tt
settling_after (next x k) e h = h.1
settling_after (ask d code want k) (Probe f g say) h = h say
settling_after (fetch c n k) (Sensed d m sense) h = h sense
settling_after (ask d code want k) e h = tt
settling_after (fetch c n k) e h = tt

cleared_after : (k : Course) (d : CmdId) (level : ℕ) → Meets k (Cleared d level) → Settling k → Owes Plain (after k (Cleared d level))
cleared_after over d level m h = absurd m
cleared_after (next x k) d level m h = h.0 (subst (λ (y : Entry). is_clearing y ≡ true) m refl)
cleared_after (ask e code want k) d level m h = absurd m
cleared_after (fetch c n k) d level m h = absurd m

follows_spared : (c : ℕ) (P : List Entry) (k : Course) (e : Entry) → Follower e → Meets k e → Spared c P k → Spared c (e ∷ P) (after k e)
follows_spared c P k (Judged d n x) f m h = (settling_after k (Judged d n x) h.0, λ b q. after_owes (Spares c) k (Judged d n x) (h.1 b q))
follows_spared c P k (Cleared d level) f m h = (settling_after k (Cleared d level) h.0, λ b q. owes_map Plain (Spares c) (plain_spares c) (after k (Cleared d level)) (cleared_after k d level m h.0))
follows_spared c P k (Sensed d n x) f m h = (settling_after k (Sensed d n x) h.0, λ b q. after_owes (Spares c) k (Sensed d n x) (h.1 b q))
follows_spared c P k (Probe d code say) f m h = (settling_after k (Probe d code say) h.0, λ b q. after_owes (Spares c) k (Probe d code say) (h.1 b q))
follows_spared c P k (Offline d) f m h = (settling_after k (Offline d) h.0, λ b q. after_owes (Spares c) k (Offline d) (h.1 b q))
follows_spared c P k (Failed d n x) f m h = (settling_after k (Failed d n x) h.0, λ b q. after_owes (Spares c) k (Failed d n x) (h.1 b q))
follows_spared c P k (Again d x) f m h = (settling_after k (Again d x) h.0, λ b q. after_owes (Spares c) k (Again d x) (h.1 b q))
follows_spared c P k (Told d a) f m h = (settling_after k (Told d a) h.0, λ b q. after_owes (Spares c) k (Told d a) (h.1 b q))
follows_spared c P k e f m h = absurd (⊎_elim (λ q. cc q) (λ q. cc q) f)

pub follower : (k : Course) (e : Entry) → Owing k → Meets k e → Follower e
follower k e o m = ⊎_elim (λ c. inl (meets_owes Calm k e c m)) (λ c. inr (meets_owes End k e c m)) o

goes_spared : (s : HostSpec) (c : ℕ) (P : List Entry) (k : Course) (e : Entry) → Owing k → Stands k s P e → Spared c P k → Spared c (e ∷ P) (goes_on k s P e)
goes_spared s c P over e o st h = opens_spared s c P e
goes_spared s c P (next x k) e o st h = follows_spared c P (next x k) e (follower (next x k) e o st) st h
goes_spared s c P (ask d code want k) e o st h = follows_spared c P (ask d code want k) e (follower (ask d code want k) e o st) st h
goes_spared s c P (fetch d n k) e o st h = follows_spared c P (fetch d n k) e (follower (fetch d n k) e o st) st h

owed_spared : (s : HostSpec) (c : ℕ) (P : List Entry) → EachStands s P → Spared c P (owed s P)
owed_spared s c [] each = (tt, λ b q. tt)
owed_spared s c (e ∷ P) each = goes_spared s c P (owed s P) e (owed_owing s P) each.0 (owed_spared s c P each.1)

-- the entry that stands is no judgement of a cleared command

judge_early : (s : HostSpec) (P : List Entry) (c n : ℕ) (d : Disp) (a : Option Answer) → MayJudge s P c n d a → has_begun P ≡ true → ⊥
judge_early s P c n d None h b = absurd h
judge_early s P c n d (Some a) h b = cc (sym (not-true _ (and_parts (to_judge P c n) (not (has_begun P)) h.0).1) ∙ b)

allowed_spares : (s : HostSpec) (c : ℕ) (P : List Entry) (e : Entry) → Allowed s P e → has_begun P ≡ true → Spares c e
allowed_spares s c P (Judged d n x) al b = absurd (judge_early s P d.0 n.0 x (answer n.0 P) al b)
allowed_spares s c P (Sensed d n x) al b = absurd al
allowed_spares s c P e al b = refl

stands_spares : (s : HostSpec) (c : ℕ) (P : List Entry) (k : Course) (e : Entry) → Stands k s P e → Spared c P k → has_begun P ≡ true → is_cleared c P ≡ true → Spares c e
stands_spares s c P over e st h b q = allowed_spares s c P e st b
stands_spares s c P (next x k) e st h b q = meets_owes (Spares c) (next x k) e (h.1 b q) st
stands_spares s c P (ask d code want k) e st h b q = meets_owes (Spares c) (ask d code want k) e (h.1 b q) st
stands_spares s c P (fetch d n k) e st h b q = meets_owes (Spares c) (fetch d n k) e (h.1 b q) st

-- the last own entry

abbrev pub was_cleared : Option Entry → Bool
was_cleared None = false
was_cleared (Some e) = is_clearing e

abbrev Last : ℕ → List Entry → Type 0
Last c P = has_begun P ≡ true → is_cleared c P ≡ true → (n : ℕ) → stage c P ≡ failing n → was_cleared (last_own c P) ≡ true

last_next : (c : ℕ) (P : List Entry) (e : Entry) → (has_begun P ≡ true → is_cleared c P ≡ true → Spares c e) → Fits c P e → (has_begun P ≡ true → IsRest (stage c P)) → Last c P → Last c (e ∷ P)
last_next c P (Took d) sp fit r h = ⊎_elim (λ yes. rw yes.0 (λ b q n z. absurd (cc z))) (λ no. rw no.0 h) (eqb_tells d.0 c)
last_next c P (Sent d m t) sp fit r h = ⊎_elim (λ yes. rw yes.0 (λ b q n z. absurd (cc z))) (λ no. rw no.0 h) (eqb_tells d.0 c)
last_next c P (Bounced d m why) sp fit r h = ⊎_elim (λ yes. rw yes.0 (λ b q n z. absurd (cc z))) (λ no. rw no.0 h) (eqb_tells d.0 c)
last_next c P (Owned m by) sp fit r h = λ b q n z. h b q n (own_failing m.0 (stage c P) n z)
last_next c P (Judged d m x) sp fit r h = ⊎_elim
    (λ yes b q n z. absurd (cc (sym (not-true _ (sp b q)) ∙ yes.0)))
    (λ no. rw no.0 h)
    (eqb_tells d.0 c)
last_next c P (Sensed d m x) sp fit r h = ⊎_elim
    (λ yes b q n z. absurd (cc (sym (not-true _ (sp b q)) ∙ yes.0)))
    (λ no. rw no.0 h)
    (eqb_tells d.0 c)
last_next c P (AbortSet d m) sp fit r h = ⊎_elim (λ yes. rw yes.0 (λ b q n z. absurd (cc z))) (λ no. rw no.0 h) (eqb_tells d.0 c)
last_next c P (Aborted d m ok) sp fit r h = ⊎_elim (λ yes. rw yes.0 (λ b q n z. absurd (cc z))) (λ no. rw no.0 h) (eqb_tells d.0 c)
last_next c P (Failed d m x) sp fit r h = ⊎_elim
    (λ yes b q n z. ⊎_elim (λ w. absurd (subst IsRest w (r b))) (λ w. absurd (subst IsRest w (r b))) (fit yes.1))
    (λ no. rw no.0 h)
    (eqb_tells d.0 c)
last_next c P (Cleared d level) sp fit r h = ⊎_elim (λ yes. rw yes.0 (λ b q n z. refl)) (λ no. rw no.0 h) (eqb_tells d.0 c)
last_next c P (Again d x) sp fit r h = ⊎_elim (λ yes. rw yes.0 (λ b q n z. absurd (cc z))) (λ no. rw no.0 h) (eqb_tells d.0 c)
last_next c P (Told d a) sp fit r h = ⊎_elim (λ yes. rw yes.0 (λ b q n z. absurd (cc z))) (λ no. rw no.0 h) (eqb_tells d.0 c)
last_next c P EhBegin sp fit r h = λ b q n z. absurd (cc q)
last_next c P EhEnd sp fit r h = λ b q n z. absurd (cc b)
last_next c P e sp fit r h = h

pub last_cleared : (s : HostSpec) (c : ℕ) (P : List Entry) → EachStands s P → Last c P
last_cleared s c [] each = λ b q n z. absurd (cc b)
last_cleared s c (e ∷ P) each =
    last_next c P e
    (stands_spares s c P (owed s P) e each.0 (owed_spared s c P each.1))
    (stands_fits s c P (owed s P) e (owed_of s c P each.1) each.0 (held_all s c P each.1))
    (rests s c P each.1).1
    (last_cleared s c P each.1)
