-- What a course may owe.
use Rattle.std.proofs.Common.{◌≡◌, ◌⊎◌, ℕ, Bool, true, false, cond, filter, List, [], ◌∷◌, Option, None, Some, refl, sym, subst, inl, inr}
use Rattle.std.specs.Prelude.{⊤}
use Rattle.mid_base.specs.declared.bytes.SenseBytes.{SenseBytes}
use Rattle.mid_base.specs.declared.names.CmdId.{CmdId}
use Rattle.mid_base.specs.declared.names.Attempt.{Attempt}
use Rattle.mid_base.specs.declared.names.DevAddr.{DevAddr}
use Rattle.mid_base.specs.declared.answers.Answer.{Answer}
use Rattle.mid_base.specs.declared.answers.Disp.{Disp}
use Rattle.mid_base.specs.declared.answers.Disp.TheVariants.{Success, Retry, Requeue, Fail}
use Rattle.mid_base.specs.declared.answers.ProbeSay.{ProbeSay}
use Rattle.mid_base.specs.declared.answers.Scope.{Scope}
use Rattle.mid_base.specs.declared.entries.Entry.{Entry}
use Rattle.mid_base.specs.declared.entries.Entry.TheVariants.{Judged, Aborted, Failed, Cleared, Sensed, Again, Told, EhBegin, Act, Probe, Offline}
use Rattle.mid_base.specs.declared.host_spec.HostSpec.{HostSpec}
use Rattle.mid_base.specs.Answers.{time_out}
use Rattle.trace_model.specs.Attempts.{answer}
use Rattle.trace_model.specs.Judging.{may_retry}
use Rattle.trace_model.specs.Recovery.{todo, listed}
use Rattle.disposition.specs.declared.todo.Todo.{Todo}
use Rattle.mid_base.specs.Levels.{Level, fetch_sense, abort, start_unit, reset_device, reset_target, reset_bus, reset_host, give_up, not_online, no_level, level_of}
use Rattle.disposition.specs.Ladder.{is_in_scope, devs}
use Rattle.trace_model.specs.Course.{Course, over, next, ask, fetch, Meets, after}
use Rattle.trace_model.specs.Climb.{tests, clear, test_and_clear, on_one_of, is_doubtful, kept_if, judge_again, fetch_for, start_for, offline_for, act_on}
use Rattle.trace_model.specs.Rules.{Allowed, course, judged, is_lost}
use Rattle.trace_model.specs.Legal.{goes_on, owed, Stands}

-- Q holds of each entry that k may owe
abbrev pub Owes : (Entry → Type 0) → Course → Type 0
Owes Q over = ⊤
Owes Q (next x k) = Q x × Owes Q k
Owes Q (ask d code want k) = ((say : ProbeSay) → Q (Probe d code say)) × ((say : ProbeSay) → Owes Q (k say))
Owes Q (fetch c n k) = ((sense : SenseBytes) → Q (Sensed c n sense)) × ((sense : SenseBytes) → Owes Q (k sense))

pub meets_owes : (Q : Entry → Type 0) (k : Course) (e : Entry) → Owes Q k → Meets k e → Q e
meets_owes Q over e h m = absurd m
meets_owes Q (next x k) e h m = subst Q (sym m) h.0
meets_owes Q (ask d code want k) (Probe f g say) h m = subst (λ a. Q (Probe a g say)) (sym m.0) (subst (λ b. Q (Probe d b say)) (sym m.1) (h.0 say))
meets_owes Q (fetch c n k) (Sensed d m s) h x = subst (λ a. Q (Sensed a m s)) (sym x.0) (subst (λ b. Q (Sensed c b s)) (sym x.1) (h.0 s))
meets_owes Q k e h m = absurd m

pub after_owes : (Q : Entry → Type 0) (k : Course) (e : Entry) → Owes Q k → Owes Q (after k e)
after_owes Q (next x k) e h = h.1
after_owes Q (ask d code want k) (Probe f g say) h = h.1 say
after_owes Q (fetch c n k) (Sensed d m s) h = h.1 s
after_owes Q over e h = tt
after_owes Q (ask d code want k) e h = tt
after_owes Q (fetch c n k) e h = tt

-- an entry of a recovery's course
abbrev pub is_calm : Entry → Bool
is_calm (Judged c n d) = true
is_calm (Cleared c level) = true
is_calm (Sensed c n s) = true
is_calm (Probe d code say) = true
is_calm (Offline d) = true
is_calm _ = false

-- an entry that settles a command
abbrev pub is_end : Entry → Bool
is_end (Failed c n x) = true
is_end (Again c counted) = true
is_end (Told c a) = true
is_end _ = false

abbrev pub Calm : Entry → Type 0
Calm e = is_calm e ≡ true

abbrev pub End : Entry → Type 0
End e = is_end e ≡ true

pub either : (Q : Entry → Type 0) (b : Bool) (x y : Course) → Owes Q x → Owes Q y → Owes Q (cond b x y)
either Q true x y h k = h
either Q false x y h k = k

pub clear_calm : (level : ℕ) (xs : List Todo) → Owes Calm (clear level xs)
clear_calm level [] = tt
clear_calm level (x ∷ xs) = (refl, clear_calm level xs)

pub tests_calm : (ds : List DevAddr) (k : List DevAddr → Course) → ((r : List DevAddr) → Owes Calm (k r)) → Owes Calm (tests ds k)
tests_calm [] k h = h []
tests_calm (d ∷ ds) k h = (
  λ say. refl,
  λ say. either Calm (is_doubtful say) _ _
      (λ again. refl, λ again. tests_calm ds (λ ready. k (kept_if again d ready)) (λ r. h (kept_if again d r)))
      (tests_calm ds (λ ready. k (kept_if say d ready)) (λ r. h (kept_if say d r))),
)

pub test_calm : (level : ℕ) (xs : List Todo) → Owes Calm (test_and_clear level xs)
test_calm level xs = tests_calm (devs xs) _ (λ ready. clear_calm level (filter (on_one_of ready) xs))

pub again_calm : (x : Todo) (d : Disp) → Owes Calm (judge_again x d)
again_calm x Success = (refl, (refl, tt))
again_calm x Retry = (refl, (refl, tt))
again_calm x Requeue = (refl, tt)
again_calm x Fail = (refl, tt)

pub fetch_calm : (ok : Bool) (xs : List Todo) → Owes Calm (fetch_for ok xs)
fetch_calm ok [] = tt
fetch_calm false (x ∷ xs) = (λ say. refl, λ say. tt)
fetch_calm true (x ∷ xs) = (λ say. refl, λ say. (λ sense. refl, λ sense. again_calm x _))

pub start_calm : (ok : Bool) (xs : List Todo) → Owes Calm (start_for ok xs)
start_calm ok [] = tt
start_calm false (x ∷ xs) = (λ say. refl, λ say. tt)
start_calm true (x ∷ xs) = (λ say. refl, λ say. test_calm 3 (x ∷ xs))

pub offline_calm : (xs : List Todo) → Owes Calm (offline_for xs)
offline_calm [] = tt
offline_calm (x ∷ xs) = (refl, clear_calm 8 (x ∷ xs))

pub act_calm : (at : Level) (level : ℕ) (ok : Bool) (xs : List Todo) → Owes Calm (act_on at level ok xs)
act_calm fetch_sense level ok xs = fetch_calm ok xs
act_calm start_unit level ok xs = start_calm ok xs
act_calm give_up level ok xs = offline_calm xs
act_calm not_online level ok xs = tt
act_calm no_level level ok xs = tt
act_calm abort level true xs = test_calm level xs
act_calm reset_device level true xs = test_calm level xs
act_calm reset_target level true xs = test_calm level xs
act_calm reset_bus level true xs = test_calm level xs
act_calm reset_host level true xs = test_calm level xs
act_calm abort level false xs = tt
act_calm reset_device level false xs = tt
act_calm reset_target level false xs = tt
act_calm reset_bus level false xs = tt
act_calm reset_host level false xs = tt

pub climb_calm : (s : HostSpec) (P : List Entry) (level : ℕ) (scope : Scope) (ok : Bool) → Owes Calm (course s P (Act level scope ok))
climb_calm s P level scope ok = act_calm (level_of level) level ok (filter (is_in_scope scope) (todo s P))

pub begin_calm : (s : HostSpec) (P : List Entry) → Owes Calm (course s P EhBegin)
begin_calm s P = clear_calm 0 (filter (is_lost s P) (listed s P))

pub judged_end : (c : CmdId) (n : Attempt) (d : Disp) (a : Option Answer) → Owes End (judged c n d a)
judged_end c n Success (Some a) = (refl, tt)
judged_end c n Success None = tt
judged_end c n Retry a = (refl, tt)
judged_end c n Requeue a = (refl, tt)
judged_end c n Fail a = (refl, tt)

pub judged_ends : (s : HostSpec) (P : List Entry) (c : CmdId) (n : Attempt) (d : Disp) → Owes End (course s P (Judged c n d))
judged_ends s P c n d = judged_end c n d (answer n.0 P)

pub end_either : (b : Bool) (c : CmdId) → End (cond b (Again c true) (Told c time_out))
end_either true c = refl
end_either false c = refl

pub aborted_ends : (s : HostSpec) (P : List Entry) (c : CmdId) (n : Attempt) (ok : Bool) → Owes End (course s P (Aborted c n ok))
aborted_ends s P c n true = (end_either (may_retry s P c.0) c, tt)
aborted_ends s P c n false = (refl, tt)

-- what is owed is one or the other
abbrev pub Owing : Course → Type 0
Owing k = Owes Calm k ⊎ Owes End k

pub course_owing : (s : HostSpec) (P : List Entry) (e : Entry) → Owing (course s P e)
course_owing s P (Judged c n d) = inr (judged_ends s P c n d)
course_owing s P (Aborted c n ok) = inr (aborted_ends s P c n ok)
course_owing s P EhBegin = inl (begin_calm s P)
course_owing s P (Act level scope ok) = inl (climb_calm s P level scope ok)
course_owing s P e = inl tt

pub after_owing : (k : Course) (e : Entry) → Owing k → Owing (after k e)
after_owing k e (inl h) = inl (after_owes Calm k e h)
after_owing k e (inr h) = inr (after_owes End k e h)

pub goes_owing : (k : Course) (s : HostSpec) (P : List Entry) (e : Entry) → Owing k → Owing (goes_on k s P e)
goes_owing over s P e h = course_owing s P e
goes_owing (next x k) s P e h = after_owing (next x k) e h
goes_owing (ask d code want k) s P e h = after_owing (ask d code want k) e h
goes_owing (fetch c n k) s P e h = after_owing (fetch c n k) e h

pub owed_owing : (s : HostSpec) (P : List Entry) → Owing (owed s P)
owed_owing s [] = inl tt
owed_owing s (e ∷ P) = goes_owing (owed s P) s P e (owed_owing s P)

abbrev pub Follower : Entry → Type 0
Follower e = Calm e ⊎ End e

pub meets_follower : (k : Course) (e : Entry) → Owing k → Meets k e → Follower e
meets_follower k e (inl h) m = inl (meets_owes Calm k e h m)
meets_follower k e (inr h) m = inr (meets_owes End k e h m)

pub stands_by : (k : Course) (s : HostSpec) (P : List Entry) (e : Entry) → Owing k → Stands k s P e → Allowed s P e ⊎ Follower e
stands_by over s P e h st = inl st
stands_by (next x k) s P e h st = inr (meets_follower (next x k) e h st)
stands_by (ask d code want k) s P e h st = inr (meets_follower (ask d code want k) e h st)
stands_by (fetch c n k) s P e h st = inr (meets_follower (fetch c n k) e h st)

-- an entry that stands is allowed, or it follows another at once
pub stands : (s : HostSpec) (P : List Entry) (e : Entry) → Stands (owed s P) s P e → Allowed s P e ⊎ Follower e
stands s P e st = stands_by (owed s P) s P e (owed_owing s P) st
