-- The course of the next act is taken.
use Rattle.std.proofs.Common.{◌≡◌, ℕ, Bool, true, false, filter, List, [], ◌∷◌, Some, refl}
use Rattle.mid_base.specs.Levels.{Level, fetch_sense, abort, start_unit, reset_device, reset_target, reset_bus, reset_host, give_up, not_online, no_level, level_of}
use Rattle.mid_base.specs.Limits.{KeepsLimits}
use Rattle.mid_base.specs.declared.answers.Disp.{Disp}
use Rattle.mid_base.specs.declared.answers.Disp.TheVariants.{Success, Retry, Requeue, Fail}
use Rattle.mid_base.specs.declared.answers.Scope.{Scope}
use Rattle.mid_base.specs.declared.entries.Entry.{Entry}
use Rattle.mid_base.specs.declared.entries.Entry.TheVariants.{Act, EhBegin}
use Rattle.mid_base.specs.declared.host_spec.HostSpec.{HostSpec}
use Rattle.mid_base.specs.declared.names.DevAddr.{DevAddr}
use Rattle.disposition.specs.Ladder.{is_in_scope, devs}
use Rattle.disposition.specs.declared.todo.Todo.{Todo}
use Rattle.trace_model.specs.Attempts.{answer}
use Rattle.trace_model.specs.Climb.{tests, clear, test_and_clear, on_one_of, is_doubtful, kept_if, judge_again, fetch_for, start_for, offline_for, act_on, climb}
use Rattle.trace_model.specs.Course.{Course, Follows}
use Rattle.trace_model.specs.Legal.{EachStands}
use Rattle.trace_model.specs.Recovery.{failed, listed, todo, next_act}
use Rattle.trace_model.specs.Rules.{course, is_lost}
use Rattle.trace_model.proofs.Owes.{Owes, either}
use Rattle.verdict_table.specs.Taken.{has_failed, moves_no_depth, Takes, AreTaken}
use Rattle.recovery_laws.proofs.Owing.{owes_behind, follows_taken}
use Rattle.recovery_laws.proofs.Listed.{AreListed, some_listed, todo_listed}
use Rattle.recovery_laws.proofs.Fetched.{AreFetched, act_fetched}

clear_owes : (s : HostSpec) (P : List Entry) (level : ℕ) (xs : List Todo) → Owes (Takes s P) (clear level xs)
clear_owes s P level [] = tt
clear_owes s P level (x ∷ xs) = (tt, clear_owes s P level xs)

tests_owe : (s : HostSpec) (P : List Entry) (ds : List DevAddr) (k : List DevAddr → Course) → ((r : List DevAddr) → Owes (Takes s P) (k r)) → Owes (Takes s P) (tests ds k)
tests_owe s P [] k h = h []
tests_owe s P (d ∷ ds) k h = (
  λ say. tt,
  λ say. either (Takes s P) (is_doubtful say) _ _
      (λ again. tt, λ again. tests_owe s P ds (λ ready. k (kept_if again d ready)) (λ r. h (kept_if again d r)))
      (tests_owe s P ds (λ ready. k (kept_if say d ready)) (λ r. h (kept_if say d r))),
)

test_owes : (s : HostSpec) (P : List Entry) (level : ℕ) (xs : List Todo) → Owes (Takes s P) (test_and_clear level xs)
test_owes s P level xs = tests_owe s P (devs xs) _ (λ ready. clear_owes s P level (filter (on_one_of ready) xs))

again_owes : (s : HostSpec) (P : List Entry) (x : Todo) (d : Disp) → has_failed x.cmd.0 x.n.0 (failed P) ≡ true → moves_no_depth (answer x.n.0 P) ≡ true → Owes (Takes s P) (judge_again x d)
again_owes s P x Success f m = ((f, m), (tt, tt))
again_owes s P x Retry f m = ((f, m), (tt, tt))
again_owes s P x Requeue f m = ((f, m), tt)
again_owes s P x Fail f m = ((f, m), tt)

fetch_owes : (s : HostSpec) (P : List Entry) (ok : Bool) (xs : List Todo) → AreFetched P xs → Owes (Takes s P) (fetch_for ok xs)
fetch_owes s P ok [] h = tt
fetch_owes s P false (x ∷ xs) h = (λ say. tt, λ say. tt)
fetch_owes s P true (x ∷ xs) h = (λ say. tt, λ say. (λ sense. h.0.0, λ sense. again_owes s P x _ h.0.0 h.0.1))

start_owes : (s : HostSpec) (P : List Entry) (ok : Bool) (xs : List Todo) → Owes (Takes s P) (start_for ok xs)
start_owes s P ok [] = tt
start_owes s P false (x ∷ xs) = (λ say. tt, λ say. tt)
start_owes s P true (x ∷ xs) = (λ say. tt, λ say. test_owes s P 3 (x ∷ xs))

offline_owes : (s : HostSpec) (P : List Entry) (xs : List Todo) → AreListed s P xs → Owes (Takes s P) (offline_for xs)
offline_owes s P [] h = tt
offline_owes s P (x ∷ xs) h = (h.0.on_host, clear_owes s P 8 (x ∷ xs))

act_owes : (s : HostSpec) (P : List Entry) (at : Level) (level : ℕ) (ok : Bool) (xs : List Todo) → AreListed s P xs → (at ≡ fetch_sense → AreFetched P xs) → Owes (Takes s P) (act_on at level ok xs)
act_owes s P fetch_sense level ok xs l h = fetch_owes s P ok xs (h refl)
act_owes s P start_unit level ok xs l h = start_owes s P ok xs
act_owes s P give_up level ok xs l h = offline_owes s P xs l
act_owes s P not_online level ok xs l h = tt
act_owes s P no_level level ok xs l h = tt
act_owes s P abort level true xs l h = test_owes s P level xs
act_owes s P reset_device level true xs l h = test_owes s P level xs
act_owes s P reset_target level true xs l h = test_owes s P level xs
act_owes s P reset_bus level true xs l h = test_owes s P level xs
act_owes s P reset_host level true xs l h = test_owes s P level xs
act_owes s P abort level false xs l h = tt
act_owes s P reset_device level false xs l h = tt
act_owes s P reset_target level false xs l h = tt
act_owes s P reset_bus level false xs l h = tt
act_owes s P reset_host level false xs l h = tt

pub act_taken : (s : HostSpec) (P : List Entry) (level : ℕ) (scope : Scope) (ok : Bool) (rest : List Entry) → KeepsLimits s → EachStands s P → next_act s P ≡ Some (level, scope)
    → Follows (climb (todo s P) level scope ok) rest → AreTaken s P (Act level scope ok ∷ rest)
act_taken s P level scope ok rest limits each e f =
    let all = todo_listed s P limits each in
    let owes = act_owes s P (level_of level) level ok (filter (is_in_scope scope) (todo s P)) (some_listed s P (is_in_scope scope) (todo s P) all) (act_fetched s P level scope each all e) in
    (tt, follows_taken s (Act level scope ok ∷ P) (climb (todo s P) level scope ok) rest (owes_behind s P (Act level scope ok) (climb (todo s P) level scope ok) tt owes) f)

pub begun_taken : (s : HostSpec) (P : List Entry) (rest : List Entry) → Follows (course s P EhBegin) rest → AreTaken s (EhBegin ∷ P) rest
begun_taken s P rest f = follows_taken s (EhBegin ∷ P) (course s P EhBegin) rest (clear_owes s (EhBegin ∷ P) 0 (filter (is_lost s P) (listed s P))) f
