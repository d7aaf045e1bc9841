-- What follows an act of the ladder at once, level by level.
use Rattle.std.specs.Prelude.{ℕ, Bool, true, false, not, ◌&&◌, if◌then◌else◌, List, [], ◌∷◌, map, Option, None, Some, option_map, filter}
use Rattle.std.specs.List.{list_any}
use Rattle.mid_base.specs.declared.names.DevAddr.{DevAddr}
use Rattle.mid_base.specs.declared.answers.Answer.{Answer}
use Rattle.mid_base.specs.declared.answers.Disp.{Disp}
use Rattle.mid_base.specs.declared.answers.Disp.TheVariants.{Success, Retry, Fail}
use Rattle.mid_base.specs.declared.answers.ProbeSay.{ProbeSay}
use Rattle.mid_base.specs.declared.answers.ProbeSay.TheVariants.{Answered, Silent}
use Rattle.mid_base.specs.declared.answers.Scope.{Scope}
use Rattle.mid_base.specs.declared.entries.Entry.TheVariants.{Judged, Cleared, Offline}
use Rattle.mid_base.specs.Address.{same_dev}
use Rattle.mid_base.specs.Codes.{test_unit_ready, request_sense, start_stop_unit}
use Rattle.mid_base.specs.Answers.{said_good, is_good, with_sense}
use Rattle.disposition.specs.Disp.{disp, is_retry}
use Rattle.disposition.specs.declared.todo.Cx.{Cx}
use Rattle.disposition.specs.declared.todo.Todo.{Todo}
use Rattle.mid_base.specs.Levels.{Level, fetch_sense, start_unit, give_up, not_online, no_level, number, level_of}
use Rattle.disposition.specs.Ladder.{is_in_scope, devs}
use Rattle.trace_model.specs.Course.{Course, over, next, ask, fetch, in_turn}

-- a first test that is made again
abbrev pub is_doubtful : ProbeSay → Bool
is_doubtful Silent = false
is_doubtful (Answered a) = not (is_good a) && is_retry (disp a 0 1 false true)

abbrev pub kept_if : ProbeSay → DevAddr → List DevAddr → List DevAddr
kept_if say d ready = if said_good say then d ∷ ready else ready

-- each device is tested, twice at most; then k of those that are ready, in order
abbrev pub tests : List DevAddr → (List DevAddr → Course) → Course
tests [] k = k []
tests (d ∷ ds) k =
    ask d test_unit_ready None (λ say.
    if is_doubtful say then ask d test_unit_ready None (λ again. tests ds (λ ready. k (kept_if again d ready)))
    else tests ds (λ ready. k (kept_if say d ready)))

-- the commands are cleared, in the order of the list
abbrev pub clear : ℕ → List Todo → Course
clear level xs = in_turn (map (λ x. Cleared x.cmd level) xs) over

abbrev pub on_one_of : List DevAddr → Todo → Bool
on_one_of ds x = list_any (same_dev x.dev) ds

-- the devices of these commands are tested, and the commands on ready ones cleared
abbrev pub test_and_clear : ℕ → List Todo → Course
test_and_clear level xs = tests (devs xs) (λ ready. clear level (filter (on_one_of ready) xs))

-- where the sense was fetched: the answer is judged again
abbrev pub judge_again : Todo → Disp → Course
judge_again x Success = next (Judged x.cmd x.n Success) (next (Cleared x.cmd (number fetch_sense)) over)
judge_again x Retry = next (Judged x.cmd x.n Retry) (next (Cleared x.cmd (number fetch_sense)) over)
judge_again x d = next (Judged x.cmd x.n d) over

abbrev pub disp_again : Cx → Option Answer → Disp
disp_again cx None = Fail
disp_again cx (Some a) = disp a cx.retries cx.allowed cx.failfast cx.online

abbrev pub fetch_for : Bool → List Todo → Course
fetch_for ok [] = over
fetch_for false (x ∷ xs) = ask x.dev request_sense None (λ say. over)
fetch_for true (x ∷ xs) =
    ask x.dev request_sense (Some true) (λ say.
    fetch x.cmd x.n (λ sense. judge_again x (disp_again x.cx (option_map (with_sense sense) x.answer))))

-- the unit is started
abbrev pub start_for : Bool → List Todo → Course
start_for ok [] = over
start_for false (x ∷ xs) = ask x.dev start_stop_unit (Some false) (λ say. over)
start_for true (x ∷ xs) = ask x.dev start_stop_unit (Some true) (λ say. test_and_clear (number start_unit) (x ∷ xs))

-- the device is put offline
abbrev pub offline_for : List Todo → Course
offline_for [] = over
offline_for (x ∷ xs) = next (Offline x.dev) (clear (number give_up) (x ∷ xs))

-- an act of a level on the commands of its scope
abbrev pub act_on : Level → ℕ → Bool → List Todo → Course
act_on fetch_sense level ok xs = fetch_for ok xs
act_on start_unit level ok xs = start_for ok xs
act_on give_up level ok xs = offline_for xs
act_on not_online level ok xs = over
act_on no_level level ok xs = over
act_on _ level true xs = test_and_clear level xs
act_on _ level false xs = over

abbrev pub climb : List Todo → ℕ → Scope → Bool → Course
climb xs level scope ok = act_on (level_of level) level ok (filter (is_in_scope scope) xs)
