-- What the parts of an act do. No contract of a public call cites these words.
use Rattle.std.specs.Prelude.{◌≡◌, ℕ, ◌+◌, ◌*◌, ◌≤◌, ◌==◌, Bool, true, false, if◌then◌else◌, List, [], ◌∷◌, ◌++◌, length, map, filter, Option, option_map, is_some, vec_len, vec_capacity}
use Rattle.std.specs.List.{list_any}
use Rattle.std.specs.List.Sorted.{IsNonDecreasing}
use Rattle.mid_base.specs.declared.names.DevAddr.{DevAddr}
use Rattle.mid_base.specs.declared.answers.Scope.{Scope}
use Rattle.mid_base.specs.declared.entries.Entry.{Entry}
use Rattle.mid_base.specs.declared.answers.Scope.TheVariants.{Cmd}
use Rattle.mid_base.specs.declared.answers.Disp.{Disp}
use Rattle.mid_base.specs.declared.answers.Disp.TheVariants.{Success, Retry}
use Rattle.mid_base.specs.declared.answers.ProbeSay.{ProbeSay}
use Rattle.mid_base.specs.declared.bytes.SenseBytes.{SenseBytes}
use Rattle.mid_base.specs.declared.names.CmdId.{CmdId}
use Rattle.mid_base.specs.declared.entries.Entry.TheVariants.{Act, Cleared, Judged, Sensed, Probe, Offline}
use Rattle.mid_base.specs.Answers.{with_sense}
use Rattle.mid_base.specs.Codes.{request_sense}
use Rattle.mid_base.specs.declared.host_spec.Handlers.{Handlers}
use Rattle.mid_base.specs.Levels.{Level, fetch_sense, give_up, number, callback, can_succeed, can_fail}
use Rattle.disposition.specs.declared.todo.Todo.{Todo}
use Rattle.disposition.specs.Ladder.{Pair, pairs, is_in_scope, devs, beyond, same_pair}
use Rattle.host_template.specs.Standing.{Standing}
use Rattle.trace_model.specs.Climb.{act_on, disp_again}
use Rattle.trace_model.specs.Course.{Course, Follows}
use Rattle.eh_probe.specs.declared.says.Tested.{Tested}
use Rattle.eh_probe.specs.Tests.{IsTest, test_entries}
use Rattle.eh_probe.specs.Standings.{StandsAfter}
use Rattle.escalation.specs.declared.testing.Told.{Told}
use Rattle.escalation.specs.declared.rungs.Rung.{Rung}
use Rattle.escalation.specs.Rungs.{level_at, scope_at, pair_at}
use Rattle.escalation.specs.Climbing.{StandsActed, clears}
use Rattle.step_laws.proofs.Ladders.{lost}

-- these devices are tested, in order, of which these are ready, and these entries tell it
abbrev pub AreTested : List DevAddr → List DevAddr → List Entry → Type 0
AreTested [] ready es = (ready ≡ []) × (es ≡ [])
AreTested (d ∷ ds) ready es = (t : Tested) × ((more : List DevAddr) × ((rest : List Entry) ×
    (IsTest t × AreTested ds more rest × (es ≡ test_entries d t ++ rest) × (ready ≡ (if t.ready then d ∷ more else more)))))

-- entries behind others tell that devices are tested
pub record Tests (old new : Standing) (devices ready : List DevAddr) (before behind : List Entry) : Type 0 where
  pub entries : List Entry
  pub told : behind ≡ before ++ entries
  pub tested : AreTested devices ready entries
  pub stands : StandsAfter old new entries
  pub few : length entries ≤ 2 * length devices

abbrev pub cleared : ℕ → List Todo → List Entry
cleared level xs = map (λ x. Cleared x.cmd level) xs

-- entries behind others are a course, and at most so many
pub record GoesOn (old new : Standing) (k : Course) (most : ℕ) (before behind : List Entry) : Type 0 where
  pub entries : List Entry
  pub told : behind ≡ before ++ entries
  pub course : Follows k entries
  pub stands : StandsAfter old new entries
  pub few : length entries ≤ most

-- nothing is told yet, and there is room for what an act on these commands may tell
pub record IsReady (xs : List Todo) (told : Told) : Type 0 where
  pub entries : told.entries.items ≡ []
  pub ready : told.ready.items ≡ []
  pub room : 4 + 3 * length xs ≤ vec_capacity told.entries
  pub devices : length xs ≤ vec_capacity told.ready

-- the first of the commands is in the scope
abbrev pub BeginsIn : Scope → List Todo → Type 0
BeginsIn scope [] = ⊥
BeginsIn scope (x ∷ xs) = is_in_scope scope x ≡ true

-- an act of a level on a scope, for these commands of it
pub record IsAct (handlers : Handlers) (level : Level) (scope : Scope) (xs : List Todo) (ok : Bool) (old new : Standing) (entries : List Entry) : Type 0 where
  pub can : (if ok then can_succeed handlers level else can_fail level) ≡ true
  pub rest : List Entry
  pub told : entries ≡ Act (number level) scope ok ∷ rest
  pub course : Follows (act_on level (number level) ok xs) rest
  pub stands : StandsActed handlers xs old new entries
  pub few : length entries ≤ 4 + 3 * length xs

-- an abort or a reset that wasn't made where the host has no callback for it: its act is the next entry
pub record IsTried (handlers : Handlers) (level : Level) (scope : Scope) (xs : List Todo) (ok : Bool) (old new : Standing) : Type 0 where
  pub can : (if ok then can_succeed handlers level else can_fail level) ≡ true
  pub stands : StandsActed handlers xs old new (Act (number level) scope ok ∷ [])

-- the level calls a callback
abbrev pub is_call : Level → Bool
is_call level = is_some (callback level)

-- an act whose callback was tried is told, and where that succeeded its devices were tested
pub record IsTold (level : Level) (scope : Scope) (ok : Bool) (xs : List Todo) (old new : Standing) (entries : List Entry) : Type 0 where
  pub rest : List Entry
  pub told : entries ≡ Act (number level) scope ok ∷ rest
  pub course : Follows (act_on level (number level) ok xs) rest
  pub stands : StandsAfter old new rest
  pub few : length rest ≤ 3 * length xs

abbrev pub told_offline : List Todo → List Entry
told_offline [] = []
told_offline (x ∷ xs) = Offline x.dev ∷ cleared (number give_up) (x ∷ xs)

-- what is told of an act of level 1: whether the probe was GOOD and what it fetched is valid sense, and what follows
abbrev pub told_again : Todo → Disp → List Entry
told_again x Success = Judged x.cmd x.n Success ∷ Cleared x.cmd (number fetch_sense) ∷ []
told_again x Retry = Judged x.cmd x.n Retry ∷ Cleared x.cmd (number fetch_sense) ∷ []
told_again x d = Judged x.cmd x.n d ∷ []

abbrev pub told_fetch : CmdId → Todo → ProbeSay → SenseBytes → Bool → List Entry
told_fetch c x say sense false = Act (number fetch_sense) (Cmd c) false ∷ Probe x.dev request_sense say ∷ []
told_fetch c x say sense true =
    Act (number fetch_sense) (Cmd c) true ∷ Probe x.dev request_sense say ∷ Sensed x.cmd x.n sense
    ∷ told_again x (disp_again x.cx (option_map (with_sense sense) x.answer))

-- the pair that puts a command's device offline is ahead
abbrev pub AreAhead : List Pair → List Todo → Type 0
AreAhead ps [] = Unit {0}
AreAhead ps (x ∷ xs) = (list_any (same_pair (lost x.dev)) ps ≡ true) × AreAhead ps xs

-- the pairs ahead are those of some list above one that was the last, and none that is still needed is behind
pub record IsClimbing (left : List Todo) (ahead : List Pair) : Type 0 where
  pub all : List Todo
  pub last : Option Pair
  pub above : ahead ≡ beyond last (pairs all)
  pub covers : AreAhead ahead left

abbrev pub is_id : ℕ → ℕ → Bool
is_id c d = d == c

-- ascending numbers are the ids of the commands that these entries clear
pub record AreCleared (entries : List Entry) (ids : List ℕ) : Type 0 where
  pub rise : IsNonDecreasing ids
  pub are : (c : ℕ) → list_any (is_id c) ids ≡ list_any (clears c) entries
