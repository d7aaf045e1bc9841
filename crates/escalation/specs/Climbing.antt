-- What a ladder does: act by act what is tried, and what is left (scsi_eh.rst, "scsi_unjam_host").
use Rattle.std.specs.Prelude.{◌≡◌, ℕ, ◌+◌, ◌*◌, ◌≤◌, ◌==◌, Bool, true, false, not, if◌then◌else◌, List, [], ◌∷◌, length, map, filter, find, Option, Some, option_map}
use Rattle.std.specs.List.{list_any}
use Rattle.mid_base.specs.declared.answers.Answer.{Answer}
use Rattle.mid_base.specs.declared.answers.Scope.{Scope}
use Rattle.mid_base.specs.Answers.{with_sense}
use Rattle.mid_base.specs.declared.entries.Entry.{Entry}
use Rattle.mid_base.specs.declared.entries.Entry.TheVariants.{Act, Cleared, Sensed}
use Rattle.mid_base.specs.declared.host_spec.CmdSpec.{CmdSpec}
use Rattle.mid_base.specs.declared.host_spec.HostSpec.{HostSpec}
use Rattle.mid_base.specs.declared.host_spec.Handlers.{Handlers}
use Rattle.mid_base.specs.Address.{in_scope}
use Rattle.mid_base.specs.Levels.{Level, abort, reset_device, reset_target, reset_bus, reset_host, level_of, can_succeed, can_fail}
use Rattle.disposition.specs.declared.todo.Todo.{Todo}
use Rattle.disposition.specs.Ladder.{Pair, pairs, is_in_scope, is_wanted_pair, beyond_pair}
use Rattle.host_template.specs.Standing.{Before, Standing}
use Rattle.host_template.specs.Meaning.{Meaning, IfHonest, NothingAdded, IsFree, Holds}
use Rattle.host_template.specs.Calls.{FitsLast}
use Rattle.trace_model.specs.Climb.{climb}
use Rattle.trace_model.specs.Course.{Follows}
use Rattle.trace_model.specs.Legal.{onto}
use Rattle.escalation.specs.declared.acted.Acted.{Acted}
use Rattle.escalation.specs.declared.acted.Acted.TheVariants as acted

-- a ladder: the commands that are left, in the order in which they failed; the pairs of a level and a scope that are above
-- the last act's; the callbacks that the host has; and whether commands are aborted within recovery
pub record Climb : Type 0 where
  pub left : List Todo
  pub ahead : List Pair
  pub handlers : Handlers
  pub aborts : Bool

abbrev pub begun : List Todo → Handlers → Bool → Climb
begun todo handlers aborts = record { left = todo; ahead = pairs todo; handlers = handlers; aborts = aborts }

-- what the next act is of, and on
abbrev pub next_pair : Climb → Option Pair
next_pair k = find (is_wanted_pair k.aborts k.left) k.ahead

abbrev pub clears : ℕ → Entry → Bool
clears c (Cleared d level) = d.0 == c
clears c _ = false

-- none of the entries clears the command
abbrev pub is_left : List Entry → Todo → Bool
is_left entries x = not (list_any (clears x.cmd.0) entries)

-- an attempt's answer after entries, with the sense that was fetched
abbrev pub sensed_by : ℕ → Entry → Option Answer → Option Answer
sensed_by n (Sensed c m sense) a = if m.0 == n then option_map (with_sense sense) a else a
sensed_by n _ a = a

abbrev pub sensed : ℕ → List Entry → Option Answer → Option Answer
sensed n [] a = a
sensed n (e ∷ es) a = sensed n es (sensed_by n e a)

abbrev pub as_told : List Entry → Todo → Todo
as_told entries x = record { cmd = x.cmd; n = x.n; dev = x.dev; cancelled = x.cancelled; answer = sensed x.n.0 entries x.answer; cx = x.cx }

-- the ladder after an act that these entries tell
abbrev pub gone_on : Pair → List Entry → Climb → Climb
gone_on p entries k = record { left = map (as_told entries) (filter (is_left entries) k.left); ahead = beyond_pair p k.ahead; handlers = k.handlers; aborts = k.aborts }

-- the ladder without the commands whose device isn't online
abbrev pub online_alone : Climb → Climb
online_alone k = record { left = filter (λ x. x.cx.online) k.left; ahead = k.ahead; handlers = k.handlers; aborts = k.aborts }

-- these entries tell the next act: it may have come out so, and what follows it is its course
pub record IsNextAct (k : Climb) (level : ℕ) (scope : Scope) (ok : Bool) (entries : List Entry) : Type 0 where
  pub next : next_pair k ≡ Some (level, scope)
  pub can : (if ok then can_succeed k.handlers (level_of level) else can_fail (level_of level)) ≡ true
  pub rest : List Entry
  pub told : entries ≡ Act level scope ok ∷ rest
  pub course : Follows (climb k.left level scope ok) rest
  pub few : length entries ≤ 4 + 3 * length k.left

-- nothing is done exactly where no command is left
abbrev pub Climbs : Climb → Climb → Acted → Type 0
Climbs old new (acted.Act level scope ok entries) =
    IsNextAct old level scope ok entries.items × (new ≡ gone_on (level, scope) entries.items old)
Climbs old new acted.Finished = (old.left ≡ []) × (new ≡ old)

-- the attempt is the last one of its command, which is one of the spec's with this device
abbrev pub IsLast : HostSpec → List Entry → Todo → Type 0
IsLast s P x = (k : CmdSpec) × FitsLast s P x.cmd k x.n.0 x.dev

abbrev pub AreLast : HostSpec → List Entry → List Todo → Type 0
AreLast s P [] = Unit {0}
AreLast s P (x ∷ xs) = IsLast s P x × AreLast s P xs

-- where a lower layer stood at a journal that fits the ladder, it stands at that journal with these entries behind it
abbrev pub StandsActed : Handlers → List Todo → Standing → Standing → List Entry → Type 0
StandsActed handlers xs old new entries =
    (s : HostSpec) (b : Before) (P : List Entry) → s.handlers ≡ handlers → AreLast s P xs → old s b P → new s b (onto entries P)

-- an abort that succeeded has taken its attempt back, and a reset all of its scope
abbrev pub LetsGo : Level → Scope → Bool → List Todo → Meaning → Type 0
LetsGo abort scope true (x ∷ xs) m = IsFree m x.n.0
LetsGo reset_device scope true xs m = (n : ℕ) (d : _) → Holds m.holds n d → in_scope scope d ≡ false
LetsGo reset_target scope true xs m = (n : ℕ) (d : _) → Holds m.holds n d → in_scope scope d ≡ false
LetsGo reset_bus scope true xs m = (n : ℕ) (d : _) → Holds m.holds n d → in_scope scope d ≡ false
LetsGo reset_host scope true xs m = (n : ℕ) (d : _) → Holds m.holds n d → in_scope scope d ≡ false
LetsGo _ scope ok xs m = Unit {0}

abbrev pub HonestAct : Level → Scope → Bool → List Todo → Meaning → Meaning → Type 0
HonestAct level scope ok xs old new = LetsGo level scope ok xs new × NothingAdded old new

-- the lower layer after a call
abbrev pub StandsClimbed : Climb → Standing → Standing → Acted → Type 0
StandsClimbed k old new (acted.Act level scope ok entries) = StandsActed k.handlers k.left old new entries.items
StandsClimbed k old new acted.Finished = Unit {0}

abbrev pub HonestClimbed : Climb → Meaning → Meaning → Acted → Type 0
HonestClimbed k old new (acted.Act level scope ok entries) =
    IfHonest (HonestAct (level_of level) scope ok (filter (is_in_scope scope) k.left)) old new
HonestClimbed k old new acted.Finished = Unit {0}

-- where nothing was done, this is so
abbrev pub IsIdle : Acted → Type 0 → Type 0
IsIdle (acted.Act level scope ok entries) P = Unit {0}
IsIdle acted.Finished P = P
