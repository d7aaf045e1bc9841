-- The running state says what the entries P, the newest first, say.
use Rattle.std.specs.Prelude.{◌≡◌, ◌<◌, ◌+◌, ◌^◌, ℕ, Bool, true, false, if◌then◌else◌, List, [], ◌∷◌, Some, is_some, length, slice_get, slice_set}
use Rattle.mid_base.specs.declared.names.Attempt.{Attempt}
use Rattle.mid_base.specs.declared.names.Tag.{Tag}
use Rattle.mid_base.specs.declared.answers.Answer.{Answer}
use Rattle.mid_base.specs.declared.answers.By.{By}
use Rattle.mid_base.specs.declared.answers.By.TheVariants.{Answer as ByAnswer, Expiry as ByExpiry}
use Rattle.mid_base.specs.declared.answers.TagState.{TagState}
use Rattle.mid_base.specs.declared.answers.TagState.TheVariants.{Free as TagFree, Armed as TagArmed, Owned as TagOwned}
use Rattle.mid_base.specs.declared.entries.Entry.{Entry}
use Rattle.mid_base.specs.declared.entries.Entry.TheVariants.{Sent}
use Rattle.mid_base.specs.declared.host_spec.HostSpec.{HostSpec}
use Rattle.mid_base.specs.Limits.{KeepsLimits}
use Rattle.mid_base.specs.Past.{ticks, sent_for}
use Rattle.trace_model.specs.declared.standing.Standing.TheVariants.{New, Busy}
use Rattle.trace_model.specs.Commands.{standing}
use Rattle.failure_table.specs.FailuresAgree.{FailuresAgree, Abort, is_out}
use Rattle.trace_model.specs.Tags.{sent_with}
use Rattle.attempt_table.specs.declared.rows.Row.{Row}
use Rattle.attempt_table.specs.Rows.{row_of, owned_in, live_in, claims_by, answer_in}
use Rattle.attempt_table.specs.AttemptsAgree.{AttemptsAgree}
use Rattle.command_table.specs.declared.rows.CommandRow.{CommandRow}
use Rattle.command_table.specs.Rows.{id_at, standing_at, IsFirstLeft, IsHoused}
use Rattle.command_table.specs.CommandsAgree.{CommandsAgree}
use Rattle.device_table.specs.DevicesAgree.{DevicesAgree}
use Rattle.timer_list.specs.Timers.{Timer, deadline_of}
use Rattle.deadline_table.specs.declared.deadlines.Deadlines.{Deadlines}
use Rattle.deadline_table.specs.DeadlinesAgree.{DeadlinesAgree, IsDueAt}
use Rattle.verdict_table.specs.VerdictsAgree.{VerdictsAgree}
use Rattle.host_state.specs.declared.running.Running.{Running}

-- a command whose attempt is under way is busy with it, and neither failed nor to be aborted
abbrev pub AreUnderWay : List Entry → List Row → Type 0
AreUnderWay P attempts =
    (n : ℕ) (x : Row) → row_of n attempts ≡ Some x → live_in (Some x) ≡ true
    → (standing x.command.0 P ≡ Busy (record { 0 = n }) x.tag) × (is_out x.command.0 P ≡ true)

-- an attempt's row has the place of its command
abbrev pub ArePlaced : List Row → List CommandRow → Type 0
ArePlaced attempts commands = (n : ℕ) (x : Row) → row_of n attempts ≡ Some x → id_at x.place commands ≡ Some x.command

-- the command of a scheduled abort is busy with the attempt that is to be aborted, which came to an owner
pub record IsAborting (P : List Entry) (attempts : List Row) (x : Abort) : Type 0 where
  pub row : Row
  pub at : row_of x.1.0 attempts ≡ Some row
  pub of : row.command ≡ x.0
  pub owned : is_some row.owner ≡ true
  pub busy : standing x.0.0 P ≡ Busy x.1 row.tag

abbrev pub AreAborting : List Entry → List Row → List Abort → Type 0
AreAborting P attempts [] = Unit {0}
AreAborting P attempts (x ∷ xs) = IsAborting P attempts x × AreAborting P attempts xs

-- a busy command was the last to be sent with its tag
abbrev pub AreHeld : HostSpec → List Entry → Type 0
AreHeld s P =
    (c : ℕ) (n : Attempt) (t : Tag) → standing c P ≡ Busy n t
    → (sent_with t.0 P ≡ n.0) × (sent_for n.0 P ≡ c) × (t.0 < s.can_queue)

-- each attempt was sent with one of so many tags
abbrev pub HaveTags : ℕ → List Entry → Type 0
HaveTags count [] = Unit {0}
HaveTags count (Sent c n t ∷ P) = (t.0 < count) × HaveTags count P
HaveTags count (e ∷ P) = HaveTags count P

-- the tag is that of an attempt that waits for its deadline
abbrev pub is_timed_tag : List Timer → TagState → Bool
is_timed_tag timers (TagArmed n) = is_some (deadline_of n.0 timers)
is_timed_tag timers x = false

-- how many tags are such
abbrev pub count_tags : (TagState → Bool) → List TagState → ℕ
count_tags test [] = 0
count_tags test (x ∷ xs) = if test x then count_tags test xs + 1 else count_tags test xs

-- the deadlines are those that the entries say, and each timer's attempt has a tag
pub record IsTimed (s : HostSpec) (P : List Entry) (deadlines : Deadlines) (tags : List TagState) : Type 0 where
  pub agrees : DeadlinesAgree s P deadlines
  pub most : deadlines.timers.most ≡ s.can_queue
  pub count : length deadlines.timers.timers ≡ count_tags (is_timed_tag deadlines.timers.timers) tags

pub record HostAgrees (s : HostSpec) (P : List Entry) (r : Running) : Type 0 where
  pub limits : KeepsLimits s
  pub attempts : AttemptsAgree s P r.attempts
  pub commands : CommandsAgree s P r.commands
  pub devices : DevicesAgree s P r.devices
  pub timed : IsTimed s P r.deadlines r.attempts.tags.items
  pub time : ticks P ≡ r.ticks
  pub early : r.ticks < 2 ^ 60
  pub few : length r.attempts.rows.items < 2 ^ 60
  pub failures : FailuresAgree s P r.failures
  pub verdicts : VerdictsAgree s P r.verdicts
  pub under_way : AreUnderWay P r.attempts.rows.items
  pub placed : ArePlaced r.attempts.rows.items r.commands.rows.items
  pub aborting : AreAborting P r.attempts.rows.items r.failures.work.waiting
  pub held_back : AreHeld s P
  pub tagged : HaveTags s.can_queue P

-- the command at this place can be handed in
pub record CanBeHandedIn (r : Running) (i : ℕ) : Type 0 where
  pub fresh : standing_at i r.commands.rows.items ≡ Some New
  pub first : IsFirstLeft i r.commands.rows.items
  pub housed : IsHoused i r.commands.rows.items (length r.commands.waiting.items)

-- the attempt waits to come to this owner
pub record IsClaimed (r : Running) (n : Attempt) (by : By) : Type 0 where
  pub spec : HostSpec
  pub entries : List Entry
  pub runs : HostAgrees spec entries r
  pub waits : claims_by by (row_of n.0 r.attempts.rows.items) ≡ true

-- the attempt has this row, belongs to this owner and isn't settled
pub record IsOwnedBy (r : Running) (n : Attempt) (row : Row) (by : By) : Type 0 where
  pub at : row_of n.0 r.attempts.rows.items ≡ Some row
  pub owned : owned_in (Some row) ≡ true
  pub owner : row.owner ≡ Some by

-- in the running state of some journal, the attempt belongs to this answer
pub record IsOwnedRow (r : Running) (n : Attempt) (row : Row) (a : Answer) : Type 0 where
  pub spec : HostSpec
  pub entries : List Entry
  pub runs : HostAgrees spec entries r
  pub is : IsOwnedBy r n row ByAnswer
  pub answer : answer_in r.attempts.kept.items (Some row) ≡ Some a

-- in the running state of some journal, the attempt belongs to its expired timer
pub record IsExpiredRow (r : Running) (n : Attempt) (row : Row) : Type 0 where
  pub spec : HostSpec
  pub entries : List Entry
  pub runs : HostAgrees spec entries r
  pub is : IsOwnedBy r n row ByExpiry

-- in the running state of some journal, the attempt's time is up
pub record IsAsked (r : Running) (n : Attempt) : Type 0 where
  pub spec : HostSpec
  pub entries : List Entry
  pub runs : HostAgrees spec entries r
  pub due : IsDueAt n.0 r.ticks r.deadlines.timers.timers

-- in the running state of some journal, this attempt, with this row, is the first that is to be aborted
pub record IsFirstAbort (r : Running) (n : Attempt) (row : Row) : Type 0 where
  pub spec : HostSpec
  pub entries : List Entry
  pub runs : HostAgrees spec entries r
  pub first : slice_get r.failures.work.waiting 0 ≡ Some (row.command, n)
  pub at : row_of n.0 r.attempts.rows.items ≡ Some row

-- one retry more of the command at this place can be counted
abbrev pub HasRetries : Running → ℕ → Type 0
HasRetries r i = (x : CommandRow) → slice_get r.commands.rows.items i ≡ Some x → x.retries < 255

-- the tag was that of the attempt, which had this owner, and is free
abbrev pub IsFreed : List TagState → List TagState → Attempt → By → Tag → Type 0
IsFreed old new n by t = (slice_get old t.0 ≡ Some (TagOwned n by)) × (new ≡ slice_set old t.0 TagFree)
