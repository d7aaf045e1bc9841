-- What a step is to do, as the running state says it, and what came of it. P has the newest entry first.
use Rattle.std.specs.Prelude.{◌≡◌, ◌<◌, ◌^◌, ◌+◌, ◌-◌, ℕ, Bool, true, false, List, [], ◌∷◌, Option, None, Some, Result, Ok, Err, if◌then◌else◌, length, slice_get, slice_set}
use Rattle.mid_base.specs.declared.answers.Answer.{Answer}
use Rattle.mid_base.specs.declared.answers.BusyOf.{BusyOf}
use Rattle.mid_base.specs.declared.answers.BusyOf.TheVariants as of
use Rattle.mid_base.specs.declared.answers.By.{By}
use Rattle.mid_base.specs.declared.answers.By.TheVariants.{Answer as ByAnswer, Expiry as ByExpiry}
use Rattle.mid_base.specs.declared.answers.Disp.{Disp}
use Rattle.mid_base.specs.declared.answers.Disp.TheVariants as disps
use Rattle.mid_base.specs.declared.answers.TagState.{TagState}
use Rattle.mid_base.specs.declared.answers.TagState.TheVariants as tag
use Rattle.mid_base.specs.declared.entries.Entry.{Entry}
use Rattle.mid_base.specs.declared.entries.Entry.TheVariants as entry
use Rattle.mid_base.specs.declared.host_spec.CmdSpec.{CmdSpec}
use Rattle.mid_base.specs.declared.host_spec.HostSpec.{HostSpec}
use Rattle.mid_base.specs.declared.names.Attempt.{Attempt}
use Rattle.mid_base.specs.declared.names.CmdId.{CmdId}
use Rattle.mid_base.specs.declared.names.LaneNo.{LaneNo}
use Rattle.mid_base.specs.declared.names.Tag.{Tag}
use Rattle.mid_base.specs.declared.steps.Step.TheVariants as step
use Rattle.mid_base.specs.declared.steps.Why.{Why}
use Rattle.mid_base.specs.declared.steps.Why.TheVariants.{NotReady, NotDue}
use Rattle.mid_base.specs.Answers.{time_out}
use Rattle.device_states.specs.States.{is_closed}
use Rattle.host_template.specs.declared.queued.Queued.{Queued}
use Rattle.host_template.specs.declared.queued.Queued.TheVariants.{Taken, HostBusy, DeviceBusy}
use Rattle.host_template.specs.Standing.{Before, Standing}
use Rattle.trace_model.specs.Attempts.{sends}
use Rattle.trace_model.specs.Devices.{state, is_online, in_recovery}
use Rattle.trace_model.specs.Judging.{has_abort_left, may_retry}
use Rattle.trace_model.specs.Sending.{is_least_free}
use Rattle.trace_model.specs.Steps.{barred}
use Rattle.attempt_table.specs.declared.rows.Row.{Row}
use Rattle.command_table.specs.CommandsAgree.{IsNext}
use Rattle.host_state.specs.declared.running.Running.{Running}
use Rattle.host_state.specs.Picks.{IsPicked}
use Rattle.host_state.specs.HostAgrees.{HostAgrees}
use Rattle.mid_core.specs.declared.choosing.Handing.{Handing}
use Rattle.mid_core.specs.declared.choosing.Handing.TheVariants.{Take, Refuse}
use Rattle.mid_core.specs.declared.choosing.Turn.{Turn}
use Rattle.mid_core.specs.declared.choosing.Turn.TheVariants.{Send, Report}
use Rattle.mid_core.specs.declared.sending.Handed.{Handed}

-- the running state is that of some journal of this host
abbrev pub IsRunning : HostSpec → Running → Type 0
IsRunning s r = (P : List Entry) × HostAgrees s P r

abbrev pub IsOfSome : Running → Type 0
IsOfSome r = (s : HostSpec) × IsRunning s r

-- the command at the place is the next one of the lane, and its device takes commands or not
pub record IsHandedIn (s : HostSpec) (P : List Entry) (r : Running) (lane : LaneNo) (i : ℕ) (closed : Bool) : Type 0 where
  pub next : IsNext s P r.commands lane.0 i
  pub device : is_closed (state s next.command.dev P) ≡ closed

abbrev pub SaysHanding : HostSpec → List Entry → Running → LaneNo → Result Handing Why → Type 0
SaysHanding s P r lane (Err why) = (due : Bool) → barred s due P (step.Submit lane) ≡ Some why
SaysHanding s P r lane (Ok (Take i)) = IsHandedIn s P r lane i false
SaysHanding s P r lane (Ok (Refuse i)) = IsHandedIn s P r lane i true

-- it is the turn of the command at the place, and its device is online or not
pub record HasTurn (s : HostSpec) (P : List Entry) (r : Running) (i : ℕ) (online : Bool) : Type 0 where
  pub picked : IsPicked s P r i
  pub calm : in_recovery P ≡ false
  pub device : is_online s picked.command.dev P ≡ online
  pub free : (due : Bool) → barred s due P step.Send ≡ None

-- it is its turn to be sent, with a number that there is
pub record MayBeSent (s : HostSpec) (P : List Entry) (r : Running) (i : ℕ) : Type 0 where
  pub turn : HasTurn s P r i true
  pub few : length r.attempts.rows.items + 1 < 2 ^ 60 - 1

abbrev pub SaysTurn : HostSpec → List Entry → Running → Result Turn Why → Type 0
SaysTurn s P r (Err why) = (due : Bool) → barred s due P step.Send ≡ Some why
SaysTurn s P r (Ok (Report i)) = HasTurn s P r i false
SaysTurn s P r (Ok (Send i)) = MayBeSent s P r i

-- who was busy, where the lower layer didn't take the attempt
abbrev pub who_was_busy : Queued → Option BusyOf
who_was_busy Taken = None
who_was_busy HostBusy = Some of.Host
who_was_busy DeviceBusy = Some of.Device

-- the entries of what was handed to the lower layer
abbrev pub bounced : CmdId → Attempt → Option BusyOf → List Entry → List Entry
bounced c n None P = P
bounced c n (Some why) P = entry.Bounced c n why ∷ P

abbrev pub handed : Handed → List Entry → List Entry
handed h P = bounced h.id h.attempt h.busy (entry.Sent h.id h.attempt h.tag ∷ P)

-- the same as a group
abbrev pub turned_away : CmdId → Attempt → Option BusyOf → List Entry
turned_away c n None = []
turned_away c n (Some why) = entry.Bounced c n why ∷ []

abbrev pub handed_group : Handed → List Entry
handed_group h = entry.Sent h.id h.attempt h.tag ∷ turned_away h.id h.attempt h.busy

-- the command at the place was handed over, with the next number and the least free tag
pub record IsHanded (s : HostSpec) (P : List Entry) (new : Running) (i : ℕ) (h : Handed) : Type 0 where
  pub command : CmdSpec
  pub at : slice_get s.cmds i ≡ Some command
  pub id : h.id ≡ command.id
  pub number : h.attempt.0 ≡ sends P + 1
  pub least : is_least_free s P h.tag.0 ≡ true
  pub runs : HostAgrees s (handed h P) new

abbrev pub StandsHanded : {A : Type 0} → (A → Standing) → HostSpec → Before → A → A → Handed → List Entry → Type 0
StandsHanded stands s b old new h P = stands old s b P → stands new s b (handed h P)

-- the tag of an attempt that the lower layer took was free and is armed
abbrev pub ShowsSent : Option BusyOf → Attempt → Tag → List TagState → List TagState → Type 0
ShowsSent None n t old new = (slice_get old t.0 ≡ Some tag.Free) × (new ≡ slice_set old t.0 (tag.Armed n))
ShowsSent (Some why) n t old new = new ≡ old

abbrev pub ShowsHanded : List TagState → List TagState → Handed → Type 0
ShowsHanded old new h = ShowsSent h.busy h.attempt h.tag old new

-- what follows a judgement
abbrev pub follow_of : CmdId → Attempt → Answer → Disp → Entry
follow_of c n a disps.Success = entry.Told c a
follow_of c n a disps.Retry = entry.Again c true
follow_of c n a disps.Requeue = entry.Again c false
follow_of c n a disps.Fail = entry.Failed c n false

-- the attempt of this row can belong to this owner, once it is open
abbrev pub has_cause : By → Row → Bool
has_cause ByAnswer r = r.answered
has_cause ByExpiry r = r.due

abbrev pub why_not : By → Why
why_not ByAnswer = NotReady
why_not ByExpiry = NotDue

-- what the lower layer said of an attempt whose time is up
abbrev pub IsSaidOf : Attempt → Entry → Type 0
IsSaidOf n (entry.Due m) = m ≡ n
IsSaidOf n (entry.Longer m) = m ≡ n
IsSaidOf n (entry.DoneSaid m) = m ≡ n
IsSaidOf n e = ⊥

-- what is made of an attempt that its expired timer owns
abbrev pub after_expiry : HostSpec → List Entry → CmdId → Attempt → Entry
after_expiry s P c n = if has_abort_left s P c.0 then entry.AbortSet c n else entry.Failed c n true

-- what follows an abort
abbrev pub after_abort : HostSpec → List Entry → CmdId → Attempt → Bool → Entry
after_abort s P c n true = if may_retry s P c.0 then entry.Again c true else entry.Told c time_out
after_abort s P c n false = entry.Failed c n true
