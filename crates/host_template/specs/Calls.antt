-- Where each call leaves a lower layer, for every spec, earlier probes and journal that the call fits.
use Rattle.std.specs.Prelude.{◌≡◌, ℕ, ◌&&◌, Bool, true, false, List, ◌∷◌, Some}
use Rattle.mid_base.specs.declared.names.CmdId.{CmdId}
use Rattle.mid_base.specs.declared.names.Attempt.{Attempt}
use Rattle.mid_base.specs.declared.names.Tag.{Tag}
use Rattle.mid_base.specs.declared.names.DevAddr.{DevAddr}
use Rattle.mid_base.specs.declared.answers.Answer.{Answer}
use Rattle.mid_base.specs.declared.answers.BusyOf.TheVariants.{Host as BusyHost, Device as BusyDevice}
use Rattle.mid_base.specs.declared.answers.ProbeSay.{ProbeSay}
use Rattle.mid_base.specs.declared.answers.ProbeSay.TheVariants.{Answered}
use Rattle.mid_base.specs.declared.answers.Scope.{Scope}
use Rattle.mid_base.specs.declared.answers.Scope.TheVariants.{Cmd}
use Rattle.mid_base.specs.declared.bytes.CdbBytes.{CdbBytes}
use Rattle.mid_base.specs.declared.bytes.SenseBytes.{SenseBytes}
use Rattle.mid_base.specs.declared.entries.Entry.{Entry}
use Rattle.mid_base.specs.declared.entries.Entry.TheVariants.{Sent, Bounced, Ready, Due, Longer, DoneSaid, Aborted, Sensed, Act, Probe}
use Rattle.mid_base.specs.declared.host_spec.CmdSpec.{CmdSpec}
use Rattle.mid_base.specs.declared.host_spec.HostSpec.{HostSpec}
use Rattle.mid_base.specs.Answers.{said_good}
use Rattle.mid_base.specs.Bytes.{sense_list}
use Rattle.mid_base.specs.Levels.{has_level}
use Rattle.mid_base.specs.Past.{ticks, was_sent, sent_for, attempt_of, find_command}
use Rattle.sense_data.specs.Grammar.{is_valid_sense}
use Rattle.host_template.specs.declared.queued.Queued.{Queued}
use Rattle.host_template.specs.declared.queued.Queued.TheVariants.{Taken, HostBusy, DeviceBusy}
use Rattle.host_template.specs.declared.says.EhSay.{EhSay}
use Rattle.host_template.specs.declared.says.EhSay.TheVariants.{Success, Failed}
use Rattle.host_template.specs.declared.says.TimerSay.{TimerSay}
use Rattle.host_template.specs.declared.says.TimerSay.TheVariants.{Done, ResetTimer, NotHandled}
use Rattle.mid_base.specs.Codes.{request_sense}
use Rattle.host_template.specs.Probes.{taken}
use Rattle.host_template.specs.Standing.{Before, Standing, DataIn}

-- `queue` fits: it is the journal's tick, the attempt is new, and its command is one of the spec's with this device, CDB
-- and fill
pub record FitsQueue (s : HostSpec) (P : List Entry) (c : CmdId) (k : CmdSpec) (n now : ℕ) (dev : DevAddr) (cdb : CdbBytes) (fill : ℕ) : Type 0 where
  pub time : now ≡ ticks P
  pub fresh : was_sent n P ≡ false
  pub command : find_command s c.0 ≡ Some k
  pub dev_is : k.dev ≡ dev
  pub cdb_is : k.cdb ≡ cdb
  pub fill_is : k.fill ≡ fill

-- the journal with the entries for an answer of `queue`
abbrev pub queued : CmdId → Attempt → Tag → Queued → List Entry → List Entry
queued c n t Taken P = Sent c n t ∷ P
queued c n t HostBusy P = Bounced c n BusyHost ∷ Sent c n t ∷ P
queued c n t DeviceBusy P = Bounced c n BusyDevice ∷ Sent c n t ∷ P

abbrev pub StandsQueued : Standing → Standing → Attempt → ℕ → DevAddr → CdbBytes → ℕ → Queued → Type 0
StandsQueued old new n now dev cdb fill q =
    (s : HostSpec) (b : Before) (P : List Entry) (c : CmdId) (k : CmdSpec) (t : Tag)
    → FitsQueue s P c k n.0 now dev cdb fill → old s b P → new s b (queued c n t q P)

abbrev pub StandsReady : Standing → Standing → ℕ → Attempt × Answer → Type 0
StandsReady old new now r =
    (s : HostSpec) (b : Before) (P : List Entry) → now ≡ ticks P → old s b P → new s b (Ready r.0 r.1 ∷ P)

-- the attempt is the last one of a command of the spec, on this device: `timed_out` and `abort` fit
pub record FitsLast (s : HostSpec) (P : List Entry) (c : CmdId) (k : CmdSpec) (n : ℕ) (dev : DevAddr) : Type 0 where
  pub sent : was_sent n P ≡ true
  pub sent_for : sent_for n P ≡ c.0
  pub last : attempt_of c.0 P ≡ n
  pub command : find_command s c.0 ≡ Some k
  pub dev_is : k.dev ≡ dev

-- the entry for an answer of `timed_out`
abbrev pub timed_out : Attempt → TimerSay → Entry
timed_out n Done = DoneSaid n
timed_out n ResetTimer = Longer n
timed_out n NotHandled = Due n

abbrev pub StandsTimed : Standing → Standing → Attempt → DevAddr → ℕ → TimerSay → Type 0
StandsTimed old new n dev now say =
    (s : HostSpec) (b : Before) (P : List Entry) (c : CmdId) (k : CmdSpec)
    → FitsLast s P c k n.0 dev → now ≡ ticks P → old s b P → new s b (timed_out n say ∷ P)

abbrev pub succeeded : EhSay → Bool
succeeded Success = true
succeeded Failed = false

-- an abort of a host that has this callback is a scheduled one, or an act of level 2
abbrev pub StandsAborted : Standing → Standing → Attempt → DevAddr → EhSay → Type 0
StandsAborted old new n dev say =
    (s : HostSpec) (b : Before) (P : List Entry) (c : CmdId) (k : CmdSpec)
    → FitsLast s P c k n.0 dev → has_level s.handlers 2 ≡ true → old s b P
    → new s b (Aborted c n (succeeded say) ∷ P) × new s b (Act 2 (Cmd c) (succeeded say) ∷ P)

-- a reset of a host that has this callback is an act of its level
abbrev pub StandsReset : Standing → Standing → ℕ → Scope → EhSay → Type 0
StandsReset old new level scope say =
    (s : HostSpec) (b : Before) (P : List Entry) → has_level s.handlers level ≡ true
    → old s b P → new s b (Act level scope (succeeded say) ∷ P)

-- the act of level 1 for a probe of REQUEST SENSE: it is ok where the probe is GOOD and what it fetched is valid sense,
-- and then what was fetched stands
abbrev pub fetched : CmdId → Attempt → DevAddr → ProbeSay → SenseBytes → Bool → List Entry → List Entry
fetched c n dev say bytes true P = Sensed c n bytes ∷ Probe dev request_sense say ∷ Act 1 (Cmd c) true ∷ P
fetched c n dev say bytes false P = Probe dev request_sense say ∷ Act 1 (Cmd c) false ∷ P

-- a probe is a Probe; one of REQUEST SENSE may also be the act of level 1 on the command whose last attempt it is for; and
-- what the caller takes from its buffer is the probe's data-in
pub record StandsProbed (old new : Standing) (data_in : DataIn) (dev : DevAddr) (code : ℕ) (say : ProbeSay) (buffer : List ℕ) : Type 0 where
  pub probe : (s : HostSpec) (b : Before) (P : List Entry) → old s b P → new s b (Probe dev code say ∷ P)
  pub fetch : (s : HostSpec) (b : Before) (P : List Entry) (c : CmdId) (k : CmdSpec) (n : Attempt) (bytes : SenseBytes)
      → code ≡ request_sense → FitsLast s P c k n.0 dev → sense_list bytes ≡ taken code say buffer → old s b P
      → new s b (fetched c n dev say bytes (said_good say && is_valid_sense (sense_list bytes)) P)
  pub given : (s : HostSpec) (b : Before) (P : List Entry) (a : Answer) → say ≡ Answered a → old s b P
      → data_in s b P dev code (taken code say buffer)
