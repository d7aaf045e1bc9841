-- What a legal journal has of a failed command. P has the newest entry first.
use Rattle.std.specs.Prelude.{◌≡◌, ℕ, Bool, true, false, if◌then◌else◌, List, [], ◌∷◌, Option, None, Some, is_some}
use Rattle.mid_base.specs.declared.names.Tag.{Tag}
use Rattle.mid_base.specs.declared.answers.Answer.{Answer}
use Rattle.mid_base.specs.declared.answers.By.{By}
use Rattle.mid_base.specs.declared.answers.By.TheVariants.{Answer as ByAnswer, Expiry as ByExpiry}
use Rattle.mid_base.specs.declared.entries.Entry.{Entry}
use Rattle.mid_base.specs.declared.host_spec.CmdSpec.{CmdSpec}
use Rattle.mid_base.specs.declared.host_spec.HostSpec.{HostSpec}
use Rattle.mid_base.specs.Past.{was_sent, sent_for, attempt_of, find_command}
use Rattle.trace_model.specs.declared.standing.Standing.TheVariants.{Busy}
use Rattle.trace_model.specs.Names.{dev_of}
use Rattle.trace_model.specs.Attempts.{is_open, is_settled, answer, owner}
use Rattle.trace_model.specs.Commands.{standing, judgement}
use Rattle.trace_model.specs.Flush.{was_success}
use Rattle.trace_model.specs.Recovery.{Failure}

-- c is busy with n, its last attempt, which has its owner and is settled; and the spec has c
pub record IsBusyWith (s : HostSpec) (P : List Entry) (c n : ℕ) : Type 0 where
  pub tag : Tag
  pub busy : standing c P ≡ Busy (record { 0 = n }) tag
  pub last : attempt_of c P ≡ n
  pub for_it : sent_for n P ≡ c
  pub sent : was_sent n P ≡ true
  pub shut : is_open n P ≡ false
  pub settled : is_settled n P ≡ true
  pub command : CmdSpec
  pub found : find_command s c ≡ Some command
  pub dev_is : command.dev ≡ dev_of s c

-- who owns an attempt that failed: its expiry where it was cancelled, and its answer where it was not
abbrev pub owner_of : Failure → By
owner_of f = if f.cancelled then ByExpiry else ByAnswer

-- an attempt that was not cancelled has an answer
pub record IsOwned (P : List Entry) (f : Failure) : Type 0 where
  pub by : owner f.attempt.0 P ≡ Some (owner_of f)
  pub answered : f.cancelled ≡ false → is_some (answer f.attempt.0 P) ≡ true

abbrev pub AreOwned : List Entry → List Failure → Type 0
AreOwned P [] = Unit {0}
AreOwned P (f ∷ fs) = IsOwned P f × AreOwned P fs

-- the last answer of a failed attempt, as recovery has it: none where it was cancelled
abbrev pub last_answer : List Entry → Failure → Option Answer
last_answer P f = if f.cancelled then None else answer f.attempt.0 P

-- whether it was judged a success: one that was cancelled was not
abbrev pub succeeded : List Entry → Failure → Bool
succeeded P f = if f.cancelled then false else was_success (judgement f.attempt.0 P)
