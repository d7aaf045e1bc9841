-- When the text of an entry tells it: its numbers are those that its types hold, and an act is aimed at what its level says.
use Rattle.std.specs.Prelude.{◌≡◌, ℕ, ◌<◌, ◌^◌, ◌==◌, ◌||◌, Bool, true, List, length, slice_index_or, ⊤}
use Rattle.mid_base.specs.Bytes.{sense_list}
use Rattle.mid_base.specs.declared.names.DevAddr.{DevAddr}
use Rattle.mid_base.specs.declared.answers.Answer.{Answer}
use Rattle.mid_base.specs.declared.answers.ProbeSay.{ProbeSay}
use Rattle.mid_base.specs.declared.answers.ProbeSay.TheVariants.{Answered, Silent}
use Rattle.mid_base.specs.declared.answers.Scope.{Scope}
use Rattle.mid_base.specs.declared.answers.Scope.TheVariants.{Cmd, Dev, Target, Bus, Host}
use Rattle.mid_base.specs.declared.entries.Entry.{Entry}
use Rattle.mid_base.specs.declared.entries.Entry.TheVariants.{Took, Sent, Bounced, Ready, Due, Longer, DoneSaid, Owned, Late, Judged, AbortSet, Aborted, Failed, Cleared, Sensed, Again, Told, Act, Probe, Offline, State}

-- a number that is printed in decimal
abbrev pub Fits : ℕ → Type 0
Fits n = n < 2 ^ 64

-- numbers that are printed in two hex digits each
abbrev pub IsByte : ℕ → Type 0
IsByte b = b < 256

abbrev pub AreBytes : List ℕ → Type 0
AreBytes bytes = (k : ℕ) → k < length bytes → IsByte (slice_index_or bytes k 0)

abbrev pub AnswerFits : Answer → Type 0
AnswerFits a = IsByte a.host.0 × IsByte a.status × Fits a.moved × Fits a.sum × AreBytes (sense_list a.sense)

abbrev pub AddressFits : DevAddr → Type 0
AddressFits d = Fits d.channel × Fits d.target × Fits d.lun

abbrev pub ScopeFits : Scope → Type 0
ScopeFits (Cmd c) = Fits c.0
ScopeFits (Dev d) = AddressFits d
ScopeFits (Target c t) = Fits c × Fits t
ScopeFits (Bus c) = Fits c
ScopeFits Host = ⊤

abbrev pub SaidFits : ProbeSay → Type 0
SaidFits (Answered a) = AnswerFits a
SaidFits Silent = ⊤

abbrev pub EntryFits : Entry → Type 0
EntryFits (Took c) = Fits c.0
EntryFits (Sent c n t) = Fits c.0 × Fits n.0 × Fits t.0
EntryFits (Bounced c n why) = Fits c.0 × Fits n.0
EntryFits (Ready n a) = Fits n.0 × AnswerFits a
EntryFits (Due n) = Fits n.0
EntryFits (Longer n) = Fits n.0
EntryFits (DoneSaid n) = Fits n.0
EntryFits (Owned n by) = Fits n.0
EntryFits (Late n) = Fits n.0
EntryFits (Judged c n d) = Fits c.0 × Fits n.0
EntryFits (AbortSet c n) = Fits c.0 × Fits n.0
EntryFits (Aborted c n ok) = Fits c.0 × Fits n.0
EntryFits (Failed c n cancelled) = Fits c.0 × Fits n.0
EntryFits (Cleared c level) = Fits c.0 × Fits level
EntryFits (Sensed c n s) = Fits c.0 × Fits n.0 × AreBytes (sense_list s)
EntryFits (Again c counted) = Fits c.0
EntryFits (Told c a) = Fits c.0 × AnswerFits a
EntryFits (Act level scope ok) = Fits level × ScopeFits scope
EntryFits (Probe d code said) = AddressFits d × IsByte code × SaidFits said
EntryFits (Offline d) = AddressFits d
EntryFits (State d x) = AddressFits d
EntryFits e = ⊤

-- Levels 1 and 2 fetch the sense of a command or abort it; 3, 4 and 8 start, reset or give up a device; 5, 6 and 7 reset a
-- target, a bus and the host (`scsi_eh.rst`, the flow of recovery). A command and a bus are both printed as one number.
abbrev pub is_aimed_at : ℕ → Scope → Bool
is_aimed_at level (Cmd c) = (level == 1) || (level == 2)
is_aimed_at level (Dev d) = (level == 3) || ((level == 4) || (level == 8))
is_aimed_at level (Target c t) = level == 5
is_aimed_at level (Bus c) = level == 6
is_aimed_at level Host = level == 7

-- an act is aimed at what its level says; other entries have no aim
abbrev pub IsAimed : Entry → Type 0
IsAimed (Act level scope ok) = is_aimed_at level scope ≡ true
IsAimed e = ⊤
