-- Entries and answers, said with plain numbers as they are printed.
use Rattle.std.specs.Prelude.{refl, ℕ, Bool, List, [], ◌∷◌, ◌++◌, replicate}
use Rattle.std.proofs.Common.{arith}
use Rattle.mid_base.specs.Bytes.{no_sense}
use Rattle.mid_base.specs.Padded.{IsPadded, padded_made}
use Rattle.mid_base.specs.declared.bytes.SenseBytes.{SenseBytes}
use Rattle.mid_base.specs.declared.names.DevAddr.{DevAddr}
use Rattle.mid_base.specs.declared.answers.Answer.{Answer}
use Rattle.mid_base.specs.declared.answers.BusyOf.{BusyOf}
use Rattle.mid_base.specs.declared.answers.By.{By}
use Rattle.mid_base.specs.declared.answers.Disp.{Disp}
use Rattle.mid_base.specs.declared.answers.ProbeSay.TheVariants.{Answered, Silent}
use Rattle.mid_base.specs.declared.entries.Entry.{Entry}
use Rattle.mid_base.specs.declared.entries.Entry.TheVariants.{Took, Sent, Bounced, Ready, Due, Longer, DoneSaid, Owned, Late, Judged, AbortSet, Aborted, Failed, Cleared, Sensed, Again, Told, Probe}
use Rattle.worked_journals.specs.Hosts.{unit}

-- sense data of the fixed form: response code 70h, a key, and an additional code with its qualifier
abbrev pub fixed_bytes : ℕ → ℕ × ℕ → List ℕ
fixed_bytes key code = 112 ∷ 0 ∷ key ∷ 0 ∷ 0 ∷ 0 ∷ 0 ∷ 10 ∷ 0 ∷ 0 ∷ 0 ∷ 0 ∷ code.0 ∷ code.1 ∷ 0 ∷ 0 ∷ 0 ∷ 0 ∷ []

pub fixed_padded : (key : ℕ) (code : ℕ × ℕ) → IsPadded 252 18 (fixed_bytes key code ++ replicate 234 0)
fixed_padded key code = padded_made 252 (fixed_bytes key code) (replicate 234 0) (omega arith) refl

abbrev pub fixed : ℕ → ℕ × ℕ → SenseBytes
fixed key code = record { len = 18; bytes = fixed_bytes key code ++ replicate 234 0; padded = fixed_padded key code }

-- UNIT ATTENTION, after a reset
abbrev pub was_reset : SenseBytes
was_reset = fixed 6 (41, 0)

-- NOT READY, and a start of the unit is asked for
abbrev pub not_started : SenseBytes
not_started = fixed 2 (4, 2)

-- the same in the descriptor form, but its one descriptor isn't whole
abbrev pub cut_bytes : List ℕ
cut_bytes = 114 ∷ 2 ∷ 4 ∷ 2 ∷ 0 ∷ 0 ∷ 0 ∷ 4 ∷ 0 ∷ 10 ∷ 128 ∷ 0 ∷ []

pub cut_padded : IsPadded 252 12 (cut_bytes ++ replicate 240 0)
cut_padded = padded_made 252 cut_bytes (replicate 240 0) (omega arith) refl

abbrev pub cut_short : SenseBytes
cut_short = record { len = 12; bytes = cut_bytes ++ replicate 240 0; padded = cut_padded }

-- ILLEGAL REQUEST, for the operation code
abbrev pub not_known : SenseBytes
not_known = fixed 5 (32, 0)

-- DID_OK and GOOD, with the bytes that were moved and their sum
abbrev pub moved : ℕ → ℕ → Answer
moved bytes sum = record { host = record { 0 = 0 }; status = 0; sense = no_sense; moved = bytes; sum = sum }

abbrev pub fine : Answer
fine = moved 0 0

-- DID_OK and CHECK CONDITION
abbrev pub checked : SenseBytes → Answer
checked sense = record { host = record { 0 = 0 }; status = 2; sense = sense; moved = 0; sum = 0 }

-- a host byte and a status alone
abbrev pub bare : ℕ → ℕ → Answer
bare host status = record { host = record { 0 = host }; status = status; sense = no_sense; moved = 0; sum = 0 }

abbrev pub took : ℕ → Entry
took c = Took (record { 0 = c })

abbrev pub sent : ℕ → ℕ → ℕ → Entry
sent c n t = Sent (record { 0 = c }) (record { 0 = n }) (record { 0 = t })

abbrev pub bounced : ℕ → ℕ → BusyOf → Entry
bounced c n why = Bounced (record { 0 = c }) (record { 0 = n }) why

abbrev pub ready : ℕ → Answer → Entry
ready n a = Ready (record { 0 = n }) a

abbrev pub due : ℕ → Entry
due n = Due (record { 0 = n })

abbrev pub longer : ℕ → Entry
longer n = Longer (record { 0 = n })

abbrev pub done_said : ℕ → Entry
done_said n = DoneSaid (record { 0 = n })

abbrev pub owned : ℕ → By → Entry
owned n by = Owned (record { 0 = n }) by

abbrev pub late : ℕ → Entry
late n = Late (record { 0 = n })

abbrev pub judged : ℕ → ℕ → Disp → Entry
judged c n d = Judged (record { 0 = c }) (record { 0 = n }) d

abbrev pub abort_set : ℕ → ℕ → Entry
abort_set c n = AbortSet (record { 0 = c }) (record { 0 = n })

abbrev pub aborted : ℕ → ℕ → Bool → Entry
aborted c n ok = Aborted (record { 0 = c }) (record { 0 = n }) ok

abbrev pub failed : ℕ → ℕ → Bool → Entry
failed c n cancelled = Failed (record { 0 = c }) (record { 0 = n }) cancelled

abbrev pub cleared : ℕ → ℕ → Entry
cleared c level = Cleared (record { 0 = c }) level

abbrev pub sensed : ℕ → ℕ → SenseBytes → Entry
sensed c n sense = Sensed (record { 0 = c }) (record { 0 = n }) sense

abbrev pub again : ℕ → Bool → Entry
again c counted = Again (record { 0 = c }) counted

abbrev pub told : ℕ → Answer → Entry
told c a = Told (record { 0 = c }) a

-- a command of recovery to the unit, by its operation code
abbrev pub probe : ℕ → Answer → Entry
probe code a = Probe unit code (Answered a)

-- one to another device
abbrev pub probe_of : DevAddr → ℕ → Answer → Entry
probe_of d code a = Probe d code (Answered a)

-- one that isn't answered
abbrev pub silence : DevAddr → ℕ → Entry
silence d code = Probe d code Silent
