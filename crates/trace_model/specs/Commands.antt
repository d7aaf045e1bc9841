-- What a list of entries says of commands. Commands are told by their ids; 0 is none.
use Rattle.std.specs.Prelude.{ℕ, ◌+◌, ◌==◌, Bool, true, false, not, ◌&&◌, ◌||◌, if◌then◌else◌, List, [], ◌∷◌, ◌++◌, Option, None, Some, filter}
use Rattle.mid_base.specs.declared.answers.Disp.{Disp}
use Rattle.mid_base.specs.declared.entries.Entry.{Entry}
use Rattle.mid_base.specs.declared.entries.Entry.TheVariants.{Took, Sent, Bounced, Ready, Due, Longer, DoneSaid, Owned, Late, Judged, AbortSet, Aborted, Failed, Cleared, Sensed, Again, Told}
use Rattle.mid_base.specs.Past.{sent_for}
use Rattle.trace_model.specs.declared.standing.Standing.{Standing}
use Rattle.trace_model.specs.declared.standing.Standing.TheVariants.{New, Waits, Busy, Ended}

-- where a command stands: the last of Took, Sent, Bounced, Again and Told
abbrev pub standing : ℕ → List Entry → Standing
standing c [] = New
standing c (Took d ∷ P) = if d.0 == c then Waits else standing c P
standing c (Sent d n t ∷ P) = if d.0 == c then Busy n t else standing c P
standing c (Bounced d n why ∷ P) = if d.0 == c then Waits else standing c P
standing c (Again d counted ∷ P) = if d.0 == c then Waits else standing c P
standing c (Told d a ∷ P) = if d.0 == c then Ended else standing c P
standing c (_ ∷ P) = standing c P

abbrev pub is_new : Standing → Bool
is_new New = true
is_new _ = false

abbrev pub waits : Standing → Bool
waits Waits = true
waits _ = false

abbrev pub is_busy : Standing → Bool
is_busy (Busy n t) = true
is_busy _ = false

abbrev pub holds : ℕ → Standing → Bool
holds t (Busy n u) = u.0 == t
holds t _ = false

-- the commands that were taken, the earliest first
abbrev pub taken : List Entry → List ℕ
taken [] = []
taken (Took c ∷ P) = taken P ++ c.0 ∷ []
taken (_ ∷ P) = taken P

-- a Failed of c stands since its last Sent
abbrev pub failed_since_sent : ℕ → List Entry → Bool
failed_since_sent c [] = false
failed_since_sent c (Sent d n t ∷ P) = if d.0 == c then false else failed_since_sent c P
failed_since_sent c (Failed d n x ∷ P) = if d.0 == c then true else failed_since_sent c P
failed_since_sent c (_ ∷ P) = failed_since_sent c P

abbrev pub is_failed : ℕ → List Entry → Bool
is_failed c P = is_busy (standing c P) && failed_since_sent c P

abbrev pub retries : ℕ → List Entry → ℕ
retries c [] = 0
retries c (Again d true ∷ P) = if d.0 == c then retries c P + 1 else retries c P
retries c (_ ∷ P) = retries c P

-- the last judgement of an attempt
abbrev pub judgement : ℕ → List Entry → Option Disp
judgement n [] = None
judgement n (Judged c m d ∷ P) = if m.0 == n then Some d else judgement n P
judgement n (_ ∷ P) = judgement n P

abbrev pub has_abort : ℕ → List Entry → Bool
has_abort c [] = false
has_abort c (AbortSet d n ∷ P) = if d.0 == c then true else has_abort c P
has_abort c (_ ∷ P) = has_abort c P

-- the attempts whose abort is scheduled, the first one first
abbrev pub aborts : List Entry → List ℕ
aborts [] = []
aborts (AbortSet c n ∷ P) = aborts P ++ n.0 ∷ []
aborts (Aborted c n ok ∷ P) = filter (λ m. not (m == n.0)) (aborts P)
aborts (_ ∷ P) = aborts P

-- an entry that names c
abbrev pub is_own : ℕ → Entry → Bool
is_own c (Took d) = d.0 == c
is_own c (Sent d n t) = d.0 == c
is_own c (Bounced d n why) = d.0 == c
is_own c (Judged d n x) = d.0 == c
is_own c (AbortSet d n) = d.0 == c
is_own c (Aborted d n ok) = d.0 == c
is_own c (Failed d n x) = d.0 == c
is_own c (Cleared d level) = d.0 == c
is_own c (Sensed d n s) = d.0 == c
is_own c (Again d counted) = d.0 == c
is_own c (Told d a) = d.0 == c
is_own c _ = false

-- an entry of an attempt that was sent for c
abbrev pub is_of_attempt : ℕ → Entry → List Entry → Bool
is_of_attempt c (Ready n a) P = sent_for n.0 P == c
is_of_attempt c (Due n) P = sent_for n.0 P == c
is_of_attempt c (Longer n) P = sent_for n.0 P == c
is_of_attempt c (DoneSaid n) P = sent_for n.0 P == c
is_of_attempt c (Owned n by) P = sent_for n.0 P == c
is_of_attempt c (Late n) P = sent_for n.0 P == c
is_of_attempt c _ P = false

-- the trace of c, the newest entry first
abbrev pub trace : ℕ → List Entry → List Entry
trace c [] = []
trace c (e ∷ P) = if is_own c e || is_of_attempt c e P then e ∷ trace c P else trace c P
