-- What a list of entries says of time and of attempts. Everywhere P has the newest entry first. Attempts are told by their numbers; 0 is none.
use Rattle.std.specs.Prelude.{ℕ, pred, ◌+◌, ◌==◌, Bool, true, false, not, ◌&&◌, if◌then◌else◌, List, [], ◌∷◌, Option, None, Some, is_some, option_map}
use Rattle.mid_base.specs.declared.answers.Answer.{Answer}
use Rattle.mid_base.specs.declared.answers.By.{By}
use Rattle.mid_base.specs.declared.answers.By.TheVariants.{Answer as ByAnswer, Expiry as ByExpiry}
use Rattle.mid_base.specs.declared.entries.Entry.{Entry}
use Rattle.mid_base.specs.declared.entries.Entry.TheVariants.{Sent, Bounced, Ready, Due, Longer, DoneSaid, Owned, Late, Judged, AbortSet, Failed, Sensed}
use Rattle.mid_base.specs.Past.{ticks}
use Rattle.mid_base.specs.Answers.{with_sense}

-- the attempts, the newest first
abbrev pub attempts : List Entry → List ℕ
attempts [] = []
attempts (Sent c m t ∷ P) = m.0 ∷ attempts P
attempts (_ ∷ P) = attempts P

-- how many there were
abbrev pub sends : List Entry → ℕ
sends [] = 0
sends (Sent c m t ∷ P) = sends P + 1
sends (_ ∷ P) = sends P

-- the tick at which n was sent
abbrev pub sent_at : ℕ → List Entry → ℕ
sent_at n [] = 0
sent_at n (Sent c m t ∷ P) = if m.0 == n then ticks P else sent_at n P
sent_at n (_ ∷ P) = sent_at n P

-- n was sent, and is neither bounced nor owned
abbrev pub is_open : ℕ → List Entry → Bool
is_open n [] = false
is_open n (Sent c m t ∷ P) = if m.0 == n then true else is_open n P
is_open n (Bounced c m why ∷ P) = if m.0 == n then false else is_open n P
is_open n (Owned m by ∷ P) = if m.0 == n then false else is_open n P
is_open n (_ ∷ P) = is_open n P

-- a Ready of n stands since it was sent
abbrev pub is_answered : ℕ → List Entry → Bool
is_answered n [] = false
is_answered n (Sent c m t ∷ P) = if m.0 == n then false else is_answered n P
is_answered n (Ready m a ∷ P) = if m.0 == n then true else is_answered n P
is_answered n (_ ∷ P) = is_answered n P

-- a Ready of n would be good here
abbrev pub is_wanted : ℕ → List Entry → Bool
is_wanted n P = is_open n P && not (is_answered n P)

-- the answer of the good Ready of n, with the sense that was fetched
abbrev pub answer : ℕ → List Entry → Option Answer
answer n [] = None
answer n (Ready m a ∷ P) = if (m.0 == n) && is_wanted n P then Some a else answer n P
answer n (Sensed c m s ∷ P) = if m.0 == n then option_map (with_sense s) (answer n P) else answer n P
answer n (_ ∷ P) = answer n P

-- how many answers of n are still to be ignored
abbrev pub late : ℕ → List Entry → ℕ
late n [] = 0
late n (Ready m a ∷ P) = if (m.0 == n) && not (is_wanted n P) then late n P + 1 else late n P
late n (Owned m ByExpiry ∷ P) = if (m.0 == n) && is_some (answer n P) then late n P + 1 else late n P
late n (Late m ∷ P) = if m.0 == n then pred (late n P) else late n P
late n (_ ∷ P) = late n P

-- the attempts that an answer names
abbrev pub answered : List Entry → List ℕ
answered [] = []
answered (Ready m a ∷ P) = m.0 ∷ answered P
answered (_ ∷ P) = answered P

abbrev pub owner : ℕ → List Entry → Option By
owner n [] = None
owner n (Owned m by ∷ P) = if m.0 == n then Some by else owner n P
owner n (_ ∷ P) = owner n P

abbrev pub is_by_answer : Option By → Bool
is_by_answer (Some ByAnswer) = true
is_by_answer o = false

abbrev pub is_by_expiry : Option By → Bool
is_by_expiry (Some ByExpiry) = true
is_by_expiry o = false

-- n was judged, set for abort or failed since it was owned
abbrev pub is_settled : ℕ → List Entry → Bool
is_settled n [] = false
is_settled n (Owned m by ∷ P) = if m.0 == n then false else is_settled n P
is_settled n (Judged c m d ∷ P) = if m.0 == n then true else is_settled n P
is_settled n (AbortSet c m ∷ P) = if m.0 == n then true else is_settled n P
is_settled n (Failed c m x ∷ P) = if m.0 == n then true else is_settled n P
is_settled n (_ ∷ P) = is_settled n P

-- how often the timer of n was reset
abbrev pub longers : ℕ → List Entry → ℕ
longers n [] = 0
longers n (Longer m ∷ P) = if m.0 == n then longers n P + 1 else longers n P
longers n (_ ∷ P) = longers n P

abbrev pub is_due : ℕ → List Entry → Bool
is_due n [] = false
is_due n (Due m ∷ P) = if m.0 == n then true else is_due n P
is_due n (_ ∷ P) = is_due n P

abbrev pub is_said_done : ℕ → List Entry → Bool
is_said_done n [] = false
is_said_done n (DoneSaid m ∷ P) = if m.0 == n then true else is_said_done n P
is_said_done n (_ ∷ P) = is_said_done n P
