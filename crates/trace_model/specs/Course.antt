-- A course says what follows an entry at once: one entry after the other, of which some answers are free.
use Rattle.std.specs.Prelude.{◌≡◌, ℕ, Bool, true, List, [], ◌∷◌, Option, None, Some}
use Rattle.std.specs.Prelude.{⊤}
use mathlib.Core.Bool.{beq}
use Rattle.mid_base.specs.Bytes.{sense_list}
use Rattle.mid_base.specs.declared.bytes.SenseBytes.{SenseBytes}
use Rattle.mid_base.specs.declared.names.CmdId.{CmdId}
use Rattle.mid_base.specs.declared.names.Attempt.{Attempt}
use Rattle.mid_base.specs.declared.names.DevAddr.{DevAddr}
use Rattle.mid_base.specs.declared.answers.ProbeSay.{ProbeSay}
use Rattle.mid_base.specs.declared.entries.Entry.{Entry}
use Rattle.mid_base.specs.declared.entries.Entry.TheVariants.{Probe, Sensed}
use Rattle.sense_data.specs.Grammar.{is_valid_sense}
use Rattle.mid_base.specs.Answers.{said_good}

pub data Course : Type 0 where
  over : Course
  -- this entry is owed
  next : Entry → Course → Course
  -- a Probe is owed: GOOD, not GOOD, or either; and what follows its answer
  ask : DevAddr → ℕ → Option Bool → (ProbeSay → Course) → Course
  -- a Sensed with valid sense is owed; and what follows it
  fetch : CmdId → Attempt → (SenseBytes → Course) → Course

-- entries one after the other, and then k
abbrev pub in_turn : List Entry → Course → Course
in_turn [] k = k
in_turn (e ∷ es) k = next e (in_turn es k)

abbrev pub suits : Option Bool → ProbeSay → Bool
suits None say = true
suits (Some good) say = beq (said_good say) good

-- nothing is owed
abbrev pub IsOver : Course → Type 0
IsOver over = ⊤
IsOver k = ⊥

-- e is what is owed
abbrev pub Meets : Course → Entry → Type 0
Meets (next x k) e = e ≡ x
Meets (ask d code want k) (Probe e f say) = (e ≡ d) × (f ≡ code) × (suits want say ≡ true)
Meets (fetch c n k) (Sensed d m sense) = (d ≡ c) × (m ≡ n) × (is_valid_sense (sense_list sense) ≡ true)
Meets k e = ⊥

-- what is left after e
abbrev pub after : Course → Entry → Course
after (next x k) e = k
after (ask d code want k) (Probe e f say) = k say
after (fetch c n k) (Sensed d m sense) = k sense
after k e = over

-- the entries are a whole course
abbrev pub Follows : Course → List Entry → Type 0
Follows k [] = IsOver k
Follows k (e ∷ es) = Meets k e × Follows (after k e) es
