-- What a rogue lower layer says, by its lists.
use Rattle.std.specs.Prelude.{ℕ, min, Bool, false, nat_le, if◌then◌else◌, List, [], ◌∷◌, ◌++◌, length, sum, take, drop, Option, None, Some}
use Rattle.mid_base.specs.declared.names.Attempt.{Attempt}
use Rattle.mid_base.specs.declared.names.Tick.{Tick}
use Rattle.mid_base.specs.declared.answers.Answer.{Answer}
use Rattle.mid_base.specs.declared.answers.ProbeSay.{ProbeSay}
use Rattle.mid_base.specs.declared.answers.ProbeSay.TheVariants.{Answered, Silent}

-- the first of a list, or what is said where it is empty
abbrev pub first_or : {X : Type 0} → X → List X → X
first_or otherwise [] = otherwise
first_or otherwise (x ∷ xs) = x

-- ---- answers

-- the first answer is due from its tick on
abbrev pub is_answer_due : ℕ → List (Tick × Attempt × Answer) → Bool
is_answer_due now [] = false
is_answer_due now (x ∷ xs) = nat_le x.0.0 now

abbrev pub first_answer : List (Tick × Attempt × Answer) → Option (Attempt × Answer)
first_answer [] = None
first_answer (x ∷ xs) = Some (x.1, x.2)

-- what `work` hands out, and what is left then
abbrev pub answer_at : ℕ → List (Tick × Attempt × Answer) → Option (Attempt × Answer)
answer_at now xs = if is_answer_due now xs then first_answer xs else None

abbrev pub answers_after : ℕ → List (Tick × Attempt × Answer) → List (Tick × Attempt × Answer)
answers_after now xs = if is_answer_due now xs then drop 1 xs else xs

-- ---- probes

-- the bytes that go into a buffer of so many: 2,056 at most
abbrev pub put : ℕ → List ℕ → List ℕ
put room bytes = take (min room 2056) bytes

-- an answer with how many bytes were put, and their sum
abbrev pub counted : Answer → List ℕ → Answer
counted a bytes = record { host = a.host; status = a.status; sense = a.sense; moved = length bytes; sum = sum bytes }

abbrev pub say_with : ProbeSay → List ℕ → ProbeSay
say_with (Answered a) bytes = Answered (counted a bytes)
say_with Silent bytes = Silent

-- these bytes, and behind them what was there
abbrev pub onto : List ℕ → List ℕ → List ℕ
onto bytes buffer = bytes ++ drop (length bytes) buffer

abbrev pub filled : ProbeSay → List ℕ → List ℕ → List ℕ
filled (Answered a) bytes buffer = onto bytes buffer
filled Silent bytes buffer = buffer

-- what a probe is answered, and the buffer behind it; an empty list is silent
abbrev pub probe_says : List (ProbeSay × List ℕ) → List ℕ → ProbeSay
probe_says [] buffer = Silent
probe_says (p ∷ ps) buffer = say_with p.0 (put (length buffer) p.1)

abbrev pub buffer_after : List (ProbeSay × List ℕ) → List ℕ → List ℕ
buffer_after [] buffer = buffer
buffer_after (p ∷ ps) buffer = filled p.0 (put (length buffer) p.1) buffer
