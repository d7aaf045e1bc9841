-- Journals with one entry changed, and where a journal goes wrong. Places are counted from 0.
use Rattle.std.specs.Prelude.{ℕ, ◌+◌, List, ◌∷◌, ◌++◌, take, drop, reverse}
use Rattle.mid_base.specs.declared.entries.Entry.{Entry}
use Rattle.mid_base.specs.declared.host_spec.HostSpec.{HostSpec}
use Rattle.trace_model.specs.Course.{IsOver}
use Rattle.trace_model.specs.Legal.{EachStands, FirstWrong, owed}

-- the entries before place i, the newest first
abbrev pub before : ℕ → List Entry → List Entry
before i journal = reverse (take i journal)

-- the entry in place i is left out
abbrev pub without : ℕ → List Entry → List Entry
without i journal = take i journal ++ drop (i + 1) journal

-- it stands twice
abbrev pub twice : ℕ → List Entry → List Entry
twice i journal = take (i + 1) journal ++ drop i journal

-- it and the next one are changed round
abbrev pub swapped : ℕ → List Entry → List Entry
swapped i journal = take i journal ++ (reverse (take 2 (drop i journal)) ++ drop (i + 2) journal)

-- e stands in its place
abbrev pub instead : ℕ → Entry → List Entry → List Entry
instead i e journal = take i journal ++ (e ∷ drop (i + 1) journal)

-- e stands before it
abbrev pub with_entry : ℕ → Entry → List Entry → List Entry
with_entry i e journal = take i journal ++ (e ∷ drop i journal)

-- the entry in place i is the first that may not stand
abbrev pub WrongAt : HostSpec → ℕ → List Entry → Type 0
WrongAt s i journal = FirstWrong s (take (i + 1) journal)

-- each entry may stand, but something is still owed at the end
abbrev pub EndsTooSoon : HostSpec → List Entry → Type 0
EndsTooSoon s journal = EachStands s (reverse journal) × (IsOver (owed s (reverse journal)) → ⊥)
