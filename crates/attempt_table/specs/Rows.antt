-- What the rows of attempts say. Attempts are told by their numbers, from 1 on; 0 is none.
use Rattle.std.specs.Prelude.{◌≡◌, ℕ, zero, suc, ◌+◌, ◌-◌, Bool, true, false, not, ◌&&◌, ◌||◌, List, Option, None, Some, is_some, unwrap_or, slice_get, slice_set, length, if◌then◌else◌}
use Rattle.mid_base.specs.declared.names.Attempt.{Attempt}
use Rattle.mid_base.specs.declared.names.CmdId.{CmdId}
use Rattle.mid_base.specs.declared.names.Tag.{Tag}
use Rattle.mid_base.specs.declared.answers.Answer.{Answer}
use Rattle.mid_base.specs.declared.answers.By.{By}
use Rattle.mid_base.specs.declared.answers.By.TheVariants.{Answer as ByAnswer, Expiry as ByExpiry}
use Rattle.mid_base.specs.declared.answers.TagState.{TagState}
use Rattle.trace_model.specs.Tags.{state_by}
use Rattle.attempt_table.specs.declared.rows.Row.{Row}

-- the row of attempt n
abbrev pub row_of : ℕ → List Row → Option Row
row_of zero rows = None
row_of (suc k) rows = slice_get rows k

-- the attempt that is sent next
abbrev pub next_attempt : List Row → Attempt
next_attempt rows = record { 0 = length rows + 1 }

-- the row of an attempt that is sent now
abbrev pub sent_row : CmdId → ℕ → Tag → Row
sent_row c place t =
    record { command = c; place = place; tag = t; out = true; answered = false; due = false; owner = None; settled = false }

-- what an entry makes of a row
abbrev pub turned_away : Row → Row
turned_away r = record r { out = false }

abbrev pub with_answer : Row → Row
with_answer r = record r { answered = true }

abbrev pub expired : Row → Row
expired r = record r { due = true }

abbrev pub given_to : By → Row → Row
given_to by r = record r { out = false; owner = Some by; settled = false }

abbrev pub at_end : Row → Row
at_end r = record r { settled = true }

-- a test of a row that may be absent
abbrev pub in_row : (Row → Bool) → Option Row → Bool
in_row test None = false
in_row test (Some r) = test r

abbrev pub open_in : Option Row → Bool
open_in x = in_row (λ r. r.out) x

abbrev pub answered_in : Option Row → Bool
answered_in x = in_row (λ r. r.answered) x

abbrev pub due_in : Option Row → Bool
due_in x = in_row (λ r. r.due) x

abbrev pub settled_in : Option Row → Bool
settled_in x = in_row (λ r. r.settled) x

abbrev pub owner_in : Option Row → Option By
owner_in None = None
owner_in (Some r) = r.owner

abbrev pub command_in : Option Row → ℕ
command_in None = 0
command_in (Some r) = r.command.0

abbrev pub tag_in : Option Row → Tag
tag_in None = record { 0 = 0 }
tag_in (Some r) = r.tag

-- an answer of the attempt would be its good one
abbrev pub wanting_in : Option Row → Bool
wanting_in x = open_in x && not (answered_in x)

-- nothing was said of the attempt since it was sent
abbrev pub just_sent_in : Option Row → Bool
just_sent_in x = in_row (λ r. r.out && not r.answered && not r.due && not (is_some r.owner)) x

-- it waits for its owner: to belong to its answer, or to its expiry
abbrev pub claims_by : By → Option Row → Bool
claims_by ByAnswer x = open_in x && answered_in x
claims_by ByExpiry x = open_in x && due_in x

-- it was given to an owner, and not settled since
abbrev pub owned_in : Option Row → Bool
owned_in x = not (open_in x) && not (settled_in x) && is_some (owner_in x)

-- the attempt is under way: its tag shows it
abbrev pub live_in : Option Row → Bool
live_in x = open_in x || owned_in x

-- the state of a tag that was sent last with attempt n
abbrev pub shown_in : ℕ → Option Row → TagState
shown_in n x = state_by n (open_in x) (settled_in x) (owner_in x)

-- its answer is kept at its tag
abbrev pub keeps_in : Option Row → Bool
keeps_in x = live_in x && answered_in x

abbrev pub kept_at : List (Option Answer) → Tag → Option Answer
kept_at kept t = unwrap_or (slice_get kept t.0) None

abbrev pub answer_in : List (Option Answer) → Option Row → Option Answer
answer_in kept x = if keeps_in x then kept_at kept (tag_in x) else None

-- an entry made this of the row of attempt n, and all else of the rows is as it was
pub record Becomes (n : ℕ) (f : Row → Row) (old new : List Row) : Type 0 where
  pub row : Row
  pub was : row_of n old ≡ Some row
  pub is : new ≡ slice_set old (n - 1) (f row)

-- the row, where an answer of it would be its good one
abbrev pub wanting_row : Option Row → Option Row
wanting_row x = if wanting_in x then x else None

-- it has an answer that nobody wants once it belongs to this owner
abbrev pub is_unwanted : By → Row → Bool
is_unwanted ByExpiry r = r.answered
is_unwanted ByAnswer r = false
