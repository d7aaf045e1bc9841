-- The tables that a walk over a journal fills, and what they say of it. P has the newest entry first.
use Rattle.std.specs.Prelude.{◌≡◌, ℕ, ◌+◌, ◌==◌, Bool, true, false, if◌then◌else◌, List, [], ◌∷◌, length, Option, None, Some, option_map, slice_get, unwrap_or}
use Rattle.mid_base.specs.Past.{attempt_of}
use Rattle.mid_base.specs.declared.answers.Answer.{Answer}
use Rattle.mid_base.specs.declared.answers.By.{By}
use Rattle.mid_base.specs.declared.entries.Entry.{Entry}
use Rattle.mid_base.specs.declared.entries.Entry.TheVariants.{Sent, Again, Told, Tick}
use Rattle.trace_model.specs.Attempts.{owner}
use Rattle.trace_model.specs.Commands.{retries}
use Rattle.trace_model.specs.Flush.{last_own}
use Rattle.report_text.specs.Results.{ended, ended_by, kind_of, result_text}
use Rattle.report_text.specs.Numbered.{at}
use Rattle.report_text.specs.declared.results.Report.{Report}
use Rattle.report_text.specs.declared.results.FirstTold.{FirstTold}
use Rattle.report_text.specs.declared.results.LastOwn.TheVariants as last
use Rattle.report_text.specs.declared.gather.Row.{Row}
use Rattle.report_text.specs.declared.gather.Results.{Results}
use Rattle.report_text.specs.declared.numbered.Numbered.{Numbered}

-- the first report stays
abbrev pub first_of : Option FirstTold → FirstTold → FirstTold
first_of None t = t
first_of (Some s) t = s

-- how c ended at its first report, and the place of that entry
abbrev pub first_told : ℕ → List Entry → Option FirstTold
first_told c [] = None
first_told c (Told d a ∷ P) = if d.0 == c then Some (first_of (first_told c P) (record { ended = ended c P; place = length P })) else first_told c P
first_told c (_ ∷ P) = first_told c P

-- what P says of c
abbrev pub row_of : ℕ → List Entry → Row
row_of c P = record { last = kind_of (last_own c P); attempt = attempt_of c P; retries = retries c P; told = first_told c P }

-- the row after an entry at a place that names the command, by the owner of its last attempt
abbrev pub next_row : Row → Option By → ℕ → Entry → Row
next_row row by place (Sent c n t) = record { last = last.Other; attempt = n.0; retries = row.retries; told = row.told }
next_row row by place (Again c true) = record { last = last.Other; attempt = row.attempt; retries = row.retries + 1; told = row.told }
next_row row by place (Told c a) =
    record { last = last.Other; attempt = row.attempt; retries = row.retries; told = Some (first_of row.told (record { ended = ended_by row.last by; place = place })) }
next_row row by place e = record { last = kind_of (Some e); attempt = row.attempt; retries = row.retries; told = row.told }

-- the command of this id is the one that is named
abbrev pub is_named : Option ℕ → ℕ → Bool
is_named None c = false
is_named (Some d) c = d == c

abbrev pub row_at : Numbered Row → ℕ → Row
row_at rows c = unwrap_or (at rows c) (row_of c [])

abbrev pub RowsAre : Numbered Row → List Entry → Type 0
RowsAre rows P = (c : ℕ) → row_at rows c ≡ row_of c P

abbrev pub OwnersAre : Numbered By → List Entry → Type 0
OwnersAre owners P = (n : ℕ) → at owners n ≡ owner n P

abbrev pub SaysOf : Results → List Entry → Type 0
SaysOf r P = RowsAre r.rows P

-- the answer that an entry tells
abbrev pub answer_told : Option Entry → Option Answer
answer_told (Some (Told c a)) = Some a
answer_told e = None

-- the report that stands in a journal
abbrev pub report_in : List Entry → Option FirstTold → Option Report
report_in journal None = None
report_in journal (Some t) = option_map (λ a. record { ended = t.ended; answer = a }) (answer_told (slice_get journal t.place))

-- the result line that the tables give, beside the journal
abbrev pub gathered_line : List Entry → Results → ℕ → List ℕ
gathered_line journal r c = result_text c (report_in journal (row_at r.rows c).told) (row_at r.rows c).retries

-- the tick of what follows the entry
abbrev pub tick_after : ℕ → Entry → ℕ
tick_after tick Tick = tick + 1
tick_after tick e = tick
