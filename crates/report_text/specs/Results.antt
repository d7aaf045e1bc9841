-- How commands ended. P has the newest entry first; commands are told by their ids.
use Rattle.std.specs.Prelude.{ℕ, ◌==◌, if◌then◌else◌, List, [], ◌∷◌, Option, None, Some, codes}
use Rattle.std.specs.Fmt.{decimal}
use Rattle.mid_base.specs.Past.{attempt_of}
use Rattle.mid_base.specs.declared.answers.By.{By}
use Rattle.mid_base.specs.declared.entries.Entry.{Entry}
use Rattle.mid_base.specs.declared.entries.Entry.TheVariants.{Judged, Aborted, Cleared, Told}
use Rattle.trace_model.specs.Attempts.{owner, is_by_answer}
use Rattle.trace_model.specs.Commands.{retries}
use Rattle.trace_model.specs.Flush.{last_own}
use Rattle.report_text.specs.Pieces.{in_words, line, answer_words}
use Rattle.report_text.specs.declared.results.Ended.{Ended}
use Rattle.report_text.specs.declared.results.Ended.TheVariants.{Answered, TimedOut, NotConnected}
use Rattle.report_text.specs.declared.results.Report.{Report}
use Rattle.report_text.specs.declared.results.LastOwn.{LastOwn}
use Rattle.report_text.specs.declared.results.LastOwn.TheVariants as last

-- the last entry that names a command, as far as the command's end asks for it
abbrev pub kind_of : Option Entry → LastOwn
kind_of (Some (Judged c n d)) = last.Judged
kind_of (Some (Aborted c n ok)) = last.Aborted
kind_of (Some (Cleared c level)) = last.Cleared
kind_of e = last.Other

-- what a report is made of, by that entry and the owner of the last attempt: of an answer that was judged, of an attempt
-- that its expired timer owned, or of neither
abbrev pub ended_by : LastOwn → Option By → Ended
ended_by last.Judged by = Answered
ended_by last.Aborted by = TimedOut
ended_by last.Cleared by = if is_by_answer by then Answered else TimedOut
ended_by last.Other by = NotConnected

-- how c ended, where it is reported right after P
abbrev pub ended : ℕ → List Entry → Ended
ended c P = ended_by (kind_of (last_own c P)) (owner (attempt_of c P) P)

abbrev pub first_report : Option Report → Report → Report
first_report None r = r
first_report (Some q) r = q

-- the first report of c
abbrev pub report : ℕ → List Entry → Option Report
report c [] = None
report c (Told d a ∷ P) = if d.0 == c then Some (first_report (report c P) (record { ended = ended c P; answer = a })) else report c P
report c (_ ∷ P) = report c P

abbrev pub ended_word : Ended → List ℕ
ended_word Answered = codes "answered"
ended_word TimedOut = codes "timeout"
ended_word NotConnected = codes "noconnect"

abbrev pub outcome_text : Option Report → List ℕ
outcome_text None = codes "open"
outcome_text (Some r) = in_words (ended_word r.ended ∷ answer_words r.answer)

-- the line of a result: the command, its report, its retries
abbrev pub result_text : ℕ → Option Report → ℕ → List ℕ
result_text c told retries = line (codes "result" ∷ decimal c ∷ outcome_text told ∷ decimal retries ∷ [])

abbrev pub result_line : List Entry → ℕ → List ℕ
result_line P c = result_text c (report c P) (retries c P)
