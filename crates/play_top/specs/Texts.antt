-- What is written.
use Rattle.std.specs.Prelude.{ℕ, List, [], ◌∷◌, ◌++◌, if◌then◌else◌, map, reverse, codes}
use Rattle.std.specs.List.{flat_map}
use Rattle.std.specs.Fmt.{decimal}
use Rattle.mid_base.specs.declared.steps.Why.{Why}
use Rattle.report_text.specs.Text.{HostJournal, host_text, text}
use Rattle.report_text.specs.Order.{ascending}
use Rattle.script_text.specs.declared.script.Bad.{Bad}
use Rattle.mid_base.specs.declared.entries.Entry.{Entry}
use Rattle.drain_rounds.specs.Making.{HostRun}
use Rattle.made_script.specs.Sums.{sums_of, summary_text}
use Rattle.play_sched.specs.Runs.{is_named}

abbrev pub journal_of : HostRun → HostJournal
journal_of run = record { number = run.spec.no.0; cmds = run.spec.cmds; journal = reverse run.entries }

abbrev pub run_text : HostRun → List ℕ
run_text run = host_text run.spec.no.0 run.spec.cmds (reverse run.entries)

-- the lines of a host, if it has this number
abbrev pub named_text : ℕ → HostRun → List ℕ
named_text number run = if is_named number run then run_text run else []

-- the lines of hosts, in ascending numbers
abbrev pub hosts_text : List HostRun → List ℕ
hosts_text runs = flat_map (λ h. host_text h.number h.cmds h.journal) (ascending (λ h. h.number) (map journal_of runs))

-- the text of the hosts' journals and the skipped step lines
abbrev pub played_text : List HostRun → List (ℕ × Why) → List ℕ
played_text runs skips = text (map journal_of runs) skips

abbrev pub bad_text : Bad → List ℕ
bad_text bad = codes "bad line " ++ (decimal bad.line ++ (codes " kind " ++ (decimal bad.kind ++ codes "\n")))

abbrev pub usage_text : List ℕ
usage_text = codes "usage\n"

-- the journal of the first host
abbrev pub first_journal : List HostRun → List Entry
first_journal [] = []
first_journal (run ∷ runs) = reverse run.entries

-- the summary of so many commands of one host
abbrev pub made_text : ℕ → List HostRun → List ℕ
made_text count runs = summary_text count (sums_of (first_journal runs))
