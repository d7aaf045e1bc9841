-- The summary of a journal: how many commands were reported GOOD, how many retries were counted, and how much time went by.
use Rattle.std.specs.Prelude.{ℕ, Bool, true, false, List, ◌++◌, count_by, codes}
use Rattle.std.specs.Fmt.{decimal}
use Rattle.mid_base.specs.declared.entries.Entry.{Entry}
use Rattle.mid_base.specs.declared.entries.Entry.TheVariants.{Told, Again, Tick}
use Rattle.mid_base.specs.Answers.{is_good}
use Rattle.made_script.specs.declared.summary.Sums.{Sums}

-- a report of an answer of DID_OK and GOOD
abbrev pub is_good_report : Entry → Bool
is_good_report (Told c a) = is_good a
is_good_report e = false

-- a command goes again as a retry
abbrev pub is_retry : Entry → Bool
is_retry (Again c counted) = counted
is_retry e = false

abbrev pub is_tick : Entry → Bool
is_tick Tick = true
is_tick e = false

abbrev pub sums_of : List Entry → Sums
sums_of entries = record { goods = count_by is_good_report entries; retries = count_by is_retry entries; ticks = count_by is_tick entries }

-- the line of the summary, and the line `end`
abbrev pub summary_text : ℕ → Sums → List ℕ
summary_text commands sums =
    codes "commands " ++ (decimal commands ++ (codes " good " ++ (decimal sums.goods
    ++ (codes " retries " ++ (decimal sums.retries ++ (codes " ticks " ++ (decimal sums.ticks ++ codes "\nend\n")))))))
