-- The printed text of hosts and skipped steps.
use Rattle.std.specs.Prelude.{ℕ, List, [], ◌∷◌, ◌++◌, reverse, map, codes}
use Rattle.std.specs.List.{flat_map}
use Rattle.std.specs.Fmt.{decimal}
use Rattle.mid_base.specs.Past.{ticks}
use Rattle.mid_base.specs.declared.entries.Entry.{Entry}
use Rattle.mid_base.specs.declared.host_spec.CmdSpec.{CmdSpec}
use Rattle.mid_base.specs.declared.steps.Why.{Why}
use Rattle.report_text.specs.Pieces.{line}
use Rattle.report_text.specs.Words.{why_word}
use Rattle.report_text.specs.Entries.{entry_text}
use Rattle.report_text.specs.Order.{ascending}
use Rattle.report_text.specs.Results.{result_line}

-- the line of an entry at a tick
abbrev pub entry_line : ℕ → Entry → List ℕ
entry_line tick e = line (decimal tick ∷ entry_text e ∷ [])

-- the lines of entries, the newest entry first; the tick of an entry is the number of Tick entries before it
abbrev pub entry_lines : List Entry → List ℕ
entry_lines [] = []
entry_lines (e ∷ P) = entry_lines P ++ entry_line (ticks P) e

-- the ids of commands in ascending order
abbrev pub ids_of : List CmdSpec → List ℕ
ids_of cmds = ascending (λ c. c) (map (λ k. k.id.0) cmds)

abbrev pub host_line : ℕ → List ℕ
host_line number = line (codes "host" ∷ decimal number ∷ [])

-- the lines of a host, from `host H` to its last result
abbrev pub host_text : ℕ → List CmdSpec → List Entry → List ℕ
host_text number cmds journal =
    host_line number ++ (entry_lines (reverse journal) ++ flat_map (result_line (reverse journal)) (ids_of cmds))

-- a step line that was skipped, by its number, and why
abbrev pub skip_line : ℕ × Why → List ℕ
skip_line skip = line (codes "skipped" ∷ decimal skip.0 ∷ why_word skip.1 ∷ [])

abbrev pub skips_text : List (ℕ × Why) → List ℕ
skips_text skips = flat_map skip_line skips ++ line (codes "end" ∷ [])

-- a host with what it was given and what it kept
pub record HostJournal : Type 0 where
  pub number : ℕ
  pub cmds : List CmdSpec
  pub journal : List Entry

-- the whole text: the hosts in ascending numbers, then the skipped steps in their order
abbrev pub text : List HostJournal → List (ℕ × Why) → List ℕ
text hosts skips = flat_map (λ h. host_text h.number h.cmds h.journal) (ascending (λ h. h.number) hosts) ++ skips_text skips
