use Rattle.std.proofs.Common.{◌≡◌, ◌+◌, ◌++◌, List, take}
use Rattle.mid_base.specs.declared.entries.Entry.{Entry as EntrySeen}
use Rattle.host_state.specs.HostAgrees.{HostAgrees}
use Rattle.verdict_table.specs.Taken.{AreTaken}
use Rattle.mid_core.proofs.Acted.{TellsTo}
use Rattle.mid_core.proofs.telling.tell_all.Given as goal

abbrev pub invariant-loop-entry : goal.invariant-loop-entry
invariant-loop-entry l = record {
  told : l.book.entries ≡ l.fn.book.entries ++ take l.entry-index l.entries;
  room : l.book.spare + l.entry-index ≡ l.fn.book.spare;
  runs : (P : List EntrySeen) → HostAgrees l.spec P l.fn.running → AreTaken l.spec P l.entries → TellsTo l.spec P l.entries l.entry-index l.running;
  shown : l.running.attempts.tags.items ≡ l.fn.running.attempts.tags.items;
}
