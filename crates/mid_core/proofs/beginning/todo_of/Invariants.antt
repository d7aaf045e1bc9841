use Rattle.std.proofs.Common.{◌≡◌, ◌≤◌, length, take, List}
use Rattle.std.specs.Prelude.{vec_capacity}
use Rattle.mid_base.specs.declared.entries.Entry.{Entry}
use Rattle.host_state.specs.HostAgrees.{HostAgrees}
use Rattle.trace_model.specs.Legal.{EachStands}
use Rattle.trace_model.specs.Recovery.{listed}
use Rattle.mid_core.proofs.beginning.todo_of.Given as goal

abbrev pub invariant-loop-row : goal.invariant-loop-row
invariant-loop-row l = record {
  items : (P : List Entry) → HostAgrees l.spec P l.running → EachStands l.spec P → l.todo.items ≡ take l.row-index (listed l.spec P);
  room : length l.failed ≤ vec_capacity l.todo;
}
