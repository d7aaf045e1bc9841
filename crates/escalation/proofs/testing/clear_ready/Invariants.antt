use Rattle.std.proofs.Common.{◌≡◌, ◌≤◌, ◌+◌, ◌-◌, ◌++◌, take, filter, length, vec_len, vec_capacity}
use Rattle.trace_model.specs.Climb.{on_one_of}
use Rattle.escalation.specs.Acts.{cleared}
use Rattle.escalation.proofs.testing.clear_ready.Given as goal

abbrev pub invariant-loop-x : goal.invariant-loop-x
invariant-loop-x l = record {
  items : l.entries.items ≡ l.fn.entries.items ++ cleared l.level (filter (on_one_of l.ready) (take l.x-index l.todo));
  room : vec_len l.entries + (length l.todo - l.x-index) ≤ vec_capacity l.entries;
}
