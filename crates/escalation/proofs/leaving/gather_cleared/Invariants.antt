use Rattle.std.proofs.Common.{◌≡◌, ◌≤◌, ℕ, take, vec_len, vec_capacity}
use Rattle.std.specs.List.{list_any}
use Rattle.escalation.specs.Climbing.{clears}
use Rattle.escalation.specs.Acts.{is_id}
use Rattle.escalation.proofs.leaving.gather_cleared.Given as goal

abbrev pub invariant-loop-entry : goal.invariant-loop-entry
invariant-loop-entry l = record {
  ids : (c : ℕ) → list_any (is_id c) l.ids.items ≡ list_any (clears c) (take l.entry-index l.entries);
  few : vec_len l.ids ≤ l.entry-index;
  capacity : vec_capacity l.ids ≡ vec_capacity l.fn.ids;
}
