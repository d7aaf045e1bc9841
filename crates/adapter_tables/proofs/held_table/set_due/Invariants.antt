use Rattle.std.proofs.Common.{◌≡◌, ℕ, ◌<◌, ◌≤◌}
use Rattle.std.specs.Prelude.{option_map}
use Rattle.slab.specs.Slab.{get}
use Rattle.adapter_tables.specs.Held.{due_from}
use Rattle.adapter_tables.proofs.held_table.set_due.Given as goal

abbrev pub invariant-loop-key : goal.invariant-loop-key
invariant-loop-key l = record {
  done : (k : ℕ) → k < l.key → get l.held k ≡ option_map (due_from l.n.0 l.at) (get l.fn.held k);
  rest : (k : ℕ) → l.key ≤ k → get l.held k ≡ get l.fn.held k;
}
