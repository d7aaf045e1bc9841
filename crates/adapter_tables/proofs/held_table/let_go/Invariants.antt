use Rattle.std.proofs.Common.{◌≡◌, ℕ, ◌<◌, ◌≤◌, Some, false}
use Rattle.slab.specs.Slab.{get, slab_len}
use Rattle.adapter_tables.specs.Held.{is_attempt}
use Rattle.adapter_tables.specs.declared.held.Held.{Held}
use Rattle.adapter_tables.proofs.held_table.let_go.Given as goal

abbrev pub invariant-loop-key : goal.invariant-loop-key
invariant-loop-key l = record {
  from : (k : ℕ) (g : Held) → get l.held k ≡ Some g → get l.fn.held k ≡ Some g;
  gone : (k : ℕ) (g : Held) → k < l.key → get l.held k ≡ Some g → is_attempt l.n.0 g ≡ false;
  stays : (k : ℕ) (g : Held) → get l.fn.held k ≡ Some g → is_attempt l.n.0 g ≡ false → get l.held k ≡ Some g;
  room : slab_len l.held ≤ slab_len l.fn.held;
  capacity : l.held.capacity ≡ l.fn.held.capacity;
}
