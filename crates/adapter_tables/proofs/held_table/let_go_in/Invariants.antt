use Rattle.std.proofs.Common.{◌≡◌, ℕ, ◌<◌, Some, false}
use Rattle.slab.specs.Slab.{get}
use Rattle.mid_base.specs.Address.{in_scope}
use Rattle.adapter_tables.specs.declared.held.Held.{Held}
use Rattle.adapter_tables.proofs.held_table.let_go_in.Given as goal

abbrev pub invariant-loop-key : goal.invariant-loop-key
invariant-loop-key l = record {
  from : (k : ℕ) (g : Held) → get l.held k ≡ Some g → get l.fn.held k ≡ Some g;
  gone : (k : ℕ) (g : Held) → k < l.key → get l.held k ≡ Some g → in_scope l.scope g.dev ≡ false;
  stays : (k : ℕ) (g : Held) → get l.fn.held k ≡ Some g → in_scope l.scope g.dev ≡ false → get l.held k ≡ Some g;
}
