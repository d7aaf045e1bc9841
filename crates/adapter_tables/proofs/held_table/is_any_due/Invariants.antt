use Rattle.std.proofs.Common.{◌≡◌, ℕ, ◌<◌, false}
use Rattle.slab.specs.Slab.{get}
use Rattle.adapter_tables.specs.Held.{is_due}
use Rattle.adapter_tables.specs.Tests.{passes}
use Rattle.adapter_tables.proofs.held_table.is_any_due.Given as goal

abbrev pub invariant-loop-key : goal.invariant-loop-key
invariant-loop-key l = (k : ℕ) → k < l.key → passes (λ h. is_due l.at h.due) (get l.held k) ≡ false
