use Rattle.std.proofs.Common.{◌≡◌, ℕ, false, sym, ap, ◌∙◌, inl, inr, length, arith}
use Rattle.std.proofs.lemmas.Bool.Decides.{leb_tells}
use Rattle.slab.specs.Slab.{get}
use Rattle.adapter_tables.specs.Held.{is_due}
use Rattle.adapter_tables.specs.Tests.{passes}
use Rattle.adapter_tables.proofs.Tables.{any_found, any_none, past}
use Rattle.adapter_tables.proofs.held_table.is_any_due.Goals as goal

pub returns-then-is_due_at : goal.returns-then-is_due_at
returns-then-is_due_at c = sym (any_found (λ h. is_due c.args.at h.due) c.args.held.now.slots c.loop-key.key (sym c.is_due_at.ensures ∙ c.if-is_due_at.true))

pub returns : goal.returns
returns c = sym (any_none (λ h. is_due c.args.at h.due) c.args.held.now.slots off)
  where
    off : (k : ℕ) → passes (λ h. is_due c.args.at h.due) (get c.args.held.now k) ≡ false
    off k = elim (leb_tells (length c.args.held.now.slots) k) [
      | inl le ↦ ap (passes (λ h. is_due c.args.at h.due)) (past c.args.held.now.slots k le.1)
      | inr gt ↦ c.loop-key.invariant k (omega (arith, gt.1, c.capacity-key-end.ensures.slots, c.loop-key-test.false))
    ]
