use Rattle.std.proofs.Common.{◌≡◌, ℕ, sym, ap, ◌∙◌, inl, inr, arith}
use Rattle.std.specs.Prelude.{option_map}
use Rattle.std.proofs.lemmas.Bool.Decides.{leb_tells}
use Rattle.slab.specs.Slab.{get}
use Rattle.adapter_tables.specs.Held.{due_from}
use Rattle.adapter_tables.proofs.Tables.{changed_kept, past}
use Rattle.adapter_tables.proofs.held_table.set_due.Goals as goal

pub returns : goal.returns
returns c = changed_kept (due_from c.args.n.0 c.args.at) c.args.held.now c.loop-key.held all
  where
    all : (k : ℕ) → get c.loop-key.held k ≡ option_map (due_from c.args.n.0 c.args.at) (get c.args.held.now k)
    all k = elim (leb_tells c.loop-key.key k) [
      | inl le ↦
          let none = past c.args.held.now.slots k (omega (arith, le.1, c.capacity-key-end.ensures.slots, c.loop-key-test.false)) in
          c.loop-key.invariant.rest k le.1 ∙ (none ∙ sym (ap (option_map (due_from c.args.n.0 c.args.at)) none))
      | inr gt ↦ c.loop-key.invariant.done k gt.1
    ]
