use Rattle.std.proofs.Common.{refl, ◌<◌, subst, sym, length, arith}
use Rattle.std.specs.Prelude.{Option, IsSome}
use Rattle.slab.proofs.SlabLemmas.{ContainsKey-within}
use Rattle.adapter_tables.specs.declared.held.Held.{Held}
use Rattle.adapter_tables.proofs.held_table.let_go.Goals as goal

pub returns-clause-kept : goal.returns-clause-kept
returns-clause-kept c = λ g. (
  (λ k.
      let was = c.loop-key.invariant.from k.0 g k.1 in
      let within : k.0 < length c.args.held.now.slots = ContainsKey-within c.args.held.now k.0 (subst (λ (o : Option Held). IsSome o) (sym was) refl) in
      let lt : k.0 < c.loop-key.key = omega (arith, within, c.capacity-key-end.ensures.slots, c.loop-key-test.false) in
      ((k.0, was), c.loop-key.invariant.gone k.0 g lt k.1)),
  (λ p. (p.0.0, c.loop-key.invariant.stays p.0.0 g p.0.1 p.1)),
)

pub returns-clause-room : goal.returns-clause-room
returns-clause-room c = λ k fits. omega (arith, fits, c.loop-key.invariant.room, c.loop-key.invariant.capacity)
