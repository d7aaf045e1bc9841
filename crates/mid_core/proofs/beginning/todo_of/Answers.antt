use Rattle.std.proofs.Common.{◌∙◌, sym, ap, List, ◌∷◌, ◌++◌, [], take, arith}
use Rattle.disposition.specs.declared.todo.Todo.{Todo}
use Rattle.trace_model.specs.Recovery.{listed}
use Rattle.mid_core.proofs.Begins.{failure_at, row_there, listed_more}
use Rattle.mid_core.proofs.beginning.todo_of.Goals as goal

pub one_todo-requires : goal.one_todo-requires
one_todo-requires c =
    let P = c.requires.0 in
    let there = row_there c.failed-failed.result.now c.args.running.now.verdicts.rows.items c.loop-row.row-index c.row-item.result c.failed-failed.ensures.rows c.loop-row-test.true c.row-item.is in
    let found = failure_at c.args.spec.now P c.args.running.now c.requires.1 c.requires.2 c.loop-row.row-index c.row-item.result there in
    (P, found.0, found.2)

pub loop-row-preserved : goal.loop-row-preserved
loop-row-preserved c = record {
  items = λ P runs legal.
      let there = row_there c.failed-failed.result.now c.args.running.now.verdicts.rows.items c.loop-row.row-index c.row-item.result c.failed-failed.ensures.rows c.loop-row-test.true c.row-item.is in
      let found = failure_at c.args.spec.now P c.args.running.now runs legal c.loop-row.row-index c.row-item.result there in
      c.push_reserved.ensures.items
      ∙ ap (λ (xs : List Todo). xs ++ c.one_todo.result ∷ []) (c.loop-row.invariant.items P runs legal)
      ∙ ap (λ (x : Todo). take c.loop-row.row-index (listed c.args.spec.now P) ++ x ∷ []) (c.one_todo.ensures P found.0 found.2)
      ∙ sym (listed_more c.args.spec.now P c.loop-row.row-index found.0 found.1);
  room = omega (arith, c.push_reserved.ensures.capacity, c.loop-row.invariant.room);
}
