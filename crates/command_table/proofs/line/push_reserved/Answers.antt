use Rattle.command_table.proofs.Heaped.{added_held, at_ok}
use Rattle.command_table.proofs.line.push_reserved.Goals as goal

pub returns-clause-held : goal.returns-clause-held
returns-clause-held c j = added_held (λ x. x.0) _ _ _ (at_ok c.push.result (c.push.ensures.succeeds c.requires) c.push.ensures.permutation) j

pub returns-clause-heap_order : goal.returns-clause-heap_order
returns-clause-heap_order c = at_ok c.push.result (c.push.ensures.succeeds c.requires) c.push.ensures.heap_order

pub returns-clause-count : goal.returns-clause-count
returns-clause-count c = at_ok c.push.result (c.push.ensures.succeeds c.requires) c.push.ensures.len
