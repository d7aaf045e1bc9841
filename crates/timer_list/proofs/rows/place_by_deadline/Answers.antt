use Rattle.std.proofs.Common.{rules, arith}
use Rattle.std.proofs.lemmas.List.Sorted.{IsPartitionPoint-from_clause}
use Rattle.timer_list.specs.Timers.{Timer}
use Rattle.timer_list.specs.Orders.{is_earlier}
use Rattle.timer_list.proofs.Places.{parted, earlier_chains}
use Rattle.timer_list.proofs.rows.place_by_deadline.Goals as goal

pub returns : goal.returns
returns c =
    let point = IsPartitionPoint-from_clause (λ (y : Timer). is_earlier y c.args.timer) _ _ c.partition_point.ensures.partitioned
    (parted is_earlier earlier_chains c.args.timer c.args.row.now c.requires) (λ a r q k. search rules)
    in
    record {
      within = c.partition_point.ensures.bound;
      below = λ k d lt. point.0 k d (omega arith) lt;
      others = λ k d le lt. point.1 k d le lt;
    }
