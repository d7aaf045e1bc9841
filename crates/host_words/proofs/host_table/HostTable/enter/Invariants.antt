use Rattle.std.proofs.Common.{◌≡◌, ℕ, ◌%◌, ◌^◌, []}
use Rattle.host_words.specs.Views.{staged}
use Rattle.host_words.specs.declared.view.Stage.TheVariants.{Waiting}
use Rattle.host_words.proofs.host_table.HostTable.enter.Given as goal

abbrev pub invariant-loop : goal.invariant-loop
invariant-loop g l = (l.seat.seat.table_id ≡ l.fn.seat.seat.table_id) × (l.seat.seat.me.1 ≡ []) × ((t : ℕ) × (l.ticket ≡ t % 2 ^ 64) × (l.seat.seat.me.0 ≡ staged l.fn.seat.seat.me.0 (Waiting t)))
