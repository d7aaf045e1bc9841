use Rattle.std.proofs.Common.{sym, ap, ◌∙◌}
use Rattle.slab.specs.Slab.{Slab}
use Rattle.adapter_tables.specs.declared.held.Held.{Held}
use Rattle.adapter_tables.specs.TablesOf.{plan_of, rows_of, units_of}
use Rattle.debug_adapter.proofs.HonestLaws.{gone_same, honest_busy, honest_taken, room_made}
use Rattle.debug_adapter.proofs.Steps.{queue_taken, queue_busy}
use Rattle.debug_adapter.proofs.lower_layer.DebugAdapterHostTemplate.queue.Goals as goal

pub returns-in_default-clause-err : goal.returns-in_default-clause-err
returns-in_default-clause-err c = room_made (plan_of c.args.self.now.plan) c.args.self.now.held c.reserve.new.self (rows_of c.args.self.now.rows) (units_of c.args.self.now.units)
    (ap (λ (t : Slab Held). t.slots) c.reserve.ensures.rest_kept)

pub returns-in-Some-clause-ok : goal.returns-in-Some-clause-ok
returns-in-Some-clause-ok c = queue_busy (plan_of c.args.self.now.plan) c.args.self.now.held c.let_go.new.held (rows_of c.args.self.now.rows) (rows_of c.next_number-number.new.table) (units_of c.args.self.now.units)
    c.args.n c.args.dev c.args.cdb.now c.args.fill c.args.now.0 c.next_number-number.result c.in-Some.fault c.busy_answer.result
    (gone_same c.args.self.now.held c.reserve.new.self c.let_go.new.held c.args.n (ap (λ (t : Slab Held). t.slots) c.reserve.ensures.rest_kept) c.let_go.ensures.kept)
    c.busy_answer.ensures c.next_number-number.ensures.rows c.next_number-number.ensures.number (sym c.fault_at.ensures ∙ c.in-Some.is)

pub returns-in-Some-clause-honest : goal.returns-in-Some-clause-honest
returns-in-Some-clause-honest c = λ _ _. honest_busy c.args.self.now.held c.let_go.new.held c.args.n c.args.dev c.in-Some.fault c.busy_answer.result c.busy_answer.ensures
    (gone_same c.args.self.now.held c.reserve.new.self c.let_go.new.held c.args.n (ap (λ (t : Slab Held). t.slots) c.reserve.ensures.rest_kept) c.let_go.ensures.kept)

pub hold-requires : goal.hold-requires
hold-requires c = c.let_go.ensures.room 1 c.in-Ok.ensures.room

pub returns-clause-ok : goal.returns-clause-ok
returns-clause-ok c = queue_taken (plan_of c.args.self.now.plan) c.args.self.now.held c.let_go.new.held c.hold.new.held (rows_of c.args.self.now.rows) (rows_of c.next_number-number.new.table) (units_of c.args.self.now.units)
    c.args.n c.args.dev c.args.cdb.now c.args.fill c.args.now.0 c.next_number-number.result c.sent_attempt-h.result
    c.next_number-number.ensures.rows c.next_number-number.ensures.number (sym c.fault_at.ensures ∙ c.in_default-fault_at.is) c.sent_attempt-h.ensures
    (gone_same c.args.self.now.held c.reserve.new.self c.let_go.new.held c.args.n (ap (λ (t : Slab Held). t.slots) c.reserve.ensures.rest_kept) c.let_go.ensures.kept)
    c.hold.ensures.kept

pub returns-clause-honest : goal.returns-clause-honest
returns-clause-honest c = λ _ _. honest_taken c.args.self.now.held c.let_go.new.held c.hold.new.held c.args.n c.args.dev c.sent_attempt-h.result
    (gone_same c.args.self.now.held c.reserve.new.self c.let_go.new.held c.args.n (ap (λ (t : Slab Held). t.slots) c.reserve.ensures.rest_kept) c.let_go.ensures.kept)
    c.hold.ensures.kept (ap (λ (h : Held). h.n) c.sent_attempt-h.ensures) (ap (λ (h : Held). h.dev) c.sent_attempt-h.ensures)
