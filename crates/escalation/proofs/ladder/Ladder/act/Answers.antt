use Rattle.std.proofs.Common.{◌≡◌, ◌∙◌, ℕ, List, filter, length, refl, sym, ap, subst, arith}
use Rattle.mid_base.specs.declared.answers.Scope.{Scope}
use Rattle.mid_base.specs.declared.entries.Entry.{Entry}
use Rattle.mid_base.specs.declared.host_spec.Handlers.{Handlers}
use Rattle.mid_base.specs.Levels.{level_of, number}
use Rattle.disposition.specs.declared.todo.Todo.{Todo}
use Rattle.disposition.specs.Ladder.{is_in_scope, beyond_pair}
use Rattle.host_template.specs.Meaning.{IfHonest}
use Rattle.escalation.specs.Rungs.{level_at, scope_at, pair_at}
use Rattle.escalation.specs.Climbing.{IsNextAct, HonestAct, gone_on}
use Rattle.escalation.specs.Acts.{IsAct, BeginsIn}
use Rattle.escalation.proofs.Climbs.{found_begins, goes_climbing, next_act_is, stands_of_scope, honest_next}
use Rattle.escalation.proofs.ladder.Ladder.act.Goals as goal

pub perform-ok-requires-clause-begins : goal.perform-ok-requires-clause-begins
perform-ok-requires-clause-begins g c κs within =
    let k = c.args.self.now in
    let rung = c.args.rung in
    let chosen_is : c.in_ok-chosen.chosen.todo.items ≡ filter (is_in_scope (scope_at rung)) k.left = c.in_ok-chosen.ensures ∙ ap (λ (s : Scope). filter (is_in_scope s) k.left) c.scope.ensures in
    subst (λ (xs : List Todo). BeginsIn (scope_at rung) xs) (sym chosen_is) (found_begins k.aborts k.left k.ahead rung c.requires.next)

pub gather_cleared-requires-clause-room : goal.gather_cleared-requires-clause-room
gather_cleared-requires-clause-room g c =
    omega (arith, c.perform-ok.ensures.act.few, c.in_ok-cleared.ensures.room, ap length c.deref-2.ensures.value, ap length c.deref-3.ensures.value)

pub go_on-requires-clause-climbing : goal.go_on-requires-clause-climbing
go_on-requires-clause-climbing g c =
    let k = c.args.self.now in
    let rung = c.args.rung in
    let old = g.A.HostTemplate.stands c.args.lower.now in
    let new = g.A.HostTemplate.stands c.perform-ok.new.lower in
    let es = c.perform-ok.new.told.entries.items in
    let chosen_is : c.in_ok-chosen.chosen.todo.items ≡ filter (is_in_scope (scope_at rung)) k.left = c.in_ok-chosen.ensures ∙ ap (λ (s : Scope). filter (is_in_scope s) k.left) c.scope.ensures in
    let act : IsAct c.handlers.result (level_at rung) (scope_at rung) (filter (is_in_scope (scope_at rung)) k.left) c.perform-ok.result old new es =
    subst (λ (xs : List Todo). IsAct c.handlers.result (level_at rung) (scope_at rung) xs c.perform-ok.result old new es) chosen_is c.perform-ok.ensures.act
    in
    let act' = subst (λ (xs : List Entry). IsAct c.handlers.result (level_at rung) (scope_at rung) (filter (is_in_scope (scope_at rung)) k.left) c.perform-ok.result old new xs) (sym c.deref-4.ensures.value) act in
    goes_climbing c.handlers.result k.aborts rung k.left k.ahead (beyond_pair (pair_at rung) k.ahead) c.perform-ok.result old new c.deref-4.result.now c.requires.climbing c.requires.next act' refl

pub returns-clause-act : goal.returns-clause-act
returns-clause-act g c =
    let k = c.args.self.now in
    let rung = c.args.rung in
    let old = g.A.HostTemplate.stands c.args.lower.now in
    let new = g.A.HostTemplate.stands c.perform-ok.new.lower in
    let es = c.perform-ok.new.told.entries.items in
    let ok = c.perform-ok.result in
    let chosen_is : c.in_ok-chosen.chosen.todo.items ≡ filter (is_in_scope (scope_at rung)) k.left = c.in_ok-chosen.ensures ∙ ap (λ (s : Scope). filter (is_in_scope s) k.left) c.scope.ensures in
    let act : IsAct c.handlers.result (level_at rung) (scope_at rung) (filter (is_in_scope (scope_at rung)) k.left) ok old new es =
    subst (λ (xs : List Todo). IsAct c.handlers.result (level_at rung) (scope_at rung) xs ok old new es) chosen_is c.perform-ok.ensures.act
    in
    let act' = subst (λ (h : Handlers). IsAct h (level_at rung) (scope_at rung) (filter (is_in_scope (scope_at rung)) k.left) ok old new es) c.handlers.ensures act in
    let moved = c.go_on.ensures ∙ ap (λ (xs : List Entry). gone_on (pair_at rung) xs k) c.deref-4.ensures.value in
    subst (λ (l : ℕ). IsNextAct k l c.scope-2.result ok es × (c.go_on.new.self ≡ gone_on (l, c.scope-2.result) es k)) (sym c.level.ensures)
    (subst (λ (s : Scope). IsNextAct k (number (level_at rung)) s ok es × (c.go_on.new.self ≡ gone_on (number (level_at rung), s) es k)) (sym c.scope-2.ensures)
    (next_act_is k rung ok old new es c.requires.next act', moved))

pub returns-clause-stands : goal.returns-clause-stands
returns-clause-stands g c =
    let k = c.args.self.now in
    let rung = c.args.rung in
    let old = g.A.HostTemplate.stands c.args.lower.now in
    let new = g.A.HostTemplate.stands c.perform-ok.new.lower in
    let es = c.perform-ok.new.told.entries.items in
    let ok = c.perform-ok.result in
    let chosen_is : c.in_ok-chosen.chosen.todo.items ≡ filter (is_in_scope (scope_at rung)) k.left = c.in_ok-chosen.ensures ∙ ap (λ (s : Scope). filter (is_in_scope s) k.left) c.scope.ensures in
    let act : IsAct c.handlers.result (level_at rung) (scope_at rung) (filter (is_in_scope (scope_at rung)) k.left) ok old new es =
    subst (λ (xs : List Todo). IsAct c.handlers.result (level_at rung) (scope_at rung) xs ok old new es) chosen_is c.perform-ok.ensures.act
    in
    let act' = subst (λ (h : Handlers). IsAct h (level_at rung) (scope_at rung) (filter (is_in_scope (scope_at rung)) k.left) ok old new es) c.handlers.ensures act in
    stands_of_scope k.handlers (is_in_scope (scope_at rung)) k.left old new es act'.stands

pub returns-clause-honest : goal.returns-clause-honest
returns-clause-honest g c =
    let k = c.args.self.now in
    let rung = c.args.rung in
    let old = g.A.HostTemplate.means c.args.lower.now in
    let new = g.A.HostTemplate.means c.perform-ok.new.lower in
    let ok = c.perform-ok.result in
    let chosen_is : c.in_ok-chosen.chosen.todo.items ≡ filter (is_in_scope (scope_at rung)) k.left = c.in_ok-chosen.ensures ∙ ap (λ (s : Scope). filter (is_in_scope s) k.left) c.scope.ensures in
    let honest : IfHonest (HonestAct (level_at rung) (scope_at rung) ok (filter (is_in_scope (scope_at rung)) k.left)) old new =
    subst (λ (xs : List Todo). IfHonest (HonestAct (level_at rung) (scope_at rung) ok xs) old new) chosen_is c.perform-ok.ensures.honest
    in
    subst (λ (l : ℕ). IfHonest (HonestAct (level_of l) c.scope-2.result ok (filter (is_in_scope c.scope-2.result) k.left)) old new) (sym c.level.ensures)
    (subst (λ (s : Scope). IfHonest (HonestAct (level_of (number (level_at rung))) s ok (filter (is_in_scope s) k.left)) old new) (sym c.scope-2.ensures)
    (honest_next rung ok (filter (is_in_scope (scope_at rung)) k.left) old new honest))
