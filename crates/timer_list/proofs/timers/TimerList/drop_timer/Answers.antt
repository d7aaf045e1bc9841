use Rattle.std.proofs.Common.{◌≡◌, ◌∙◌, ap, subst, arith, List, length, ◌+◌, None, if◌then◌else◌, ◌==◌}
use Rattle.std.specs.Prelude.{is_some, IsSome}
use Rattle.std.specs.List.{remove}
use Rattle.std.proofs.lemmas.Grind.{common_steps}
use Rattle.timer_list.specs.Timers.{Timer, Timers, deadline_of}
use Rattle.timer_list.specs.Orders.{IsAt}
use Rattle.timer_list.proofs.Places.{stands_too, kept_dropped, dropped, counted, has_some}
use Rattle.timer_list.proofs.timers.TimerList.drop_timer.Goals as goal

pub remove-requires : goal.remove-requires
remove-requires c =
    let at : IsAt c.args.n.0 c.self.inside.by_deadline.items c.place_by_deadline-place.result =
    stands_too c.args.n.0 c.remove-timer.result c.self.inside.by_number.items c.self.inside.by_deadline.items _ _ c.in-Some.place c.place_by_deadline-place.result
    c.self.invariant.0 c.deref.ensures.value c.in-Some.ensures c.remove-timer.ensures.value c.deref-2.ensures.value c.place_by_deadline-place.ensures
    in
    grind (arith, common_steps, at.within)

pub invariant_of-self : goal.invariant_of-self
invariant_of-self c =
    let at : IsAt c.args.n.0 c.self.inside.by_deadline.items c.place_by_deadline-place.result =
    stands_too c.args.n.0 c.remove-timer.result c.self.inside.by_number.items c.self.inside.by_deadline.items _ _ c.in-Some.place c.place_by_deadline-place.result
    c.self.invariant.0 c.deref.ensures.value c.in-Some.ensures c.remove-timer.ensures.value c.deref-2.ensures.value c.place_by_deadline-place.ensures
    in
    let at_number : IsAt c.args.n.0 c.self.inside.by_number.items c.in-Some.place =
    subst (λ (ts : List Timer). IsAt c.args.n.0 ts c.in-Some.place) c.deref.ensures.value c.in-Some.ensures
    in (
      rw c.remove-timer.ensures.items (rw c.remove.ensures.items
          (kept_dropped c.args.n.0 c.remove-timer.result c.self.inside.by_number.items c.self.inside.by_deadline.items c.in-Some.place c.place_by_deadline-place.result c.self.invariant.0 at_number at)),
      grind (arith, common_steps, c.remove.ensures.len, c.self.invariant.1),
      grind (arith, common_steps, c.remove-timer.ensures.capacity, c.self.invariant.2),
      grind (arith, common_steps, c.remove.ensures.capacity, c.self.invariant.3),
    )

pub returns-clause-deadlines : goal.returns-clause-deadlines
returns-clause-deadlines c m =
    let at : IsAt c.args.n.0 c.self.inside.by_deadline.items c.place_by_deadline-place.result =
    stands_too c.args.n.0 c.remove-timer.result c.self.inside.by_number.items c.self.inside.by_deadline.items _ _ c.in-Some.place c.place_by_deadline-place.result
    c.self.invariant.0 c.deref.ensures.value c.in-Some.ensures c.remove-timer.ensures.value c.deref-2.ensures.value c.place_by_deadline-place.ensures
    in
    ap (λ (ts : List Timer). deadline_of m ts) c.remove.ensures.items
    ∙ dropped c.args.n.0 c.remove-timer.result c.self.inside.by_deadline.items c.place_by_deadline-place.result c.self.invariant.0.by_deadline.differ at m
    ∙ ap (λ (v : Timers). if m == c.args.n.0 then None else deadline_of m v.timers) c.self.view_is

pub returns-clause-count : goal.returns-clause-count
returns-clause-count c =
    let at : IsAt c.args.n.0 c.self.inside.by_deadline.items c.place_by_deadline-place.result =
    stands_too c.args.n.0 c.remove-timer.result c.self.inside.by_number.items c.self.inside.by_deadline.items _ _ c.in-Some.place c.place_by_deadline-place.result
    c.self.invariant.0 c.deref.ensures.value c.in-Some.ensures c.remove-timer.ensures.value c.deref-2.ensures.value c.place_by_deadline-place.ensures
    in
    rw c.remove.ensures.items
    (subst (λ (v : Timers). length v.timers ≡ length (remove c.self.inside.by_deadline.items c.place_by_deadline-place.result) + (if is_some (deadline_of c.args.n.0 v.timers) then 1 else 0)) c.self.view_is
    (counted c.args.n.0 c.remove-timer.result c.self.inside.by_deadline.items c.place_by_deadline-place.result c.self.invariant.0.by_deadline.differ at))

pub returns-clause-absent : goal.returns-clause-absent
returns-clause-absent c absent =
    let at : IsAt c.args.n.0 c.self.inside.by_deadline.items c.place_by_deadline-place.result =
    stands_too c.args.n.0 c.remove-timer.result c.self.inside.by_number.items c.self.inside.by_deadline.items _ _ c.in-Some.place c.place_by_deadline-place.result
    c.self.invariant.0 c.deref.ensures.value c.in-Some.ensures c.remove-timer.ensures.value c.deref-2.ensures.value c.place_by_deadline-place.ensures
    in
    let has : IsSome (deadline_of c.args.n.0 c.args.self.now.timers) =
    subst (λ (v : Timers). IsSome (deadline_of c.args.n.0 v.timers)) c.self.view_is
    (has_some c.args.n.0 c.remove-timer.result c.self.inside.by_deadline.items c.place_by_deadline-place.result c.self.invariant.0.by_deadline.differ at)
    in
    absurd (grind (arith, has, absent))
