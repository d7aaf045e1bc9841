use Rattle.std.proofs.Common.{◌≡◌, ◌∙◌, ap, subst, sym, arith, List, None, Some, if◌then◌else◌, ◌==◌}
use Rattle.std.proofs.lemmas.Grind.{common_steps}
use Rattle.timer_list.specs.Timers.{Timer, Timers, deadline_of}
use Rattle.timer_list.specs.Orders.{is_lower, is_earlier, IsPlace}
use Rattle.timer_list.proofs.Lists.{put_becomes}
use Rattle.timer_list.proofs.Places.{kept_put}
use Rattle.timer_list.proofs.timers.TimerList.set.Goals as goal

pub invariant_of-self : goal.invariant_of-self
invariant_of-self c =
    let x : Timer = (c.args.n, c.args.at) in
    let absent : deadline_of c.args.n.0 c.self.inside.by_deadline.items ≡ None =
    subst (λ (v : Timers). deadline_of c.args.n.0 v.timers ≡ None) (sym c.self.view_is) c.requires.absent
    in
    let at_number : IsPlace is_lower x c.self.inside.by_number.items c.place_by_number-place.result =
    subst (λ (ts : List Timer). IsPlace is_lower x ts c.place_by_number-place.result) c.deref.ensures.value c.place_by_number-place.ensures
    in
    let at_deadline : IsPlace is_earlier x c.self.inside.by_deadline.items c.place_by_deadline-place.result =
    subst (λ (ts : List Timer). IsPlace is_earlier x ts c.place_by_deadline-place.result) c.deref-2.ensures.value c.place_by_deadline-place.ensures
    in (
      rw c.put.ensures.items (rw c.put-2.ensures.items
          (kept_put x c.self.inside.by_number.items c.self.inside.by_deadline.items c.place_by_number-place.result c.place_by_deadline-place.result c.self.invariant.0 absent at_number at_deadline)),
      grind (arith, common_steps, c.put-2.ensures.len, c.self.view_is, c.requires.room),
      grind (arith, common_steps, c.put.ensures.capacity, c.self.invariant.2),
      grind (arith, common_steps, c.put-2.ensures.capacity, c.self.invariant.3),
    )

pub returns-clause-deadlines : goal.returns-clause-deadlines
returns-clause-deadlines c m =
    let absent : deadline_of c.args.n.0 c.self.inside.by_deadline.items ≡ None =
    subst (λ (v : Timers). deadline_of c.args.n.0 v.timers ≡ None) (sym c.self.view_is) c.requires.absent
    in
    ap (λ (ts : List Timer). deadline_of m ts) c.put-2.ensures.items
    ∙ put_becomes (c.args.n, c.args.at) c.self.inside.by_deadline.items c.place_by_deadline-place.result absent m
    ∙ ap (λ (v : Timers). if m == c.args.n.0 then Some c.args.at.0 else deadline_of m v.timers) c.self.view_is
