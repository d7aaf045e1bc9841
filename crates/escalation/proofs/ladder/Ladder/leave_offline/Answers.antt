use Rattle.std.proofs.Common.{rules, ◌≡◌, ◌∙◌, Bool, List, map, filter, drop, sym, ap, subst}
use Rattle.std.proofs.lemmas.Fn.{filter_same}
use Rattle.mid_base.specs.declared.host_spec.Handlers.{Handlers}
use Rattle.disposition.specs.declared.todo.Todo.{Todo}
use Rattle.disposition.specs.Ladder.{Pair}
use Rattle.escalation.specs.Rungs.{pair_at}
use Rattle.escalation.specs.Climbing.{Climb, online_alone}
use Rattle.escalation.specs.Acts.{IsClimbing}
use Rattle.escalation.proofs.Climbs.{kept_climbing}
use Rattle.escalation.proofs.ladder.Ladder.leave_offline.Goals as goal

alone : (k : Climb) (left new : List Todo) (ahead : List Pair) (handlers : Handlers) (aborts : Bool)
    → record { left = left; ahead = ahead; handlers = handlers; aborts = aborts } ≡ k → new ≡ filter (λ (x : Todo). x.cx.online) left
    → record { left = new; ahead = ahead; handlers = handlers; aborts = aborts } ≡ online_alone k
alone k left new ahead handlers aborts view kept =
    ap (λ (xs : List Todo). let l : Climb = record { left = xs; ahead = ahead; handlers = handlers; aborts = aborts } in l) kept ∙ ap online_alone view

pub invariant_of-self : goal.invariant_of-self
invariant_of-self c =
    let ahead = map pair_at (drop c.self.inside.at c.self.inside.rungs.items) in
    let kept : c.retain.new.self.items ≡ filter (λ x. x.cx.online) c.self.inside.left.items =
    filter_same _ (λ x. x.cx.online) _ (λ x b f' h. search (rules)) _ _ c.retain.ensures.filtered
    in (
      c.self.invariant.0,
      subst (λ (xs : List Todo). IsClimbing xs ahead) (sym kept) (kept_climbing (λ x. x.cx.online) c.self.inside.left.items ahead c.self.invariant.1),
    )

pub returns : goal.returns
returns c =
    let ahead = map pair_at (drop c.self.inside.at c.self.inside.rungs.items) in
    let kept : c.retain.new.self.items ≡ filter (λ x. x.cx.online) c.self.inside.left.items =
    filter_same _ (λ x. x.cx.online) _ (λ x b f' h. search (rules)) _ _ c.retain.ensures.filtered
    in
    alone c.args.self.now c.self.inside.left.items c.retain.new.self.items ahead c.self.inside.handlers c.self.inside.aborts c.self.view_is kept
