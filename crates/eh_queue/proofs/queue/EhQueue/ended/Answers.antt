use Rattle.std.proofs.Common.{rules, ◌≡◌, ◌∙◌, ◌≤◌, ◌-◌, not, length, arith, ap}
use Rattle.std.proofs.lemmas.Fn.{filter_same}
use Rattle.std.proofs.lemmas.Grind.{common_steps}
use Rattle.eh_queue.specs.Failures.{is_of, without}
use Rattle.eh_queue.proofs.Lists.{within}
use Rattle.eh_queue.proofs.queue.EhQueue.ended.Goals as goal

pub returns-clause-failed : goal.returns-clause-failed
returns-clause-failed c =
    filter_same _ (λ f. not (is_of c.args.c f)) _ (λ x b f' k. search rules) _ _ c.retain.ensures.filtered
    ∙ ap (λ q. without c.args.c q.failed) c.self.view_is

pub invariant_of-self : goal.invariant_of-self
invariant_of-self c =
    let all : length c.args.self.now.failed ≤ c.args.self.now.busy = grind (arith, common_steps, c.self.view_is, c.self.invariant) in
    let items : c.retain.new.self.items ≡ without c.args.c c.args.self.now.failed = returns-clause-failed c in
    let short : length (without c.args.c c.args.self.now.failed) ≤ c.args.self.now.busy - 1 =
    within c.args.c c.args.self.now.failed c.args.self.now.busy all c.requires
    in
    let busy : c.self.inside.busy ≡ c.args.self.now.busy = ap (λ q. q.busy) c.self.view_is in
    let long : length c.retain.new.self.items ≤ c.self.inside.busy - 1 = omega (arith, ap length items) in
    grind (arith, common_steps, c.self.invariant, c.retain.ensures.capacity)
