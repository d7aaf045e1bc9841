use Rattle.std.proofs.Common.{◌≡◌, ℕ, List, [], ◌∷◌, ◌++◌, map, max, take, sym, ap, ◌∙◌}
use Rattle.std.proofs.lemmas.List.{take_more}
use Rattle.mid_base.specs.declared.host_spec.HostSpec.{HostSpec}
use Rattle.drain_rounds.specs.Bound.{host_bound}
use Rattle.drain_rounds.specs.Rounds.{greatest}
use Rattle.drain_rounds.proofs.Greatest.{greatest_push}
use Rattle.play_sched.specs.Played.{bound_in}
use Rattle.play_sched.proofs.playing.greatest_bound.Goals as goal

pub loop-host-preserved : goal.loop-host-preserved
loop-host-preserved c =
    let hosts = c.args.hosts.now in
    let i = c.loop-host.host-index in
    let h = c.host-item.result in
    let f = bound_in c.args.steps.now in
    c.max-most.ensures
    ∙ (ap (λ (n : ℕ). max n c.loop-host.most) (c.host_bound.ensures ∙ ap (host_bound h) c.states_of.ensures)
    ∙ (ap (max (f h)) c.loop-host.invariant
    ∙ (sym (greatest_push f (take i hosts) h)
    ∙ ap (λ (hs : List HostSpec). greatest (map f hs)) (ap (λ (x : HostSpec). take i hosts ++ x ∷ []) c.host-item.is ∙ sym (take_more hosts i h c.loop-host-test.true)))))
