use Rattle.std.proofs.Common.{◌∙◌}
use Rattle.escalation.proofs.Built.{built}
use Rattle.escalation.proofs.rungs.rungs_of.Goals as goal

pub returns : goal.returns
returns c =
    let ds = c.in_ok-devices.ensures in
    built c.args.todo.now.items _ _ _ _ _ _ _ _ _ _ _ _ _ _ _ _ c.new-rungs.ensures.items c.deref.ensures.value c.deref-2.ensures.value
    (c.deref-3.ensures.value ∙ ds) (c.deref-4.ensures.value ∙ ds) (c.deref-5.ensures.value ∙ ds) (c.deref-6.ensures.value ∙ ds) (c.deref-7.ensures.value ∙ ds)
    c.in_ok-add_fetches.ensures c.in_ok-add_aborts.ensures c.in_ok-add_level.ensures c.in_ok-add_level-2.ensures c.in_ok-add_level-3.ensures c.in_ok-add_level-4.ensures c.in_ok-add_host.ensures c.in_ok-add_level-5.ensures
