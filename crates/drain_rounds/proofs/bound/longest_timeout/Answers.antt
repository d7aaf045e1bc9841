use Rattle.std.proofs.Common.{ℕ, List, [], ◌∷◌, ◌++◌, map, max, take, sym, ap, ◌∙◌, subst}
use Rattle.std.proofs.lemmas.List.{take_more}
use Rattle.drain_rounds.specs.Rounds.{greatest}
use Rattle.mid_base.specs.declared.host_spec.CmdSpec.{CmdSpec}
use Rattle.drain_rounds.proofs.Greatest.{greatest_push}
use Rattle.drain_rounds.proofs.bound.longest_timeout.Goals as goal

pub loop-command-preserved : goal.loop-command-preserved
loop-command-preserved c =
    let cmds = c.args.cmds.now in
    let i = c.loop-command.command-index in
    let k = c.command-item.result in
    c.max-longest.ensures
    ∙ (ap (max k.timeout) c.loop-command.invariant
    ∙ (sym (greatest_push (λ (k : CmdSpec). k.timeout) (take i cmds) k)
    ∙ ap (λ (ks : List CmdSpec). greatest (map (λ (k : CmdSpec). k.timeout) ks)) (ap (λ (x : CmdSpec). take i cmds ++ x ∷ []) c.command-item.is ∙ sym (take_more cmds i k c.loop-command-test.true))))
