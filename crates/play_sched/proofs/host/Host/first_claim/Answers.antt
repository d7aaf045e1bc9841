use Rattle.std.proofs.Common.{List, Option, reverse, sym, subst, ap, ◌∙◌}
use Rattle.std.specs.Prelude.{find, option_map}
use Rattle.mid_base.specs.declared.names.Attempt.{Attempt}
use Rattle.attempt_table.specs.Claims.{Claim, is_by}
use Rattle.drain_rounds.specs.Making.{HostRun}
use Rattle.play_sched.specs.Rest.{IsFirstClaim}
use Rattle.play_sched.proofs.Claims.{first_claim}
use Rattle.play_sched.proofs.host.Host.first_claim.Goals as goal

pub returns : goal.returns
returns c =
    let core = c.self.inside.core in
    subst (λ (run : HostRun). IsFirstClaim c.args.by run.entries c.claim_by.result) c.self.view_is
    (subst (λ (found : Option Attempt). IsFirstClaim c.args.by (reverse core.journal) found)
    (sym (c.claim_by.ensures ∙ ap (λ (claims : List Claim). option_map (λ (c : Claim). c.1) (find (is_by c.args.by) claims)) c.waiting_claims.ensures))
    (first_claim core.spec (reverse core.journal) c.args.by c.journal.ensures.legal))
