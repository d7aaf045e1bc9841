use Rattle.std.proofs.Common.{Option, None, Some, sym, subst, ap, ◌∙◌}
use Rattle.mid_base.specs.declared.steps.Step.{Step}
use Rattle.mid_base.specs.declared.steps.Step.TheVariants.{Own, Settle, Drop}
use Rattle.drain_rounds.specs.Rounds.{Phase}
use Rattle.play_sched.specs.Phases.{IsNext, phase_of}
use Rattle.play_sched.proofs.Next.{claim_next, drop_next, phase_claim, settle_next}
use Rattle.play_sched.proofs.phases.next_step.Goals as goal

pub returns-in-Some-first_claim : goal.returns-in-Some-first_claim
returns-in-Some-first_claim c =
    let by = c.in-Claim.by in
    subst (λ (f : Phase). IsNext f c.args.host.now (Some (Own c.in-Some-first_claim.n by))) (sym (ap phase_of c.in-Claim.is ∙ phase_claim by))
    (claim_next c.args.host.now by (Some c.in-Some-first_claim.n) c.in-Some-first_claim.ensures)

pub returns-in-None-first_claim : goal.returns-in-None-first_claim
returns-in-None-first_claim c =
    let by = c.in-Claim.by in
    subst (λ (f : Phase). IsNext f c.args.host.now None) (sym (ap phase_of c.in-Claim.is ∙ phase_claim by))
    (claim_next c.args.host.now by None c.in-None-first_claim.ensures)

pub returns-in-Some-next_owned : goal.returns-in-Some-next_owned
returns-in-Some-next_owned c =
    subst (λ (f : Phase). IsNext f c.args.host.now (Some (Settle c.in-Some-next_owned.n))) (sym (ap phase_of c.in-Settle.is))
    (settle_next c.args.host.now (Some c.in-Some-next_owned.n) c.in-Some-next_owned.ensures)

pub returns-in-None-next_owned : goal.returns-in-None-next_owned
returns-in-None-next_owned c =
    subst (λ (f : Phase). IsNext f c.args.host.now None) (sym (ap phase_of c.in-Settle.is))
    (settle_next c.args.host.now None c.in-None-next_owned.ensures)

pub returns-in-Some-next_late : goal.returns-in-Some-next_late
returns-in-Some-next_late c =
    subst (λ (f : Phase). IsNext f c.args.host.now (Some (Drop c.in-Some-next_late.n))) (sym (ap phase_of c.in-Drop.is))
    (drop_next c.args.host.now (Some c.in-Some-next_late.n) c.in-Some-next_late.ensures)

pub returns-in-None-next_late : goal.returns-in-None-next_late
returns-in-None-next_late c =
    subst (λ (f : Phase). IsNext f c.args.host.now None) (sym (ap phase_of c.in-Drop.is))
    (drop_next c.args.host.now None c.in-None-next_late.ensures)
