use Rattle.recovery_laws.proofs.Quiet.{may_still, began_still}
use Rattle.recovery_laws.proofs.begun.recovery_begins_in_quiet.Goals as goal

pub returns-clause-may : goal.returns-clause-may
returns-clause-may c = λ s P each done may. may_still s P each done may

pub returns-clause-began : goal.returns-clause-began
returns-clause-began c = λ s P each. began_still s P each
