use Rattle.recovery_laws.proofs.Quiet.{still}
use Rattle.recovery_laws.proofs.begun.nothing_else_is_under_way.Goals as goal

pub returns : goal.returns
returns c = λ s P each begun. still s P each begun
