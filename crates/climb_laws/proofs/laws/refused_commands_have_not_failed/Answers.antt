use Rattle.climb_laws.proofs.Refused.{refused_none}
use Rattle.climb_laws.proofs.laws.refused_commands_have_not_failed.Goals as goal

pub returns : goal.returns
returns c = λ s P d each refused. refused_none s d P each refused
