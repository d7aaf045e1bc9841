use Rattle.held_laws.proofs.Groups.{sent_none}
use Rattle.held_laws.proofs.laws.no_earlier_attempt_is_held.Goals as goal

pub returns : goal.returns
returns c = λ s P g d n t held added h. sent_none s P g d n t held added h
