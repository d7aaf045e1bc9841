use Rattle.adds_laws.proofs.Due.{due_once}
use Rattle.adds_laws.proofs.laws.it_is_determined_whether_an_answer_is_due.Goals as goal

pub returns : goal.returns
returns c = due_once
