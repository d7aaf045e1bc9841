use Rattle.recovery_laws.proofs.Courses.{begun_taken}
use Rattle.recovery_laws.proofs.Owing.{cleared_taken}
use Rattle.recovery_laws.proofs.acting.the_clearing_at_the_beginning_is_taken.Goals as goal

pub returns-clause-begun : goal.returns-clause-begun
returns-clause-begun c = λ s P rest follows. begun_taken s P rest follows

pub returns-clause-cleared : goal.returns-clause-cleared
returns-clause-cleared c = λ s P level xs. cleared_taken s P level xs
