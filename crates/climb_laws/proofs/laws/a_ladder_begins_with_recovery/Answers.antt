use Rattle.climb_laws.proofs.Begins.{begun_ladder, begun_group, has_begun_there, failed_there}
use Rattle.climb_laws.proofs.laws.a_ladder_begins_with_recovery.Goals as goal

pub returns-clause-ladder : goal.returns-clause-ladder
returns-clause-ladder c = λ s P. begun_ladder s P

pub returns-clause-group : goal.returns-clause-group
returns-clause-group c = λ s P may. begun_group s P may

pub returns-clause-begun : goal.returns-clause-begun
returns-clause-begun c = λ s P. has_begun_there s P

pub returns-clause-failed : goal.returns-clause-failed
returns-clause-failed c = λ s P. failed_there s P
