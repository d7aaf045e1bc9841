use Rattle.recovery_laws.proofs.Verdicts.{flushed_first, flushed_verdict, flushed_saved, flushed_flush, flushed_saved_by, flushed_flush_by}
use Rattle.recovery_laws.proofs.flushing.a_flushed_command_is_told_its_last_answer.Goals as goal

pub returns-clause-first : goal.returns-clause-first
returns-clause-first c = λ s P d f fs flushed e. flushed_first s P d f fs flushed e

pub returns-clause-verdict_is : goal.returns-clause-verdict_is
returns-clause-verdict_is c = λ s P d f fs each flushed e. flushed_verdict s P d f fs each flushed e

pub returns-clause-saved : goal.returns-clause-saved
returns-clause-saved c = λ s P d f fs each flushed e. flushed_saved s P d f fs each flushed e

pub returns-clause-flushes : goal.returns-clause-flushes
returns-clause-flushes c = λ s P d f fs each flushed e. flushed_flush s P d f fs each flushed e

pub returns-clause-saved_by : goal.returns-clause-saved_by
returns-clause-saved_by c = λ s P d f fs each flushed e. flushed_saved_by s P d f fs each flushed e

pub returns-clause-flushes_by : goal.returns-clause-flushes_by
returns-clause-flushes_by c = λ s P d f fs each flushed e. flushed_flush_by s P d f fs each flushed e
