use Rattle.std.proofs.Common.{[], ◌∷◌, take}
use Rattle.mid_base.specs.declared.answers.By.TheVariants.{Answer}
use Rattle.mid_base.specs.declared.entries.Entry.TheVariants.{Due}
use Rattle.owner_laws.specs.Small.{attempt, small, small_spec}
use Rattle.owner_laws.proofs.small.its_owned_attempt_was_sent.Goals as goal

pub returns-clause-before : goal.returns-clause-before
returns-clause-before c = c.owned_attempts_were_sent.ensures.before small_spec (take 6 small) (Due (attempt 1) ∷ []) (attempt 2) Answer c.it_is_legal.ensures.legal
