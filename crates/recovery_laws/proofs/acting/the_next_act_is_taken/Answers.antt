use Rattle.recovery_laws.proofs.Courses.{act_taken}
use Rattle.recovery_laws.proofs.acting.the_next_act_is_taken.Goals as goal

pub returns : goal.returns
returns c = λ s P level scope ok rest limits each next follows. act_taken s P level scope ok rest limits each next follows
