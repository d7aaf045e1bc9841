use Rattle.std.proofs.Common.{rules, append_assoc}
use Rattle.report_text.proofs.lines.put_entry.Goals as goal

pub returns-clause-answer : goal.returns-clause-answer
returns-clause-answer g c = simp append_assoc (search rules)
