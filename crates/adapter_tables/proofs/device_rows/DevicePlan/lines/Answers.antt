use Rattle.std.proofs.Common.{ap}
use Rattle.fault_plan.specs.Lines.{lines_in}
use Rattle.fault_plan.specs.declared.class.Class.TheVariants.{Queue, Time, Answer}
use Rattle.adapter_tables.specs.Plans.{Parts}
use Rattle.adapter_tables.proofs.PlanParts.{class_lines, not_queued, rest_lines}
use Rattle.adapter_tables.proofs.device_rows.DevicePlan.lines.Goals as goal

pub returns-in-Queue : goal.returns-in-Queue
returns-in-Queue c = λ plan d n has. rw c.in-Queue.is (class_lines plan (lines_in c.args.self.now.queue) d Queue n (ap (λ (x : Parts). x.0) has))

pub returns-in-Time : goal.returns-in-Time
returns-in-Time c = λ plan d n has. rw c.in-Time.is (class_lines plan (lines_in c.args.self.now.time) d Time n (ap (λ (x : Parts). x.1) has))

pub returns-in-Answer : goal.returns-in-Answer
returns-in-Answer c = λ plan d n has. rw c.in-Answer.is (class_lines plan (lines_in c.args.self.now.answer) d Answer n (ap (λ (x : Parts). x.2) has))

pub returns-in_default : goal.returns-in_default
returns-in_default c = λ plan d n has. rest_lines plan (lines_in c.args.self.now.rest) d c.args.class n (not_queued c.args.class c.in_default.not-Queue c.in_default.not-Time c.in_default.not-Answer) (ap (λ (x : Parts). x.3) has)
