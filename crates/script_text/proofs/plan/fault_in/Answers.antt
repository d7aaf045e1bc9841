-- What a kind's own values give, at each line and host.
use Rattle.std.proofs.Common.{arith}
use Rattle.std.proofs.lemmas.Grind.{common_steps}
use Rattle.script_text.proofs.plan.fault_in.Goals as goal

pub returns-in-Latency : goal.returns-in-Latency
returns-in-Latency c = λ said host. rw c.in-Latency.is (c.latency_in.ensures said host)

pub returns-in-Raw : goal.returns-in-Raw
returns-in-Raw c = λ said host. rw c.in-Raw.is (c.raw_in.ensures said host)

pub returns-in-Status : goal.returns-in-Status
returns-in-Status c = λ said host. rw c.in-Status.is (c.status_in.ensures said host)

pub returns-in_err-key-in-Check : goal.returns-in_err-key-in-Check
returns-in_err-key-in-Check c = λ said host. grind (arith, common_steps, c.codes_in.ensures said host)

pub returns-in_ok-key-in-Check : goal.returns-in_ok-key-in-Check
returns-in_ok-key-in-Check c = λ said host. grind (arith, common_steps, c.codes_in.ensures said host)

pub returns-in_err-key-in-NoSense : goal.returns-in_err-key-in-NoSense
returns-in_err-key-in-NoSense c = λ said host. grind (arith, common_steps, c.codes_in-in-NoSense.ensures said host)

pub returns-in_ok-key-in-NoSense : goal.returns-in_ok-key-in-NoSense
returns-in_ok-key-in-NoSense c = λ said host. grind (arith, common_steps, c.codes_in-in-NoSense.ensures said host)
