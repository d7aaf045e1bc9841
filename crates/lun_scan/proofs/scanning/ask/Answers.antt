use Rattle.std.proofs.Common.{sym}
use Rattle.lun_scan.proofs.Heard.{stopped, says_heard}
use Rattle.lun_scan.proofs.scanning.ask.Goals as goal

pub returns-in-None-clause-scan : goal.returns-in-None-clause-scan
returns-in-None-clause-scan g c =
    says_heard (g.A.HostTemplate.stands c.args.lower.now) (g.A.HostTemplate.stands c.inquire-first.new.lower) (g.A.HostTemplate.stands c.report_list-second.new.lower)
    g.A.HostTemplate.data_in c.args.dev c.inquire-first.result c.report_list-second.result c.report_list-second.new.into c.taken_by.result.now c.answer_of.result
    (sym c.in-None.ensures) c.inquire-first.ensures.stands c.report_list-second.ensures.stands c.report_list-second.ensures.given c.taken_by.ensures.bytes c.answer_of.ensures

pub returns-in-Some-clause-scan : goal.returns-in-Some-clause-scan
returns-in-Some-clause-scan g c =
    stopped (g.A.HostTemplate.stands c.args.lower.now) (g.A.HostTemplate.stands c.inquire-first.new.lower) g.A.HostTemplate.data_in c.args.dev c.inquire-first.result c.inquire-first.new.into c.in-Some.fault
    (sym c.in-Some.ensures) c.inquire-first.ensures.stands
