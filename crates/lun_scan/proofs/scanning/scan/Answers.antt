use Rattle.lun_scan.specs.Scans.{IsScan, unit_zero}
use Rattle.lun_scan.proofs.Heard.{unless_says, probed_says_no_memory}
use Rattle.lun_scan.proofs.scanning.scan.Goals as goal

pub returns-clause-scan : goal.returns-clause-scan
returns-clause-scan g c =
    unless_says (IsScan (g.A.HostTemplate.stands c.args.lower.now) (g.A.HostTemplate.stands c.ask.new.lower) g.A.HostTemplate.data_in (unit_zero c.args.channel c.args.target) c.ask.new.into)
    c.ask.result c.ask.ensures.scan

pub returns-clause-memory : goal.returns-clause-memory
returns-clause-memory g c =
    λ none. absurd (probed_says_no_memory (g.A.HostTemplate.stands c.args.lower.now) (g.A.HostTemplate.stands c.ask.new.lower) g.A.HostTemplate.data_in (unit_zero c.args.channel c.args.target) c.ask.new.into
    c.ask.result c.ask.ensures.scan none)
