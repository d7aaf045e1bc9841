use Rattle.std.proofs.Common.{sym, ap, ◌∙◌}
use Rattle.mid_base.specs.declared.names.DevAddr.{DevAddr}
use Rattle.mid_base.specs.Address.{has_dev}
use Rattle.host_scan.proofs.Asked.{unasked}
use Rattle.host_scan.proofs.finding.scan_target.Goals as goal

pub returns-else-has_unit : goal.returns-else-has_unit
returns-else-has_unit c =
    unasked c.args.spec.now c.args.target c.args.lower.now c.new.result
    (ap (λ (d : DevAddr). has_dev c.args.spec.now.luns d) (sym c.zero.ensures) ∙ (sym c.has_unit.ensures ∙ c.if-has_unit.false)) c.new.ensures
