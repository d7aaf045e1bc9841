use Rattle.std.proofs.Common.{◌≡◌, [], List, map, sym, ◌∙◌, subst}
use Rattle.mid_base.specs.declared.host_spec.HostSpec.{HostSpec}
use Rattle.mid_base.specs.Limits.{KeepsLimits}
use Rattle.host_template.specs.Standing.{Before}
use Rattle.debug_adapter.specs.Adapter.{AdapterStands}
use Rattle.host_scan.specs.Found.{found, probed_before}
use Rattle.host_scan.proofs.Scanned.{host_is, probes_are}
use Rattle.host_scan.proofs.Starts.{found_keeps, found_stands}
use Rattle.host_scan.proofs.host.scan_host.Goals as goal

pub returns-clause-spec : goal.returns-clause-spec
returns-clause-spec c =
    host_is c.args.spec c.args.devices.now c.deref-2.result.now c.in_ok-spec.spec (c.deref-2.ensures.value ∙ c.in_ok-findings.ensures.found) c.in_ok-spec.ensures

pub returns-clause-before : goal.returns-clause-before
returns-clause-before c =
    probes_are c.args.spec c.args.devices.now c.deref.result.now c.from_vec-before.result (c.deref.ensures.value ∙ c.in_ok-findings.ensures.found)
    (c.from_vec-before.ensures ∙ c.in_ok-probes_told.ensures)

pub returns-clause-limits : goal.returns-clause-limits
returns-clause-limits c =
    let same = host_is c.args.spec c.args.devices.now c.deref-2.result.now c.in_ok-spec.spec (c.deref-2.ensures.value ∙ c.in_ok-findings.ensures.found) c.in_ok-spec.ensures in
    subst KeepsLimits (sym same) (found_keeps c.args.devices.now c.args.spec c.requires)

pub returns-clause-stands : goal.returns-clause-stands
returns-clause-stands c =
    let ds = c.args.devices.now in
    let s = c.args.spec in
    let x = c.scan_targets.new.lower in
    let same = host_is s ds c.deref-2.result.now c.in_ok-spec.spec (c.deref-2.ensures.value ∙ c.in_ok-findings.ensures.found) c.in_ok-spec.ensures in
    let counts = probes_are s ds c.deref.result.now c.from_vec-before.result (c.deref.ensures.value ∙ c.in_ok-findings.ensures.found) (c.from_vec-before.ensures ∙ c.in_ok-probes_told.ensures) in
    subst (λ (h : HostSpec). AdapterStands x h c.from_vec-before.result []) (sym same)
    (subst (λ (b : Before). AdapterStands x (found ds s) b []) (sym counts) (found_stands x ds s (probed_before ds s) c.in_ok-findings.ensures.stands))
