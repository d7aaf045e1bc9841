use Rattle.std.proofs.Common.{◌≡◌, ℕ, [], List, length, take, sym, ap, ◌∙◌, subst, arith, rules}
use Rattle.std.proofs.lemmas.List.{take_all}
use Rattle.debug_adapter.specs.Adapter.{AdapterStands}
use Rattle.host_scan.specs.declared.target.Target.{Target}
use Rattle.host_scan.specs.Targets.{targets_of}
use Rattle.host_scan.proofs.Order.{before_of}
use Rattle.host_scan.proofs.Scanned.{one_more}
use Rattle.host_scan.proofs.finding.scan_targets.Goals as goal

abbrev no_target : Target
no_target = record { channel = 0; target = 0 }

pub loop-target-preserved : goal.loop-target-preserved
loop-target-preserved c =
    let ts = c.deref-target-items.result.now in
    let i = c.loop-target.target-index in
    let goes = one_more c.args.spec.now c.args.devices.now ts i no_target c.loop-target.lower c.scan_target.new.lower c.in_ok-finding.finding c.loop-target.findings.items c.push.new.self.items
    (c.deref-target-items.ensures.value ∙ c.in_ok-targets.ensures) c.loop-target-test.true c.in_ok-finding.ensures (search rules) c.loop-target.invariant.found c.loop-target.invariant.stands in
    record { found = goes.found; stands = goes.stands }

pub returns-clause-stands : goal.returns-clause-stands
returns-clause-stands c =
    let ts = c.deref-target-items.result.now in
    let i = c.loop-target.target-index in
    let all : take i ts ≡ targets_of c.args.devices.now = take_all i ts (omega arith) ∙ (c.deref-target-items.ensures.value ∙ c.in_ok-targets.ensures) in
    subst (λ (us : List Target). AdapterStands c.loop-target.lower c.args.spec.now (before_of c.args.spec.now us) []) all c.loop-target.invariant.stands
