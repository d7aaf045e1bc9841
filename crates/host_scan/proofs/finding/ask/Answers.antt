use Rattle.std.proofs.Common.{◌≡◌, ℕ, [], List, sym, ◌∙◌, subst}
use Rattle.host_scan.specs.declared.finding.Finding.{Finding}
use Rattle.host_scan.specs.Findings.{ScansTo}
use Rattle.host_scan.proofs.Asked.{scanned_err, scanned_ok}
use Rattle.host_scan.proofs.finding.ask.Goals as goal

pub returns-in-Ok : goal.returns-in-Ok
returns-in-Ok c =
    let s = c.args.spec.now in
    let t = c.args.target in
    subst (λ (ns : List ℕ). ScansTo s c.args.lower.now c.scan.new.lower t (record { target = t; probes = 2; numbers = ns })) (sym c.from_vec.ensures)
    (scanned_ok s t c.args.lower.now c.scan.new.lower c.scan.new.into c.in-Ok.numbers.items c.requires.limits c.requires.unit c.in-Ok.ensures.scan)

pub returns-in-Some : goal.returns-in-Some
returns-in-Some c =
    let s = c.args.spec.now in
    let t = c.args.target in
    subst (λ (ns : List ℕ). ScansTo s c.args.lower.now c.scan.new.lower t (record { target = t; probes = c.in-Some.probes; numbers = ns })) (sym c.new.ensures)
    (scanned_err s t c.args.lower.now c.scan.new.lower c.scan.new.into c.in-Err.fault c.in-Some.probes c.requires.limits c.requires.unit (sym c.probes_until.ensures ∙ c.in-Some.is) c.in-Err.ensures.scan)
