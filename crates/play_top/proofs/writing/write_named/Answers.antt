use Rattle.std.proofs.Common.{◌+◌, ap, arith, drop, get_or, take}
use Rattle.std.specs.List.{flat_map}
use Rattle.report_text.proofs.Parts.{parts_at}
use Rattle.report_text.proofs.Written.{errs_as}
use Rattle.play_top.specs.Texts.{named_text}
use Rattle.play_top.proofs.writing.write_named.Goals as goal

pub returns-in-Err-clause-answer : goal.returns-in-Err-clause-answer
returns-in-Err-clause-answer g c =
    let part = named_text c.args.number in
    let hosts = c.args.hosts.now in
    let i = c.loop-host.host-index in
    let host = c.host-item.result in
    errs_as _ _ _ (flat_map part (take i hosts)) (part (get_or hosts i host)) (part host) (flat_map part (drop (i + 1) hosts)) (flat_map part hosts) _ _ _ _
    c.loop-host.invariant.out (parts_at part hosts i host (omega arith)) c.loop-host.invariant.later (ap part c.host-item.is) c.in-Err.ensures.answer
