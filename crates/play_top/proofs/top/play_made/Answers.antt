use Rattle.play_top.proofs.Made.{made_cut}
use Rattle.play_top.proofs.top.play_made.Goals as goal

pub returns-in-Err-Fault-clause-cut : goal.returns-in-Err-Fault-clause-cut
returns-in-Err-Fault-clause-cut g c =
    let played = c.in-Ok.played in
    λ e. made_cut c.args.count played.hosts.items played.skips.items played.short _ _ _ _ c.in-Err-Fault.field-0 c.in-Ok.ensures c.in-Err-Fault.ensures.answer

pub returns-in-Ok-clause-memory : goal.returns-in-Ok-clause-memory
returns-in-Ok-clause-memory g c =
    let played = c.in-Ok.played in
    λ e. made_cut c.args.count played.hosts.items played.skips.items played.short _ _ _ _ c.in-Err-NoMemory.field-0 c.in-Ok.ensures c.in-Err-NoMemory.ensures.answer
