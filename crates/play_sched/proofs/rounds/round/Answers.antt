use Rattle.play_sched.proofs.Joined.{rests_on, round_of}
use Rattle.play_sched.proofs.Walk.{goes_more}
use Rattle.play_sched.proofs.rounds.round.Goals as goal

pub returns-clause-made : goal.returns-clause-made
returns-clause-made c =
    let a = c.args.host.now in
    let b = c.take_up.new.host in
    let d = c.answer.new.host in
    let e = c.recover.new.host in
    let g = c.in_ok-take_up.ensures.goes in
    let h = goes_more a b d g c.in_ok-answer.ensures.goes in
    let k = goes_more a d e h c.in_ok-recover.ensures.goes in
    round_of a b d e c.go_on.new.host g h k c.in_ok-take_up.ensures.made c.in_ok-answer.ensures.made c.in_ok-recover.ensures.made c.in_ok-go_on.ensures.made

pub returns-clause-goes : goal.returns-clause-goes
returns-clause-goes c =
    let a = c.args.host.now in
    let b = c.take_up.new.host in
    let d = c.answer.new.host in
    let e = c.recover.new.host in
    goes_more a e c.go_on.new.host (goes_more a d e (goes_more a b d c.in_ok-take_up.ensures.goes c.in_ok-answer.ensures.goes) c.in_ok-recover.ensures.goes) c.in_ok-go_on.ensures.goes

pub returns-clause-rest : goal.returns-clause-rest
returns-clause-rest c =
    let b = c.take_up.new.host in
    let d = c.answer.new.host in
    let e = c.recover.new.host in
    let last = c.go_on.new.host in
    rests_on c.take_up.new.rest b last (goes_more b e last (goes_more b d e c.in_ok-answer.ensures.goes c.in_ok-recover.ensures.goes) c.in_ok-go_on.ensures.goes) c.in_ok-take_up.ensures.rest
