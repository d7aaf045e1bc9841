use Rattle.std.proofs.Common.{◌≡◌, ◌∙◌, ap, List, length, ◌<◌, ◌+◌, arith}
use Rattle.timer_list.specs.Timers.{Timer, deadline_of}
use Rattle.deadline_table.proofs.tests.send_two.Goals as goal

pub send-requires-clause-absent : goal.send-requires-clause-absent
send-requires-clause-absent c = ap (deadline_of 2) c.requires.none

pub send-requires-clause-room : goal.send-requires-clause-room
send-requires-clause-room c = omega (arith, ap (λ (ts : List Timer). length ts) c.requires.none, c.requires.room)

pub send-requires-2-clause-absent : goal.send-requires-2-clause-absent
send-requires-2-clause-absent c = c.send.ensures.timers 1 ∙ ap (deadline_of 1) c.requires.none

pub send-requires-2-clause-room : goal.send-requires-2-clause-room
send-requires-2-clause-room c = omega (arith, ap (λ (ts : List Timer). length ts) c.requires.none, c.send.ensures.count, c.send.ensures.most, c.requires.room)
