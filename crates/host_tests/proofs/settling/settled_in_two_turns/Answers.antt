use Rattle.std.proofs.Common.{rules}
use Rattle.mid_base.specs.declared.entries.Entry.TheVariants.{Owned}
use Rattle.host_words.specs.Seats.{view}
use Rattle.host_tests.specs.Entering.{Enters}
use Rattle.host_tests.proofs.Entering.{in_on, owner_seen}
use Rattle.host_tests.proofs.Turns.{turned_seen}
use Rattle.host_tests.proofs.settling.settled_in_two_turns.Goals as goal

pub freed-requires-clause-owner : goal.freed-requires-clause-owner
freed-requires-clause-owner g c =
    let enters : Enters (view c.args.seat.now) c.args.t.0 c.in-Some.n c.in-Some.by (view c.owned.new.seat) = search rules in
    owner_seen _ _ _ _ _ enters

pub returns-clause-owner : goal.returns-clause-owner
returns-clause-owner g c =
    let enters : Enters (view c.args.seat.now) c.args.t.0 c.in-Some.n c.in-Some.by (view c.owned.new.seat) = search rules in
    let adds = c.freed.ensures.adds in
    in_on (Owned c.in-Some.n c.in-Some.by) (view c.owned.new.seat).seen (view c.freed.new.seat).seen (turned_seen _ _ (adds.0, adds.0, adds.1)) (owner_seen _ _ _ _ _ enters)
