use Rattle.std.proofs.Common.{◌≡◌, inl}
use Rattle.mid_base.specs.declared.answers.TagState.TheVariants as tag
use Rattle.mid_base.specs.declared.entries.Entry.TheVariants.{Owned}
use Rattle.host_words.specs.Seats.{view}
use Rattle.host_words.specs.Words.{claimed_word}
use Rattle.host_tests.proofs.Entering.{shown_claim, may_release, may_stay, in_on}
use Rattle.host_tests.proofs.Owners.{left_is}
use Rattle.host_tests.proofs.settling.freed.Goals as goal

pub released-requires-clause-shown : goal.released-requires-clause-shown
released-requires-clause-shown g c =
    let word : c.found-desk.result.1 ≡ claimed_word c.args.n c.args.by = c.found-desk.ensures.looks.fits (tag.Owned c.args.n c.args.by) (left_is c.args.n c.args.by _ c.if-free.ensures.frees.0) in
    shown_claim (view c.args.seat.now) (view c.found-desk.new.seat) c.found-desk.ensures.turn.0 _ _ c.args.t.0 c.args.n c.args.by _ c.found-desk.ensures.turn.1 word

pub leave-requires-clause-may : goal.leave-requires-clause-may
leave-requires-clause-may g c =
    let word : c.found-desk.result.1 ≡ claimed_word c.args.n c.args.by = c.found-desk.ensures.looks.fits (tag.Owned c.args.n c.args.by) (left_is c.args.n c.args.by _ c.if-free.ensures.frees.0) in
    let stood = in_on (Owned c.args.n c.args.by) _ _ c.found-desk.ensures.later c.requires.owner in
    may_release (view c.args.seat.now) (view c.found-desk.new.seat) (view c.released.new.seat) c.found-desk.ensures.turn.0 c.released.ensures.1.0 _ _ _ _ c.args.t.0 c.args.n c.args.by _ c.found-desk.ensures.turn.1 c.released.ensures.1.2 word (inl (stood, c.if-free.ensures.rest.1)) c.if-free.ensures.frees.1

pub leave-requires-else-free-clause-may : goal.leave-requires-else-free-clause-may
leave-requires-else-free-clause-may g c = may_stay (view c.args.seat.now) (view c.found-desk.new.seat) c.found-desk.ensures.turn.0 _ _ _ _ _ _ c.found-desk.ensures.turn.1 c.if-free.ensures.rest.1 c.if-free.ensures.frees.1
