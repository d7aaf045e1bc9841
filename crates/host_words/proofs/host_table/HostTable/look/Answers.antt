use Rattle.std.proofs.Common.{rules, ◌+◌, ◌≡◌, ap, ◌∙◌, sym, refl}
use Rattle.atomic_table.specs.Seated.{TableId}
use Rattle.host_words.specs.Carried.{carried}
use Rattle.host_words.specs.Views.{turn_of}
use Rattle.host_words.proofs.Turning.{shows_word}
use Rattle.host_words.proofs.host_table.HostTable.look.Goals as goal

pub load-requires : goal.load-requires
load-requires g c = (search rules, search rules, shows_word _ _ _ _ _ _ _ _ c.args.t.0 c.requires.turn.0 (turn_of c.args.seat.now.seat.me.0.stage) (search rules) c.requires.turn.1)

pub invariant_of-seat : goal.invariant_of-seat
invariant_of-seat g c =
    let is = c.requires.turn in
    let known = (c.load.ensures.2.1 c.args.t.0 is.0 (turn_of c.args.seat.now.seat.me.0.stage) is.1 refl).2 in
    record {
      carries = c.load.ensures.2.0 ∙ (c.args.seat.now.carries ∙ (ap carried is.1 ∙ sym (ap carried (ap (λ v. v.stage) known))));
      has_share = λ e. c.args.seat.now.has_share (sym (ap (λ v. v.share) known) ∙ e);
      fits_table = ap (λ v. v.tags + 2) known ∙ (c.args.seat.now.fits_table ∙ sym (ap (λ (i : TableId). i.words) c.load.ensures.0));
    }

pub returns-clause-turn : goal.returns-clause-turn
returns-clause-turn g c =
    let is = c.requires.turn in
    let x = c.load.ensures.2.1 c.args.t.0 is.0 (turn_of c.args.seat.now.seat.me.0.stage) is.1 refl in
    let w : c.read_word.result ≡ x.0 = c.read_word.ensures x.0 x.1 in
    (search rules, (is.0, is.1, rw w x.2))

pub returns-clause-tells : goal.returns-clause-tells
returns-clause-tells g c =
    let is = c.requires.turn in
    let x = c.load.ensures.2.1 c.args.t.0 is.0 (turn_of c.args.seat.now.seat.me.0.stage) is.1 refl in
    let w : c.read_word.result ≡ x.0 = c.read_word.ensures x.0 x.1 in
    rw w x.3
