use Rattle.std.proofs.Common.{rules, ◌+◌, ap, ◌∙◌, sym, refl}
use Rattle.atomic_table.specs.Seated.{TableId}
use Rattle.host_words.specs.Carried.{carried}
use Rattle.host_words.specs.Views.{turn_of}
use Rattle.host_words.proofs.Owning.{from_slice}
use Rattle.host_words.proofs.Turning.{arms}
use Rattle.host_words.proofs.host_table.HostTable.arm.Goals as goal

pub swap-requires : goal.swap-requires
swap-requires g c = (search rules, search rules, rw c.armed_number.ensures (arms _ _ _ _ _ _ _ _ c.args.t.0 c.args.n c.requires.turn.0 (turn_of c.args.seat.now.seat.me.0.stage) c.requires.turn.1 (from_slice (turn_of c.args.seat.now.seat.me.0.stage).hand c.args.t.0 _ c.requires.free) c.requires.fresh))

pub invariant_of-seat : goal.invariant_of-seat
invariant_of-seat g c =
    let is = c.requires.turn in
    let known = c.swap.ensures.2.1 c.args.t.0 c.args.n is.0 (turn_of c.args.seat.now.seat.me.0.stage) is.1 refl c.armed_number.ensures in
    record {
      carries = c.swap.ensures.2.0 ∙ (c.args.seat.now.carries ∙ (ap carried is.1 ∙ sym (ap carried (ap (λ v. v.stage) known))));
      has_share = λ e. c.args.seat.now.has_share (sym (ap (λ v. v.share) known) ∙ e);
      fits_table = ap (λ v. v.tags + 2) known ∙ (c.args.seat.now.fits_table ∙ sym (ap (λ (i : TableId). i.words) c.swap.ensures.0));
    }
