use Rattle.std.proofs.Common.{rules, ◌+◌, ap, ◌≡◌, ◌∙◌, sym, []}
use Rattle.atomic_table.specs.Seated.{TableId}
use Rattle.host_words.specs.Carried.{carried}
use Rattle.host_words.specs.Views.{turn_of}
use Rattle.host_words.proofs.Turning.{seals, ends}
use Rattle.host_words.proofs.host_table.HostTable.leave.Goals as goal

pub load-requires : goal.load-requires
load-requires g c = (search rules, search rules, seals _ _ _ _ _ _ _ _ c.requires.turn.0 (turn_of c.args.seat.now.seat.me.0.stage) c.args.state (search rules) (search rules))

pub fetch_add-requires : goal.fetch_add-requires
fetch_add-requires g c = (search rules, search rules, ends _ _ _ _ _ _ _ _ c.requires.turn.0 (turn_of c.args.seat.now.seat.me.0.stage) c.args.state (search rules) (search rules) (search rules) (search rules) c.requires.may)

pub invariant_of-seat : goal.invariant_of-seat
invariant_of-seat g c =
    let is = c.requires.turn in
    let sealed = c.load.ensures.2.1 is.0 (turn_of c.args.seat.now.seat.me.0.stage) c.args.state (search rules) (search rules) in
    let ended = c.fetch_add.ensures.2.1 is.0 (turn_of c.args.seat.now.seat.me.0.stage) _ (ap (λ v. v.stage) sealed) in
    let share : c.fetch_add.new.seat.me.0.share ≡ c.args.seat.now.seat.me.0.share = ap (λ v. v.share) ended ∙ (ap (λ v. v.share) sealed ∙ ap (λ m. m.0.share) c.exchange-old.ensures.3) in
    let empty : c.fetch_add.new.seat.me.1 ≡ [] = search rules in
    let tags : c.fetch_add.new.seat.me.0.tags ≡ c.args.seat.now.seat.me.0.tags = ap (λ v. v.tags) ended ∙ (ap (λ v. v.tags) sealed ∙ ap (λ m. m.0.tags) c.exchange-old.ensures.3) in
    let same : c.fetch_add.new.seat.table_id ≡ c.args.seat.now.seat.table_id = search rules in
    record {
      carries = empty ∙ sym (ap carried (ap (λ v. v.stage) ended));
      has_share = λ e. c.args.seat.now.has_share (sym share ∙ e);
      fits_table = ap (λ n. n + 2) tags ∙ (c.args.seat.now.fits_table ∙ sym (ap (λ (i : TableId). i.words) same));
    }
