use Rattle.std.proofs.Common.{rules, ap, sym, subst}
use Rattle.host_words.specs.Journals.{Journal, IsPrefix}
use Rattle.host_words.proofs.Turning.{joins, grown_first}
use Rattle.host_words.proofs.host_table.HostTable.join.Goals as goal

pub join_seat-requires : goal.join_seat-requires
join_seat-requires g c = (search rules, search rules, search rules, search rules, joins _ _ _ _ _ _ _ _ _ c.requires.away.0 c.requires.away.1 c.args.seat.now.has_share)

pub returns-clause-later : goal.returns-clause-later
returns-clause-later g c =
    let seen = ap (λ m. m.0.seen) c.join_seat.ensures.2 in
    subst (λ (l : Journal). IsPrefix c.args.seat.now.seat.me.0.seen l) (sym seen) (grown_first _ _)
