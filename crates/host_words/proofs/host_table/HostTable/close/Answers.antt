use Rattle.std.proofs.Common.{◌≡◌, sym, ap, ◌∙◌, subst, length, Some, arith}
use Rattle.host_words.specs.Journals.{IsPrefix}
use Rattle.host_words.specs.Places.{AreApart}
use Rattle.host_words.specs.Views.{origin_by}
use Rattle.host_words.specs.Owners.{OwnersAgree}
use Rattle.host_words.proofs.Turning.{hands_out}
use Rattle.host_words.proofs.host_table.HostTable.close.Goals as goal

pub unreachable-requires : goal.unreachable-requires
unreachable-requires g c =
    let x = hands_out _ _ _ _ _ _ _ _ _ _ c.close_with-closed.ensures.values.2 c.requires.share c.requires.away c.take-found.ensures.value in
    c.in_default.not-Some x.0 x.1

pub returns-clause-origin : goal.returns-clause-origin
returns-clause-origin g c =
    let x = hands_out _ _ _ _ _ _ _ _ _ _ c.close_with-closed.ensures.values.2 c.requires.share c.requires.away c.take-found.ensures.value in
    let same : c.in-Some.state ≡ x.0 = let e : Some c.in-Some.state ≡ Some x.0 = sym c.in-Some.is ∙ x.1 in cc in
    ap (origin_by g.S.Booked.spec g.S.Booked.before) same ∙ x.2

pub returns-clause-seat : goal.returns-clause-seat
returns-clause-seat g c =
    let x = hands_out _ _ _ _ _ _ _ _ _ _ c.close_with-closed.ensures.values.2 c.requires.share c.requires.away c.take-found.ensures.value in
    let same : c.in-Some.state ≡ x.0 = let e : Some c.in-Some.state ≡ Some x.0 = sym c.in-Some.is ∙ x.1 in cc in
    ap Some (ap (origin_by g.S.Booked.spec g.S.Booked.before) same ∙ x.2) ∙ sym x.6

pub returns-clause-later : goal.returns-clause-later
returns-clause-later g c =
    let x = hands_out _ _ _ _ _ _ _ _ _ _ c.close_with-closed.ensures.values.2 c.requires.share c.requires.away c.take-found.ensures.value in
    let same : c.in-Some.state ≡ x.0 = let e : Some c.in-Some.state ≡ Some x.0 = sym c.in-Some.is ∙ x.1 in cc in
    subst (λ (s : g.row.S.Denot). IsPrefix c.args.seat.seat.me.0.seen (g.S.Booked.journal s)) (sym same) x.3

pub returns-clause-owners : goal.returns-clause-owners
returns-clause-owners g c =
    let x = hands_out _ _ _ _ _ _ _ _ _ _ c.close_with-closed.ensures.values.2 c.requires.share c.requires.away c.take-found.ensures.value in
    let same : c.in-Some.state ≡ x.0 = let e : Some c.in-Some.state ≡ Some x.0 = sym c.in-Some.is ∙ x.1 in cc in
    subst (λ (s : g.row.S.Denot). OwnersAgree c.args.seat.seat.me.0 (g.S.Booked.journal s)) (sym same) x.4

pub returns-clause-once : goal.returns-clause-once
returns-clause-once g c = (hands_out _ _ _ _ _ _ _ _ _ _ c.close_with-closed.ensures.values.2 c.requires.share c.requires.away c.take-found.ensures.value).5

pub returns-clause-tags : goal.returns-clause-tags
returns-clause-tags g c =
    let x = hands_out _ _ _ _ _ _ _ _ _ _ c.close_with-closed.ensures.values.2 c.requires.share c.requires.away c.take-found.ensures.value in
    let same : c.in-Some.state ≡ x.0 = let e : Some c.in-Some.state ≡ Some x.0 = sym c.in-Some.is ∙ x.1 in cc in
    let size = ap (λ (s : g.row.S.Denot). length (g.S.Booked.tags s)) same ∙ x.7 in
    omega (arith, size, c.args.self.sizes.0)

pub returns-clause-places : goal.returns-clause-places
returns-clause-places g c =
    let x = hands_out _ _ _ _ _ _ _ _ _ _ c.close_with-closed.ensures.values.2 c.requires.share c.requires.away c.take-found.ensures.value in
    let same : c.in-Some.state ≡ x.0 = let e : Some c.in-Some.state ≡ Some x.0 = sym c.in-Some.is ∙ x.1 in cc in
    subst (λ (s : g.row.S.Denot). AreApart c.args.seat.seat.me.0.mine (length (g.S.Booked.journal s))) (sym same) x.8
