use Rattle.std.proofs.Common.{rules, ◌≡◌, ◌+◌, ap, ◌∙◌, sym, subst, ◌∷◌, List, length, ℕ, Some, arith}
use Rattle.mid_base.specs.declared.entries.Entry.TheVariants.{Owned}
use Rattle.atomic_table.specs.Seated.{TableId}
use Rattle.atomic_table.specs.Table.{rest}
use Rattle.host_words.specs.declared.view.View.{View}
use Rattle.host_words.specs.Journals.{In}
use Rattle.host_words.specs.Places.{AreApart}
use Rattle.host_words.specs.Views.{win}
use Rattle.host_words.proofs.Turning.{draws, looks}
use Rattle.host_words.proofs.host_table.HostTable.enter.Goals as goal

first_same : {A : Type 0} (a b : A) (xs ys : List (ℕ × A)) → (0, a) ∷ xs ≡ (0, b) ∷ ys → a ≡ b
first_same {A} a b xs ys e = let p : ◌≡◌ {A = ℕ × A} (0, a) (0, b) = cc in ap (λ z. z.1) p

some_same : {A : Type 0} (a b : A) → Some a ≡ Some b → a ≡ b
some_same a b e = cc

pub fetch_add-ticket-requires : goal.fetch_add-ticket-requires
fetch_add-ticket-requires g c = (search rules, search rules, draws _ _ _ _ _ _ _ _ c.requires.away c.args.seat.now.has_share)

pub load-requires : goal.load-requires
load-requires g c = let t = c.loop.invariant.2 in (search rules, search rules, looks _ _ _ _ _ _ _ _ t.0 (ap (λ v. v.stage) t.2) (search rules))

pub exchange-found-requires : goal.exchange-found-requires
exchange-found-requires g c =
    let t = c.loop.invariant.2 in
    let x = (c.load.ensures.2 t.0 (ap (λ v. v.stage) t.2)).0 (c.if-load-ticket.true ∙ t.1) in
    (search rules, (Some x.0, x.1 ∙ ap (λ l. (0, Some x.0) ∷ l) (c.loop.invariant.1 ∙ sym (ap rest (x.1 ∙ ap (λ l. (0, Some x.0) ∷ l) c.loop.invariant.1)))))

pub returns-then-load-ticket-clause-owners : goal.returns-then-load-ticket-clause-owners
returns-then-load-ticket-clause-owners g c t n by b h h' =
    let i = c.loop.invariant.2 in
    let x = (c.load.ensures.2 i.0 (ap (λ v. v.stage) i.2)).0 (c.if-load-ticket.true ∙ i.1) in
    let both : (0, c.exchange-found.result) ∷ rest c.load.new.seat.me.1 ≡ (0, Some x.0) ∷ c.loop.seat.seat.me.1 = sym c.exchange-found.ensures.2 ∙ x.1 in
    let same : c.in-Some-found.state ≡ x.0 = some_same _ _ (sym c.in-Some-found.is ∙ first_same _ _ _ _ both) in
    x.5 t n by b (subst (In (win t n by)) (sym (ap (λ v. v.wins) i.2)) h) (subst (λ (s : g.row.S.Denot). In (Owned n b) (g.S.Booked.journal s)) same h')

pub returns-then-load-ticket-clause-tags : goal.returns-then-load-ticket-clause-tags
returns-then-load-ticket-clause-tags g c =
    let i = c.loop.invariant.2 in
    let x = (c.load.ensures.2 i.0 (ap (λ v. v.stage) i.2)).0 (c.if-load-ticket.true ∙ i.1) in
    let both : (0, c.exchange-found.result) ∷ rest c.load.new.seat.me.1 ≡ (0, Some x.0) ∷ c.loop.seat.seat.me.1 = sym c.exchange-found.ensures.2 ∙ x.1 in
    let same : c.in-Some-found.state ≡ x.0 = some_same _ _ (sym c.in-Some-found.is ∙ first_same _ _ _ _ both) in
    let size = ap (λ (s : g.row.S.Denot). length (g.S.Booked.tags s)) same ∙ (x.6 ∙ ap (λ v. v.tags) i.2) in
    let words = ap (λ (k : TableId). k.words) c.requires.table in
    omega (arith, size, words, c.args.seat.now.fits_table)

pub returns-then-load-ticket-clause-places : goal.returns-then-load-ticket-clause-places
returns-then-load-ticket-clause-places g c =
    let i = c.loop.invariant.2 in
    let x = (c.load.ensures.2 i.0 (ap (λ v. v.stage) i.2)).0 (c.if-load-ticket.true ∙ i.1) in
    let both : (0, c.exchange-found.result) ∷ rest c.load.new.seat.me.1 ≡ (0, Some x.0) ∷ c.loop.seat.seat.me.1 = sym c.exchange-found.ensures.2 ∙ x.1 in
    let same : c.in-Some-found.state ≡ x.0 = some_same _ _ (sym c.in-Some-found.is ∙ first_same _ _ _ _ both) in
    subst (λ (s : g.row.S.Denot). AreApart c.args.seat.now.seat.me.0.mine (length (g.S.Booked.journal s))) (sym same) (subst (λ (v : View). AreApart v.mine (length (g.S.Booked.journal x.0))) i.2 x.7)
