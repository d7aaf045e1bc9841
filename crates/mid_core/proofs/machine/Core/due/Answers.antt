use Rattle.std.proofs.Common.{reverse, ◌∙◌, ap, refl, List, [], ◌∷◌}
use Rattle.mid_base.specs.declared.entries.Entry.{Entry}
use Rattle.mid_base.specs.Past.{ticks}
use Rattle.mid_core.proofs.Asked.{still_asked}
use Rattle.mid_core.proofs.Groups.{group_asked, added_asked, nothing_bars_asking, opens_asked, asked_enters}
use Rattle.mid_core.proofs.Staged.{asked_keeps}
use Rattle.mid_core.proofs.Holding.{asked_does}
use Rattle.mid_core.proofs.Growing.{core_grows, added, back}
use Rattle.mid_core.proofs.machine.Core.due.Goals as goal

pub invariant_of-self-in_err-reserve-2 : goal.invariant_of-self-in_err-reserve-2
invariant_of-self-in_err-reserve-2 g c =
    let core = c.self.invariant in
    let spec = c.self.inside.spec in
    let before = c.self.inside.before in
    let P = reverse c.self.inside.book.entries in
    let r = c.self.inside.running in
    rw (ap (λ (xs : List Entry). reverse xs) c.in_ok-reserve.ensures.entries)
    (record { legal = core.legal; stood = core.stood; right = core.right; runs = c.in_err-reserve-2.ensures.same spec P core.runs; stage = core.stage; buffer = core.buffer })

pub ask-said-requires-clause-asked : goal.ask-said-requires-clause-asked
ask-said-requires-clause-asked g c =
    let core = c.self.invariant in
    let spec = c.self.inside.spec in
    let before = c.self.inside.before in
    let P = reverse c.self.inside.book.entries in
    let r = c.self.inside.running in
    let due = c.in-Some.ensures spec P core.runs in
    let roomy = c.in_ok-reserve-2.ensures in
    λ κs sub. still_asked spec P r c.reserve-2.new.self c.in-Some.n (roomy.same spec P core.runs) roomy.deadlines roomy.ticks due.2

pub invariant_of-self-2 : goal.invariant_of-self-2
invariant_of-self-2 g c =
    let core = c.self.invariant in
    let spec = c.self.inside.spec in
    let before = c.self.inside.before in
    let P = reverse c.self.inside.book.entries in
    let r = c.self.inside.running in
    let n = c.in-Some.n in
    let due = c.in-Some.ensures spec P core.runs in
    let roomy = c.in_ok-reserve-2.ensures.same spec P core.runs in
    let said = c.ask-said.result in
    let is = c.ask-said.ensures.said in
    rw (back c.self.inside.book.entries _ _ said c.in_ok-reserve.ensures.entries c.push.ensures.entries)
    (core_grows _ _ _ _ _ _ P (said ∷ []) _ _ _ _ core (asked_keeps spec P core.legal n said is due.1) (group_asked spec P n due.1 said is)
    (c.ask-said.ensures.stands P before roomy core.stood)
    (asked_does spec P n said _ _ is c.ask-said.ensures.nature c.ask-said.ensures.honest)
    (c.ask-said.ensures.runs P roomy))

pub returns : goal.returns
returns g c =
    let core = c.self.invariant in
    let spec = c.self.inside.spec in
    let before = c.self.inside.before in
    let P = reverse c.self.inside.book.entries in
    let r = c.self.inside.running in
    let n = c.in-Some.n in
    let due = c.in-Some.ensures spec P core.runs in
    let roomy = c.in_ok-reserve-2.ensures.same spec P core.runs in
    let said = c.ask-said.result in
    let is = c.ask-said.ensures.said in
    rw (← c.self.view_is) (record {
      spec = refl;
      before = refl;
      group = said ∷ [];
      journal = added c.self.inside.book.entries _ _ said c.in_ok-reserve.ensures.entries c.push.ensures.entries;
      adds = record {
        opened = opens_asked spec P n said is;
        added = added_asked spec P n due.1 said is;
        free = nothing_bars_asking spec P due.0 (g.A.HostTemplate.is_due c.self.inside.lower (ticks P));
      };
      enters = asked_enters n said is;
      tags = c.ask-said.ensures.shown ∙ c.in_ok-reserve-2.ensures.shown;
      nature = c.ask-said.ensures.nature;
    })
