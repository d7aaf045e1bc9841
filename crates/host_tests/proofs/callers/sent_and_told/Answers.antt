use Rattle.std.proofs.Common.{rules}
use Rattle.mid_base.specs.declared.answers.By.TheVariants.{Answer}
use Rattle.host_words.specs.Journals.{HasSent}
use Rattle.host_words.specs.Seats.{view}
use Rattle.host_words.proofs.Owning.{sent_on, cause_on}
use Rattle.host_tests.proofs.Turns.{goes_nowhere, turned_on, turned_seen}
use Rattle.host_tests.proofs.callers.sent_and_told.Goals as goal

pub returns-in_err-n-clause-back : goal.returns-in_err-n-clause-back
returns-in_err-n-clause-back g c = (search rules, turned_on _ _ _ (goes_nowhere _ c.requires.1) c.sent.ensures.turn)

pub returns-in_default-clause-back : goal.returns-in_default-clause-back
returns-in_default-clause-back g c = (search rules, turned_on _ _ _ (goes_nowhere _ c.requires.1) c.sent.ensures.turn)

pub returns-in_err-answered-clause-back : goal.returns-in_err-answered-clause-back
returns-in_err-answered-clause-back g c = (search rules, turned_on _ _ _ (turned_on _ _ _ (goes_nowhere _ c.requires.1) c.sent.ensures.turn) c.answered.ensures.turn)

pub overdue-requires-clause-sent : goal.overdue-requires-clause-sent
overdue-requires-clause-sent g c =
    let has : HasSent (view c.sent.new.seat).seen c.args.t.0 c.in-Some.n = search rules in
    sent_on (view c.sent.new.seat).seen (view c.answered.new.seat).seen c.args.t.0 c.in-Some.n (turned_seen _ _ c.answered.ensures.turn) has

pub returns-in_err-overdue-clause-back : goal.returns-in_err-overdue-clause-back
returns-in_err-overdue-clause-back g c =
    (search rules, turned_on _ _ _ (turned_on _ _ _ (turned_on _ _ _ (goes_nowhere _ c.requires.1) c.sent.ensures.turn) c.answered.ensures.turn) c.overdue.ensures.turn)

pub returns-clause-back : goal.returns-clause-back
returns-clause-back g c =
    (search rules, turned_on _ _ _ (turned_on _ _ _ (turned_on _ _ _ (goes_nowhere _ c.requires.1) c.sent.ensures.turn) c.answered.ensures.turn) c.overdue.ensures.turn)

pub returns-clause-told : goal.returns-clause-told
returns-clause-told g c = (
  search rules,
  (
    cause_on (view c.answered.new.seat).seen (view c.overdue.new.seat).seen c.args.t.0 c.in-Some.n Answer (turned_seen _ _ c.overdue.ensures.turn) c.in_ok-answered.ensures.cause,
    c.in_ok-overdue.ensures.cause,
  ),
)
