use Rattle.owner_laws.proofs.Turned.{in_turned, in_unturned, turned_place}
use Rattle.owner_laws.proofs.laws.looking_back_turns_a_journal_round.Goals as goal

pub returns-clause-entries : goal.returns-clause-entries
returns-clause-entries c = λ journal e. (in_turned e journal, in_unturned e journal)

pub returns-clause-places : goal.returns-clause-places
returns-clause-places c = λ before after e. turned_place before after e
