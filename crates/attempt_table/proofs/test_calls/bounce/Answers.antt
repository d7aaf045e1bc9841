use Rattle.std.proofs.Common.{◌∷◌}
use Rattle.mid_base.specs.declared.answers.BusyOf.TheVariants.{Host}
use Rattle.mid_base.specs.declared.entries.Entry.TheVariants.{Bounced}
use Rattle.attempt_table.proofs.test_calls.bounce.Goals as goal

pub returns-in-Some : goal.returns-in-Some
returns-in-Some c = record {
  spec = c.requires.spec;
  entries = Bounced (record { 0 = 0 }) c.args.n Host ∷ c.requires.entries;
  agrees = c.bounce.ensures.tells c.requires.spec c.requires.entries (record { 0 = 0 }) Host c.requires.agrees;
}
