use Rattle.std.proofs.Common.{◌∷◌, true, refl}
use Rattle.mid_base.specs.declared.entries.Entry.TheVariants.{Failed}
use Rattle.attempt_table.proofs.test_calls.settle.Goals as goal

pub returns-in-Some : goal.returns-in-Some
returns-in-Some c = record {
  spec = c.requires.spec;
  entries = Failed (record { 0 = 0 }) c.args.n true ∷ c.requires.entries;
  agrees = c.settle.ensures.tells c.requires.spec c.requires.entries (Failed (record { 0 = 0 }) c.args.n true) refl c.requires.agrees;
}
