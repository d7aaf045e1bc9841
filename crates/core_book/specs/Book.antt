-- What contracts see of a journal.
use Rattle.std.specs.Prelude.{ℕ, List}
use Rattle.mid_base.specs.declared.entries.Entry.{Entry}

-- the journal, and for how many more entries there is room
pub record Book : Type 0 where
  pub entries : List Entry
  pub spare : ℕ
