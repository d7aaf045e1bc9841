-- Between which numbers an entry hits.
use Rattle.std.specs.Prelude.{ℕ, ◌+◌, ◌*◌, ◌&&◌, Bool, nat_le}
use Rattle.mid_base.specs.declared.faults.PlanEntry.{PlanEntry}

-- it hits no number above this one
abbrev pub most_of : PlanEntry → ℕ
most_of e = e.first + e.uses * e.every

-- it hits no number below the least and none above the most
abbrev pub is_between : ℕ → ℕ → PlanEntry → Bool
is_between least most e = nat_le least e.first && nat_le (most_of e) most
