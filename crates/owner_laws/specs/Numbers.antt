-- Which attempts a journal speaks of. The oldest entry stands first.
use Rattle.std.specs.Prelude.{ℕ, ◌≤◌, reverse}
use Rattle.mid_base.specs.declared.names.Attempt.{Attempt}
use Rattle.trace_model.specs.Attempts.{sends}
use Rattle.host_words.specs.Journals.{Journal, HasSent}

-- attempt n was sent, under one tag or another
abbrev pub WasSent : Journal → Attempt → Type 0
WasSent journal n = (t : ℕ) × HasSent journal t n

-- n is one of the numbers that were given out: from 1 on, as many as attempts were sent
abbrev pub IsNumbered : Journal → Attempt → Type 0
IsNumbered journal n = (1 ≤ n.0) × (n.0 ≤ sends (reverse journal))
