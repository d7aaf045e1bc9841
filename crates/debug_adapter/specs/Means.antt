-- What an adapter means by itself: it is honest, and tells the attempts that it holds.
use Rattle.std.specs.Prelude.{ℕ, true, map}
use Rattle.slab.specs.Slab.{Slab, values}
use Rattle.mid_base.specs.declared.names.DevAddr.{DevAddr}
use Rattle.host_template.specs.Meaning.{Meaning}
use Rattle.adapter_tables.specs.declared.held.Held.{Held}

abbrev pub pair_of : Held → ℕ × DevAddr
pair_of h = (h.n.0, h.dev)

abbrev pub means_of : Slab Held → Meaning
means_of t = record { honest = true; tells = true; holds = map pair_of (values t) }
