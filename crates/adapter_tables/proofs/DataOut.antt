-- What a command makes of a buffer with the data of a write in its front.
use Rattle.std.proofs.Common.{◌≡◌, ◌≤◌, ℕ, List, take, replicate, sym, ◌∙◌}
use Rattle.std.proofs.lemmas.List.{take-replicate}
use Rattle.debug_lun.specs.Units.{LogicalUnit}
use Rattle.debug_lun.specs.Commands.{data_needed}
use Rattle.debug_lun.specs.Serving.{serve}
use Rattle.debug_lun.proofs.Needed.{serve_looks}
use Rattle.adapter_tables.specs.Units.{data_out}

pub filled_serves : (u : LogicalUnit) (block luns buffer : List ℕ) (fill count : ℕ) → count ≡ data_needed block → count ≤ 131072 → take count buffer ≡ replicate count fill
    → serve u block luns buffer ≡ serve u block luns (data_out fill)
filled_serves u block luns buffer fill count is few front =
    let same : take count buffer ≡ take count (data_out fill) = front ∙ sym (take-replicate count 131072 fill few) in
    serve_looks u block luns buffer (data_out fill) (rw is at same)
