use Rattle.std.proofs.Common.{ℕ, List, ap}
use Rattle.std.specs.Prelude.{slice_index}
use Rattle.eh_probe.proofs.Fetching.{fetched_by_count}
use Rattle.eh_probe.proofs.probes.get_sense.Goals as goal

pub returns-clause-fetch : goal.returns-clause-fetch
returns-clause-fetch g c =
    fetched_by_count _ _ _ _ _ _ _ _ (ap (λ (l : List ℕ). slice_index l 0) c.from_slice-cdb.ensures) c.sense_count.ensures c.probe-say.ensures.stands
