use Rattle.std.proofs.Common.{◌≡◌, ◌∙◌, sym, refl}
use Rattle.std.proofs.lemmas.Option.{same_Some}
use Rattle.tag_pool.specs.Depths.{fuller, better}
use Rattle.tag_pool.specs.Tags.{out_of}
use Rattle.trace_model.specs.Sending.{depths}
use Rattle.device_table.proofs.Depths.{keeps_judged, full_becomes, good_becomes}
use Rattle.device_table.proofs.devices.Devices.judged.Goals as goal

pub returns-in-40-clause-keeps : goal.returns-in-40-clause-keeps
returns-in-40-clause-keeps c s P id n d k of told =
    let same : c.row-row.result ≡ of.row = same_Some c.row-row.result of.row (sym c.row-row.ensures ∙ of.row_at) in
    keeps_judged s P c.args.self.now _ id c.args.place k of n d c.args.a.now (fuller (out_of of.row.dev c.args.self.now.pool.tags)) told refl refl c.full_seen.ensures.tags
    (rw same at c.full_seen.ensures.devices)
    (full_becomes s P of.row.dev (out_of of.row.dev c.args.self.now.pool.tags) c.args.a.now (depths s of.row.dev P) (k.tags.of_each of.row.dev) c.if-a.false c.in-40.is)

pub returns-in-0-clause-keeps : goal.returns-in-0-clause-keeps
returns-in-0-clause-keeps c s P id n d k of told =
    let same : c.row-row.result ≡ of.row = same_Some c.row-row.result of.row (sym c.row-row.ensures ∙ of.row_at) in
    keeps_judged s P c.args.self.now _ id c.args.place k of n d c.args.a.now better told refl refl c.good_seen.ensures.tags
    (rw same at c.good_seen.ensures.devices)
    (good_becomes s P of.row.dev c.args.a.now (depths s of.row.dev P) c.if-a.false c.in-0.is)
