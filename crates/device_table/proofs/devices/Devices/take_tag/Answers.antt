use Rattle.std.proofs.Common.{◌≡◌, ◌∙◌, sym, refl, ◌&&◌, not, true}
use Rattle.std.proofs.lemmas.Option.{same_Some}
use Rattle.tag_pool.specs.Tags.{has_room}
use Rattle.tag_pool.specs.Depths.{depth_in}
use Rattle.std.proofs.lemmas.Bool.{and_parts}
use Rattle.device_states.specs.States.{is_running}
use Rattle.device_table.proofs.Taking.{gives_tag, least_is, free_holder}
use Rattle.device_table.proofs.Entries.{keeps_sent}
use Rattle.device_table.proofs.devices.Devices.take_tag.Goals as goal

pub unreachable-requires : goal.unreachable-requires
unreachable-requires c =
    let self = c.args.self.now in
    let same : c.requires.0 ≡ c.row-row.result = same_Some c.requires.0 c.row-row.result (sym c.requires.1 ∙ c.row-row.ensures) in
    let room : has_room self.pool.tags c.requires.0.dev (depth_in c.requires.0.dev self.pool.devices) ≡ true =
    (and_parts (is_running c.requires.0.state && not self.paused && not c.requires.0.paused) (has_room self.pool.tags c.requires.0.dev (depth_in c.requires.0.dev self.pool.devices)) c.requires.2).1
    in
    gives_tag self.pool.tags c.row-row.result.dev (depth_in c.row-row.result.dev self.pool.devices) c.take.result (rw same at room) c.take.ensures.answer c.in_default.not-Tag

pub returns-clause-least : goal.returns-clause-least
returns-clause-least c s P k = least_is s P c.args.self.now.pool c.in-Tag.tag.0 k.tags c.in-Tag.ensures.answer.0

pub returns-clause-keeps : goal.returns-clause-keeps
returns-clause-keeps c s P id n k of idle =
    let same : c.row-row.result ≡ of.row = same_Some c.row-row.result of.row (sym c.row-row.ensures ∙ of.row_at) in
    let least = c.in-Tag.ensures.answer.0 in
    keeps_sent s P c.args.self.now _ id c.args.place k of n c.in-Tag.tag idle (least_is s P c.args.self.now.pool c.in-Tag.tag.0 k.tags least).1
    (free_holder c.in-Tag.tag.0 c.args.self.now.pool.tags least.1) refl refl c.in-Tag.ensures.devices (rw same at c.in-Tag.ensures.tags)
