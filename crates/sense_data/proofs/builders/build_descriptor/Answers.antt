use Rattle.std.proofs.Common.{rules, ◌≡◌, Some}
use Rattle.mid_base.specs.Bytes.{sense_list}
use Rattle.sense_data.specs.Grammar.{descriptor_sense}
use Rattle.sense_data.proofs.Built.{descriptor_back}
use Rattle.sense_data.proofs.builders.build_descriptor.Goals as goal

pub returns-clause-fields : goal.returns-clause-fields
returns-clause-fields c =
    let n = c.in-Some.information in
    let bytes : sense_list c.from_slice-2.result ≡ descriptor_sense c.args.key c.args.asc c.args.ascq (Some n) c.args.deferred = search rules in
    rw (c.in-Some.is, bytes) (descriptor_back c.args.key c.args.asc c.args.ascq (Some n) c.args.deferred c.requires (search rules))
