use Rattle.std.proofs.Common.{rules, ◌≡◌, length, refl}
use Rattle.attempt_table.specs.Rows.{sent_row}
use Rattle.attempt_table.proofs.Listed.{listed_sent}
use Rattle.attempt_table.proofs.Sending.{says_sent}
use Rattle.attempt_table.proofs.attempts.Attempts.send.Goals as goal

pub returns-clause-tells : goal.returns-clause-tells
returns-clause-tells c = λ s P tells.
    let t = c.args.self.now in
    let number : c.len.result ≡ length t.rows.items = search rules in (
      rw (c.show.ensures, c.push_reserved.ensures.items, c.sent_row.ensures, number)
          (says_sent s P t.rows.items t.tags.items t.kept.items t.claims.items t.lates.items tells.0 c.args.command c.args.place c.args.tag c.requires.free),
      tells.1,
      rw (c.push_reserved.ensures.items, c.sent_row.ensures)
          (listed_sent t.rows.items t.owned.items tells.2 (sent_row c.args.command c.args.place c.args.tag) refl),
      tells.3,
    )
