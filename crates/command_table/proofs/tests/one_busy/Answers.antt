use Rattle.std.proofs.Common.{◌≡◌, ◌∙◌, ap, refl, ℕ, false, List, [], ◌∷◌, set, length, Some}
use Rattle.std.specs.Prelude.{slice_get, option_map}
use Rattle.mid_base.specs.declared.entries.Entry.{Entry}
use Rattle.mid_base.specs.declared.entries.Entry.TheVariants.{Took}
use Rattle.mid_base.specs.declared.host_spec.CmdSpec.{CmdSpec}
use Rattle.mid_base.specs.declared.host_spec.HostSpec.{HostSpec}
use Rattle.mid_base.specs.declared.host_spec.LunSpec.{LunSpec}
use Rattle.trace_model.specs.declared.standing.Standing.TheVariants.{New, Waits, Busy}
use Rattle.trace_model.specs.Commands.{is_busy}
use Rattle.command_table.specs.declared.commands.Commands.{Commands}
use Rattle.command_table.specs.declared.rows.CommandRow.{CommandRow}
use Rattle.command_table.specs.CommandsAgree.{CommandsAgree, IsNext}
use Rattle.command_table.proofs.Places.{get_same, row_here}
use Rattle.command_table.proofs.tests.one_busy.Goals as goal

-- the host of this command and this unit
abbrev host : CmdSpec → LunSpec → HostSpec
host k l = record { no = record { 0 = 0 }; can_queue = 1; handlers = record { 0 = 0 }; no_async_abort = false; luns = l ∷ []; cmds = k ∷ []; plan = [] }

module _ (k : CmdSpec) (l : LunSpec) (t : Commands) (place : ℕ) (starts : (s : HostSpec) → s.cmds ≡ k ∷ [] → s.luns ≡ l ∷ [] → CommandsAgree s [] t)
    (next : (s : HostSpec) (P : List Entry) → CommandsAgree s P t → IsNext s P t 0 place) where
  first_agrees : CommandsAgree (host k l) [] t
  first_agrees = starts (host k l) refl refl

  next_is : IsNext (host k l) [] t 0 place
  next_is = next (host k l) [] first_agrees

  next_row : (r : CommandRow) × (slice_get t.rows.items place ≡ Some r)
  next_row = row_here (λ r. r.standing) t.rows.items place New next_is.fresh

  -- its row once it is taken
  abbrev taken_row : CommandRow
  taken_row = record next_row.0 { standing = Waits; order = length t.taken.items }

  taken_there : (new : List CommandRow)
      → ((r : CommandRow) → slice_get t.rows.items place ≡ Some r → new ≡ set t.rows.items place (record r { standing = Waits; order = length t.taken.items }))
      → slice_get new place ≡ Some taken_row
  taken_there new written = ap (λ (xs : List CommandRow). slice_get xs place) (written next_row.0 next_row.1) ∙ get_same t.rows.items place next_row.0 taken_row next_row.1

pub take-requires-clause-fresh : goal.take-requires-clause-fresh
take-requires-clause-fresh c = (next_is c.command.result c.unit.result c.in-Ok.table c.in-Some.place c.in-Ok.ensures c.in-Some.ensures).fresh

pub take-requires-clause-first : goal.take-requires-clause-first
take-requires-clause-first c = (next_is c.command.result c.unit.result c.in-Ok.table c.in-Some.place c.in-Ok.ensures c.in-Some.ensures).first

pub take-requires-clause-housed : goal.take-requires-clause-housed
take-requires-clause-housed c = (next_is c.command.result c.unit.result c.in-Ok.table c.in-Some.place c.in-Ok.ensures c.in-Some.ensures).housed

pub send-requires-clause-waits : goal.send-requires-clause-waits
send-requires-clause-waits c =
    ap (option_map (λ r. r.standing)) (taken_there c.command.result c.unit.result c.in-Ok.table c.in-Some.place c.in-Ok.ensures c.in-Some.ensures c.take.new.self.rows.items c.in-Ok-take.ensures.row)

pub send-requires-clause-housed : goal.send-requires-clause-housed
send-requires-clause-housed c =
    let t = c.in-Ok.table in
    let row = next_row c.command.result c.unit.result t c.in-Some.place c.in-Ok.ensures c.in-Some.ensures in
    let agrees = first_agrees c.command.result c.unit.result t c.in-Some.place c.in-Ok.ensures c.in-Some.ensures in
    (c.in-Ok-take.ensures.follows (host c.command.result c.unit.result) [] row.0.id (ap (option_map (λ r. r.id)) row.1) agrees).housed c.in-Some.place

pub returns-clause-busy : goal.returns-clause-busy
returns-clause-busy c =
    let rows = c.take.new.self.rows.items in
    let r = taken_row c.command.result c.unit.result c.in-Ok.table c.in-Some.place c.in-Ok.ensures c.in-Some.ensures in
    let at = taken_there c.command.result c.unit.result c.in-Ok.table c.in-Some.place c.in-Ok.ensures c.in-Some.ensures rows c.in-Ok-take.ensures.row in
    ap (λ (xs : List CommandRow). option_map (λ q. is_busy q.standing) (slice_get xs c.in-Some.place)) (c.send.ensures.row r at)
    ∙ ap (option_map (λ q. is_busy q.standing)) (get_same rows c.in-Some.place r (record r { standing = Busy (record { 0 = 1 }) (record { 0 = 0 }) }) at)

pub returns-clause-housed : goal.returns-clause-housed
returns-clause-housed c =
    let t = c.in-Ok.table in
    let row = next_row c.command.result c.unit.result t c.in-Some.place c.in-Ok.ensures c.in-Some.ensures in
    let agrees = first_agrees c.command.result c.unit.result t c.in-Some.place c.in-Ok.ensures c.in-Some.ensures in
    let then = c.in-Ok-take.ensures.follows (host c.command.result c.unit.result) [] row.0.id (ap (option_map (λ r. r.id)) row.1) agrees in
    let at = taken_there c.command.result c.unit.result t c.in-Some.place c.in-Ok.ensures c.in-Some.ensures c.take.new.self.rows.items c.in-Ok-take.ensures.row in
    (c.send.ensures.follows (host c.command.result c.unit.result) (Took row.0.id ∷ []) row.0.id (ap (option_map (λ r. r.id)) at) then).housed c.in-Some.place
