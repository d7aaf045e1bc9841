use Rattle.adapter_tables.proofs.AddressLaws.{aligned_at, counted_at, none_at}
use Rattle.adapter_tables.proofs.numbering.next_number.Goals as goal

pub invariant_of-table : goal.invariant_of-table
invariant_of-table c = record {
  aligned = aligned_at c.args.table.now.rows.items c.count_at.new.rows.items c.args.table.now.at.devs.items c.in-Some.place c.count_at.result c.args.class c.args.table.now.aligned c.count_at.ensures;
}

pub returns-in-Some-clause-rows : goal.returns-in-Some-clause-rows
returns-in-Some-clause-rows c = (counted_at c.args.table.now.rows.items c.count_at.new.rows.items c.args.table.now.at.devs.items c.in-Some.place c.count_at.result c.args.dev c.args.class
    c.args.table.now.at.apart c.args.table.now.aligned c.in-Some.ensures c.count_at.ensures).0

pub returns-in-Some-clause-number : goal.returns-in-Some-clause-number
returns-in-Some-clause-number c = (counted_at c.args.table.now.rows.items c.count_at.new.rows.items c.args.table.now.at.devs.items c.in-Some.place c.count_at.result c.args.dev c.args.class
    c.args.table.now.at.apart c.args.table.now.aligned c.in-Some.ensures c.count_at.ensures).1

pub returns-in-None-clause-rows : goal.returns-in-None-clause-rows
returns-in-None-clause-rows c = (none_at c.args.table.now.rows.items c.args.table.now.at.devs.items c.args.dev c.args.class c.args.table.now.aligned c.in-None.ensures).0

pub returns-in-None-clause-number : goal.returns-in-None-clause-number
returns-in-None-clause-number c = (none_at c.args.table.now.rows.items c.args.table.now.at.devs.items c.args.dev c.args.class c.args.table.now.aligned c.in-None.ensures).1
