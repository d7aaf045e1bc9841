use Rattle.std.proofs.Common.{rules, ◌≡◌, true, false, refl, inl}
use Rattle.std.specs.List.{list_any}
use Rattle.host_tests.specs.Attempts.{is_owner}
use Rattle.host_tests.proofs.Owners.{owner_found, owner_missed}
use Rattle.host_tests.proofs.Leaves.{put_owner}
use Rattle.host_tests.proofs.desk.Desk.enter_owner.Goals as goal

pub returns-then-has_owner-clause-ok : goal.returns-then-has_owner-clause-ok
returns-then-has_owner-clause-ok c =
    let there : list_any (is_owner c.args.n c.args.by) c.args.self.now.entries.items ≡ true = search rules in
    inl (owner_found c.args.n c.args.by c.args.self.now.entries.items there, refl)

pub returns-clause-ok : goal.returns-clause-ok
returns-clause-ok c =
    let missing : list_any (is_owner c.args.n c.args.by) c.args.self.now.entries.items ≡ false = search rules in
    put_owner c.put.result _ _ c.args.n c.args.by (owner_missed c.args.n c.args.by c.args.self.now.entries.items missing) c.put.ensures.ok
