use Rattle.std.proofs.Common.{◌≡◌, take, arith}
use Rattle.std.proofs.lemmas.Grind.{common_steps}
use Rattle.mid_base.specs.Bytes.{sense_list}
use Rattle.escalation.proofs.Acting.{fetched_act}
use Rattle.escalation.proofs.acts.fetch_sense.Goals as goal

pub returns-clause-act : goal.returns-clause-act
returns-clause-act g c = λ h.
    let laws = g.met.A.HostTemplate g.world.𝓛 g.world.𝓜 g.world.𝓡 ((λ s x. x), (λ x. x), (λ x. x), λ x. x) in
    let got_is : sense_list c.from_slice-sense.result ≡ take c.get_sense-say.result.1 c.get_sense-say.new.into = grind (arith, common_steps, c.from_slice-sense.ensures) in
    fetched_act h c.args.c c.args.chosen.now.todo.items c.index.result.now c.get_sense-say.result.0 c.from_slice-sense.result (take c.get_sense-say.result.1 c.get_sense-say.new.into)
    (g.A.HostTemplate.stands c.args.lower.now) (g.A.HostTemplate.stands c.get_sense-say.new.lower) c.tell_fetch.result c.tell_fetch.new.entries.items
    c.requires.begins c.index.ensures c.tell_fetch.ensures.ok got_is (laws.silent c.get_sense-say.new.lower) c.get_sense-say.ensures.fetch c.tell_fetch.ensures.told
