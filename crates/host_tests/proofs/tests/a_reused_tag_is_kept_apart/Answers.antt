use Rattle.std.proofs.Common.{rules, ◌<◌, ◌^◌}
use Rattle.mid_base.specs.declared.answers.By.TheVariants.{Answer}
use Rattle.mid_base.specs.declared.entries.Entry.TheVariants.{Owned}
use Rattle.host_words.specs.Journals.{In}
use Rattle.host_words.specs.Seats.{view}
use Rattle.host_words.proofs.Owning.{cause_on}
use Rattle.host_tests.specs.Turned.{IsTold}
use Rattle.host_tests.proofs.Entering.{in_on}
use Rattle.host_tests.proofs.tests.a_reused_tag_is_kept_apart.Goals as goal

pub late_claim-old-requires-clause-cause : goal.late_claim-old-requires-clause-cause
late_claim-old-requires-clause-cause g c =
    let told : (c.in-Some.first.0 < 2 ^ 60) × IsTold (view c.sent_and_told.new.seat).seen 0 c.in-Some.first = search rules in
    cause_on (view c.claimed_and_settled.new.seat).seen (view c.sent_and_told-2.new.seat).seen 0 c.in-Some.first Answer c.sent_and_told-2.ensures.back.1.later
    (cause_on (view c.sent_and_told.new.seat).seen (view c.claimed_and_settled.new.seat).seen 0 c.in-Some.first Answer c.claimed_and_settled.ensures.back.1.later told.1.0)

pub late_claim-old-requires-clause-owner : goal.late_claim-old-requires-clause-owner
late_claim-old-requires-clause-owner g c =
    let ended : In (Owned c.in-Some.first Answer) (view c.claimed_and_settled.new.seat).seen = search rules in
    (Answer, in_on (Owned c.in-Some.first Answer) (view c.claimed_and_settled.new.seat).seen (view c.sent_and_told-2.new.seat).seen c.sent_and_told-2.ensures.back.1.later ended)
