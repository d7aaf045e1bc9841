use Rattle.std.proofs.Common.{rules, ◌≡◌, ◌≢◌, ◌+◌, refl, sym, ap, ◌∙◌}
use Rattle.atomic_table.specs.Seated.{TableId}
use Rattle.host_words.specs.Carried.{carried}
use Rattle.host_words.specs.Words.{code}
use Rattle.host_words.specs.declared.words.WordSeen.TheVariants.{Armed}
use Rattle.host_words.proofs.Turning.{claims, claim_keeps, code_same}
use Rattle.host_words.proofs.host_table.HostTable.claim.Goals as goal

pub compare_exchange-met-requires : goal.compare_exchange-met-requires
compare_exchange-met-requires g c = (search rules, search rules, rw (c.armed_number-armed.ensures, c.claimed_number-claimed.ensures) (claims _ _ _ _ _ _ _ _ c.args.t.0 c.args.n c.args.by (search rules) c.requires.cause))

pub returns-then-met-armed-clause-claim : goal.returns-then-met-armed-clause-claim
returns-then-met-armed-clause-claim g c =
    let x = c.compare_exchange-met.ensures.2.1 c.args.t.0 c.args.n c.args.by refl c.armed_number-armed.ensures c.claimed_number-claimed.ensures in
    x.2.0 (code_same x.0 (Armed c.args.n) (sym x.1 ∙ (c.if-met-armed.true ∙ c.armed_number-armed.ensures)))

pub returns-else-met-armed-clause-claim : goal.returns-else-met-armed-clause-claim
returns-else-met-armed-clause-claim g c =
    let x = c.compare_exchange-met.ensures.2.1 c.args.t.0 c.args.n c.args.by refl c.armed_number-armed.ensures c.claimed_number-claimed.ensures in
    let other : x.0 ≢ Armed c.args.n = λ e. c.if-met-armed.false (x.1 ∙ (ap code e ∙ sym c.armed_number-armed.ensures)) in
    let same : c.read_word.result ≡ x.0 = c.read_word.ensures x.0 x.1 in
    rw same (other, x.2.1 other)

pub invariant_of-seat : goal.invariant_of-seat
invariant_of-seat g c =
    let x = c.compare_exchange-met.ensures.2.1 c.args.t.0 c.args.n c.args.by refl c.armed_number-armed.ensures c.claimed_number-claimed.ensures in
    let kept = claim_keeps _ _ _ _ _ _ x.2 in
    record {
      carries = c.compare_exchange-met.ensures.2.0 ∙ (c.args.seat.now.carries ∙ sym (ap carried kept.0));
      has_share = λ e. c.args.seat.now.has_share (sym kept.1 ∙ e);
      fits_table = ap (λ n. n + 2) kept.2 ∙ (c.args.seat.now.fits_table ∙ sym (ap (λ (i : TableId). i.words) c.compare_exchange-met.ensures.0));
    }

pub returns-then-met-armed-clause-owned : goal.returns-then-met-armed-clause-owned
returns-then-met-armed-clause-owned g c b h =
    let x = c.compare_exchange-met.ensures.2.1 c.args.t.0 c.args.n c.args.by refl c.armed_number-armed.ensures c.claimed_number-claimed.ensures in
    x.2.2 b h (code_same x.0 (Armed c.args.n) (sym x.1 ∙ (c.if-met-armed.true ∙ c.armed_number-armed.ensures)))
