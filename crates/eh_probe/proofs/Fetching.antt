-- The bytes of sense data are counted after GOOD alone, where a lower layer's own clause counts those of any answer.
use Rattle.std.proofs.Common.{◌≡◌, ◌≤◌, ℕ, Bool, true, false, cond, ◌&&◌, List, ◌++◌, length, take, drop, replicate, min, refl, sym, ap, ◌∙◌, subst, arith}
use Rattle.std.proofs.lemmas.List.{length-take, take_at}
use Rattle.std.proofs.Math.Nat.{min-le_left, min-le_right}
use Rattle.mid_base.specs.Padded.{padded_made}
use Rattle.mid_base.specs.Bytes.{sense_list}
use Rattle.mid_base.specs.Answers.{is_good}
use Rattle.mid_base.specs.Codes.{request_sense}
use Rattle.mid_base.specs.declared.bytes.SenseBytes.{SenseBytes}
use Rattle.mid_base.specs.declared.names.DevAddr.{DevAddr}
use Rattle.mid_base.specs.declared.answers.Answer.{Answer}
use Rattle.mid_base.specs.declared.answers.ProbeSay.{ProbeSay}
use Rattle.mid_base.specs.declared.answers.ProbeSay.TheVariants.{Answered, Silent}
use Rattle.sense_data.specs.Grammar.{is_valid_sense}
use Rattle.host_template.specs.Standing.{Standing, DataIn}
use Rattle.host_template.specs.Calls.{StandsProbed, fetched}
use Rattle.eh_probe.specs.Tests.{sense_count}
use Rattle.eh_probe.specs.Standings.{StandsFetched}

-- a list of at most 252 bytes is that of some sense data
some_sense : (b : List ℕ) → length b ≤ 252 → (x : SenseBytes) × (sense_list x ≡ b)
some_sense b le = (
  record { len = length b; bytes = b ++ drop (length b) (replicate 252 0); padded = padded_made 252 b (drop (length b) (replicate 252 0)) le refl },
  take_at b (drop (length b) (replicate 252 0)) (length b) refl,
)

short : (m : ℕ) (buffer : List ℕ) → length (take (min m 252) buffer) ≤ 252
short m buffer = omega (arith, length-take (min m 252) buffer, min-le_left (min m 252) (length buffer), min-le_right m 252)

after_answer : (old new : Standing) (di : DataIn) (dev : DevAddr) (a : Answer) (buffer : List ℕ) (good : Bool) → is_good a ≡ good
    → StandsProbed old new di dev request_sense (Answered a) buffer → StandsFetched old new dev (Answered a) (take (sense_count (Answered a)) buffer)
after_answer old new di dev a buffer true e h s b P c k n bytes fits is stood =
    h.fetch s b P c k n bytes refl fits (is ∙ ap (λ (g : Bool). take (cond g (min a.moved 252) 0) buffer) e) stood
after_answer old new di dev a buffer false e h s b P c k n bytes fits is stood =
    let some = some_sense (take (min a.moved 252) buffer) (short a.moved buffer) in
    let with_some = h.fetch s b P c k n some.0 refl fits some.1 stood in
    let without = subst (λ (g : Bool). new s b (fetched c n dev (Answered a) some.0 (g && is_valid_sense (sense_list some.0)) P)) e with_some in
    subst (λ (g : Bool). new s b (fetched c n dev (Answered a) bytes (g && is_valid_sense (sense_list bytes)) P)) (sym e) without

after_probe : (old new : Standing) (di : DataIn) (dev : DevAddr) (say : ProbeSay) (buffer : List ℕ)
    → StandsProbed old new di dev request_sense say buffer → StandsFetched old new dev say (take (sense_count say) buffer)
after_probe old new di dev (Answered a) buffer h = after_answer old new di dev a buffer (is_good a) refl h
after_probe old new di dev Silent buffer h = λ s b P c k n bytes fits is stood. h.fetch s b P c k n bytes refl fits is stood

pub fetched_by_count : (old new : Standing) (di : DataIn) (dev : DevAddr) (code : ℕ) (say : ProbeSay) (buffer : List ℕ) (count : ℕ)
    → code ≡ request_sense → count ≡ sense_count say
    → StandsProbed old new di dev code say buffer → StandsFetched old new dev say (take count buffer)
fetched_by_count old new di dev code say buffer count code_is count_is h =
    subst (λ (k : ℕ). StandsFetched old new dev say (take k buffer)) (sym count_is)
    (after_probe old new di dev say buffer (subst (λ (k : ℕ). StandsProbed old new di dev k say buffer) code_is h))
