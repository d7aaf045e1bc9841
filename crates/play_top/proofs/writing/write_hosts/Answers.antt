use Rattle.std.proofs.Common.{◌≡◌, ℕ, List, sym, ap, ◌∙◌, arith, subst}
use Rattle.std.specs.List.{flat_map}
use Rattle.std.specs.Io.KnownBytes.{Appends}
use Rattle.mid_io.proofs.Grown.{appends_more, appends_nothing}
use Rattle.report_text.proofs.Written.{errs_on}
use Rattle.play_top.specs.Texts.{hosts_text, named_text}
use Rattle.play_top.proofs.Texts.{all_turns, no_turn, turn_left, turn_more, turn_text}
use Rattle.play_top.proofs.writing.write_hosts.Goals as goal

pub loop-number-init : goal.loop-number-init
loop-number-init g c = record {
  out = subst (λ (x : List ℕ). Appends (g.K.Sink.written c.args.out.now) (g.K.Sink.written c.args.out.now) x) (sym (no_turn c.args.hosts.now)) (appends_nothing (g.K.Sink.written c.args.out.now));
  later = omega arith;
}

pub loop-number-preserved : goal.loop-number-preserved
loop-number-preserved g c =
    let runs = c.args.hosts.now in
    let n = c.loop-number.number in
    record {
      out = subst (λ (x : List ℕ). Appends (g.K.Sink.written c.args.out.now) (g.K.Sink.written c.write_named.new.out) x) (turn_more n runs)
          (appends_more _ _ _ (turn_text n runs) (flat_map (named_text n) runs) c.loop-number.invariant.out c.in_default.ensures.answer);
      later = omega (arith, c.loop-number.invariant.later, c.write_named.ensures.later);
    }

pub returns-in-Err-clause-answer : goal.returns-in-Err-clause-answer
returns-in-Err-clause-answer g c =
    let runs = c.args.hosts.now in
    let n = c.loop-number.number in
    let left = turn_left n runs c.loop-number-test.true in
    errs_on _ _ _ (turn_text n runs) (flat_map (named_text n) runs) left.0 (hosts_text runs) _ _ _ _
    c.loop-number.invariant.out (left.1 ∙ all_turns runs c.requires) c.loop-number.invariant.later c.in-Err.ensures.answer

pub returns-clause-answer : goal.returns-clause-answer
returns-clause-answer g c =
    let runs = c.args.hosts.now in
    let last : c.loop-number.number ≡ 64 = omega arith in
    let whole = ap (λ (n : ℕ). turn_text n runs) last ∙ all_turns runs c.requires in
    subst (λ (x : List ℕ). Appends (g.K.Sink.written c.args.out.now) (g.K.Sink.written c.loop-number.out) x) whole c.loop-number.invariant.out
