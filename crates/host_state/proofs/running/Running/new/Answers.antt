use Rattle.std.proofs.Common.{◌≡◌, ◌∙◌, sym, ap, subst, refl, ℕ, ◌<◌, ◌^◌, false, List, [], ◌∷◌, length, arith}
use Rattle.std.specs.Prelude.{nat_lt, nat_le, is_some}
use Rattle.std.specs.List.{list_all}
use Rattle.mid_base.specs.declared.host_spec.CmdSpec.{CmdSpec}
use Rattle.mid_base.specs.declared.host_spec.LunSpec.{LunSpec}
use Rattle.mid_base.specs.Address.{has_dev}
use Rattle.mid_base.specs.Limits.{is_command, is_lun}
use Rattle.std.proofs.lemmas.Bool.{false≢true}
use Rattle.mid_base.specs.declared.answers.TagState.{TagState}
use Rattle.mid_base.specs.declared.answers.TagState.TheVariants.{Free, Armed, Owned}
use Rattle.timer_list.specs.Timers.{Timer}
use Rattle.attempt_table.specs.AttemptsAgree.{AttemptsAgree}
use Rattle.trace_model.specs.Commands.{is_busy}
use Rattle.failure_table.specs.FailuresAgree.{Abort}
use Rattle.host_state.specs.HostAgrees.{AreAborting, is_timed_tag, count_tags}
use Rattle.host_state.proofs.Moving.{all_weaker, housed_in, lane_below, deep}
use Rattle.host_state.proofs.running.Running.new.Goals as goal

pub new-requires-2-clause-lanes : goal.new-requires-2-clause-lanes
new-requires-2-clause-lanes c =
    ap (list_all (λ k. nat_lt k.lane.0 64)) c.as_slice.ensures
    ∙ all_weaker (is_command c.args.spec.now.luns) (λ (k : CmdSpec). nat_lt k.lane.0 64) (lane_below c.args.spec.now.luns) c.args.spec.now.cmds c.requires.commands

pub new-requires-2-clause-devices : goal.new-requires-2-clause-devices
new-requires-2-clause-devices c =
    ap (list_all (λ k. has_dev c.as_slice-luns.result.now k.dev)) c.as_slice.ensures
    ∙ ap (λ (luns : List LunSpec). list_all (λ k. has_dev luns k.dev) c.args.spec.now.cmds) c.as_slice-luns.ensures
    ∙ all_weaker (is_command c.args.spec.now.luns) (λ (k : CmdSpec). has_dev c.args.spec.now.luns k.dev) (housed_in c.args.spec.now.luns) c.args.spec.now.cmds c.requires.commands

pub new-requires-3-clause-deep : goal.new-requires-3-clause-deep
new-requires-3-clause-deep c =
    ap (list_all (λ l. nat_le 1 l.depth)) c.as_slice-luns.ensures
    ∙ all_weaker is_lun (λ (l : LunSpec). nat_le 1 l.depth) deep c.args.spec.now.luns c.requires.luns

no_timers : (timers : List Timer) (tags : List TagState) → timers ≡ [] → length timers ≡ count_tags (is_timed_tag timers) tags
no_timers timers tags none = rw none (none_timed tags)
  where
    untimed : (x : TagState) → is_timed_tag [] x ≡ false
    untimed Free = refl
    untimed (Armed n) = refl
    untimed (Owned n by) = refl

    none_timed : (tags : List TagState) → 0 ≡ count_tags (is_timed_tag []) tags
    none_timed [] = refl
    none_timed (x ∷ xs) = rw (untimed x) (none_timed xs)

pub returns : goal.returns
returns c =
    let s = c.args.spec.now in
    let told : AttemptsAgree s [] c.in_ok-new.field-0 = c.in_ok-new.ensures s refl in
    record {
      limits = c.requires;
      attempts = told;
      commands = c.in_ok-new-2.ensures s (sym c.as_slice.ensures) (sym c.as_slice-luns.ensures);
      devices = c.in_ok-new-3.ensures s refl (sym c.as_slice-luns.ensures) c.requires.ids;
      timed = record {
        agrees = c.in_ok-new-4.ensures.tells s;
        most = c.in_ok-new-4.ensures.most;
        count = no_timers c.in_ok-new-4.field-0.timers.timers c.in_ok-new.field-0.tags.items c.in_ok-new-4.ensures.none;
      };
      time = refl;
      early = omega (arith);
      few = subst (λ (n : ℕ). n < 2 ^ 60) told.0.sends_are (omega (arith));
      failures = c.in_ok-new-5.ensures.tells s c.requires.ids refl;
      verdicts = c.in_ok-new-6.ensures.tells s refl;
      placed = λ n x at. absurd (false≢true ((told.0.rows n).0 ∙ ap is_some at));
      aborting = subst (λ (xs : List Abort). AreAborting [] c.in_ok-new.field-0.rows.items xs) (sym c.in_ok-new-5.ensures.none.2) tt;
      tagged = tt;
      under_way = λ n x at lives. absurd (false≢true ((told.0.rows n).0 ∙ ap is_some at));
      held_back = λ n m t busy. absurd (false≢true (ap is_busy busy));
    }
