-- From what is called and told to an act.
use Rattle.std.proofs.Common.{◌≡◌, ◌≤◌, ◌⊎◌, ℕ, suc, zero, ◌+◌, ◌*◌, ◌==◌, Bool, true, false, cond, not, ◌&&◌, ◌||◌, List, [], ◌∷◌, ◌++◌, length, map, filter, get_or, refl, sym, ap, ◌∙◌, subst, inl, inr, ⊎_elim, Option, None, Some, is_none, option_map, arith}
use mathlib.Core.Bool.{beq}
use Rattle.std.proofs.lemmas.Bool.{cases_Bool, eqb-true, and_parts, or_right}
use Rattle.std.proofs.lemmas.List.{length-map}
use Rattle.mid_base.specs.Bytes.{sense_list}
use Rattle.mid_base.specs.declared.bytes.SenseBytes.{SenseBytes}
use Rattle.mid_base.specs.declared.names.CmdId.{CmdId}
use Rattle.mid_base.specs.declared.names.DevAddr.{DevAddr}
use Rattle.mid_base.specs.declared.answers.Disp.{Disp}
use Rattle.mid_base.specs.declared.answers.Disp.TheVariants.{Success, Retry, Requeue, Fail}
use Rattle.mid_base.specs.declared.answers.ProbeSay.{ProbeSay}
use Rattle.mid_base.specs.declared.answers.Scope.{Scope}
use Rattle.mid_base.specs.declared.answers.Scope.TheVariants.{Cmd, Dev}
use Rattle.mid_base.specs.declared.entries.Entry.{Entry}
use Rattle.mid_base.specs.declared.entries.Entry.TheVariants.{Act, Probe, Sensed, Judged, Cleared, Offline}
use Rattle.mid_base.specs.declared.host_spec.Handlers.{Handlers}
use Rattle.mid_base.specs.declared.host_spec.HostSpec.{HostSpec}
use Rattle.mid_base.specs.Answers.{said_good, with_sense}
use Rattle.mid_base.specs.Codes.{request_sense, start_stop_unit}
use Rattle.mid_base.specs.Levels.{Level, not_online, fetch_sense, abort, start_unit, reset_device, reset_target, reset_bus, reset_host, give_up, no_level, number, callback, calls, can_succeed, can_fail}
use Rattle.sense_data.specs.Grammar.{is_valid_sense}
use Rattle.disposition.specs.declared.todo.Todo.{Todo}
use Rattle.disposition.specs.Ladder.{is_in_scope}
use Rattle.host_template.specs.declared.says.EhSay.{EhSay}
use Rattle.host_template.specs.declared.says.EhSay.TheVariants.{Success as Succeeded, Failed}
use Rattle.host_template.specs.Calls.{succeeded, StandsAborted, StandsReset, fetched}
use Rattle.host_template.specs.Laws.{SilentLaw}
use Rattle.host_template.specs.Meaning.{Meaning, SameNature, IfHonest, NothingAdded, HonestAbort, HonestReset, Holds, IsFree}
use Rattle.host_template.specs.Standing.{Before, Standing}
use Rattle.trace_model.specs.Climb.{judge_again, disp_again, act_on, fetch_for, test_and_clear, clear}
use Rattle.trace_model.specs.Course.{Course, over, next, Follows}
use Rattle.trace_model.specs.Legal.{onto}
use Rattle.eh_probe.specs.Standings.{StandsAfter, StandsFetched}
use Rattle.escalation.specs.declared.rungs.Rung.{Rung}
use Rattle.escalation.specs.declared.rungs.Rung.TheVariants.{FetchSense, Abort, StartUnit, ResetDevice, ResetTarget, ResetBus, ResetHost, GiveUp}
use Rattle.escalation.specs.Rungs.{level_at, scope_at}
use Rattle.escalation.specs.Climbing.{StandsActed, AreLast, LetsGo, HonestAct}
use Rattle.escalation.specs.Acts.{IsAct, IsTried, IsTold, GoesOn, BeginsIn, cleared, told_again, told_fetch, told_offline, is_call}
use Rattle.escalation.proofs.Tested.{follows_in_turn, stands_cleared, onto_append}

-- level 1

follows_again : (x : Todo) (d : Disp) → Follows (judge_again x d) (told_again x d)
follows_again x Success = (refl, (refl, tt))
follows_again x Retry = (refl, (refl, tt))
follows_again x Requeue = (refl, tt)
follows_again x Fail = (refl, tt)

again_length : (x : Todo) (d : Disp) → length (told_again x d) ≤ 2
again_length x Success = omega arith
again_length x Retry = omega arith
again_length x Requeue = omega arith
again_length x Fail = omega arith

stands_again : (at : Standing) → SilentLaw at → (x : Todo) (d : Disp) → StandsAfter at at (told_again x d)
stands_again at law x Success = λ s b P stood. law s b (Judged x.cmd x.n Success ∷ P) (Cleared x.cmd 1) tt (law s b P (Judged x.cmd x.n Success) tt stood)
stands_again at law x Retry = λ s b P stood. law s b (Judged x.cmd x.n Retry ∷ P) (Cleared x.cmd 1) tt (law s b P (Judged x.cmd x.n Retry) tt stood)
stands_again at law x Requeue = λ s b P stood. law s b P (Judged x.cmd x.n Requeue) tt stood
stands_again at law x Fail = λ s b P stood. law s b P (Judged x.cmd x.n Fail) tt stood

cmd_is : (x : Todo) (c : CmdId) → is_in_scope (Cmd c) x ≡ true → x.cmd ≡ c
cmd_is x c h = let make : ℕ → CmdId = λ n. record { 0 = n } in ap make (eqb-true x.cmd.0 c.0 h)

fetched_own : (handlers : Handlers) (x : Todo) (xs : List Todo) (say : ProbeSay) (sense : SenseBytes) (got : List ℕ) (old new : Standing) (ok : Bool)
    → ok ≡ (said_good say && is_valid_sense (sense_list sense)) → sense_list sense ≡ got → SilentLaw new → StandsFetched old new x.dev say got
    → IsAct handlers fetch_sense (Cmd x.cmd) (x ∷ xs) ok old new (told_fetch x.cmd x say sense ok)
fetched_own handlers x xs say sense got old new false ok_is got_is law st = record {
  can = refl;
  rest = Probe x.dev request_sense say ∷ [];
  told = refl;
  course = ((refl, refl, refl), tt);
  stands = λ s b P he last stood. subst (λ (g : Bool). new s b (fetched x.cmd x.n x.dev say sense g P)) (sym ok_is) (st s b P x.cmd last.0.0 x.n sense last.0.1 got_is stood);
  few = omega arith;
}
fetched_own handlers x xs say sense got old new true ok_is got_is law st =
    let d = disp_again x.cx (option_map (with_sense sense) x.answer) in
    let parts = and_parts (said_good say) (is_valid_sense (sense_list sense)) (sym ok_is) in
    record {
      can = refl;
      rest = Probe x.dev request_sense say ∷ Sensed x.cmd x.n sense ∷ told_again x d;
      told = refl;
      course = ((refl, refl, ap (λ (g : Bool). beq g true) parts.0), ((refl, refl, parts.1), follows_again x d));
      stands = λ s b P he last stood.
          stands_again new law x d s b (Sensed x.cmd x.n sense ∷ Probe x.dev request_sense say ∷ Act 1 (Cmd x.cmd) true ∷ P)
          (subst (λ (g : Bool). new s b (fetched x.cmd x.n x.dev say sense g P)) (sym ok_is) (st s b P x.cmd last.0.0 x.n sense last.0.1 got_is stood));
      few = omega (arith, again_length x d);
    }

pub fetched_act : (handlers : Handlers) (c : CmdId) (todo : List Todo) (x : Todo) (say : ProbeSay) (sense : SenseBytes) (got : List ℕ) (old new : Standing) (ok : Bool) (entries : List Entry)
    → BeginsIn (Cmd c) todo → x ≡ get_or todo 0 x → ok ≡ (said_good say && is_valid_sense (sense_list sense)) → sense_list sense ≡ got → SilentLaw new → StandsFetched old new x.dev say got
    → entries ≡ told_fetch c x say sense ok → IsAct handlers fetch_sense (Cmd c) todo ok old new entries
fetched_act handlers c [] x say sense got old new ok entries begins x_is ok_is got_is law st e = absurd begins
fetched_act handlers c (y ∷ ys) x say sense got old new ok entries begins x_is ok_is got_is law st e =
    let same = cmd_is y c begins in
    let st' : StandsFetched old new y.dev say got = subst (λ (z : Todo). StandsFetched old new z.dev say got) x_is st in
    let e' : entries ≡ told_fetch c y say sense ok = subst (λ (z : Todo). entries ≡ told_fetch c z say sense ok) x_is e in
    subst (λ (es : List Entry). IsAct handlers fetch_sense (Cmd c) (y ∷ ys) ok old new es) (sym e')
    (subst (λ (k : CmdId). IsAct handlers fetch_sense (Cmd k) (y ∷ ys) ok old new (told_fetch k y say sense ok)) same
    (fetched_own handlers y ys say sense got old new ok ok_is got_is law st'))

-- level 3

pub not_started : (handlers : Handlers) (scope : Scope) (todo : List Todo) (x : Todo) (say : ProbeSay) (old new : Standing) (entries : List Entry)
    → 1 ≤ length todo → x ≡ get_or todo 0 x → said_good say ≡ false → SilentLaw old → StandsAfter old new (Probe x.dev start_stop_unit say ∷ [])
    → entries ≡ Act 3 scope false ∷ Probe x.dev start_stop_unit say ∷ [] → IsAct handlers start_unit scope todo false old new entries
not_started handlers scope [] x say old new entries some x_is bad law st e = absurd (omega (arith, some))
not_started handlers scope (y ∷ ys) x say old new entries some x_is bad law st e = record {
  can = refl;
  rest = Probe x.dev start_stop_unit say ∷ [];
  told = e;
  course = ((ap (λ (z : Todo). z.dev) x_is, refl, ap (λ (g : Bool). beq g false) bad), tt);
  stands = λ s b P he last stood. subst (λ (es : List Entry). new s b (onto es P)) (sym e) (st s b (Act 3 scope false ∷ P) (law s b P (Act 3 scope false) (inl refl) stood));
  few = subst (λ (es : List Entry). length es ≤ 4 + 3 * length (y ∷ ys)) (sym e) (omega arith);
}

pub started : (handlers : Handlers) (scope : Scope) (todo : List Todo) (x : Todo) (say : ProbeSay) (old mid new : Standing) (before entries : List Entry)
    → 1 ≤ length todo → x ≡ get_or todo 0 x → said_good say ≡ true → SilentLaw old → StandsAfter old mid (Probe x.dev start_stop_unit say ∷ [])
    → before ≡ Act 3 scope true ∷ Probe x.dev start_stop_unit say ∷ [] → GoesOn mid new (test_and_clear 3 todo) (3 * length todo) before entries
    → IsAct handlers start_unit scope todo true old new entries
started handlers scope [] x say old mid new before entries some x_is good law st e g = absurd (omega (arith, some))
started handlers scope (y ∷ ys) x say old mid new before entries some x_is good law st e g =
    let whole : entries ≡ Act 3 scope true ∷ Probe x.dev start_stop_unit say ∷ g.entries = g.told ∙ ap (λ (es : List Entry). es ++ g.entries) e in
    record {
      can = refl;
      rest = Probe x.dev start_stop_unit say ∷ g.entries;
      told = whole;
      course = ((ap (λ (z : Todo). z.dev) x_is, refl, ap (λ (b : Bool). beq b true) good), g.course);
      stands = λ s b P he last stood. subst (λ (es : List Entry). new s b (onto es P)) (sym whole)
          (g.stands s b (Probe x.dev start_stop_unit say ∷ Act 3 scope true ∷ P) (st s b (Act 3 scope true ∷ P) (law s b P (Act 3 scope true) (inl refl) stood)));
      few = subst (λ (es : List Entry). length es ≤ 4 + 3 * length (y ∷ ys)) (sym whole) (two (length g.entries) (3 * length (y ∷ ys)) g.few);
    }
  where
    two : (m n : ℕ) → m ≤ n → suc (suc m) ≤ 4 + n
    two m n h = omega (arith, h)

-- level 8

offline_own : (handlers : Handlers) (scope : Scope) (x : Todo) (xs : List Todo) (old : Standing) → SilentLaw old
    → IsAct handlers give_up scope (x ∷ xs) true old old (Act 8 scope true ∷ told_offline (x ∷ xs))
offline_own handlers scope x xs old law = record {
  can = refl;
  rest = told_offline (x ∷ xs);
  told = refl;
  course = (refl, follows_in_turn (cleared 8 (x ∷ xs)));
  stands = λ s b P he last stood.
      stands_cleared old law 8 (x ∷ xs) s b (Offline x.dev ∷ Act 8 scope true ∷ P)
      (law s b (Act 8 scope true ∷ P) (Offline x.dev) tt (law s b P (Act 8 scope true) (inr (inl refl)) stood));
  few = few_of (length (cleared 8 xs)) (length xs) (length-map xs (λ (y : Todo). Cleared y.cmd 8));
}
  where
    few_of : (m n : ℕ) → m ≡ n → suc (suc (suc m)) ≤ 4 + 3 * suc n
    few_of m n h = omega (arith, h)

pub offline_act : (handlers : Handlers) (scope : Scope) (todo : List Todo) (old : Standing) (ok : Bool) (entries : List Entry) → 1 ≤ length todo → SilentLaw old → ok ≡ true → entries ≡ Act 8 scope true ∷ told_offline todo
    → IsAct handlers give_up scope todo ok old old entries
offline_act handlers scope [] old ok entries some law ok_is e = absurd (omega (arith, some))
offline_act handlers scope (x ∷ xs) old ok entries some law ok_is e =
    subst (λ (g : Bool). IsAct handlers give_up scope (x ∷ xs) g old old entries) (sym ok_is)
    (subst (λ (es : List Entry). IsAct handlers give_up scope (x ∷ xs) true old old es) (sym e) (offline_own handlers scope x xs old law))

-- levels with a callback

pub told_failed : (level : Level) (scope : Scope) (xs : List Todo) (old : Standing) (entries : List Entry) → is_call level ≡ true → entries ≡ Act (number level) scope false ∷ []
    → IsTold level scope false xs old old entries
told_failed level scope xs old entries c e = record {
  rest = [];
  told = e;
  course = nothing level c;
  stands = λ s b P stood. stood;
  few = omega arith;
}
  where
    nothing : (l : Level) → is_call l ≡ true → Follows (act_on l (number l) false xs) []
    nothing abort h = tt
    nothing reset_device h = tt
    nothing reset_target h = tt
    nothing reset_bus h = tt
    nothing reset_host h = tt
    nothing not_online h = cc h
    nothing fetch_sense h = cc h
    nothing start_unit h = cc h
    nothing give_up h = cc h
    nothing no_level h = cc h

pub told_tested : (level : Level) (scope : Scope) (xs : List Todo) (n : ℕ) (old new : Standing) (before entries : List Entry) → is_call level ≡ true → n ≡ number level → before ≡ Act (number level) scope true ∷ []
    → GoesOn old new (test_and_clear n xs) (3 * length xs) before entries → IsTold level scope true xs old new entries
told_tested level scope xs n old new before entries c n_is e g = record {
  rest = g.entries;
  told = g.told ∙ ap (λ (es : List Entry). es ++ g.entries) e;
  course = course_at level c (subst (λ (m : ℕ). Follows (test_and_clear m xs) g.entries) n_is g.course);
  stands = g.stands;
  few = g.few;
}
  where
    course_at : (l : Level) → is_call l ≡ true → Follows (test_and_clear (number l) xs) g.entries → Follows (act_on l (number l) true xs) g.entries
    course_at abort h f = f
    course_at reset_device h f = f
    course_at reset_target h f = f
    course_at reset_bus h f = f
    course_at reset_host h f = f
    course_at not_online h f = cc h
    course_at fetch_sense h f = cc h
    course_at start_unit h f = cc h
    course_at give_up h f = cc h
    course_at no_level h f = cc h

pub called_act : (handlers : Handlers) (level : Level) (scope : Scope) (xs : List Todo) (ok : Bool) (old mid new : Standing) (entries : List Entry)
    → IsTried handlers level scope xs ok old mid → IsTold level scope ok xs mid new entries → IsAct handlers level scope xs ok old new entries
called_act handlers level scope xs ok old mid new entries t d = record {
  can = t.can;
  rest = d.rest;
  told = d.told;
  course = d.course;
  stands = λ s b P he last stood. subst (λ (es : List Entry). new s b (onto es P)) (sym d.told) (d.stands s b (Act (number level) scope ok ∷ P) (t.stands s b P he last stood));
  few = subst (λ (es : List Entry). length es ≤ 4 + 3 * length xs) (sym d.told) (one (length d.rest) (3 * length xs) d.few);
}
  where
    one : (m n : ℕ) → m ≤ n → suc m ≤ 4 + n
    one m n h = omega (arith, h)

may_fail : (level : Level) → is_call level ≡ true → can_fail level ≡ true
may_fail give_up h = cc h
may_fail abort h = refl
may_fail reset_device h = refl
may_fail reset_target h = refl
may_fail reset_bus h = refl
may_fail reset_host h = refl
may_fail not_online h = refl
may_fail fetch_sense h = refl
may_fail start_unit h = refl
may_fail no_level h = refl

-- an omitted callback
pub omitted : (handlers : Handlers) (r : Rung) (xs : List Todo) (old : Standing) → is_call (level_at r) ≡ true → calls handlers (level_at r) ≡ false → SilentLaw old
    → IsTried handlers (level_at r) (scope_at r) xs false old old
omitted handlers r xs old c without law = record { can = may_fail (level_at r) c; stands = silent r c without }
  where
    silent : (q : Rung) → is_call (level_at q) ≡ true → calls handlers (level_at q) ≡ false → StandsActed handlers xs old old (Act (number (level_at q)) (scope_at q) false ∷ [])
    silent (Abort k) c' n = λ s b P he last stood. law s b P (Act 2 (Cmd k) false) (inr (inr (ap (λ (h : Handlers). calls h abort) he ∙ n, refl, inl refl))) stood
    silent (ResetDevice d) c' n = λ s b P he last stood. law s b P (Act 4 (Dev d) false) (inr (inr (ap (λ (h : Handlers). calls h reset_device) he ∙ n, refl, inr (inl refl)))) stood
    silent (ResetTarget k t) c' n = λ s b P he last stood. law s b P (Act 5 (scope_at (ResetTarget k t)) false) (inr (inr (ap (λ (h : Handlers). calls h reset_target) he ∙ n, refl, inr (inr (inl refl))))) stood
    silent (ResetBus k) c' n = λ s b P he last stood. law s b P (Act 6 (scope_at (ResetBus k)) false) (inr (inr (ap (λ (h : Handlers). calls h reset_bus) he ∙ n, refl, inr (inr (inr (inl refl)))))) stood
    silent ResetHost c' n = λ s b P he last stood. law s b P (Act 7 (scope_at ResetHost) false) (inr (inr (ap (λ (h : Handlers). calls h reset_host) he ∙ n, refl, inr (inr (inr (inr refl)))))) stood
    silent (FetchSense k) c' n = cc c'
    silent (StartUnit d) c' n = cc c'
    silent (GiveUp d) c' n = cc c'

tried_can : (handlers : Handlers) (level : Level) (say : EhSay) → is_call level ≡ true → calls handlers level ≡ true
    → cond (succeeded say) (can_succeed handlers level) (can_fail level) ≡ true
tried_can handlers level Succeeded c h = or_right (is_none (callback level)) (calls handlers level) h
tried_can handlers level Failed c h = may_fail level c

pub reset_tried : (handlers : Handlers) (level : Level) (scope : Scope) (xs : List Todo) (say : EhSay) (old new : Standing) → is_call level ≡ true → calls handlers level ≡ true
    → ((s : HostSpec) → s.handlers ≡ handlers → (b : Before) (P : List Entry) → old s b P → new s b (Act (number level) scope (succeeded say) ∷ P))
    → IsTried handlers level scope xs (succeeded say) old new
reset_tried handlers level scope xs say old new c h st = record { can = tried_can handlers level say c h; stands = λ s b P he last stood. st s he b P stood }

pub abort_tried : (handlers : Handlers) (k : CmdId) (todo : List Todo) (x : Todo) (say : EhSay) (old new : Standing) → BeginsIn (Cmd k) todo → x ≡ get_or todo 0 x → calls handlers abort ≡ true
    → StandsAborted old new x.n x.dev say → IsTried handlers abort (Cmd k) todo (succeeded say) old new
abort_tried handlers k [] x say old new begins x_is h st = absurd begins
abort_tried handlers k (y ∷ ys) x say old new begins x_is h st =
    let st' : StandsAborted old new y.n y.dev say = subst (λ (z : Todo). StandsAborted old new z.n z.dev say) x_is st in
    record {
      can = tried_can handlers abort say refl h;
      stands = λ s b P he last stood.
          subst (λ (j : CmdId). new s b (Act 2 (Cmd j) (succeeded say) ∷ P)) (cmd_is y k begins)
          (st' s b P y.cmd last.0.0 last.0.1 (ap (λ (g : Handlers). calls g abort) he ∙ h) stood).1;
    }

-- honest

pub nothing_let_go : (level : Level) (scope : Scope) (xs : List Todo) (old new : Meaning) → LetsGo level scope false xs new → NothingAdded old new → HonestAct level scope false xs old new
nothing_let_go level scope xs old new l h = (l, h)

holds_less : (level : Level) (scope : Scope) (ok : Bool) (xs : List Todo) (mid new : Meaning) → NothingAdded mid new → LetsGo level scope ok xs mid → LetsGo level scope ok xs new
holds_less abort scope true (x ∷ xs) mid new h l = λ d held. l d (h x.n.0 d held)
holds_less abort scope true [] mid new h l = tt
holds_less abort scope false xs mid new h l = tt
holds_less reset_device scope true xs mid new h l = λ n d held. l n d (h n d held)
holds_less reset_target scope true xs mid new h l = λ n d held. l n d (h n d held)
holds_less reset_bus scope true xs mid new h l = λ n d held. l n d (h n d held)
holds_less reset_host scope true xs mid new h l = λ n d held. l n d (h n d held)
holds_less reset_device scope false xs mid new h l = tt
holds_less reset_target scope false xs mid new h l = tt
holds_less reset_bus scope false xs mid new h l = tt
holds_less reset_host scope false xs mid new h l = tt
holds_less not_online scope ok xs mid new h l = tt
holds_less fetch_sense scope ok xs mid new h l = tt
holds_less start_unit scope ok xs mid new h l = tt
holds_less give_up scope ok xs mid new h l = tt
holds_less no_level scope ok xs mid new h l = tt

pub honest_then : (level : Level) (scope : Scope) (ok : Bool) (xs : List Todo) (old mid new : Meaning) → IfHonest (HonestAct level scope ok xs) old mid → SameNature old mid → IfHonest NothingAdded mid new
    → IfHonest (HonestAct level scope ok xs) old new
honest_then level scope ok xs old mid new h n k = λ honest tells.
    let first = h honest tells in
    let then = k (n.honest ∙ honest) (n.tells ∙ tells) in
    (holds_less level scope ok xs mid new then first.0, λ m d held. first.1 m d (then m d held))

pub nothing_then : (old mid new : Meaning) → IfHonest NothingAdded old mid → SameNature old mid → IfHonest NothingAdded mid new → IfHonest NothingAdded old new
nothing_then old mid new h n k = λ honest tells m d held. h honest tells m d (k (n.honest ∙ honest) (n.tells ∙ tells) m d held)

pub same_then : (old mid new : Meaning) → SameNature old mid → SameNature mid new → SameNature old new
same_then old mid new h k = record { honest = k.honest ∙ h.honest; tells = k.tells ∙ h.tells }

-- levels 1, 3 and 8 let nothing go
pub no_call_honest : (r : Rung) (ok : Bool) (xs : List Todo) (old new : Meaning) → is_call (level_at r) ≡ false → IfHonest NothingAdded old new → IfHonest (HonestAct (level_at r) (scope_at r) ok xs) old new
no_call_honest r ok xs old new c h = λ honest tells. (free r c, h honest tells)
  where
    free : (q : Rung) → is_call (level_at q) ≡ false → LetsGo (level_at q) (scope_at q) ok xs new
    free (FetchSense k) n = tt
    free (StartUnit d) n = tt
    free (GiveUp d) n = tt
    free (Abort k) n = cc n
    free (ResetDevice d) n = cc n
    free (ResetTarget k t) n = cc n
    free (ResetBus k) n = cc n
    free ResetHost n = cc n

-- what an honest abort or reset lets go
pub abort_honest : (k : CmdId) (todo : List Todo) (x : Todo) (say : EhSay) (old new : Meaning) → x ≡ get_or todo 0 x → IfHonest (HonestAbort x.n.0 say) old new → IfHonest (HonestAct abort (Cmd k) (succeeded say) todo) old new
abort_honest k [] x Succeeded old new x_is h = λ honest tells. (tt, (h honest tells).1)
abort_honest k (y ∷ ys) x Succeeded old new x_is h = λ honest tells. (subst (λ (z : Todo). IsFree new z.n.0) x_is (h honest tells).0, (h honest tells).1)
abort_honest k [] x Failed old new x_is h = λ honest tells. (tt, h honest tells)
abort_honest k (y ∷ ys) x Failed old new x_is h = λ honest tells. (tt, h honest tells)

pub reset_honest : (r : Rung) (xs : List Todo) (say : EhSay) (old new : Meaning) → is_call (level_at r) ≡ true → ((k : CmdId) → r ≡ Abort k → ⊥) → IfHonest (HonestReset (scope_at r) say) old new
    → IfHonest (HonestAct (level_at r) (scope_at r) (succeeded say) xs) old new
reset_honest (ResetDevice d) xs Succeeded old new c n h = h
reset_honest (ResetDevice d) xs Failed old new c n h = λ honest tells. (tt, h honest tells)
reset_honest (ResetTarget k t) xs Succeeded old new c n h = h
reset_honest (ResetTarget k t) xs Failed old new c n h = λ honest tells. (tt, h honest tells)
reset_honest (ResetBus k) xs Succeeded old new c n h = h
reset_honest (ResetBus k) xs Failed old new c n h = λ honest tells. (tt, h honest tells)
reset_honest ResetHost xs Succeeded old new c n h = h
reset_honest ResetHost xs Failed old new c n h = λ honest tells. (tt, h honest tells)
reset_honest (Abort k) xs say old new c n h = absurd (n k refl)
reset_honest (FetchSense k) xs say old new c n h = cc c
reset_honest (StartUnit d) xs say old new c n h = cc c
reset_honest (GiveUp d) xs say old new c n h = cc c

pub begins_some : (scope : Scope) (todo : List Todo) → BeginsIn scope todo → 1 ≤ length todo
begins_some scope [] h = absurd h
begins_some scope (x ∷ xs) h = omega arith
