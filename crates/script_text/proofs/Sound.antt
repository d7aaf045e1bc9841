-- What a good script says keeps the limits.
use Rattle.std.proofs.Common.{◌≡◌, ℕ, ◌+◌, ◌-◌, ◌≤◌, Bool, true, false, not, ◌&&◌, List, [], ◌∷◌, ◌++◌, length, Option, Some, None, Result, Ok, Err, unwrap_or, refl, ◌∙◌, subst, arith, inl, inr}
use Rattle.std.specs.Prelude.{◌==◌, nat_le, nat_lt, All, is_some}
use Rattle.std.specs.List.{list_any}
use Rattle.std.specs.Ordering.{nat_cmp}
use Rattle.std.specs.BTreeSet.{insert_key}
use Rattle.std.proofs.lemmas.Bool.{cases_Bool, and_parts, leb-true, lt-ltb, ltb-true}
use Rattle.std.proofs.lemmas.Bool.Decides.{nat_tests}
use Rattle.std.proofs.lemmas.List.Elements.{All-cons, All-nil}
use Rattle.mid_base.specs.Address.{same_dev, has_dev}
use Rattle.mid_base.specs.Limits.{is_lun, is_command, is_fault, is_planned, KeepsLimits}
use Rattle.mid_base.specs.declared.names.HostNo.{HostNo}
use Rattle.mid_base.specs.declared.faults.PlanEntry.{PlanEntry}
use Rattle.mid_base.specs.declared.host_spec.LunSpec.{LunSpec}
use Rattle.mid_base.specs.declared.host_spec.CmdSpec.{CmdSpec}
use Rattle.mid_base.specs.declared.host_spec.HostSpec.{HostSpec}
use Rattle.mid_base.specs.declared.steps.Step.{Step}
use Rattle.mid_base.specs.declared.steps.Step.TheVariants as steps
use Rattle.script_words.specs.declared.kind.Kind.{Kind}
use Rattle.script_words.specs.declared.kind.Kind.TheVariants as kinds
use Rattle.script_words.specs.declared.keywords.Keyword.{Keyword}
use Rattle.script_words.specs.declared.keywords.Keyword.TheVariants as lines
use Rattle.script_words.specs.declared.plan_kinds.PlanKind.{PlanKind}
use Rattle.script_words.specs.declared.plan_kinds.PlanKind.TheVariants as plans
use Rattle.script_words.specs.Pieces.{value, words, is_last, lines as lines_of}
use Rattle.script_words.specs.Hex.{digit, half_value, bytes_value, cdb_of}
use Rattle.script_words.specs.Words.{handlers_value, address_value}
use Rattle.script_words.specs.Keywords.{keyword, is_remark, plan_kind, failfast}
use Rattle.script_words.specs.Faults.{unless_true, number_fault}
use Rattle.script_text.specs.declared.script.Script.{Script}
use Rattle.script_text.specs.declared.script.Bad.{Bad}
use Rattle.script_text.specs.Said.{Said, nothing, host_of, with_unit, with_planned, with_command, on_host}
use Rattle.script_text.specs.Slots.{slots, some_fault_slots, or_else, first_fault, is_read_only, is_stopped, is_scan}
use Rattle.script_text.specs.Adds.{adds, start_state, step_in, some_fault_of, is_more, fill_of}
use Rattle.script_text.specs.Script.{is_again, is_full, keyword_fault, unless, judge_slots, after_keyword, judge_rest, judge, whole, at_line, after_line, counted, judge_lines, script_of}
use Rattle.script_text.specs.Playable.{IsStepOf, differ_in_number, IsPlayable}
use Rattle.script_text.proofs.Grown.{any_kept, numbers_more, true_not}
use Rattle.script_text.proofs.Ids.{one_more_id}
use Rattle.script_text.proofs.Kept.{HostKeeps, more_ids, more_plans, unit_keeps, planned_keeps, command_keeps, host_limits, Each, each_more, each_where, each_on, numbers_differ, none_named, Widens, step_stays, step_before}
use Rattle.script_text.proofs.Fitting.{block_fits, none_unless, none_of_both, Fits, fits, number_fits, number_below, new_host_fits, host_fits, roomy_fits, new_unit_fits, unit_fits, new_command_fits, step_fits}

abbrev StepsKeep : List HostSpec → List (ℕ × HostNo × Step) → Type 0
StepsKeep hosts [] = Unit {0}
StepsKeep hosts (s ∷ steps) = IsStepOf hosts s × StepsKeep hosts steps

-- what the lines so far say is within the limits
record Keeps (hosts : List HostSpec) (ids : List ℕ) (plans : ℕ) (made : List (ℕ × HostNo × Step)) : Type 0 where
  each : Each (HostKeeps ids plans) hosts
  numbers : differ_in_number hosts ≡ true
  few_ids : length ids ≤ 65536
  few_plans : plans ≤ 65536
  steps : StepsKeep hosts made

abbrev SaidKeeps : Said → Type 0
SaidKeeps said = Keeps said.hosts said.ids said.plans said.steps

-- steps stay possible
steps_before : (hosts : List HostSpec) (h : HostSpec) (steps : List (ℕ × HostNo × Step)) → StepsKeep hosts steps → StepsKeep (hosts ++ h ∷ []) steps
steps_before hosts h [] all = tt
steps_before hosts h (s ∷ steps) all = (step_before hosts h s.1.0 s.2 all.0, steps_before hosts h steps all.1)

steps_stay : (n : ℕ) (f : HostSpec → HostSpec) (hosts : List HostSpec) (steps : List (ℕ × HostNo × Step)) → ((h : HostSpec) → (f h).no.0 ≡ h.no.0) → Widens f → StepsKeep hosts steps → StepsKeep (on_host n f hosts) steps
steps_stay n f hosts [] same wide all = tt
steps_stay n f hosts (s ∷ steps) same wide all = (step_stays n f hosts s.1.0 s.2 same wide all.0, steps_stay n f hosts steps same wide all.1)

one_step_more : (hosts : List HostSpec) (steps : List (ℕ × HostNo × Step)) (s : ℕ × HostNo × Step) → StepsKeep hosts steps → IsStepOf hosts s → StepsKeep hosts (steps ++ s ∷ [])
one_step_more hosts [] s all one = (one, tt)
one_step_more hosts (t ∷ steps) s all one = (all.0, one_step_more hosts steps s all.1 one)

unit_widens : (l : LunSpec) → Widens (with_unit l)
unit_widens l h (steps.SetState dev state) e = any_kept (λ m. same_dev m.dev dev) h.luns (l ∷ []) e
unit_widens l h _ e = e

planned_widens : (p : PlanEntry) → Widens (with_planned p)
planned_widens p h (steps.SetState dev state) e = e
planned_widens p h _ e = e

command_widens : (k : CmdSpec) → Widens (with_command k)
command_widens k h (steps.Submit lane) e = any_kept (λ j. j.lane.0 == lane.0) h.cmds (k ∷ []) e
command_widens k h _ e = e

-- a key is half a byte
digit_below : (b : ℕ) → nat_lt (unwrap_or (digit b) 0) 16 ≡ true
digit_below b =
    elim (cases_Bool (nat_le 48 b && nat_le b 57)) [
      | inl t ↦ rw t (lt-ltb (b - 48) 16 (omega (arith, leb-true b 57 (and_parts (nat_le 48 b) (nat_le b 57) t).1)))
      | inr f ↦
          rw f
          (elim (cases_Bool (nat_le 97 b && nat_le b 102)) [
            | inl t ↦ rw t (lt-ltb (b - 87) 16 (omega (arith, leb-true b 102 (and_parts (nat_le 97 b) (nat_le b 102) t).1)))
            | inr g ↦
                rw g
                (elim (cases_Bool (nat_le 65 b && nat_le b 70)) [
                  | inl t ↦ rw t (lt-ltb (b - 55) 16 (omega (arith, leb-true b 70 (and_parts (nat_le 65 b) (nat_le b 70) t).1)))
                  | inr k ↦ rw k refl
                ])
          ])
    ]

half_below : (word : List ℕ) → nat_lt (half_value word) 16 ≡ true
half_below [] = refl
half_below (b ∷ []) = digit_below b
half_below (b ∷ c ∷ rest) = refl

fault_fits : (said : Said) (host : Option HostSpec) (kind : Option PlanKind) (rest : List (List ℕ)) → Fits said host (some_fault_slots kind) rest → is_fault (some_fault_of kind rest) ≡ true
fault_fits said host None rest f = refl
fault_fits said host (Some plans.Latency) [] f = refl
fault_fits said host (Some plans.Latency) (ticks ∷ rest) f = number_fits 1 10000 ticks f.0
fault_fits said host (Some plans.Check) [] f = refl
fault_fits said host (Some plans.Check) (a ∷ []) f = refl
fault_fits said host (Some plans.Check) (a ∷ b ∷ []) f = refl
fault_fits said host (Some plans.Check) (a ∷ b ∷ c ∷ rest) f = half_below a
fault_fits said host (Some plans.NoSense) [] f = refl
fault_fits said host (Some plans.NoSense) (a ∷ []) f = refl
fault_fits said host (Some plans.NoSense) (a ∷ b ∷ []) f = refl
fault_fits said host (Some plans.NoSense) (a ∷ b ∷ c ∷ rest) f = half_below a
fault_fits said host (Some plans.Raw) [] f = refl
fault_fits said host (Some plans.Raw) (a ∷ rest) f = refl
fault_fits said host (Some plans.Status) [] f = refl
fault_fits said host (Some plans.Status) (a ∷ []) f = refl
fault_fits said host (Some plans.Status) (a ∷ b ∷ rest) f = refl
fault_fits said host (Some _) rest f = refl

-- a line of each kind
after_host : (said : Said) (ws : List (List ℕ)) → SaidKeeps said → Fits said None (slots lines.HostLine) ws → SaidKeeps (adds said lines.HostLine ws)
after_host said [] k f = k
after_host said (a ∷ []) k f = k
after_host said (a ∷ b ∷ []) k f = k
after_host said (a ∷ b ∷ c ∷ rest) k f =
    let h : HostSpec = record { no = record { 0 = value a }; can_queue = value b; handlers = handlers_value c; no_async_abort = is_more rest; luns = []; cmds = []; plan = [] } in
    let low : number_fault 0 63 a ≡ None = (none_of_both (number_fault 0 63 a) (unless_true kinds.Twice (not (is_some (host_of said.hosts (value a))))) f.0).0 in
    record {
      each =
          each_more (HostKeeps said.ids said.plans) said.hosts h k.each
          (record {
            number = number_below 0 63 a low;
            tags = number_fits 1 1024 b f.1.0;
            lun_count = omega arith;
            command_count = omega arith;
            plan_count = omega arith;
            luns = refl;
            addresses = refl;
            commands = refl;
            differ = refl;
            known = refl;
            plan = refl;
          });
      numbers = numbers_more said.hosts h k.numbers (none_named (value a) said.hosts (new_host_fits said a f.0));
      few_ids = k.few_ids;
      few_plans = k.few_plans;
      steps = steps_before said.hosts h said.steps k.steps;
    }

after_lun : (said : Said) (ws : List (List ℕ)) → SaidKeeps said → Fits said None (slots lines.LunLine) ws → SaidKeeps (adds said lines.LunLine ws)
after_lun said [] k f = k
after_lun said (a ∷ []) k f = k
after_lun said (a ∷ b ∷ []) k f = k
after_lun said (a ∷ b ∷ c ∷ []) k f = k
after_lun said (a ∷ b ∷ c ∷ d ∷ flags) k f =
    let l : LunSpec = record { dev = address_value b; blocks = value c; depth = value d; read_only = list_any is_read_only flags; stopped = list_any is_stopped flags; start = start_state (list_any is_scan flags) } in
    let unit = new_unit_fits (host_of said.hosts (value a)) b f.1.0 in
    let room = roomy_fits said a f.0 in
    let good : is_lun l ≡ true = rw (unit.0, number_fits 1 4294967295 c f.1.1.0, number_fits 1 1024 d f.1.1.1.0) refl in
    record {
      each =
          each_on (HostKeeps said.ids said.plans) (HostKeeps said.ids said.plans) (value a) (with_unit l) (λ h keeps. keeps) said.hosts
          (λ h e keeps. unit_keeps said.ids said.plans l h good (rw e at unit.1) (ltb-true (length h.luns) 256 (rw e at room)) keeps)
          k.each;
      numbers = numbers_differ (value a) (with_unit l) said.hosts (λ h. refl) ∙ k.numbers;
      few_ids = k.few_ids;
      few_plans = k.few_plans;
      steps = steps_stay (value a) (with_unit l) said.hosts said.steps (λ h. refl) (unit_widens l) k.steps;
    }

after_plan : (said : Said) (ws : List (List ℕ)) → SaidKeeps said → is_full said lines.PlanLine ≡ false → Fits said None (slots lines.PlanLine) ws → SaidKeeps (adds said lines.PlanLine ws)
after_plan said [] k room f = k
after_plan said (a ∷ []) k room f = k
after_plan said (a ∷ b ∷ []) k room f = k
after_plan said (a ∷ b ∷ c ∷ []) k room f = k
after_plan said (a ∷ b ∷ c ∷ d ∷ []) k room f = k
after_plan said (a ∷ b ∷ c ∷ d ∷ g ∷ []) k room f = k
after_plan said (a ∷ b ∷ c ∷ d ∷ g ∷ j ∷ rest) k room f =
    let p : PlanEntry = record { dev = address_value b; fault = some_fault_of (plan_kind c) rest; first = value d; every = value g; uses = value j } in
    let unit = unit_fits (host_of said.hosts (value a)) b f.1.0 in
    let fault = fault_fits said (host_of said.hosts (value a)) (plan_kind c) rest f.1.1.1.1.1.1 in
    record {
      each =
          each_on (HostKeeps said.ids said.plans) (HostKeeps said.ids (said.plans + 1)) (value a) (with_planned p) (λ h keeps. more_plans said.ids said.plans h keeps) said.hosts
          (λ h e keeps.
          let own : has_dev h.luns (address_value b) ≡ true = rw e at unit in
          let good : is_planned h.luns p ≡ true = rw (own, fault, number_fits 1 65535 d f.1.1.1.0, number_fits 1 65535 g f.1.1.1.1.0, number_fits 1 65535 j f.1.1.1.1.1.0) refl in
          planned_keeps said.ids said.plans p h good keeps)
          k.each;
      numbers = numbers_differ (value a) (with_planned p) said.hosts (λ h. refl) ∙ k.numbers;
      few_ids = k.few_ids;
      few_plans = grind (arith, nat_tests);
      steps = steps_stay (value a) (with_planned p) said.hosts said.steps (λ h. refl) (planned_widens p) k.steps;
    }

after_command : (said : Said) (ws : List (List ℕ)) → SaidKeeps said → is_full said lines.CommandLine ≡ false → Fits said None (slots lines.CommandLine) ws → SaidKeeps (adds said lines.CommandLine ws)
after_command said [] k room f = k
after_command said (a ∷ []) k room f = k
after_command said (a ∷ b ∷ []) k room f = k
after_command said (a ∷ b ∷ c ∷ []) k room f = k
after_command said (a ∷ b ∷ c ∷ d ∷ []) k room f = k
after_command said (a ∷ b ∷ c ∷ d ∷ g ∷ []) k room f = k
after_command said (a ∷ b ∷ c ∷ d ∷ g ∷ j ∷ []) k room f = k
after_command said (a ∷ b ∷ c ∷ d ∷ g ∷ j ∷ m ∷ []) k room f = k
after_command said (a ∷ b ∷ c ∷ d ∷ g ∷ j ∷ m ∷ n ∷ rest) k room f =
    let c : CmdSpec = record { id = record { 0 = value a }; lane = record { 0 = value c }; dev = address_value d; cdb = cdb_of (bytes_value n); fill = fill_of rest; timeout = value g; allowed = value j; failfast = unwrap_or (failfast m) false } in
    let id = new_command_fits said a f.0 in
    let unit = unit_fits (host_of said.hosts (value b)) d f.1.1.1.0 in
    record {
      each =
          each_on (HostKeeps said.ids said.plans) (HostKeeps (insert_key nat_cmp said.ids (value a)) said.plans) (value b) (with_command c) (λ h keeps. more_ids said.ids said.plans (value a) h id.1 keeps) said.hosts
          (λ h e keeps.
          let own : has_dev h.luns (address_value d) ≡ true = rw e at unit in
          let good : is_command h.luns c ≡ true = rw (own, id.0, number_below 0 63 _ f.1.1.0, number_fits 1 10000 g f.1.1.1.1.0, number_below 0 20 j f.1.1.1.1.1.0, block_fits n f.1.1.1.1.1.1.1.0) refl in
          command_keeps said.ids said.plans c h good id.1 keeps)
          k.each;
      numbers = numbers_differ (value b) (with_command c) said.hosts (λ h. refl) ∙ k.numbers;
      few_ids = grind (arith, nat_tests, one_more_id said.ids (value a) id.1);
      few_plans = k.few_plans;
      steps = steps_stay (value b) (with_command c) said.hosts said.steps (λ h. refl) (command_widens c) k.steps;
    }

after_step : (said : Said) (ws : List (List ℕ)) → SaidKeeps said → Fits said None (slots lines.StepLine) ws → SaidKeeps (adds said lines.StepLine ws)
after_step said [] k f = k
after_step said (a ∷ ws) k f =
    record {
      each = k.each;
      numbers = k.numbers;
      few_ids = k.few_ids;
      few_plans = k.few_plans;
      steps = one_step_more said.hosts said.steps (said.line, record { 0 = value a }, step_in ws) k.steps (step_fits said (host_of said.hosts (value a)) ws (host_fits said a f.0) f.1);
    }

after_budget : (said : Said) (ws : List (List ℕ)) → SaidKeeps said → SaidKeeps (adds said lines.BudgetLine ws)
after_budget said [] k = k
after_budget said (a ∷ ws) k = k

after_end : (said : Said) (ws : List (List ℕ)) → SaidKeeps said → SaidKeeps (adds said lines.EndLine ws)
after_end said [] k = k
after_end said (a ∷ ws) k = k

after_line_of : (said : Said) (key : Keyword) (ws : List (List ℕ)) → SaidKeeps said → is_full said key ≡ false → Fits said None (slots key) ws → SaidKeeps (adds said key ws)
after_line_of said lines.HostLine ws k room f = after_host said ws k f
after_line_of said lines.LunLine ws k room f = after_lun said ws k f
after_line_of said lines.PlanLine ws k room f = after_plan said ws k room f
after_line_of said lines.CommandLine ws k room f = after_command said ws k room f
after_line_of said lines.StepLine ws k room f = after_step said ws k f
after_line_of said lines.BudgetLine ws k room f = after_budget said ws k
after_line_of said lines.EndLine ws k room f = after_end said ws k

unless_ok : (fault : Option Kind) (s t : Said) → unless fault s ≡ Ok t → (fault ≡ None) × (s ≡ t)
unless_ok None s t e = (refl, cc)
unless_ok (Some k) s t e = absurd (cc)

keyword_ok : (fault : Option Kind) (r : Result Said Kind) (t : Said) → after_keyword fault r ≡ Ok t → (fault ≡ None) × (r ≡ Ok t)
keyword_ok None r t e = (refl, e)
keyword_ok (Some k) r t e = absurd (cc)

not_full : (said : Said) (key : Keyword) → keyword_fault said key ≡ None → is_full said key ≡ false
not_full said key e =
    let a = none_of_both (unless_true kinds.Twice (not (is_again said key))) (or_else (unless_true kinds.AfterEnd (not said.ended)) (unless_true kinds.Limit (not (is_full said key)))) e in
    let b = none_of_both (unless_true kinds.AfterEnd (not said.ended)) (unless_true kinds.Limit (not (is_full said key))) a.1 in
    true_not (is_full said key) (none_unless kinds.Limit (not (is_full said key)) b.1)

judged_rest : (said t : Said) (ws : List (List ℕ)) (key : Option Keyword) → SaidKeeps said → judge_rest said ws key ≡ Ok t → SaidKeeps t
judged_rest said t ws None k e = absurd (cc)
judged_rest said t ws (Some key) k e =
    let a = keyword_ok (keyword_fault said key) (judge_slots said key ws) t e in
    let b = unless_ok (first_fault said None (slots key) ws) (adds said key ws) t a.1 in
    subst SaidKeeps b.1 (after_line_of said key ws k (not_full said key a.0) (fits said None (slots key) ws b.0))

judged : (said t : Said) (ws : List (List ℕ)) → SaidKeeps said → judge said ws ≡ Ok t → SaidKeeps t
unfolding judge
judged said t [] k e = let same : said ≡ t = cc in subst SaidKeeps same k
judged said t (w ∷ ws) k e =
    elim (cases_Bool (is_remark w)) [
      | inl r ↦ let h = rw r at e in let same : said ≡ t = cc h in subst SaidKeeps same k
      | inr f ↦ judged_rest said t ws (keyword w) k (rw f at e)
    ]

-- a whole script
each_all : (P : HostSpec → Type 0) (hosts : List HostSpec) → Each P hosts → All P hosts
each_all P [] all = All-nil P
each_all P (h ∷ hosts) all = All-cons P h hosts all.0 (each_all P hosts all.1)

steps_all : (hosts : List HostSpec) (steps : List (ℕ × HostNo × Step)) → StepsKeep hosts steps → All (IsStepOf hosts) steps
steps_all hosts [] all = All-nil (IsStepOf hosts)
steps_all hosts (s ∷ steps) all = All-cons (IsStepOf hosts) s steps all.0 (steps_all hosts steps all.1)

whole_plays : (n : ℕ) (said : Said) (s : Script) → SaidKeeps said → whole n said ≡ Ok s → IsPlayable s
whole_plays n said s k e =
    elim (cases_Bool said.ended) [
      | inl t ↦
          let h = rw t at e in
          let same : ◌≡◌ {A = Script} (record { hosts = said.hosts; scans = said.scans; steps = said.steps; budget = said.budget; drain = said.drain }) s = cc h in
          subst IsPlayable same
          (record {
            limits = each_all KeepsLimits said.hosts (each_where (HostKeeps said.ids said.plans) KeepsLimits (λ g keeps. host_limits said.ids said.plans g k.few_ids k.few_plans keeps) said.hosts k.each);
            numbers = k.numbers;
            steps = steps_all said.hosts said.steps k.steps;
          })
      | inr f ↦ absurd (let h = rw f at e in cc h)
    ]

after_judged : (n : ℕ) (said : Said) (ws : List (List ℕ)) (go_on : Said → Result Script Bad) (s : Script) → SaidKeeps said → ((t : Said) → SaidKeeps t → go_on t ≡ Ok s → IsPlayable s)
    → (r : Result Said Kind) → judge said ws ≡ r → after_line n go_on r ≡ Ok s → IsPlayable s
after_judged n said ws go_on s k plays (Ok t) at e = plays t (judged said t ws k at) e
after_judged n said ws go_on s k plays (Err kind) at e = absurd (cc)

lines_play : (is_cut : Bool) (n : ℕ) (said : Said) (ls : List (List ℕ)) (s : Script) → SaidKeeps said → judge_lines is_cut n said ls ≡ Ok s → IsPlayable s
unfolding judge_lines
lines_play is_cut n said [] s k e = whole_plays n said s k e
lines_play is_cut n said (line ∷ ls) s k e =
    elim (cases_Bool (is_cut && is_last ls)) [
      | inl too_long ↦ absurd (let h = rw too_long at e in cc h)
      | inr fits_in ↦
          after_judged n (at_line n said) (words line) (λ t. judge_lines is_cut (n + 1) t ls) s k (λ t j h. lines_play is_cut (n + 1) t ls s j h)
          (judge (at_line n said) (words line)) refl (rw fits_in at e)
    ]

-- what a good script says can be played
pub script_plays : (text : List ℕ) (s : Script) → script_of text ≡ Ok s → IsPlayable s
unfolding script_of
script_plays text s e = lines_play (nat_lt 16777216 (length text)) 1 nothing (lines_of (counted text)) s (record { each = tt; numbers = refl; few_ids = omega arith; few_plans = omega arith; steps = tt }) e
