-- The list of a journal, and what entries leave of it.
use Rattle.std.proofs.Common.{eq-eqb, ◌≡◌, ℕ, ◌==◌, Bool, true, false, not, ◌||◌, cond, filter, map, List, [], ◌∷◌, ◌++◌, refl, sym, subst, ap, ap₂, ◌∙◌, ⊎_elim, Option, None}
use Rattle.std.specs.List.{list_any}
use Rattle.std.proofs.lemmas.Bool.{eqb-true, cases_Bool, or_left, or_right, or_cases}
use Rattle.mid_base.specs.declared.names.DevAddr.{DevAddr}
use Rattle.mid_base.specs.declared.answers.Answer.{Answer}
use Rattle.mid_base.specs.declared.answers.Scope.{Scope}
use Rattle.mid_base.specs.declared.answers.Scope.TheVariants.{Cmd, Dev, Target, Bus, Host}
use Rattle.mid_base.specs.declared.entries.Entry.{Entry}
use Rattle.mid_base.specs.declared.entries.Entry.TheVariants.{Sensed}
use Rattle.mid_base.specs.declared.host_spec.HostSpec.{HostSpec}
use Rattle.disposition.specs.declared.todo.Todo.{Todo}
use Rattle.disposition.specs.Ladder.{Pair, pairs, devs, with_dev}
use Rattle.trace_model.specs.Names.{command, dev_of}
use Rattle.trace_model.specs.Attempts.{answer}
use Rattle.trace_model.specs.Commands.{retries}
use Rattle.trace_model.specs.Devices.{is_online}
use Rattle.trace_model.specs.Recovery.{Failure, failed, todo_of, is_cleared}
use Rattle.escalation.specs.Climbing.{clears, is_left, as_told, sensed, sensed_by}
use Rattle.climb_laws.specs.LadderOf.{is_on_list}
use Rattle.climb_laws.proofs.Online.{has_command}

abbrev pub todos : HostSpec → List Entry → List Failure → List Todo
todos s P fs = map (todo_of s P) fs

abbrev pub stands : List Entry → Todo → Bool
stands P x = not (is_cleared x.cmd.0 P)

-- the pairs are of the failed list alone

abbrev pairs_of : List Scope → List DevAddr → List Pair
pairs_of cmds ds =
    map (λ c. (1, c)) cmds ++ (map (λ c. (2, c)) cmds
    ++ (map (λ d. (3, Dev d)) ds ++ (map (λ d. (4, Dev d)) ds
    ++ (map (λ d. (5, Target d.channel d.target)) ds ++ (map (λ d. (6, Bus d.channel)) ds
    ++ ((7, Host) ∷ map (λ d. (8, Dev d)) ds))))))

same_cmds : (s : HostSpec) (P Q : List Entry) (fs : List Failure) → map (λ (x : Todo). Cmd x.cmd) (todos s Q fs) ≡ map (λ (x : Todo). Cmd x.cmd) (todos s P fs)
same_cmds s P Q [] = refl
same_cmds s P Q (f ∷ fs) = ap (λ (xs : List Scope). Cmd f.cmd ∷ xs) (same_cmds s P Q fs)

same_devs : (s : HostSpec) (P Q : List Entry) (fs : List Failure) → devs (todos s Q fs) ≡ devs (todos s P fs)
same_devs s P Q [] = refl
same_devs s P Q (f ∷ fs) = ap (with_dev (dev_of s f.cmd.0)) (same_devs s P Q fs)

pub same_pairs : (s : HostSpec) (P Q : List Entry) (fs : List Failure) → pairs (todos s Q fs) ≡ pairs (todos s P fs)
same_pairs s P Q fs = ap₂ pairs_of (same_cmds s P Q fs) (same_devs s P Q fs)

-- a failed command that isn't cleared is on the to-do list
pub in_todo : (s : HostSpec) (P : List Entry) (keep : Todo → Bool) (c : ℕ) (fs : List Failure) → ((f : Failure) → f.cmd.0 ≡ c → keep (todo_of s P f) ≡ true) → is_on_list c fs ≡ true → is_cleared c P ≡ false
    → has_command c (filter keep (filter (stands P) (todos s P fs))) ≡ true
in_todo s P keep c [] k h n = cc h
in_todo s P keep c (f ∷ fs) k h n = ⊎_elim
    (λ yes. rw yes (⊎_elim
    (λ here. absurd (cc (sym n ∙ subst (λ (d : ℕ). is_cleared d P ≡ true) (eqb-true f.cmd.0 c here) yes)))
    (λ more. in_todo s P keep c fs k more n)
    (or_cases (f.cmd.0 == c) (is_on_list c fs) h)))
    (λ no. rw no (⊎_elim
    (λ here. rw (k f (eqb-true f.cmd.0 c here)) (or_left (f.cmd.0 == c) (has_command c (filter keep (filter (stands P) (todos s P fs)))) here))
    (λ more. ⊎_elim
    (λ kept. rw kept (or_right (f.cmd.0 == c) (has_command c (filter keep (filter (stands P) (todos s P fs)))) (in_todo s P keep c fs k more n)))
    (λ gone. rw gone (in_todo s P keep c fs k more n))
    (cases_Bool (keep (todo_of s P f))))
    (or_cases (f.cmd.0 == c) (is_on_list c fs) h)))
    (cases_Bool (is_cleared f.cmd.0 P))

-- one failed command

abbrev made : HostSpec → Failure → Option Answer → ℕ → Bool → Todo
made s f a retried online = record {
  cmd = f.cmd;
  n = f.attempt;
  dev = dev_of s f.cmd.0;
  cancelled = f.cancelled;
  answer = a;
  cx = record { retries = retried; allowed = (command s f.cmd.0).allowed; failfast = (command s f.cmd.0).failfast; online = online };
}

same_either : (b : Bool) (a : Option Answer) → cond b a a ≡ a
same_either true a = refl
same_either false a = refl

one_none : (n : ℕ) (e : Entry) → sensed_by n e None ≡ None
one_none n (Sensed c m x) = same_either (m.0 == n) None
one_none n e = refl

none_sensed : (n : ℕ) (es : List Entry) → sensed n es None ≡ None
none_sensed n [] = refl
none_sensed n (e ∷ es) = ap (sensed n es) (one_none n e) ∙ none_sensed n es

answer_told : (cancelled : Bool) (n : ℕ) (es : List Entry) (a b : Option Answer) → b ≡ sensed n es a → cond cancelled None b ≡ sensed n es (cond cancelled None a)
answer_told true n es a b h = sym (none_sensed n es)
answer_told false n es a b h = h

one_told : (s : HostSpec) (P Q es : List Entry) (f : Failure) → answer f.attempt.0 Q ≡ sensed f.attempt.0 es (answer f.attempt.0 P) → retries f.cmd.0 Q ≡ retries f.cmd.0 P
    → is_online s (dev_of s f.cmd.0) Q ≡ is_online s (dev_of s f.cmd.0) P → todo_of s Q f ≡ as_told es (todo_of s P f)
one_told s P Q es f a r o =
    let n = f.attempt.0 in
    let old : Option Answer = cond f.cancelled None (answer n P) in
    let new : Option Answer = cond f.cancelled None (answer n Q) in
    let online : Bool = is_online s (dev_of s f.cmd.0) Q in
    ap (λ (x : Option Answer). made s f x (retries f.cmd.0 Q) online) (answer_told f.cancelled n es (answer n P) (answer n Q) a)
    ∙ (ap (λ (k : ℕ). made s f (sensed n es old) k online) r ∙ ap (λ (b : Bool). made s f (sensed n es old) (retries f.cmd.0 P) b) o)

-- what is left of the list behind entries
pub record Tells (s : HostSpec) (P Q es : List Entry) : Type 0 where
  pub answers : (n : ℕ) → answer n Q ≡ sensed n es (answer n P)
  pub retries : (c : ℕ) → retries c Q ≡ retries c P
  pub cleared : (c : ℕ) → is_cleared c Q ≡ (list_any (clears c) es || is_cleared c P)

or_true : (b : Bool) → (b || true) ≡ true
or_true true = refl
or_true false = refl

pub told_todo : (s : HostSpec) (P Q es : List Entry) (fs : List Failure) → Tells s P Q es
    → ((c : ℕ) → is_on_list c fs ≡ true → is_cleared c P ≡ false → list_any (clears c) es ≡ false → is_online s (dev_of s c) Q ≡ is_online s (dev_of s c) P)
    → filter (stands Q) (todos s Q fs) ≡ map (as_told es) (filter (is_left es) (filter (stands P) (todos s P fs)))
told_todo s P Q es [] h online = refl
told_todo s P Q es (f ∷ fs) h online =
    let c : ℕ = f.cmd.0 in
    let rest : filter (stands Q) (todos s Q fs) ≡ map (as_told es) (filter (is_left es) (filter (stands P) (todos s P fs))) =
    told_todo s P Q es fs h (λ d on. online d (or_right (f.cmd.0 == d) (is_on_list d fs) on))
    in
    ⊎_elim
    (λ was.
    let now : is_cleared f.cmd.0 Q ≡ true = h.cleared f.cmd.0 ∙ (ap (λ (b : Bool). list_any (clears f.cmd.0) es || b) was ∙ or_true (list_any (clears f.cmd.0) es)) in
    rw now (rw was rest))
    (λ not_yet. ⊎_elim
    (λ hit.
    let now : is_cleared f.cmd.0 Q ≡ true = h.cleared f.cmd.0 ∙ or_left (list_any (clears f.cmd.0) es) (is_cleared f.cmd.0 P) hit in
    rw now (rw not_yet (rw hit rest)))
    (λ miss.
    let now : is_cleared f.cmd.0 Q ≡ false = h.cleared f.cmd.0 ∙ (ap (λ (b : Bool). b || is_cleared f.cmd.0 P) miss ∙ not_yet) in
    let one : todo_of s Q f ≡ as_told es (todo_of s P f) =
    one_told s P Q es f (h.answers f.attempt.0) (h.retries f.cmd.0) (online f.cmd.0 (or_left (f.cmd.0 == f.cmd.0) (is_on_list f.cmd.0 fs) (eq-eqb f.cmd.0 f.cmd.0 refl)) not_yet miss)
    in
    rw now (rw not_yet (rw miss (ap₂ (λ (x : Todo) (xs : List Todo). x ∷ xs) one rest))))
    (cases_Bool (list_any (clears f.cmd.0) es)))
    (cases_Bool (is_cleared f.cmd.0 P))

-- a journal that says the same of each failed command has the same list
pub record Same (s : HostSpec) (P Q : List Entry) : Type 0 where
  pub failed : failed Q ≡ failed P
  pub answers : (n : ℕ) → answer n Q ≡ answer n P
  pub retries : (c : ℕ) → retries c Q ≡ retries c P
  pub online : (d : DevAddr) → is_online s d Q ≡ is_online s d P

todos_same : (s : HostSpec) (P Q : List Entry) (fs : List Failure) → Same s P Q → todos s Q fs ≡ todos s P fs
todos_same s P Q [] h = refl
todos_same s P Q (f ∷ fs) h =
    ap₂ (λ (x : Todo) (xs : List Todo). x ∷ xs) (one_told s P Q [] f (h.answers f.attempt.0) (h.retries f.cmd.0) (h.online (dev_of s f.cmd.0))) (todos_same s P Q fs h)

pub listed_same : (s : HostSpec) (P Q : List Entry) → Same s P Q → todos s Q (failed Q) ≡ todos s P (failed P)
listed_same s P Q h = todos_same s P Q (failed Q) h ∙ ap (todos s P) h.failed
