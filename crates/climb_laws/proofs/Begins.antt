-- As recovery begins, what is cleared at once is what a ladder leaves out.
use Rattle.std.proofs.Common.{eq-eqb, ◌≡◌, ℕ, ◌==◌, Bool, true, false, not, ◌&&◌, ◌||◌, cond, filter, map, List, [], ◌∷◌, refl, sym, subst, ap, ap₂, ◌∙◌, ⊎_elim, Option}
use Rattle.std.specs.List.{list_any, list_all}
use Rattle.std.proofs.lemmas.Bool.{cases_Bool, or_left, or_right}
use Rattle.std.proofs.lemmas.Bool.Decides.{eqb_tells}
use Rattle.mid_base.specs.declared.names.DevAddr.{DevAddr}
use Rattle.mid_base.specs.declared.answers.Answer.{Answer}
use Rattle.mid_base.specs.declared.entries.Entry.{Entry}
use Rattle.mid_base.specs.declared.entries.Entry.TheVariants.{EhBegin, Cleared}
use Rattle.mid_base.specs.declared.host_spec.HostSpec.{HostSpec}
use Rattle.device_states.specs.States.{is_online_state}
use Rattle.disposition.specs.declared.todo.Todo.{Todo}
use Rattle.disposition.specs.Ladder.{pairs, beyond}
use Rattle.trace_model.specs.Names.{dev_of}
use Rattle.trace_model.specs.Devices.{has_begun, is_online}
use Rattle.trace_model.specs.Recovery.{Failure, failed, listed, todo_of, is_cleared, may_begin}
use Rattle.trace_model.specs.Course.{Follows}
use Rattle.trace_model.specs.Climb.{clear}
use Rattle.trace_model.specs.Rules.{is_lost}
use Rattle.trace_model.specs.Legal.{Group}
use Rattle.trace_model.proofs.Owes.{is_calm}
use Rattle.escalation.specs.Climbing.{begun, online_alone, clears, sensed}
use Rattle.climb_laws.specs.LadderOf.{IsLadderOf, is_on_list, lost_cleared, begun_at}
use Rattle.climb_laws.proofs.Calm.{Stays, stays_onto, answer_onto, cleared_onto}
use Rattle.climb_laws.proofs.Online.{has_command, spares, state_onto}
use Rattle.climb_laws.proofs.Listed.{todos, stands, Same, listed_same}

-- entries that clear commands

abbrev zeros : List Todo → List Entry
zeros xs = map (λ x. Cleared x.cmd 0) xs

zeros_calm : (xs : List Todo) → list_all is_calm (zeros xs) ≡ true
zeros_calm [] = refl
zeros_calm (x ∷ xs) = zeros_calm xs

zeros_spare : (d : DevAddr) (xs : List Todo) → list_all (spares d) (zeros xs) ≡ true
zeros_spare d [] = refl
zeros_spare d (x ∷ xs) = zeros_spare d xs

zeros_sensed : (n : ℕ) (xs : List Todo) (a : Option Answer) → sensed n (zeros xs) a ≡ a
zeros_sensed n [] a = refl
zeros_sensed n (x ∷ xs) a = zeros_sensed n xs a

zeros_clear : (c : ℕ) (xs : List Todo) → list_any (clears c) (zeros xs) ≡ has_command c xs
zeros_clear c [] = refl
zeros_clear c (x ∷ xs) = ap (λ (b : Bool). (x.cmd.0 == c) || b) (zeros_clear c xs)

zeros_follow : (xs : List Todo) → Follows (clear 0 xs) (zeros xs)
zeros_follow [] = tt
zeros_follow (x ∷ xs) = (refl, zeros_follow xs)

-- a failed command is among those that are cleared where its device isn't online

and_false : (b : Bool) → (b && false) ≡ false
and_false true = refl
and_false false = refl

lost_command : (s : HostSpec) (P : List Entry) (c : ℕ) (fs : List Failure) → has_command c (filter (is_lost s P) (todos s P fs)) ≡ (is_on_list c fs && not (is_online s (dev_of s c) P))
lost_command s P c [] = refl
lost_command s P c (f ∷ fs) =
    let rest : has_command c (filter (is_lost s P) (todos s P fs)) ≡ (is_on_list c fs && not (is_online s (dev_of s c) P)) = lost_command s P c fs in
    ⊎_elim
    (λ yes. ⊎_elim
    (λ on.
    let mine : is_online s (dev_of s c) P ≡ true = subst (λ (d : ℕ). is_online s (dev_of s d) P ≡ true) yes.1 on in
    rw on (rest ∙ (ap (λ (b : Bool). is_on_list c fs && not b) mine ∙ (and_false (is_on_list c fs) ∙ sym (ap (λ (b : Bool). ((f.cmd.0 == c) || is_on_list c fs) && not b) mine ∙ and_false ((f.cmd.0 == c) || is_on_list c fs))))))
    (λ off.
    let mine : is_online s (dev_of s c) P ≡ false = subst (λ (d : ℕ). is_online s (dev_of s d) P ≡ false) yes.1 off in
    rw off (rw yes.0 (sym (ap not mine))))
    (cases_Bool (is_online s (dev_of s f.cmd.0) P)))
    (λ no. ⊎_elim
    (λ on. rw on (rw no.0 rest))
    (λ off. rw off (rw no.0 rest))
    (cases_Bool (is_online s (dev_of s f.cmd.0) P)))
    (eqb_tells f.cmd.0 c)

online_left : (s : HostSpec) (P Q : List Entry) (fs : List Failure) → ((c : ℕ) → is_on_list c fs ≡ true → not (is_cleared c Q) ≡ is_online s (dev_of s c) P)
    → filter (λ (x : Todo). x.cx.online) (todos s P fs) ≡ filter (stands Q) (todos s P fs)
online_left s P Q [] h = refl
online_left s P Q (f ∷ fs) h =
    let x : Todo = todo_of s P f in
    let rest : filter (λ (y : Todo). y.cx.online) (todos s P fs) ≡ filter (stands Q) (todos s P fs) = online_left s P Q fs (λ c on. h c (or_right (f.cmd.0 == c) (is_on_list c fs) on)) in
    let here : not (is_cleared f.cmd.0 Q) ≡ is_online s (dev_of s f.cmd.0) P = h f.cmd.0 (or_left (f.cmd.0 == f.cmd.0) (is_on_list f.cmd.0 fs) (eq-eqb f.cmd.0 f.cmd.0 refl)) in
    ap (λ (ys : List Todo). cond (is_online s (dev_of s f.cmd.0) P) (x ∷ ys) ys) rest
    ∙ ap (λ (b : Bool). cond b (x ∷ filter (stands Q) (todos s P fs)) (filter (stands Q) (todos s P fs))) (sym here)

not_twice : (b : Bool) → not (not b || false) ≡ b
not_twice true = refl
not_twice false = refl

begun_stays : (s : HostSpec) (P : List Entry) → Stays (EhBegin ∷ P) (begun_at s P)
begun_stays s P = stays_onto (lost_cleared s P) (EhBegin ∷ P) (zeros_calm (filter (is_lost s P) (listed s P)))

begun_same : (s : HostSpec) (P : List Entry) → Same s P (begun_at s P)
begun_same s P =
    let xs : List Todo = filter (is_lost s P) (listed s P) in
    let stays : Stays (EhBegin ∷ P) (begun_at s P) = begun_stays s P in
    record {
      failed = stays.failed;
      answers = λ n. answer_onto n (lost_cleared s P) (EhBegin ∷ P) (zeros_calm xs) ∙ zeros_sensed n xs _;
      retries = stays.retries;
      online = λ d. ap is_online_state (state_onto s d (lost_cleared s P) (EhBegin ∷ P) (zeros_spare d xs));
    }

begun_cleared : (s : HostSpec) (P : List Entry) (c : ℕ) → is_on_list c (failed P) ≡ true → not (is_cleared c (begun_at s P)) ≡ is_online s (dev_of s c) P
begun_cleared s P c on =
    let xs : List Todo = filter (is_lost s P) (listed s P) in
    let among : has_command c xs ≡ not (is_online s (dev_of s c) P) = lost_command s P c (failed P) ∙ ap (λ (b : Bool). b && not (is_online s (dev_of s c) P)) on in
    ap not (cleared_onto c (lost_cleared s P) (EhBegin ∷ P) (zeros_calm xs) ∙ ap (λ (b : Bool). b || false) (zeros_clear c xs ∙ among))
    ∙ not_twice (is_online s (dev_of s c) P)

pub begun_ladder : (s : HostSpec) (P : List Entry) → IsLadderOf s (begun_at s P) (online_alone (begun (listed s P) s.handlers s.no_async_abort))
begun_ladder s P =
    let Q : List Entry = begun_at s P in
    let same : listed s Q ≡ listed s P = listed_same s P Q (begun_same s P) in
    let stays : Stays (EhBegin ∷ P) Q = begun_stays s P in
    record {
      left = online_left s P Q (failed P) (begun_cleared s P) ∙ sym (ap (filter (stands Q)) same);
      ahead = λ some. sym (ap₂ beyond stays.act (ap pairs same));
      handlers = refl;
      aborts = refl;
    }

pub begun_group : (s : HostSpec) (P : List Entry) → may_begin s P ≡ true → Group s P (EhBegin ∷ lost_cleared s P)
begun_group s P may = (may, zeros_follow (filter (is_lost s P) (listed s P)))

pub has_begun_there : (s : HostSpec) (P : List Entry) → has_begun (begun_at s P) ≡ true
has_begun_there s P = (begun_stays s P).begun

pub failed_there : (s : HostSpec) (P : List Entry) → failed (begun_at s P) ≡ failed P
failed_there s P = (begun_stays s P).failed
