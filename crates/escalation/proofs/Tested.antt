-- What tests of devices tell is the course of them, and the commands on ready devices are cleared.
use Rattle.std.proofs.Common.{◌≡◌, ◌≤◌, ℕ, suc, zero, ◌+◌, ◌*◌, Bool, true, false, cond, not, ◌&&◌, List, [], ◌∷◌, ◌++◌, length, map, filter, refl, sym, ap, ◌∙◌, subst, ltb, ⊎_elim, Option, None, Some, arith, append_assoc}
use Rattle.std.proofs.lemmas.List.{append-nil, length-append, length-map}
use Rattle.std.proofs.lemmas.Bool.{cases_Bool}
use Rattle.mid_base.specs.declared.names.DevAddr.{DevAddr}
use Rattle.mid_base.specs.declared.answers.Answer.{Answer}
use Rattle.mid_base.specs.declared.answers.ProbeSay.{ProbeSay}
use Rattle.mid_base.specs.declared.answers.ProbeSay.TheVariants.{Answered, Silent as Nothing}
use Rattle.mid_base.specs.declared.entries.Entry.{Entry}
use Rattle.mid_base.specs.declared.entries.Entry.TheVariants.{Probe as Probed, Cleared}
use Rattle.mid_base.specs.Address.{same_dev}
use Rattle.mid_base.specs.Answers.{is_good, said_good}
use Rattle.mid_base.specs.Codes.{test_unit_ready}
use Rattle.disposition.specs.declared.todo.Todo.{Todo}
use Rattle.disposition.specs.Ladder.{devs, with_dev, address}
use Rattle.host_template.specs.Standing.{Standing}
use Rattle.host_template.specs.Laws.{SilentLaw}
use Rattle.trace_model.specs.Climb.{is_doubtful, tests, kept_if, clear, on_one_of, test_and_clear}
use Rattle.trace_model.specs.Course.{Course, over, ask, in_turn, Follows}
use Rattle.trace_model.specs.Legal.{onto}
use Rattle.eh_probe.specs.declared.says.Probe.{Probe}
use Rattle.eh_probe.specs.declared.says.Probe.TheVariants.{Good, Bad}
use Rattle.eh_probe.specs.declared.says.Tested.{Tested}
use Rattle.eh_probe.specs.Tests.{sorted, said, test_by, IsTest, second_entry, test_entries}
use Rattle.eh_probe.specs.Standings.{StandsAfter}
use Rattle.escalation.specs.Acts.{AreTested, Tests, GoesOn, cleared}

pub onto_append : (es fs P : List Entry) → onto (es ++ fs) P ≡ onto fs (onto es P)
onto_append [] fs P = refl
onto_append (e ∷ es) fs P = onto_append es fs (e ∷ P)

pub stands_both : (old mid new : Standing) (es fs : List Entry) → StandsAfter old mid es → StandsAfter mid new fs → StandsAfter old new (es ++ fs)
stands_both old mid new es fs h k = λ s b P stood. subst (λ (X : List Entry). new s b X) (sym (onto_append es fs P)) (k s b (onto es P) (h s b P stood))

abbrev pub kept : Tested → DevAddr → List DevAddr
kept t d = cond t.ready (d ∷ []) []

kept_more : (b : Bool) (e : DevAddr) (more last : List DevAddr) → cond b (e ∷ more) more ++ last ≡ cond b (e ∷ (more ++ last)) (more ++ last)
kept_more true e more last = refl
kept_more false e more last = refl

kept_first : (b : Bool) (d : DevAddr) → cond b (d ∷ []) [] ≡ cond b (d ∷ []) []
kept_first b d = refl

-- one device more is tested
pub tested_more : (ds : List DevAddr) (d : DevAddr) (ready : List DevAddr) (es : List Entry) (t : Tested) → AreTested ds ready es → IsTest t
    → AreTested (ds ++ d ∷ []) (ready ++ kept t d) (es ++ test_entries d t)
tested_more [] d ready es t h is = (
  t,
  (
    [],
    (
      [],
      (
        is,
        (refl, refl),
        ap (λ (x : List Entry). x ++ test_entries d t) h.1 ∙ sym (append-nil (test_entries d t)),
        ap (λ (x : List DevAddr). x ++ kept t d) h.0,
      ),
    ),
  ),
)
tested_more (e ∷ ds) d ready es t h is =
    let more = h.1.0 in
    let rest = h.1.1.0 in
    let parts = h.1.1.1 in (
      h.0,
      (
        more ++ kept t d,
        (
          rest ++ test_entries d t,
          (
            parts.0,
            tested_more ds d more rest t parts.1 is,
            ap (λ (x : List Entry). x ++ test_entries d t) parts.2 ∙ append_assoc (test_entries e h.0) rest (test_entries d t),
            ap (λ (x : List DevAddr). x ++ kept t d) parts.3 ∙ kept_more h.0.ready e more (kept t d),
          ),
        ),
      ),
    )

second_length : (d : DevAddr) (t : Tested) → length (test_entries d t) ≤ 2
second_length d t = elim t.second as (λ (o : Option Probe). length (Probed d test_unit_ready (said t.first) ∷ second_entry d o) ≤ 2) [ None ↦ omega arith | Some p ↦ omega arith ]

pub more_tests : (old mid new : Standing) (ds : List DevAddr) (d : DevAddr) (ready : List DevAddr) (before behind : List Entry) (t : Tested) → Tests old mid ds ready before behind → IsTest t
    → StandsAfter mid new (test_entries d t) → Tests old new (ds ++ d ∷ []) (ready ++ kept t d) before (behind ++ test_entries d t)
more_tests old mid new ds d ready before behind t h is stood = record {
  entries = h.entries ++ test_entries d t;
  told = ap (λ (x : List Entry). x ++ test_entries d t) h.told ∙ append_assoc before h.entries (test_entries d t);
  tested = tested_more ds d ready h.entries t h.tested is;
  stands = stands_both old mid new h.entries (test_entries d t) h.stands stood;
  few = omega (arith, h.few, second_length d t, length-append h.entries (test_entries d t), length-append ds (d ∷ []));
}

pub no_tests : (old : Standing) (ds ready : List DevAddr) (before : List Entry) → ds ≡ [] → ready ≡ [] → Tests old old ds ready before before
no_tests old ds ready before e r = record {
  entries = [];
  told = sym (append-nil before);
  tested = subst (λ (x : List DevAddr). AreTested x ready []) (sym e) (r, refl);
  stands = λ s b P stood. stood;
  few = omega arith;
}

-- what tests tell follows their course
said_either : (a : Answer) (good : Bool) → said (cond good (Good a) (Bad a)) ≡ Answered a
said_either a true = refl
said_either a false = refl

said_sorted : (say : ProbeSay) → said (sorted say) ≡ say
said_sorted (Answered a) = said_either a (is_good a)
said_sorted Nothing = refl

abbrev Opens : DevAddr → List DevAddr → (List DevAddr → Course) → List Entry → Tested → Type 0
Opens d ds k more t = Follows (tests ds (λ r. k (cond t.ready (d ∷ r) r))) more → Follows (tests (d ∷ ds) k) (test_entries d t ++ more)

abbrev one_test : ProbeSay → Tested
one_test say = record { first = sorted say; second = None; ready = said_good say }

abbrev two_tests : ProbeSay → ProbeSay → Tested
two_tests say again = record { first = sorted say; second = Some (sorted again); ready = said_good again }

abbrev again_course : DevAddr → List DevAddr → (List DevAddr → Course) → Course
again_course d ds k = ask d test_unit_ready None (λ again. tests ds (λ ready. k (kept_if again d ready)))

abbrev once_course : DevAddr → List DevAddr → (List DevAddr → Course) → ProbeSay → Course
once_course d ds k say = tests ds (λ ready. k (kept_if say d ready))

opens_once : (d : DevAddr) (ds : List DevAddr) (k : List DevAddr → Course) (more : List Entry) (say : ProbeSay) → is_doubtful say ≡ false → Opens d ds k more (one_test say)
opens_once d ds k more say e f =
    subst (λ (x : ProbeSay). Follows (tests (d ∷ ds) k) (Probed d test_unit_ready x ∷ more)) (sym (said_sorted say))
    ((refl, refl, refl), subst (λ (b : Bool). Follows (cond b (again_course d ds k) (once_course d ds k say)) more) (sym e) f)

opens_twice : (d : DevAddr) (ds : List DevAddr) (k : List DevAddr → Course) (more : List Entry) (say again : ProbeSay) → is_doubtful say ≡ true → Opens d ds k more (two_tests say again)
opens_twice d ds k more say again e f =
    subst (λ (x : ProbeSay). Follows (tests (d ∷ ds) k) (Probed d test_unit_ready x ∷ Probed d test_unit_ready (said (sorted again)) ∷ more)) (sym (said_sorted say))
    (subst (λ (y : ProbeSay). Follows (tests (d ∷ ds) k) (Probed d test_unit_ready say ∷ Probed d test_unit_ready y ∷ more)) (sym (said_sorted again))
    ((refl, refl, refl), subst (λ (b : Bool). Follows (cond b (again_course d ds k) (once_course d ds k say)) (Probed d test_unit_ready again ∷ more)) (sym e) ((refl, refl, refl), f)))

opens : (d : DevAddr) (ds : List DevAddr) (k : List DevAddr → Course) (more : List Entry) (t : Tested) → IsTest t → Opens d ds k more t
opens d ds k more t h =
    let say = h.0 in
    let again = h.1 in
    ⊎_elim
    (λ yes. subst (Opens d ds k more) (sym (h.2 ∙ ap (λ (b : Bool). cond b (two_tests say again) (one_test say)) yes)) (opens_twice d ds k more say again yes))
    (λ no. subst (Opens d ds k more) (sym (h.2 ∙ ap (λ (b : Bool). cond b (two_tests say again) (one_test say)) no)) (opens_once d ds k more say no))
    (cases_Bool (is_doubtful say))

pub follows_tests : (ds ready : List DevAddr) (es : List Entry) (k : List DevAddr → Course) (more : List Entry) → AreTested ds ready es → Follows (k ready) more → Follows (tests ds k) (es ++ more)
follows_tests [] ready es k more h f = subst (λ (x : List Entry). Follows (k []) (x ++ more)) (sym h.1) (subst (λ (r : List DevAddr). Follows (k r) more) h.0 f)
follows_tests (d ∷ ds) ready es k more h f =
    let t = h.0 in
    let rest = h.1.1.0 in
    let parts = h.1.1.1 in
    let inner = follows_tests ds h.1.0 rest (λ r. k (cond t.ready (d ∷ r) r)) more parts.1 (subst (λ (r : List DevAddr). Follows (k r) more) parts.3 f) in
    subst (λ (x : List Entry). Follows (tests (d ∷ ds) k) (x ++ more)) (sym parts.2)
    (subst (λ (x : List Entry). Follows (tests (d ∷ ds) k) x) (sym (append_assoc (test_entries d t) rest more)) (opens d ds k (rest ++ more) t parts.0 inner))

-- entries one after the other
pub follows_in_turn : (es : List Entry) → Follows (in_turn es over) es
follows_in_turn [] = tt
follows_in_turn (e ∷ es) = (refl, follows_in_turn es)

pub stands_cleared : (at : Standing) → SilentLaw at → (level : ℕ) (xs : List Todo) → StandsAfter at at (cleared level xs)
stands_cleared at law level [] = λ s b P stood. stood
stands_cleared at law level (x ∷ xs) = λ s b P stood. stands_cleared at law level xs s b (Cleared x.cmd level ∷ P) (law s b P (Cleared x.cmd level) tt stood)

filter_length : {X : Type 0} (p : X → Bool) (xs : List X) → length (filter p xs) ≤ length xs
filter_length p [] = omega arith
filter_length p (x ∷ xs) = ⊎_elim
    (λ yes. rw yes (more (length (filter p xs)) (length xs) (filter_length p xs)))
    (λ no. rw no (less (length (filter p xs)) (length xs) (filter_length p xs)))
    (cases_Bool (p x))
  where
    more : (m n : ℕ) → m ≤ n → suc m ≤ suc n
    more m n h = omega (arith, h)

    less : (m n : ℕ) → m ≤ n → m ≤ suc n
    less m n h = omega (arith, h)

with_length : (d : DevAddr) (ds : List DevAddr) → length (with_dev d ds) ≤ suc (length ds)
with_length d [] = omega arith
with_length d (e ∷ ds) = ⊎_elim
    (λ same. rw same (omega arith))
    (λ other. ⊎_elim (λ less. rw other (rw less (omega arith))) (λ more. rw other (rw more (omega (arith, with_length d ds)))) (cases_Bool (ltb (address d) (address e))))
    (cases_Bool (same_dev d e))

pub devs_length : (xs : List Todo) → length (devs xs) ≤ length xs
devs_length [] = omega arith
devs_length (x ∷ xs) = omega (arith, with_length x.dev (devs xs), devs_length xs)

-- the whole of it
pub tested_and_cleared : (old mid new : Standing) (level : ℕ) (xs : List Todo) (ds ready : List DevAddr) (before between behind : List Entry) → SilentLaw mid → ds ≡ devs xs → Tests old mid ds ready before between
    → behind ≡ between ++ cleared level (filter (on_one_of ready) xs)
    → GoesOn old mid (test_and_clear level xs) (3 * length xs) before behind
tested_and_cleared old mid new level xs ds ready before between behind law ds_are h e =
    let ys = filter (on_one_of ready) xs in
    let es = h.entries in
    let tested : AreTested (devs xs) ready es = subst (λ (x : List DevAddr). AreTested x ready es) ds_are h.tested in
    let short : length es ≤ 2 * length (devs xs) = subst (λ (x : List DevAddr). length es ≤ 2 * length x) ds_are h.few in
    record {
      entries = es ++ cleared level ys;
      told = e ∙ (ap (λ (x : List Entry). x ++ cleared level ys) h.told ∙ append_assoc before es (cleared level ys));
      course = follows_tests (devs xs) ready es (λ (r : List DevAddr). clear level (filter (on_one_of r) xs)) (cleared level ys) tested (follows_in_turn (cleared level ys));
      stands = stands_both old mid mid es (cleared level ys) h.stands (stands_cleared mid law level ys);
      few = omega (arith, short, devs_length xs, length-append es (cleared level ys), length-map ys (λ (x : Todo). Cleared x.cmd level), filter_length (on_one_of ready) xs);
    }
