-- How entries that a loop makes are a course, and how a journal goes on by a group.
use Rattle.std.proofs.Common.{◌≡◌, Bool, true, false, cond, List, [], ◌∷◌, ◌++◌, reverse, refl, sym, subst, ap, ◌∙◌, append_assoc}
use Rattle.std.proofs.lemmas.List.{reverse-append}
use Rattle.mid_base.specs.declared.names.DevAddr.{DevAddr}
use Rattle.mid_base.specs.declared.answers.ProbeSay.{ProbeSay}
use Rattle.mid_base.specs.declared.entries.Entry.{Entry}
use Rattle.mid_base.specs.declared.entries.Entry.TheVariants.{Probe}
use Rattle.mid_base.specs.declared.host_spec.HostSpec.{HostSpec}
use Rattle.trace_model.specs.Course.{Course, Follows}
use Rattle.mid_base.specs.Codes.{test_unit_ready}
use Rattle.trace_model.specs.Climb.{tests, is_doubtful, kept_if}
use Rattle.trace_model.specs.Legal.{onto, Group, ByGroups, Legal}

-- what the code of one test says: the first answer, the second where the first is doubtful, and whether the device is kept
pub data Tested (d : DevAddr) : List Entry → ProbeSay → Type 0 where
  once : (say : ProbeSay) → is_doubtful say ≡ false → Tested d (Probe d test_unit_ready say ∷ []) say
  twice : (say again : ProbeSay) → is_doubtful say ≡ true → Tested d (Probe d test_unit_ready say ∷ Probe d test_unit_ready again ∷ []) again

pub data AllTested : List DevAddr → List Entry → List DevAddr → Type 0 where
  none : AllTested [] [] []
  more : (d : DevAddr) (ds : List DevAddr) (es fs : List Entry) (say : ProbeSay) (ready : List DevAddr) → Tested d es say → AllTested ds fs ready → AllTested (d ∷ ds) (es ++ fs) (kept_if say d ready)

pub split_no : (b : Bool) (x y : Course) (es : List Entry) → b ≡ false → Follows y es → Follows (cond b x y) es
split_no b x y es q f = subst (λ c. Follows (cond c x y) es) (sym q) f

pub split_yes : (b : Bool) (x y : Course) (es : List Entry) → b ≡ true → Follows x es → Follows (cond b x y) es
split_yes b x y es q f = subst (λ c. Follows (cond c x y) es) (sym q) f

pub one_test : (d : DevAddr) (ds : List DevAddr) (k : List DevAddr → Course) (es rest : List Entry) (say : ProbeSay) → Tested d es say
    → Follows (tests ds (λ ready. k (kept_if say d ready))) rest → Follows (tests (d ∷ ds) k) (es ++ rest)
one_test d ds k es rest last (once say q) f = ((refl, refl, refl), split_no (is_doubtful say) _ _ rest q f)
one_test d ds k es rest last (twice say again q) f = ((refl, refl, refl), split_yes (is_doubtful say) _ _ (Probe d test_unit_ready again ∷ rest) q ((refl, refl, refl), f))

-- the tests of all devices, and what comes then
pub tests_follow : (ds : List DevAddr) (es : List Entry) (ready : List DevAddr) (k : List DevAddr → Course) (rest : List Entry)
    → AllTested ds es ready → Follows (k ready) rest → Follows (tests ds k) (es ++ rest)
tests_follow ds es ready k rest none f = f
tests_follow ds es ready k rest (more d others first fs say kept t all) f =
    subst (Follows (tests (d ∷ others) k)) (sym (append_assoc first fs rest))
    (one_test d others k first (fs ++ rest) say t (tests_follow others fs kept (λ r. k (kept_if say d r)) rest all f))

pub onto-reverse : (g P : List Entry) → onto g P ≡ reverse g ++ P
onto-reverse [] P = refl
onto-reverse (e ∷ g) P = onto-reverse g (e ∷ P) ∙ (sym (append_assoc (reverse g) (e ∷ []) P) ∙ ap (λ r. r ++ P) (sym (reverse-append (e ∷ []) g)))

pub goes_on_back : (s : HostSpec) (P g : List Entry) → ByGroups s P → Group s P g → ByGroups s (onto g P)
goes_on_back s P g legal may = record {
  groups = g ∷ legal.groups;
  entries = ap (onto g) legal.entries;
  each = (legal.each, subst (λ (Q : List Entry). Group s Q g) (sym legal.entries) may);
}

pub goes_on_by : (s : HostSpec) (journal g : List Entry) → Legal s journal → Group s (reverse journal) g → Legal s (journal ++ g)
goes_on_by s journal g legal may =
    subst (ByGroups s) (onto-reverse g (reverse journal) ∙ sym (reverse-append journal g)) (goes_on_back s (reverse journal) g legal may)
