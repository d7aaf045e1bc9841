-- By groups and by places are the same.
use Rattle.std.proofs.Common.{◌≡◌, List, [], ◌∷◌, ◌++◌, refl, sym, ap, subst, ◌∙◌, append_assoc}
use Rattle.mid_base.specs.declared.entries.Entry.{Entry}
use Rattle.mid_base.specs.declared.host_spec.HostSpec.{HostSpec}
use Rattle.trace_model.specs.Course.{Course, over, next, ask, fetch, IsOver, Meets, after, Follows}
use Rattle.trace_model.specs.Rules.{Allowed, course}
use Rattle.trace_model.specs.Legal.{onto, Group, entries_of, AreGroups, ByGroups, goes_on, owed, Stands, EachStands, ByPlaces}

pub over_is : (k : Course) → IsOver k → k ≡ over
over_is over o = refl
over_is (next x k) o = absurd o
over_is (ask d code want k) o = absurd o
over_is (fetch c n k) o = absurd o

-- an entry that is owed stands, and what is left goes on from there
pub meets_stands : (k : Course) (s : HostSpec) (P : List Entry) (e : Entry) → Meets k e → Stands k s P e
meets_stands over s P e m = absurd m
meets_stands (next x k) s P e m = m
meets_stands (ask d code want k) s P e m = m
meets_stands (fetch c n k) s P e m = m

pub meets_after : (k : Course) (s : HostSpec) (P : List Entry) (e : Entry) → Meets k e → goes_on k s P e ≡ after k e
meets_after over s P e m = absurd m
meets_after (next x k) s P e m = refl
meets_after (ask d code want k) s P e m = refl
meets_after (fetch c n k) s P e m = refl

-- a whole course onto P
pub follows_places : (s : HostSpec) (k : Course) (P es : List Entry) → EachStands s P → owed s P ≡ k → Follows k es → ByPlaces s (onto es P)
follows_places s k P [] each o f = record { each = each; ended = subst IsOver (sym o) f }
follows_places s k P (e ∷ es) each o f =
    follows_places s (after k e) (e ∷ P) es
    (subst (λ h. Stands h s P e) (sym o) (meets_stands k s P e f.0), each)
    (ap (λ h. goes_on h s P e) o ∙ meets_after k s P e f.0)
    f.1

pub group_places : (s : HostSpec) (P g : List Entry) → ByPlaces s P → Group s P g → ByPlaces s (onto g P)
group_places s P [] p f = absurd f
group_places s P (e ∷ es) p f =
    let o : owed s P ≡ over = over_is (owed s P) p.ended in
    follows_places s (course s P e) (e ∷ P) es
    (subst (λ h. Stands h s P e) (sym o) f.0, p.each)
    (ap (λ h. goes_on h s P e) o)
    f.1

pub groups_places : (s : HostSpec) (gs : List (List Entry)) → AreGroups s gs → ByPlaces s (entries_of gs)
groups_places s [] a = record { each = tt; ended = tt }
groups_places s (g ∷ gs) a = group_places s (entries_of gs) g (groups_places s gs a.0) a.1

pub by_places : (s : HostSpec) (P : List Entry) → ByGroups s P → ByPlaces s P
by_places s P legal = subst (ByPlaces s) legal.entries (groups_places s legal.groups legal.each)

-- P is whole groups, or whole groups and a part of one of which k is left
pub data Parsed (s : HostSpec) (P : List Entry) (k : Course) : Type 0 where
  whole : (gs : List (List Entry)) → AreGroups s gs → entries_of gs ≡ P → k ≡ over → Parsed s P k
  partly : (gs : List (List Entry)) → AreGroups s gs → (part : List Entry) → onto part (entries_of gs) ≡ P
      → ((es : List Entry) → Follows k es → Group s (entries_of gs) (part ++ es)) → Parsed s P k

pub onto_more : (g : List Entry) (e : Entry) (P : List Entry) → onto (g ++ e ∷ []) P ≡ e ∷ onto g P
onto_more [] e P = refl
onto_more (x ∷ g) e P = onto_more g e (x ∷ P)

-- a first entry after whole groups
pub opened : (s : HostSpec) (P : List Entry) (e : Entry) (gs : List (List Entry)) → AreGroups s gs → entries_of gs ≡ P → Allowed s P e → Parsed s (e ∷ P) (course s P e)
opened s P e gs a q al = subst (λ (Q : List Entry). Parsed s (e ∷ Q) (course s Q e)) q
    (partly gs a (e ∷ []) refl (λ es f. (subst (λ (Q : List Entry). Allowed s Q e) (sym q) al, f)))

-- the entry that is owed
pub went_on : (s : HostSpec) (P : List Entry) (k : Course) (e : Entry) → Meets k e → Parsed s P k → Parsed s (e ∷ P) (after k e)
went_on s P k e m (whole gs a q o) = absurd (subst (λ h. Meets h e) o m)
went_on s P k e m (partly gs a part q f) =
    partly gs a (part ++ e ∷ []) (onto_more part e (entries_of gs) ∙ ap (λ Q. e ∷ Q) q)
    (λ es h. subst (Group s (entries_of gs)) (sym (append_assoc part (e ∷ []) es)) (f (e ∷ es) (m, h)))

pub append_nil : (g : List Entry) → g ++ [] ≡ g
append_nil [] = refl
append_nil (e ∷ g) = ap (λ h. e ∷ h) (append_nil g)

-- where nothing is left, the part is a group
pub closed : (s : HostSpec) (P : List Entry) (k : Course) → k ≡ over → Parsed s P k → ByGroups s P
closed s P k o (whole gs a q e) = record { groups = gs; entries = q; each = a }
closed s P k o (partly gs a part q f) =
    record { groups = part ∷ gs; entries = q; each = (a, subst (Group s (entries_of gs)) (append_nil part) (f [] (subst IsOver (sym o) tt))) }

pub step_over : (s : HostSpec) (P : List Entry) (e : Entry) → ByGroups s P → Allowed s P e → Parsed s (e ∷ P) (course s P e)
step_over s P e legal al = opened s P e legal.groups legal.each legal.entries al

pub parse_next : (s : HostSpec) (P : List Entry) (e : Entry) (k : Course) → Stands k s P e → Parsed s P k → Parsed s (e ∷ P) (goes_on k s P e)
parse_next s P e over st h = step_over s P e (closed s P over refl h) st
parse_next s P e (next x k) st h = went_on s P (next x k) e st h
parse_next s P e (ask d code want k) st h = went_on s P (ask d code want k) e st h
parse_next s P e (fetch c n k) st h = went_on s P (fetch c n k) e st h

pub parse : (s : HostSpec) (P : List Entry) → EachStands s P → Parsed s P (owed s P)
parse s [] each = whole [] tt refl refl
parse s (e ∷ P) each = parse_next s P e (owed s P) each.0 (parse s P each.1)

pub by_groups : (s : HostSpec) (P : List Entry) → ByPlaces s P → ByGroups s P
by_groups s P p = closed s P (owed s P) (over_is (owed s P) p.ended) (parse s P p.each)
