-- Which journals are legal, by groups and by places.
use Rattle.std.specs.Prelude.{◌≡◌, List, [], ◌∷◌, reverse, ⊤}
use Rattle.mid_base.specs.declared.entries.Entry.{Entry}
use Rattle.mid_base.specs.declared.host_spec.HostSpec.{HostSpec}
use Rattle.trace_model.specs.Course.{Course, over, IsOver, Meets, after, Follows}
use Rattle.trace_model.specs.Rules.{Allowed, course}

-- the entries of g onto those of P
abbrev pub onto : List Entry → List Entry → List Entry
onto [] P = P
onto (e ∷ g) P = onto g (e ∷ P)

-- A group is an entry with those that follow it at once.
abbrev pub Group : HostSpec → List Entry → List Entry → Type 0
Group s P [] = ⊥
Group s P (e ∷ rest) = Allowed s P e × Follows (course s P e) rest

-- By groups: the newest group is first.
abbrev pub entries_of : List (List Entry) → List Entry
entries_of [] = []
entries_of (g ∷ gs) = onto g (entries_of gs)

abbrev pub AreGroups : HostSpec → List (List Entry) → Type 0
AreGroups s [] = ⊤
AreGroups s (g ∷ gs) = AreGroups s gs × Group s (entries_of gs) g

pub record ByGroups (s : HostSpec) (P : List Entry) : Type 0 where
  pub groups : List (List Entry)
  pub entries : entries_of groups ≡ P
  pub each : AreGroups s groups

-- By places: what is owed after P is what is left of the course that its last entries are of.
abbrev pub goes_on : Course → HostSpec → List Entry → Entry → Course
goes_on over s P e = course s P e
goes_on k s P e = after k e

abbrev pub owed : HostSpec → List Entry → Course
owed s [] = over
owed s (e ∷ P) = goes_on (owed s P) s P e

-- e is the owed entry, or nothing is owed and the rules allow it
abbrev pub Stands : Course → HostSpec → List Entry → Entry → Type 0
Stands over s P e = Allowed s P e
Stands k s P e = Meets k e

abbrev pub EachStands : HostSpec → List Entry → Type 0
EachStands s [] = ⊤
EachStands s (e ∷ P) = Stands (owed s P) s P e × EachStands s P

pub record ByPlaces (s : HostSpec) (P : List Entry) : Type 0 where
  pub each : EachStands s P
  pub ended : IsOver (owed s P)

-- a journal, the oldest entry first
abbrev pub Legal : HostSpec → List Entry → Type 0
Legal s journal = ByGroups s (reverse journal)

abbrev pub LegalByPlaces : HostSpec → List Entry → Type 0
LegalByPlaces s journal = ByPlaces s (reverse journal)

-- the last entry is the first that may not stand
abbrev pub WrongBack : HostSpec → List Entry → Type 0
WrongBack s [] = ⊥
WrongBack s (e ∷ P) = EachStands s P × (Stands (owed s P) s P e → ⊥)

abbrev pub FirstWrong : HostSpec → List Entry → Type 0
FirstWrong s journal = WrongBack s (reverse journal)
