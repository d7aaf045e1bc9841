-- At each Act and Cleared as many commands are busy as failed.
use Rattle.std.proofs.Common.{◌≡◌, ◌⊎◌, ℕ, Bool, true, false, not, ◌&&◌, ◌||◌, cond, List, [], ◌∷◌, refl, arith, inl, inr, count_by}
use Rattle.std.proofs.lemmas.List.Sums.{sum_by-append}
use Rattle.std.specs.List.{list_all}
use Rattle.mid_base.specs.declared.host_spec.CmdSpec.{CmdSpec}
use Rattle.mid_base.specs.declared.host_spec.HostSpec.{HostSpec}
use Rattle.mid_base.specs.declared.entries.Entry.{Entry}
use Rattle.mid_base.specs.declared.entries.Entry.TheVariants.{Judged, Aborted, Cleared, Sensed, EhBegin, Act, Probe, Offline}
use Rattle.trace_model.specs.Devices.{has_begun}
use Rattle.trace_model.specs.Commands.{standing, is_busy, failed_since_sent}
use Rattle.trace_model.specs.Recovery.{is_quiet}
use Rattle.trace_model.specs.Permits.{IsWithin}
use Rattle.trace_model.specs.Counts.{busy_count, failed_count, is_acting, QuietActs}
use Rattle.trace_model.specs.Course.{Course, over, next, ask, fetch, Meets, after}
use Rattle.trace_model.specs.Rules.{Allowed, course}
use Rattle.trace_model.specs.Legal.{goes_on, owed, Stands, EachStands, ByPlaces}
use Rattle.trace_model.proofs.Owes.{Owes, Calm, End, is_calm, is_end, meets_owes, after_owes, judged_ends, aborted_ends, begin_calm, climb_calm}

pub and_left : (a b : Bool) → a && b ≡ true → a ≡ true
and_left true b h = refl
and_left false b h = h

pub and_right : (a b : Bool) → a && b ≡ true → b ≡ true
and_right true b h = h
and_right false b h = cc h

pub first_of : (a b c : Bool) → (a && b) && c ≡ true → a ≡ true
first_of a b c h = and_left a b (and_left (a && b) c h)

pub second_of : (a b c : Bool) → (a && b) && c ≡ true → b ≡ true
second_of a b c h = and_right a b (and_left (a && b) c h)

abbrev pub number : Bool → ℕ
number b = cond b 1 0

pub same_count : (b f : Bool) → not b || (b && f) ≡ true → number b ≡ number (b && f)
same_count true true h = refl
same_count true false h = cc h
same_count false f h = refl

-- where each busy one is failed, they are as many
pub counts : (b f : CmdSpec → Bool) (ks : List CmdSpec) → list_all (λ k. not (b k) || (b k && f k)) ks ≡ true → count_by b ks ≡ count_by (λ k. b k && f k) ks
counts b f [] h = refl
counts b f (k ∷ ks) h =
    let e = same_count (b k) (f k) (and_left _ _ h) in
    let r = counts b f ks (and_right _ _ h) in
    omega (arith, e, r, sum_by-append (λ j. cond (b j) 1 0) (k ∷ []) ks, sum_by-append (λ j. cond (b j && f j) 1 0) (k ∷ []) ks)

pub quiet_counts : (s : HostSpec) (P : List Entry) → is_quiet s P ≡ true → busy_count s P ≡ failed_count s P
quiet_counts s P h = counts (λ k. is_busy (standing k.id.0 P)) (λ k. failed_since_sent k.id.0 P) s.cmds h

-- a calm entry changes nothing of a command
pub calm_quiet : (s : HostSpec) (P : List Entry) (e : Entry) → is_calm e ≡ true → is_quiet s P ≡ true → is_quiet s (e ∷ P) ≡ true
calm_quiet s P (Judged c n d) m h = h
calm_quiet s P (Cleared c level) m h = h
calm_quiet s P (Sensed c n x) m h = h
calm_quiet s P (Probe d code say) m h = h
calm_quiet s P (Offline d) m h = h
calm_quiet s P e m h = cc m

pub calm_begun : (P : List Entry) (e : Entry) → is_calm e ≡ true → has_begun P ≡ true → has_begun (e ∷ P) ≡ true
calm_begun P (Judged c n d) m h = h
calm_begun P (Cleared c level) m h = h
calm_begun P (Sensed c n x) m h = h
calm_begun P (Probe d code say) m h = h
calm_begun P (Offline d) m h = h
calm_begun P e m h = cc m

pub calm_within : (s : HostSpec) (P : List Entry) (e : Entry) → is_calm e ≡ true → IsWithin s P → IsWithin s (e ∷ P)
calm_within s P e m h = record { quiet = calm_quiet s P e m h.quiet; begun = calm_begun P e m h.begun }

-- recovery's course is owed within it
abbrev pub Quiet : HostSpec → List Entry → Course → Type 0
Quiet s P k = (IsWithin s P × Owes Calm k) ⊎ Owes End k

pub opens_quiet : (s : HostSpec) (P : List Entry) (e : Entry) → Allowed s P e → Quiet s (e ∷ P) (course s P e)
opens_quiet s P (Judged c n d) al = inr (judged_ends s P c n d)
opens_quiet s P (Aborted c n ok) al = inr (aborted_ends s P c n ok)
opens_quiet s P EhBegin al = inl (record { quiet = first_of (is_quiet s P) (not (has_begun P)) _ al; begun = refl }, begin_calm s P)
opens_quiet s P (Act level scope ok) al =
    inl (record { quiet = first_of (is_quiet s P) (has_begun P) _ al.0; begun = second_of (is_quiet s P) (has_begun P) _ al.0 }, climb_calm s P level scope ok)
opens_quiet s P e al = inr tt

pub meets_quiet : (s : HostSpec) (P : List Entry) (k : Course) (e : Entry) → Meets k e → Quiet s P k → Quiet s (e ∷ P) (after k e)
meets_quiet s P k e m (inl h) = inl (calm_within s P e (meets_owes Calm k e h.1 m) h.0, after_owes Calm k e h.1)
meets_quiet s P k e m (inr h) = inr (after_owes End k e h)

pub goes_quiet : (s : HostSpec) (P : List Entry) (k : Course) (e : Entry) → Stands k s P e → Quiet s P k → Quiet s (e ∷ P) (goes_on k s P e)
goes_quiet s P over e st h = opens_quiet s P e st
goes_quiet s P (next x k) e st h = meets_quiet s P (next x k) e st h
goes_quiet s P (ask d code want k) e st h = meets_quiet s P (ask d code want k) e st h
goes_quiet s P (fetch c n k) e st h = meets_quiet s P (fetch c n k) e st h

pub owed_quiet : (s : HostSpec) (P : List Entry) → EachStands s P → Quiet s P (owed s P)
owed_quiet s [] each = inr tt
owed_quiet s (e ∷ P) each = goes_quiet s P (owed s P) e each.0 (owed_quiet s P each.1)

-- the entry that stands acts in quiet
pub allowed_acts : (s : HostSpec) (P : List Entry) (e : Entry) → is_acting e ≡ true → Allowed s P e → is_quiet s P ≡ true
allowed_acts s P (Act level scope ok) a al = first_of (is_quiet s P) (has_begun P) _ al.0
allowed_acts s P (Cleared c level) a al = absurd al
allowed_acts s P e a al = cc a

pub end_acts : (e : Entry) → is_acting e ≡ true → is_end e ≡ true → ⊥
end_acts (Act level scope ok) a m = cc m
end_acts (Cleared c level) a m = cc m
end_acts e a m = cc a

pub meets_acts : (s : HostSpec) (P : List Entry) (k : Course) (e : Entry) → is_acting e ≡ true → Meets k e → Quiet s P k → is_quiet s P ≡ true
meets_acts s P k e a m (inl h) = h.0.quiet
meets_acts s P k e a m (inr h) = absurd (end_acts e a (meets_owes End k e h m))

pub stands_acts : (s : HostSpec) (P : List Entry) (k : Course) (e : Entry) → is_acting e ≡ true → Stands k s P e → Quiet s P k → is_quiet s P ≡ true
stands_acts s P over e a st h = allowed_acts s P e a st
stands_acts s P (next x k) e a st h = meets_acts s P (next x k) e a st h
stands_acts s P (ask d code want k) e a st h = meets_acts s P (ask d code want k) e a st h
stands_acts s P (fetch c n k) e a st h = meets_acts s P (fetch c n k) e a st h

pub quiet_each : (s : HostSpec) (P : List Entry) → EachStands s P → QuietActs s P
quiet_each s [] each = tt
quiet_each s (e ∷ P) each =
    (λ a. quiet_counts s P (stands_acts s P (owed s P) e a each.0 (owed_quiet s P each.1)), quiet_each s P each.1)

pub quiet_acts : (s : HostSpec) (P : List Entry) → ByPlaces s P → QuietActs s P
quiet_acts s P legal = quiet_each s P legal.each
