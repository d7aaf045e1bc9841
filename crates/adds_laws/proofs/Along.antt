-- A course has one run over the simulated adapter.
use Rattle.std.proofs.Common.{◌≡◌, ℕ, Bool, true, List, [], ◌∷◌, Option, refl, sym, ap, ap₂, ◌∙◌, subst}
use Rattle.std.specs.Prelude.{⊤}
use Rattle.mid_base.specs.declared.names.DevAddr.{DevAddr}
use Rattle.mid_base.specs.declared.names.CmdId.{CmdId}
use Rattle.mid_base.specs.declared.names.Attempt.{Attempt}
use Rattle.mid_base.specs.declared.answers.ProbeSay.{ProbeSay}
use Rattle.mid_base.specs.declared.bytes.SenseBytes.{SenseBytes}
use Rattle.mid_base.specs.declared.host_spec.HostSpec.{HostSpec}
use Rattle.mid_base.specs.declared.entries.Entry.{Entry}
use Rattle.mid_base.specs.declared.entries.Entry.TheVariants.{Sent, Bounced, Ready, Due, Longer, DoneSaid, Aborted, Sensed, Act, Probe, Tick}
use Rattle.mid_base.proofs.Same.{same_sense}
use Rattle.host_template.specs.Standing.{Before}
use Rattle.trace_model.specs.Course.{Course, suits, over, next, ask, fetch, IsOver, Meets, after, Follows}
use Rattle.trace_model.specs.Rules.{course}
use Rattle.trace_model.specs.Legal.{onto}
use Rattle.debug_adapter.specs.LowerRun.{LowerRun}
use Rattle.debug_adapter.proofs.Once.{probe_once}

-- what the adapter's part of a journal says where e stands after P; a Sent may be followed by its Bounced
abbrev pub Says : HostSpec → Before → List Entry → Entry → Type 0
Says s b P (Sent c n t) = ⊤
Says s b P (Bounced c n why) = ⊤
Says s b P e = LowerRun s b (e ∷ P)

-- of each entry
abbrev pub Ran : HostSpec → Before → List Entry → Type 0
Ran s b [] = ⊤
Ran s b (e ∷ P) = Says s b P e × Ran s b P

pub ran : (s : HostSpec) (b : Before) (P : List Entry) → LowerRun s b P → Ran s b P
ran s b [] r = tt
ran s b (Bounced c n why ∷ Sent d m t ∷ P) r = (tt, (tt, ran s b P r.3))
ran s b (Bounced c n why ∷ P) r = absurd r
ran s b (Sent c n t ∷ P) r = (tt, ran s b P r.1)
ran s b (Ready n a ∷ P) r = (r, ran s b P r.1)
ran s b (Tick ∷ P) r = (r, ran s b P r.1)
ran s b (Due n ∷ P) r = (r, ran s b P r.1)
ran s b (Longer n ∷ P) r = (r, ran s b P r.1)
ran s b (DoneSaid n ∷ P) r = (r, ran s b P r.1)
ran s b (Aborted c n ok ∷ P) r = (r, ran s b P r.1)
ran s b (Act level scope ok ∷ P) r = (r, ran s b P r.1)
ran s b (Probe d code say ∷ P) r = (r, ran s b P r.1)
ran s b (Sensed c n bytes ∷ Probe d code say ∷ P) r = (r, ran s b (Probe d code say ∷ P) r.1)
ran s b (Sensed c n bytes ∷ P) r = absurd r
ran s b (e ∷ P) r = (r, ran s b P r)

-- what stands before ran too
ran_before : (s : HostSpec) (b : Before) (g P : List Entry) → Ran s b (onto g P) → Ran s b P
ran_before s b [] P r = r
ran_before s b (e ∷ g) P r = (ran_before s b g (e ∷ P) r).1

pub says_there : (s : HostSpec) (b : Before) (e : Entry) (g P : List Entry) → Ran s b (onto g (e ∷ P)) → Says s b P e
says_there s b e g P r = (ran_before s b g (e ∷ P) r).0

-- ---- what is owed is one entry

pub asked : (d : DevAddr) (code : ℕ) (want : Option Bool) (k : ProbeSay → Course) (e : Entry) → Meets (ask d code want k) e → (say : ProbeSay) × (e ≡ Probe d code say) × (suits want say ≡ true)
asked d code want k (Probe a c say) m = (say, ap₂ (λ (x : DevAddr) (y : ℕ). Probe x y say) m.0 m.1, m.2)
asked d code want k e m = absurd m

fetched : (c : CmdId) (n : Attempt) (k : SenseBytes → Course) (e : Entry) → Meets (fetch c n k) e → (bytes : SenseBytes) × (e ≡ Sensed c n bytes)
fetched c n k (Sensed d m bytes) x = (bytes, ap₂ (λ (a : CmdId) (i : Attempt). Sensed a i bytes) x.0 x.1)
fetched c n k e x = absurd x

sensed_once : (s : HostSpec) (b : Before) (P : List Entry) (c : CmdId) (n : Attempt) (x y : SenseBytes) → LowerRun s b (Sensed c n x ∷ P) → LowerRun s b (Sensed c n y ∷ P) → x ≡ y
sensed_once s b (Probe d code say ∷ P) c n x y q r = same_sense x y (q.0 ∙ sym r.0)
sensed_once s b [] c n x y q r = absurd q
sensed_once s b (e ∷ P) c n x y q r = absurd q

meets_one : (s : HostSpec) (b : Before) (P : List Entry) (k : Course) (e f : Entry) → Meets k e → Says s b P e → Meets k f → Says s b P f → e ≡ f
meets_one s b P over e f m x n y = absurd m
meets_one s b P (next z k) e f m x n y = m ∙ sym n
meets_one s b P (ask d code want k) e f m x n y =
    let p = asked d code want k e m in
    let q = asked d code want k f n in
    let one : p.0 ≡ q.0 = probe_once s b P d code p.0 q.0 (subst (Says s b P) p.1 x) (subst (Says s b P) q.1 y) in
    p.1 ∙ (ap (λ (say : ProbeSay). Probe d code say) one ∙ sym q.1)
meets_one s b P (fetch c n k) e f m x o y =
    let p = fetched c n k e m in
    let q = fetched c n k f o in
    let one : p.0 ≡ q.0 = sensed_once s b P c n p.0 q.0 (subst (Says s b P) p.1 x) (subst (Says s b P) q.1 y) in
    p.1 ∙ (ap (λ (bytes : SenseBytes). Sensed c n bytes) one ∙ sym q.1)

over_ends : (k : Course) (e : Entry) → IsOver k → Meets k e → ⊥
over_ends over e o m = m
over_ends k e o m = absurd o

-- entries that are a whole course, and that the adapter's part of the journal bears out, are one list
pub follows_one : (s : HostSpec) (b : Before) (k : Course) (P g h : List Entry) → Follows k g → Ran s b (onto g P) → Follows k h → Ran s b (onto h P) → g ≡ h
follows_one s b k P [] [] x q y r = refl
follows_one s b k P [] (f ∷ h) x q y r = absurd (over_ends k f x y.0)
follows_one s b k P (e ∷ g) [] x q y r = absurd (over_ends k e y x.0)
follows_one s b k P (e ∷ g) (f ∷ h) x q y r =
    let same : e ≡ f = meets_one s b P k e f x.0 (says_there s b e g P q) y.0 (says_there s b f h P r) in
    let rest : g ≡ h =
    follows_one s b (after k e) (e ∷ P) g h x.1 q
    (subst (λ (z : Entry). Follows (after k z) h) (sym same) y.1)
    (subst (λ (z : Entry). Ran s b (onto h (z ∷ P))) (sym same) r)
    in
    ap₂ (λ (z : Entry) (i : List Entry). z ∷ i) same rest

-- groups with the same opener
pub group_one : (s : HostSpec) (b : Before) (P : List Entry) (e f : Entry) (g h : List Entry) → e ≡ f
    → Follows (course s P e) g → Ran s b (onto g (e ∷ P)) → Follows (course s P f) h → Ran s b (onto h (f ∷ P)) → ◌≡◌ {A = List Entry} (e ∷ g) (f ∷ h)
group_one s b P e f g h same x q y r =
    let rest : g ≡ h =
    follows_one s b (course s P e) (e ∷ P) g h x q
    (subst (λ (z : Entry). Follows (course s P z) h) (sym same) y)
    (subst (λ (z : Entry). Ran s b (onto h (z ∷ P))) (sym same) r)
    in
    ap₂ (λ (z : Entry) (i : List Entry). z ∷ i) same rest
