-- What Send adds: the Sent of the command that goes next, with its Bounced where the adapter is busy, or its report.
use Rattle.std.proofs.Common.{◌≡◌, ◌⊎◌, ℕ, zero, suc, ◌+◌, ◌<◌, ◌≤◌, ◌==◌, Bool, true, false, not, ◌&&◌, List, [], ◌∷◌, Option, None, Some, refl, sym, ap, ap₂, ◌∙◌, subst, inl, inr, ⊎_elim, arith}
use Rattle.std.proofs.lemmas.Bool.{eqb-true, and_parts, not-true, or_right}
use Rattle.std.proofs.lemmas.Bool.Decides.{eqb_tells, leb_tells}
use Rattle.std.proofs.lemmas.Option.{same_Some}
use Rattle.mid_base.specs.declared.names.CmdId.{CmdId}
use Rattle.mid_base.specs.declared.names.Attempt.{Attempt}
use Rattle.mid_base.specs.declared.names.Tag.{Tag}
use Rattle.mid_base.specs.declared.answers.Answer.{Answer}
use Rattle.mid_base.specs.declared.answers.BusyOf.{BusyOf}
use Rattle.mid_base.specs.declared.entries.Entry.{Entry}
use Rattle.mid_base.specs.declared.entries.Entry.TheVariants.{Sent, Bounced, Told}
use Rattle.mid_base.specs.declared.steps.Step.TheVariants.{Send}
use Rattle.mid_base.specs.declared.host_spec.HostSpec.{HostSpec}
use Rattle.mid_base.specs.Answers.{no_connect}
use Rattle.host_template.specs.Standing.{Before}
use Rattle.trace_model.specs.Names.{dev_of}
use Rattle.trace_model.specs.Attempts.{sends}
use Rattle.trace_model.specs.Devices.{is_online, in_recovery}
use Rattle.trace_model.specs.Sending.{is_held, pick, is_number, all_below, is_least_free, may_send, is_refused, is_stranded}
use Rattle.trace_model.specs.Steps.{IsAdded}
use Rattle.trace_model.specs.Legal.{onto}
use Rattle.debug_adapter.specs.LowerRun.{LowerRun}
use Rattle.debug_adapter.proofs.Once.{bounced_once, bounced_or_not}
use Rattle.mid_core.specs.Steps.{Opens}
use Rattle.adds_laws.proofs.Plain.{command_is, attempt_is}

-- ---- which command, number and tag

picked_one : (c d : ℕ) (o : Option ℕ) → is_number c o ≡ true → is_number d o ≡ true → c ≡ d
picked_one c d None x y = cc x
picked_one c d (Some k) x y = sym (eqb-true k c x) ∙ eqb-true k d y

below : (f : ℕ → Bool) (t k : ℕ) → all_below t f ≡ true → k < t → f k ≡ true
below f zero k h lt = absurd (omega (arith, lt))
below f (suc t) k h lt =
    let parts = and_parts (f t) (all_below t f) h in
    ⊎_elim
    (λ here. subst (λ (i : ℕ). f i ≡ true) (sym here.1) parts.0)
    (λ other. below f t k parts.1 (less k t lt other.1))
    (eqb_tells k t)
  where
    less : (k t : ℕ) → k < suc t → (k ≡ t → ⊥) → k < t
    less k t lt ne = omega (arith, lt, ne)

least_one : (f : ℕ → Bool) (t u : ℕ) → not (f t) && all_below t f ≡ true → not (f u) && all_below u f ≡ true → t ≡ u
least_one f t u x y =
    let p = and_parts (not (f t)) (all_below t f) x in
    let q = and_parts (not (f u)) (all_below u f) y in
    ⊎_elim
    (λ same. same.1)
    (λ other. absurd (⊎_elim
    (λ le. cc (sym (not-true _ q.0) ∙ below f t u p.1 (more t u le.1 other.1)))
    (λ gt. cc (sym (not-true _ p.0) ∙ below f u t q.1 gt.1))
    (leb_tells u t)))
    (eqb_tells t u)
  where
    more : (t u : ℕ) → u ≤ t → (t ≡ u → ⊥) → u < t
    more t u le ne = omega (arith, le, ne)

record IsPicked (s : HostSpec) (P : List Entry) (c n t : ℕ) : Type 0 where
  picked : is_number c (pick s P) ≡ true
  online : is_online s (dev_of s c) P ≡ true
  number : n ≡ sends P + 1
  tag : is_least_free s P t ≡ true

may_pick : (s : HostSpec) (P : List Entry) (c n t : ℕ) → may_send s P c n t ≡ true → IsPicked s P c n t
may_pick s P c n t h =
    let four = and_parts (not (in_recovery P) && is_number c (pick s P) && is_online s (dev_of s c) P && (n == sends P + 1)) (is_least_free s P t) h in
    let three = and_parts (not (in_recovery P) && is_number c (pick s P) && is_online s (dev_of s c) P) (n == sends P + 1) four.0 in
    let two = and_parts (not (in_recovery P) && is_number c (pick s P)) (is_online s (dev_of s c) P) three.0 in
    let one = and_parts (not (in_recovery P)) (is_number c (pick s P)) two.0 in
    record { picked = one.1; online = two.1; number = eqb-true n (sends P + 1) three.1; tag = four.1 }

tag_is : (t u : Tag) → t.0 ≡ u.0 → t ≡ u
tag_is t u e = ap to e
  where
    to : ℕ → Tag
    to k = record { 0 = k }

sent_is : (c d : CmdId) (n m : Attempt) (t u : Tag) → (c ≡ d) × (n ≡ m) × (t ≡ u) → ◌≡◌ {A = Entry} (Sent c n t) (Sent d m u)
sent_is c d n m t u e = ap₂ (λ (x : CmdId) (i : Attempt). Sent x i t) e.0 e.1 ∙ ap (λ (x : Tag). Sent d m x) e.2

back_is : (c d : CmdId) (n m : Attempt) (t u : Tag) (why : BusyOf) → (c ≡ d) × (n ≡ m) × (t ≡ u)
    → ◌≡◌ {A = List Entry} (Sent c n t ∷ Bounced c n why ∷ []) (Sent d m u ∷ Bounced d m why ∷ [])
back_is c d n m t u why e = ap₂ (λ (x : CmdId) (i : Attempt). Sent x i t ∷ Bounced x i why ∷ []) e.0 e.1 ∙ ap (λ (x : Tag). Sent d m x ∷ Bounced d m why ∷ []) e.2

same_sent : (s : HostSpec) (P : List Entry) (c d : CmdId) (n m : Attempt) (t u : Tag) → IsPicked s P c.0 n.0 t.0 → IsPicked s P d.0 m.0 u.0 → (c ≡ d) × (n ≡ m) × (t ≡ u)
same_sent s P c d n m t u x y = (
  command_is c d (picked_one c.0 d.0 (pick s P) x.picked y.picked),
  attempt_is n m (x.number ∙ sym y.number),
  tag_is t u (least_one (is_held s P) t.0 u.0 x.tag y.tag),
)

record IsLost (s : HostSpec) (P : List Entry) (c : ℕ) : Type 0 where
  picked : is_number c (pick s P) ≡ true
  offline : is_online s (dev_of s c) P ≡ false

stranded_lost : (s : HostSpec) (P : List Entry) (c : ℕ) → is_stranded s P c ≡ true → IsLost s P c
stranded_lost s P c h =
    let two = and_parts (not (in_recovery P) && is_number c (pick s P)) (not (is_online s (dev_of s c) P)) h in
    let one = and_parts (not (in_recovery P)) (is_number c (pick s P)) two.0 in
    record { picked = one.1; offline = not-true _ two.1 }

-- ---- the three lists that Send could add

record Goes (s : HostSpec) (P g : List Entry) : Type 0 where
  c : CmdId
  n : Attempt
  t : Tag
  at : IsPicked s P c.0 n.0 t.0
  list : g ≡ Sent c n t ∷ []

record ComesBack (s : HostSpec) (P g : List Entry) : Type 0 where
  c : CmdId
  n : Attempt
  t : Tag
  why : BusyOf
  at : IsPicked s P c.0 n.0 t.0
  list : g ≡ Sent c n t ∷ Bounced c n why ∷ []

record IsTold (s : HostSpec) (P g : List Entry) : Type 0 where
  c : CmdId
  at : IsLost s P c.0
  list : g ≡ Told c no_connect ∷ []

added : (s : HostSpec) (P g : List Entry) → Opens s P Send g → IsAdded s P g → Goes s P g ⊎ (ComesBack s P g ⊎ IsTold s P g)
added s P [] o a = absurd o
added s P (Sent c n t ∷ []) o a = inl (record { c = c; n = n; t = t; at = may_pick s P c.0 n.0 t.0 a.0; list = refl })
added s P (Sent c n t ∷ Bounced d m why ∷ []) o a =
    let parts = and_parts (c.0 == d.0) (n.0 == m.0) a.1.0 in
    inr (inl (record {
      c = c;
      n = n;
      t = t;
      why = why;
      at = may_pick s P c.0 n.0 t.0 a.0.0;
      list = ap₂ (λ (x : CmdId) (i : Attempt). Sent c n t ∷ Bounced x i why ∷ []) (command_is d c (sym (eqb-true c.0 d.0 parts.0))) (attempt_is m n (sym (eqb-true n.0 m.0 parts.1)));
    }))
added s P (Sent c n t ∷ Bounced d m why ∷ e ∷ g) o a = absurd a.1.0
added s P (Sent c n t ∷ e ∷ g) o a = absurd a.1.0
added s P (Told c a ∷ []) o x =
    let said : Some no_connect ≡ Some a = rw (or_right (is_refused s P c.0) (is_stranded s P c.0) o) at x.0 in
    inr (inr (record { c = c; at = stranded_lost s P c.0 o; list = ap (λ (y : Answer). Told c y ∷ []) (sym (same_Some no_connect a said)) }))
added s P (Told c a ∷ e ∷ g) o x = absurd x.1.0
added s P (e ∷ g) o a = cc o

lost_not : (s : HostSpec) (P : List Entry) (c d n t : ℕ) → IsPicked s P c n t → IsLost s P d → ⊥
lost_not s P c d n t x y = cc (sym y.offline ∙ subst (λ (k : ℕ). is_online s (dev_of s k) P ≡ true) (picked_one c d (pick s P) x.picked y.picked) x.online)

-- the same attempt is turned away or isn't
not_both : (s : HostSpec) (b : Before) (P g h : List Entry) → (x : Goes s P g) → (y : ComesBack s P h) → LowerRun s b (onto g P) → LowerRun s b (onto h P) → ⊥
not_both s b P g h x y q r =
    let same = same_sent s P y.c x.c y.n x.n y.t x.t y.at x.at in
    let there : LowerRun s b (Sent x.c x.n x.t ∷ P) = subst (λ (l : List Entry). LowerRun s b (onto l P)) x.list q in
    let back : LowerRun s b (Bounced y.c y.n y.why ∷ Sent y.c y.n y.t ∷ P) = subst (λ (l : List Entry). LowerRun s b (onto l P)) y.list r in
    let first : LowerRun s b (Sent y.c y.n y.t ∷ P) = subst (λ (e : Entry). LowerRun s b (e ∷ P)) (sym (sent_is y.c x.c y.n x.n y.t x.t same)) there in
    bounced_or_not s b P y.c y.n y.t y.why back first

both_go : (s : HostSpec) (P g h : List Entry) → Goes s P g → Goes s P h → g ≡ h
both_go s P g h x y = x.list ∙ (ap (λ (e : Entry). e ∷ []) (sent_is x.c y.c x.n y.n x.t y.t (same_sent s P x.c y.c x.n y.n x.t y.t x.at y.at)) ∙ sym y.list)

both_back : (s : HostSpec) (b : Before) (P g h : List Entry) → ComesBack s P g → ComesBack s P h → LowerRun s b (onto g P) → LowerRun s b (onto h P) → g ≡ h
both_back s b P g h x y q r =
    let same = same_sent s P x.c y.c x.n y.n x.t y.t x.at y.at in
    let one : LowerRun s b (Bounced x.c x.n x.why ∷ Sent x.c x.n x.t ∷ P) = subst (λ (l : List Entry). LowerRun s b (onto l P)) x.list q in
    let two : LowerRun s b (Bounced y.c y.n y.why ∷ Sent y.c y.n y.t ∷ P) = subst (λ (l : List Entry). LowerRun s b (onto l P)) y.list r in
    let moved : LowerRun s b (Bounced x.c x.n y.why ∷ Sent x.c x.n x.t ∷ P) =
    subst (λ (l : List Entry). LowerRun s b (onto l P)) (sym (back_is x.c y.c x.n y.n x.t y.t y.why same)) two
    in
    let why : x.why ≡ y.why = bounced_once s b P x.c x.n x.t x.why y.why one moved in
    x.list ∙ (ap (λ (w : BusyOf). Sent x.c x.n x.t ∷ Bounced x.c x.n w ∷ []) why ∙ (back_is x.c y.c x.n y.n x.t y.t y.why same ∙ sym y.list))

both_told : (s : HostSpec) (P g h : List Entry) → IsTold s P g → IsTold s P h → g ≡ h
both_told s P g h x y =
    let same : x.c ≡ y.c = command_is x.c y.c (picked_one x.c.0 y.c.0 (pick s P) x.at.picked y.at.picked) in
    x.list ∙ (ap (λ (c : CmdId). Told c no_connect ∷ []) same ∙ sym y.list)

by_kind : (s : HostSpec) (b : Before) (P g h : List Entry) → Goes s P g ⊎ (ComesBack s P g ⊎ IsTold s P g) → Goes s P h ⊎ (ComesBack s P h ⊎ IsTold s P h)
    → LowerRun s b (onto g P) → LowerRun s b (onto h P) → g ≡ h
by_kind s b P g h (inl x) (inl y) q r = both_go s P g h x y
by_kind s b P g h (inl x) (inr (inl y)) q r = absurd (not_both s b P g h x y q r)
by_kind s b P g h (inl x) (inr (inr y)) q r = absurd (lost_not s P x.c.0 y.c.0 x.n.0 x.t.0 x.at y.at)
by_kind s b P g h (inr (inl x)) (inl y) q r = absurd (not_both s b P h g y x r q)
by_kind s b P g h (inr (inl x)) (inr (inl y)) q r = both_back s b P g h x y q r
by_kind s b P g h (inr (inl x)) (inr (inr y)) q r = absurd (lost_not s P x.c.0 y.c.0 x.n.0 x.t.0 x.at y.at)
by_kind s b P g h (inr (inr x)) (inl y) q r = absurd (lost_not s P y.c.0 x.c.0 y.n.0 y.t.0 y.at x.at)
by_kind s b P g h (inr (inr x)) (inr (inl y)) q r = absurd (lost_not s P y.c.0 x.c.0 y.n.0 y.t.0 y.at x.at)
by_kind s b P g h (inr (inr x)) (inr (inr y)) q r = both_told s P g h x y

pub send_one : (s : HostSpec) (b : Before) (P g h : List Entry) → Opens s P Send g → IsAdded s P g → LowerRun s b (onto g P) → Opens s P Send h → IsAdded s P h → LowerRun s b (onto h P) → g ≡ h
send_one s b P g h o x q p y r = by_kind s b P g h (added s P g o x) (added s P h p y) q r
