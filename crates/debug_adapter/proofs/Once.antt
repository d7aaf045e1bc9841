-- What the adapter does next is determined.
use Rattle.std.proofs.Common.{◌≡◌, ℕ, true, List, ◌∷◌, Option, None, Some, refl, sym, ap, ◌∙◌, subst, arith}
use Rattle.std.proofs.lemmas.Bool.Decides.{nat_tests}
use Rattle.std.proofs.lemmas.Option.{same_Some, none-some}
use Rattle.mid_base.specs.declared.names.Attempt.{Attempt}
use Rattle.mid_base.specs.declared.names.CmdId.{CmdId}
use Rattle.mid_base.specs.declared.names.DevAddr.{DevAddr}
use Rattle.mid_base.specs.declared.names.Tag.{Tag}
use Rattle.mid_base.specs.declared.answers.Answer.{Answer}
use Rattle.mid_base.specs.declared.answers.BusyOf.{BusyOf}
use Rattle.mid_base.specs.declared.answers.ProbeSay.{ProbeSay}
use Rattle.mid_base.specs.declared.answers.ProbeSay.TheVariants.{Answered, Silent}
use Rattle.mid_base.specs.declared.bytes.SenseBytes.{SenseBytes}
use Rattle.mid_base.specs.declared.faults.Fault.{Fault}
use Rattle.mid_base.specs.declared.faults.Fault.TheVariants.{HostBusy}
use Rattle.mid_base.specs.declared.host_spec.HostSpec.{HostSpec}
use Rattle.mid_base.specs.declared.entries.Entry.{Entry}
use Rattle.mid_base.specs.declared.entries.Entry.TheVariants.{Sent, Bounced, Ready, Probe}
use Rattle.mid_base.proofs.Same.{same_sense}
use Rattle.host_template.specs.Standing.{Before}
use Rattle.fault_plan.specs.declared.class.Class.TheVariants.{Queue}
use Rattle.debug_lun.specs.Units.{Reply, reply_of}
use Rattle.adapter_tables.specs.declared.held.Held.{Held}
use Rattle.adapter_tables.specs.Counted.{device_of, hit_at}
use Rattle.adapter_tables.specs.Held.{held, precedes, precedes_held, IsNext}
use Rattle.adapter_tables.specs.Units.{unit, target_luns, outcome, reply_said}
use Rattle.debug_adapter.specs.LowerRun.{Bounces, MayAnswer, LowerRun}

-- an answer is what is said of it
same_answer : (a b : Answer) → reply_of a ≡ reply_of b → a ≡ b
same_answer a b e =
    parts a b (ap (λ (x : Reply). x.host) e) (ap (λ (x : Reply). x.status) e) (same_sense a.sense b.sense (ap (λ (x : Reply). x.sense) e)) (ap (λ (x : Reply). x.moved) e) (ap (λ (x : Reply). x.sum) e)
  where
    make : ℕ → ℕ → SenseBytes → ℕ → ℕ → Answer
    make h s x m n = record { host = record { 0 = h }; status = s; sense = x; moved = m; sum = n }

    parts : (a b : Answer) → a.host.0 ≡ b.host.0 → a.status ≡ b.status → a.sense ≡ b.sense → a.moved ≡ b.moved → a.sum ≡ b.sum → a ≡ b
    parts a b h s x m n =
        ap (λ (k : ℕ). make k a.status a.sense a.moved a.sum) h ∙ (ap (λ (k : ℕ). make b.host.0 k a.sense a.moved a.sum) s
        ∙ (ap (λ (k : SenseBytes). make b.host.0 b.status k a.moved a.sum) x ∙ (ap (λ (k : ℕ). make b.host.0 b.status b.sense k a.sum) m ∙ ap (λ (k : ℕ). make b.host.0 b.status b.sense b.moved k) n)))

both : (t n u m : ℕ) → precedes t n (Some u) m ≡ true → precedes u m (Some t) n ≡ true → n ≡ m
both t n u m e f = grind (arith, nat_tests)

next_once : (s : HostSpec) (b : Before) (P : List Entry) (n m : ℕ) (h g : Held) → IsNext s b P n h → IsNext s b P m g → n ≡ m
next_once s b P n m h g x y =
    let first : precedes x.at n (Some y.at) m ≡ true = subst (λ (o : Option ℕ). precedes x.at n o m ≡ true) y.due (subst (λ (o : Option Held). precedes_held x.at n m o ≡ true) y.here (x.least m)) in
    let second : precedes y.at m (Some x.at) n ≡ true = subst (λ (o : Option ℕ). precedes y.at m o n ≡ true) x.due (subst (λ (o : Option Held). precedes_held y.at m n o ≡ true) x.here (y.least n)) in
    both x.at n y.at m first second

may_once : (s : HostSpec) (b : Before) (P : List Entry) (n m : Attempt) (a c : Answer) → MayAnswer s b P n a → MayAnswer s b P m c → (n ≡ m) × (a ≡ c)
may_once s b P n m a c x y =
    let number : n.0 ≡ m.0 = next_once s b P n.0 m.0 x.0 y.0 x.1 y.1 in
    let one : x.0 ≡ y.0 = same_Some x.0 y.0 (sym x.1.here ∙ (ap (held s b P) number ∙ y.1.here)) in
    (ap (λ (k : ℕ). to k) number, same_answer a c (x.2 ∙ (ap (λ (h : Held). (outcome (target_luns s.luns h.dev) h (unit s b P h.dev)).1) one ∙ sym y.2)))
  where
    to : ℕ → Attempt
    to k = record { 0 = k }

pub answer_once : (s : HostSpec) (b : Before) (P : List Entry) (n m : Attempt) (a c : Answer) → LowerRun s b (Ready n a ∷ P) → LowerRun s b (Ready m c ∷ P) → (n ≡ m) × (a ≡ c)
answer_once s b P n m a c x y = may_once s b P n m a c x.0 y.0

by_one : (o : Option Fault) (why other : BusyOf) → Bounces o why → Bounces o other → why ≡ other
by_one None why other x y = absurd x
by_one (Some HostBusy) why other x y = x ∙ sym y
by_one (Some f) why other x y = x ∙ sym y

pub bounced_once : (s : HostSpec) (b : Before) (P : List Entry) (c : CmdId) (n : Attempt) (t : Tag) (why other : BusyOf)
    → LowerRun s b (Bounced c n why ∷ Sent c n t ∷ P) → LowerRun s b (Bounced c n other ∷ Sent c n t ∷ P) → why ≡ other
bounced_once s b P c n t why other x y = by_one (hit_at s b P (device_of s c.0) Queue) why other x.2 y.2

pub bounced_or_not : (s : HostSpec) (b : Before) (P : List Entry) (c : CmdId) (n : Attempt) (t : Tag) (why : BusyOf)
    → LowerRun s b (Bounced c n why ∷ Sent c n t ∷ P) → LowerRun s b (Sent c n t ∷ P) → ⊥
bounced_or_not s b P c n t why x y = subst (λ (o : Option Fault). Bounces o why) y.0 x.2

said_once : (say other : ProbeSay) → reply_said say ≡ reply_said other → say ≡ other
said_once (Answered a) (Answered c) e = ap (λ (x : Answer). Answered x) (same_answer a c (same_Some (reply_of a) (reply_of c) e))
said_once (Answered a) Silent e = absurd (none-some (reply_of a) (sym e))
said_once Silent (Answered c) e = absurd (none-some (reply_of c) e)
said_once Silent Silent e = refl

pub probe_once : (s : HostSpec) (b : Before) (P : List Entry) (d : DevAddr) (code : ℕ) (say other : ProbeSay)
    → LowerRun s b (Probe d code say ∷ P) → LowerRun s b (Probe d code other ∷ P) → say ≡ other
probe_once s b P d code say other x y = said_once say other (x.0 ∙ sym y.0)
