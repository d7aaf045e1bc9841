-- What EhFlush begins with: the first failed command goes again, or is told.
use Rattle.std.proofs.Common.{◌≡◌, ℕ, Bool, true, false, not, ◌&&◌, ◌||◌, cond, List, [], ◌∷◌, Option, None, Some, refl, sym, ap, ◌∙◌, ⊎_elim}
use Rattle.std.proofs.lemmas.Bool.{eqb-true, cases_Bool, and_parts, not-true, or_cases}
use Rattle.std.proofs.lemmas.Option.{none-some}
use Rattle.mid_base.specs.declared.names.CmdId.{CmdId}
use Rattle.mid_base.specs.declared.answers.Answer.{Answer}
use Rattle.mid_base.specs.declared.states.DeviceState.{DeviceState}
use Rattle.mid_base.specs.declared.states.DeviceState.TheVariants.{Offline, Cancel, Del}
use Rattle.mid_base.specs.declared.entries.Entry.{Entry}
use Rattle.mid_base.specs.declared.entries.Entry.TheVariants.{Again, Told, Tick}
use Rattle.mid_base.specs.declared.steps.Step.TheVariants.{EhFlush}
use Rattle.mid_base.specs.declared.host_spec.HostSpec.{HostSpec}
use Rattle.mid_base.specs.Answers.{no_connect}
use Rattle.mid_base.specs.Past.{attempt_of}
use Rattle.device_states.specs.States.{is_closed, is_online_state}
use Rattle.trace_model.specs.Names.{command, dev_of}
use Rattle.trace_model.specs.Commands.{judgement}
use Rattle.trace_model.specs.Devices.{state, is_online, in_recovery, has_begun}
use Rattle.trace_model.specs.Sending.{is_next_of_lane, pick, is_number, is_refused, is_stranded}
use Rattle.trace_model.specs.Judging.{may_retry, retries_remain}
use Rattle.trace_model.specs.Recovery.{Failure, failed, todo}
use Rattle.trace_model.specs.Flush.{is_empty, is_first_failed, is_flushed, is_saved, verdict, was_success}
use Rattle.trace_model.specs.Rules.{Allowed, telling}
use Rattle.trace_model.specs.Steps.{opens}
use Rattle.adds_laws.proofs.Plain.{command_is}

abbrev told_by : CmdId → Option Answer → Entry
told_by c None = Tick
told_by c (Some a) = Told c a

abbrev flushed_as : HostSpec → List Entry → CmdId → Entry
flushed_as s P c = cond (is_saved s P c.0) (Again c true) (told_by c (telling s P c.0))

is_up : (s : HostSpec) (P : List Entry) (c : ℕ) → is_flushed s P c ≡ true → is_first_failed c (failed P) ≡ true
is_up s P c h = (and_parts (has_begun P && is_empty (todo s P)) (is_first_failed c (failed P)) h).1

one_first : (c d : ℕ) (fs : List Failure) → is_first_failed c fs ≡ true → is_first_failed d fs ≡ true → c ≡ d
one_first c d [] x y = cc x
one_first c d (f ∷ fs) x y = sym (eqb-true f.cmd.0 c x) ∙ eqb-true f.cmd.0 d y

-- a command that would be told at once, as it is refused or stranded, doesn't go again: its device isn't online

closed_off : (x : DeviceState) → is_closed x ≡ true → is_online_state x ≡ false
closed_off Cancel h = refl
closed_off Del h = refl
closed_off Offline h = refl
closed_off x h = cc h

early_off : (s : HostSpec) (P : List Entry) (c : ℕ) → is_refused s P c || is_stranded s P c ≡ true → is_online s (dev_of s c) P ≡ false
early_off s P c h = ⊎_elim
    (λ refused. closed_off (state s (dev_of s c) P) (and_parts (is_next_of_lane s P c) (is_closed (state s (dev_of s c) P)) refused).1)
    (λ stranded. not-true _ (and_parts (not (in_recovery P) && is_number c (pick s P)) (not (is_online s (dev_of s c) P)) stranded).1)
    (or_cases (is_refused s P c) (is_stranded s P c) h)

saved_online : (s : HostSpec) (P : List Entry) (c : ℕ) → is_saved s P c ≡ true → is_online s (dev_of s c) P ≡ true
saved_online s P c h =
    let retry = and_parts (not (was_success (judgement (attempt_of c P) P))) (may_retry s P c) h in
    let two = and_parts (is_online s (dev_of s c) P && not (command s c).failfast) (retries_remain s P c) retry.1 in
    (and_parts (is_online s (dev_of s c) P) (not (command s c).failfast) two.0).0

told_lost : (early flushed saved : Bool) (x : Answer) (v : Option Answer) (a : Answer) → early ≡ false → cond early (Some x) (cond (flushed && not saved) v None) ≡ Some a → saved ≡ false
told_lost true flushed saved x v a e h = cc e
told_lost false true false x v a e h = refl
told_lost false true true x v a e h = absurd (none-some a h)
told_lost false false saved x v a e h = absurd (none-some a h)

told_not_saved : (s : HostSpec) (P : List Entry) (c : ℕ) (a : Answer) → telling s P c ≡ Some a → is_saved s P c ≡ false
told_not_saved s P c a h = ⊎_elim
    (λ early. ⊎_elim (λ saved. absurd (cc (sym (early_off s P c early) ∙ saved_online s P c saved))) (λ no. no) (cases_Bool (is_saved s P c)))
    (λ no. told_lost (is_refused s P c || is_stranded s P c) (is_flushed s P c) (is_saved s P c) no_connect (verdict c P) a no h)
    (cases_Bool (is_refused s P c || is_stranded s P c))

flush_is : (s : HostSpec) (P : List Entry) (e : Entry) → opens s P EhFlush e ≡ true → Allowed s P e → (c : CmdId) × (is_first_failed c.0 (failed P) ≡ true) × (e ≡ flushed_as s P c)
flush_is s P (Again c counted) o al =
    let two = and_parts (counted && is_flushed s P c.0) (is_saved s P c.0) al in
    let one = and_parts counted (is_flushed s P c.0) two.0 in
    (c, is_up s P c.0 one.1, rw two.1 (ap (λ (u : Bool). Again c u) one.0))
flush_is s P (Told c a) o al = (c, is_up s P c.0 o, ap (told_by c) (sym al) ∙ ap (λ (u : Bool). cond u (Again c true) (told_by c (telling s P c.0))) (sym (told_not_saved s P c.0 a al)))
flush_is s P e o al = cc o

pub flushes_one : (s : HostSpec) (P : List Entry) (e f : Entry) → opens s P EhFlush e ≡ true → Allowed s P e → opens s P EhFlush f ≡ true → Allowed s P f → e ≡ f
flushes_one s P e f o x p y =
    let a = flush_is s P e o x in
    let c = flush_is s P f p y in
    let same : a.0 ≡ c.0 = command_is a.0 c.0 (one_first a.0.0 c.0.0 (failed P) a.1 c.1) in
    a.2 ∙ (ap (flushed_as s P) same ∙ sym c.2)
