-- What is held right stays so over one entry.
use Rattle.std.proofs.Common.{◌≡◌, ℕ, ◌==◌, Bool, true, false, cond, List, ◌∷◌, refl, sym, subst, ◌∙◌, ⊎_elim}
use Rattle.std.proofs.lemmas.Bool.{false≢true}
use Rattle.std.proofs.lemmas.Bool.Decides.{eqb_tells}
use Rattle.mid_base.specs.declared.entries.Entry.{Entry}
use Rattle.mid_base.specs.declared.entries.Entry.TheVariants.{Took, Sent, Bounced, Ready, Cleared, Again, Told, EhBegin, EhEnd, Offline, State}
use Rattle.mid_base.specs.declared.host_spec.HostSpec.{HostSpec}
use Rattle.mid_base.specs.declared.names.Attempt.{Attempt}
use Rattle.mid_base.specs.declared.names.DevAddr.{DevAddr}
use Rattle.mid_base.specs.declared.names.Tag.{Tag}
use Rattle.mid_base.specs.declared.states.DeviceState.{DeviceState}
use Rattle.mid_base.specs.declared.states.DeviceState.TheVariants as device
use Rattle.mid_base.specs.Address.{same_dev}
use Rattle.mid_base.specs.Past.{was_sent, sent_for}
use Rattle.device_states.specs.States.{is_online_state}
use Rattle.host_template.specs.Meaning.{Meaning, Holds, NothingAdded, SameMeaning}
use Rattle.trace_model.specs.declared.standing.Standing.{Standing}
use Rattle.trace_model.specs.declared.standing.Standing.TheVariants.{New, Waits, Busy, Ended}
use Rattle.trace_model.specs.Names.{dev_of}
use Rattle.trace_model.specs.Commands.{standing, waits, is_new}
use Rattle.trace_model.specs.Devices.{has_begun, is_online, state}
use Rattle.held_laws.specs.Held.{Held, is_over_or_with, HoldsRight, NoneHeld, IsRight}

-- the device of c isn't online where an attempt of it is held
abbrev pub AllLost : HostSpec → List Entry → ℕ → Held → Type 0
AllLost s P c held = (n : ℕ) (d : DevAddr) → Holds held n d → was_sent n P ≡ true → sent_for n P ≡ c → is_online s (dev_of s c) P ≡ false

-- what an entry wants of what is held
abbrev pub Suits : HostSpec → List Entry → Held → Entry → Type 0
Suits s P held (Took c) = NoneHeld P c.0 held
Suits s P held (Sent c n t) = ⊥
Suits s P held (Bounced c n why) = NoneHeld P c.0 held
Suits s P held (Ready n a) = (d : DevAddr) → Holds held n.0 d → ⊥
Suits s P held (Cleared c level) = AllLost s P c.0 held
Suits s P held (Again c counted) = NoneHeld P c.0 held
Suits s P held (State d x) = has_begun P ≡ false
Suits s P held e = Unit {0}

other_rests : (n d c : ℕ) (x y : Standing) → (d ≡ c → ⊥) → is_over_or_with n x ≡ true → is_over_or_with n (cond (d == c) y x) ≡ true
other_rests n d c x y other h = ⊎_elim (λ yes. absurd (other yes.1)) (λ no. rw no.0 h) (eqb_tells d c)

told_rests : (n : ℕ) (b : Bool) (x : Standing) → is_over_or_with n x ≡ true → is_over_or_with n (cond b Ended x) ≡ true
told_rests n true x h = refl
told_rests n false x h = h

pub off_state : (b : Bool) (x : DeviceState) → is_online_state x ≡ false → is_online_state (cond b device.Offline x) ≡ false
off_state true x h = refl
off_state false x h = h

pub stays_right : (s : HostSpec) (P : List Entry) (held : Held) (e : Entry) → Suits s P held e → HoldsRight s P held → HoldsRight s (e ∷ P) held
stays_right s P held (Sent c m t) q h n d on sent = absurd q
stays_right s P held (Took c) q h n d on sent =
    let k = h n d on sent in
    record {
      device = k.device;
      unanswered = k.unanswered;
      rests = other_rests n c.0 (sent_for n P) (standing (sent_for n P) P) Waits (λ same. q n d on sent (sym same)) k.rests;
      lost = k.lost;
    }
stays_right s P held (Bounced c m why) q h n d on sent =
    let k = h n d on sent in
    record {
      device = k.device;
      unanswered = k.unanswered;
      rests = other_rests n c.0 (sent_for n P) (standing (sent_for n P) P) Waits (λ same. q n d on sent (sym same)) k.rests;
      lost = k.lost;
    }
stays_right s P held (Again c counted) q h n d on sent =
    let k = h n d on sent in
    record {
      device = k.device;
      unanswered = k.unanswered;
      rests = other_rests n c.0 (sent_for n P) (standing (sent_for n P) P) Waits (λ same. q n d on sent (sym same)) k.rests;
      lost = k.lost;
    }
stays_right s P held (Told c a) q h n d on sent =
    let k = h n d on sent in
    record {
      device = k.device;
      unanswered = k.unanswered;
      rests = told_rests n (c.0 == sent_for n P) (standing (sent_for n P) P) k.rests;
      lost = k.lost;
    }
stays_right s P held (Ready m a) q h n d on sent =
    let k = h n d on sent in
    record {
      device = k.device;
      unanswered = ⊎_elim (λ yes. absurd (q d (subst (λ (i : ℕ). Holds held i d) (sym yes.1) on))) (λ no. rw no.0 k.unanswered) (eqb_tells m.0 n);
      rests = k.rests;
      lost = k.lost;
    }
stays_right s P held (Cleared c level) q h n d on sent =
    let k = h n d on sent in
    record {
      device = k.device;
      unanswered = k.unanswered;
      rests = k.rests;
      lost = λ begun cleared. ⊎_elim
          (λ yes. subst (λ (i : ℕ). is_online s (dev_of s i) P ≡ false) yes.1 (q n d on sent (sym yes.1)))
          (λ no. k.lost begun (rw no.0 at cleared))
          (eqb_tells c.0 (sent_for n P));
    }
stays_right s P held EhBegin q h n d on sent =
    let k = h n d on sent in
    record { device = k.device; unanswered = k.unanswered; rests = k.rests; lost = λ begun cleared. absurd (false≢true cleared) }
stays_right s P held EhEnd q h n d on sent =
    let k = h n d on sent in
    record { device = k.device; unanswered = k.unanswered; rests = k.rests; lost = λ begun cleared. absurd (false≢true begun) }
stays_right s P held (State e x) q h n d on sent =
    let k = h n d on sent in
    record { device = k.device; unanswered = k.unanswered; rests = k.rests; lost = λ begun cleared. absurd (false≢true (sym q ∙ begun)) }
stays_right s P held (Offline e) q h n d on sent =
    let k = h n d on sent in
    record {
      device = k.device;
      unanswered = k.unanswered;
      rests = k.rests;
      lost = λ begun cleared. off_state (same_dev e (dev_of s (sent_for n P))) (state s (dev_of s (sent_for n P)) P) (k.lost begun cleared);
    }
stays_right s P held e q h n d on sent =
    let k = h n d on sent in
    record { device = k.device; unanswered = k.unanswered; rests = k.rests; lost = k.lost }

-- fewer are held
pub fewer_right : (s : HostSpec) (P : List Entry) (old new : Meaning) → NothingAdded old new → HoldsRight s P old.holds → HoldsRight s P new.holds
fewer_right s P old new less h n d on sent = h n d (less n d on) sent

pub same_right : (s : HostSpec) (P : List Entry) (old new : Meaning) → SameMeaning old new → IsRight s P old → IsRight s P new
same_right s P old new same h honest tells n d on sent =
    h (sym same.nature.honest ∙ honest) (sym same.nature.tells ∙ tells) n d ((same.holds n d).0 on) sent

not_new : (n : ℕ) (x : Standing) → is_new x ≡ true → is_over_or_with n x ≡ true → ⊥
not_new n New w r = cc r
not_new n Waits w r = cc r
not_new n (Busy m t) w r = cc w
not_new n Ended w r = cc w

not_waiting : (n : ℕ) (x : Standing) → waits x ≡ true → is_over_or_with n x ≡ true → ⊥
not_waiting n New w r = cc r
not_waiting n Waits w r = cc r
not_waiting n (Busy m t) w r = cc w
not_waiting n Ended w r = cc w

-- no attempt of a command that is new, or that waits, is held
pub new_none : (s : HostSpec) (P : List Entry) (c : ℕ) (held : Held) → HoldsRight s P held → is_new (standing c P) ≡ true → NoneHeld P c held
new_none s P c held h w n d on sent is =
    not_new n (standing c P) w (subst (λ (i : ℕ). is_over_or_with n (standing i P) ≡ true) is (h n d on sent).rests)

pub waiting_none : (s : HostSpec) (P : List Entry) (c : ℕ) (held : Held) → HoldsRight s P held → waits (standing c P) ≡ true → NoneHeld P c held
waiting_none s P c held h w n d on sent is =
    not_waiting n (standing c P) w (subst (λ (i : ℕ). is_over_or_with n (standing i P) ≡ true) is (h n d on sent).rests)

-- a held attempt of a busy command is the one that it is busy with
pub busy_only : (s : HostSpec) (P : List Entry) (c : ℕ) (m : Attempt) (t : Tag) (held : Held) → HoldsRight s P held → standing c P ≡ Busy m t
    → (n : ℕ) (d : DevAddr) → Holds held n d → was_sent n P ≡ true → sent_for n P ≡ c → n ≡ m.0
busy_only s P c m t held h busy n d on sent is =
    let rests : is_over_or_with n (Busy m t) ≡ true = subst (λ (x : Standing). is_over_or_with n x ≡ true) busy (subst (λ (i : ℕ). is_over_or_with n (standing i P) ≡ true) is (h n d on sent).rests) in
    ⊎_elim (λ yes. sym yes.1) (λ no. absurd (false≢true (sym no.0 ∙ rests))) (eqb_tells m.0 n)
