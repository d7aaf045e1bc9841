-- What a list says of commands, devices and recovery is the same without its vain answers.
use Rattle.std.proofs.Common.{◌≡◌, ℕ, ◌+◌, ◌==◌, Bool, true, false, not, ◌||◌, if◌then◌else◌, List, [], ◌∷◌, ◌++◌, Some, refl, ◌∙◌, filter}
use Rattle.mid_base.specs.declared.names.DevAddr.{DevAddr}
use Rattle.mid_base.specs.declared.answers.BusyOf.TheVariants.{Host as HostBusy, Device as DeviceBusy}
use Rattle.mid_base.specs.declared.entries.Entry.{Entry}
use Rattle.mid_base.specs.declared.entries.Entry.TheVariants.{Took, Sent, Bounced, Ready, Due, Longer, DoneSaid, Owned, Late, Judged, AbortSet, Aborted, Failed, Cleared, Again, Told, EhBegin, EhEnd, Act, Offline, State, Tick}
use Rattle.mid_base.specs.declared.host_spec.HostSpec.{HostSpec}
use Rattle.mid_base.specs.declared.states.DeviceState.TheVariants.{Offline as Gone}
use Rattle.mid_base.specs.Address.{same_dev}
use Rattle.mid_base.specs.Past.{ticks, sent_for, attempt_of}
use Rattle.trace_model.specs.declared.standing.Standing.TheVariants.{Waits, Busy, Ended}
use Rattle.trace_model.specs.Names.{dev_of}
use Rattle.trace_model.specs.Attempts.{attempts, sends, sent_at, is_open, owner, is_settled, longers, is_due, is_said_done}
use Rattle.trace_model.specs.Commands.{standing, taken, failed_since_sent, retries, judgement, has_abort, aborts, is_own}
use Rattle.trace_model.specs.Devices.{state, in_recovery, has_begun}
use Rattle.trace_model.specs.Sending.{host_paused, dev_paused}
use Rattle.trace_model.specs.Recovery.{failed, is_cleared, last_act}
use Rattle.trace_model.specs.Flush.{last_own}
use Rattle.journal_laws.specs.Vain.{is_vain, without_vain}

-- a word that an entry doesn't change is the same whether the entry stands or not
pub blind : {A : Type 0} (w : List Entry → A) (b : Bool) (e : Entry) (K : List Entry) → w (e ∷ K) ≡ w K → w (if b then K else e ∷ K) ≡ w K
blind w true e K h = refl
blind w false e K h = h

pub ticks_same : (X : List Entry) (P : List Entry) → ticks (without_vain X P) ≡ ticks P
ticks_same X [] = refl
ticks_same X (Tick ∷ P) = λ i. (ticks_same X P i) + 1
ticks_same X (Ready m a ∷ P) = blind (λ Q. ticks Q) (is_vain X (Ready m a) P) (Ready m a) (without_vain X P) refl ∙ ticks_same X P
ticks_same X (e ∷ P) = ticks_same X P

pub sent_for_same : (X : List Entry) (n : ℕ) (P : List Entry) → sent_for n (without_vain X P) ≡ sent_for n P
sent_for_same X n [] = refl
sent_for_same X n (Sent c m t ∷ P) = λ i. if m.0 == n then c.0 else (sent_for_same X n P i)
sent_for_same X n (Ready m a ∷ P) = blind (λ Q. sent_for n Q) (is_vain X (Ready m a) P) (Ready m a) (without_vain X P) refl ∙ sent_for_same X n P
sent_for_same X n (e ∷ P) = sent_for_same X n P

pub attempt_of_same : (X : List Entry) (c : ℕ) (P : List Entry) → attempt_of c (without_vain X P) ≡ attempt_of c P
attempt_of_same X c [] = refl
attempt_of_same X c (Sent d n t ∷ P) = λ i. if d.0 == c then n.0 else (attempt_of_same X c P i)
attempt_of_same X c (Ready m a ∷ P) = blind (λ Q. attempt_of c Q) (is_vain X (Ready m a) P) (Ready m a) (without_vain X P) refl ∙ attempt_of_same X c P
attempt_of_same X c (e ∷ P) = attempt_of_same X c P

pub attempts_same : (X : List Entry) (P : List Entry) → attempts (without_vain X P) ≡ attempts P
attempts_same X [] = refl
attempts_same X (Sent c m t ∷ P) = λ i. m.0 ∷ (attempts_same X P i)
attempts_same X (Ready m a ∷ P) = blind (λ Q. attempts Q) (is_vain X (Ready m a) P) (Ready m a) (without_vain X P) refl ∙ attempts_same X P
attempts_same X (e ∷ P) = attempts_same X P

pub sends_same : (X : List Entry) (P : List Entry) → sends (without_vain X P) ≡ sends P
sends_same X [] = refl
sends_same X (Sent c m t ∷ P) = λ i. (sends_same X P i) + 1
sends_same X (Ready m a ∷ P) = blind (λ Q. sends Q) (is_vain X (Ready m a) P) (Ready m a) (without_vain X P) refl ∙ sends_same X P
sends_same X (e ∷ P) = sends_same X P

pub sent_at_same : (X : List Entry) (n : ℕ) (P : List Entry) → sent_at n (without_vain X P) ≡ sent_at n P
sent_at_same X n [] = refl
sent_at_same X n (Sent c m t ∷ P) = λ i. if m.0 == n then (ticks_same X P i) else (sent_at_same X n P i)
sent_at_same X n (Ready m a ∷ P) = blind (λ Q. sent_at n Q) (is_vain X (Ready m a) P) (Ready m a) (without_vain X P) refl ∙ sent_at_same X n P
sent_at_same X n (e ∷ P) = sent_at_same X n P

pub is_open_same : (X : List Entry) (n : ℕ) (P : List Entry) → is_open n (without_vain X P) ≡ is_open n P
is_open_same X n [] = refl
is_open_same X n (Sent c m t ∷ P) = λ i. if m.0 == n then true else (is_open_same X n P i)
is_open_same X n (Bounced c m why ∷ P) = λ i. if m.0 == n then false else (is_open_same X n P i)
is_open_same X n (Owned m by ∷ P) = λ i. if m.0 == n then false else (is_open_same X n P i)
is_open_same X n (Ready m a ∷ P) = blind (λ Q. is_open n Q) (is_vain X (Ready m a) P) (Ready m a) (without_vain X P) refl ∙ is_open_same X n P
is_open_same X n (e ∷ P) = is_open_same X n P

pub owner_same : (X : List Entry) (n : ℕ) (P : List Entry) → owner n (without_vain X P) ≡ owner n P
owner_same X n [] = refl
owner_same X n (Owned m by ∷ P) = λ i. if m.0 == n then Some by else (owner_same X n P i)
owner_same X n (Ready m a ∷ P) = blind (λ Q. owner n Q) (is_vain X (Ready m a) P) (Ready m a) (without_vain X P) refl ∙ owner_same X n P
owner_same X n (e ∷ P) = owner_same X n P

pub is_settled_same : (X : List Entry) (n : ℕ) (P : List Entry) → is_settled n (without_vain X P) ≡ is_settled n P
is_settled_same X n [] = refl
is_settled_same X n (Owned m by ∷ P) = λ i. if m.0 == n then false else (is_settled_same X n P i)
is_settled_same X n (Judged c m d ∷ P) = λ i. if m.0 == n then true else (is_settled_same X n P i)
is_settled_same X n (AbortSet c m ∷ P) = λ i. if m.0 == n then true else (is_settled_same X n P i)
is_settled_same X n (Failed c m x ∷ P) = λ i. if m.0 == n then true else (is_settled_same X n P i)
is_settled_same X n (Ready m a ∷ P) = blind (λ Q. is_settled n Q) (is_vain X (Ready m a) P) (Ready m a) (without_vain X P) refl ∙ is_settled_same X n P
is_settled_same X n (e ∷ P) = is_settled_same X n P

pub longers_same : (X : List Entry) (n : ℕ) (P : List Entry) → longers n (without_vain X P) ≡ longers n P
longers_same X n [] = refl
longers_same X n (Longer m ∷ P) = λ i. if m.0 == n then (longers_same X n P i) + 1 else (longers_same X n P i)
longers_same X n (Ready m a ∷ P) = blind (λ Q. longers n Q) (is_vain X (Ready m a) P) (Ready m a) (without_vain X P) refl ∙ longers_same X n P
longers_same X n (e ∷ P) = longers_same X n P

pub is_due_same : (X : List Entry) (n : ℕ) (P : List Entry) → is_due n (without_vain X P) ≡ is_due n P
is_due_same X n [] = refl
is_due_same X n (Due m ∷ P) = λ i. if m.0 == n then true else (is_due_same X n P i)
is_due_same X n (Ready m a ∷ P) = blind (λ Q. is_due n Q) (is_vain X (Ready m a) P) (Ready m a) (without_vain X P) refl ∙ is_due_same X n P
is_due_same X n (e ∷ P) = is_due_same X n P

pub is_said_done_same : (X : List Entry) (n : ℕ) (P : List Entry) → is_said_done n (without_vain X P) ≡ is_said_done n P
is_said_done_same X n [] = refl
is_said_done_same X n (DoneSaid m ∷ P) = λ i. if m.0 == n then true else (is_said_done_same X n P i)
is_said_done_same X n (Ready m a ∷ P) = blind (λ Q. is_said_done n Q) (is_vain X (Ready m a) P) (Ready m a) (without_vain X P) refl ∙ is_said_done_same X n P
is_said_done_same X n (e ∷ P) = is_said_done_same X n P

pub standing_same : (X : List Entry) (c : ℕ) (P : List Entry) → standing c (without_vain X P) ≡ standing c P
standing_same X c [] = refl
standing_same X c (Took d ∷ P) = λ i. if d.0 == c then Waits else (standing_same X c P i)
standing_same X c (Sent d n t ∷ P) = λ i. if d.0 == c then Busy n t else (standing_same X c P i)
standing_same X c (Bounced d n why ∷ P) = λ i. if d.0 == c then Waits else (standing_same X c P i)
standing_same X c (Again d counted ∷ P) = λ i. if d.0 == c then Waits else (standing_same X c P i)
standing_same X c (Told d a ∷ P) = λ i. if d.0 == c then Ended else (standing_same X c P i)
standing_same X c (Ready m a ∷ P) = blind (λ Q. standing c Q) (is_vain X (Ready m a) P) (Ready m a) (without_vain X P) refl ∙ standing_same X c P
standing_same X c (e ∷ P) = standing_same X c P

pub taken_same : (X : List Entry) (P : List Entry) → taken (without_vain X P) ≡ taken P
taken_same X [] = refl
taken_same X (Took c ∷ P) = λ i. (taken_same X P i) ++ c.0 ∷ []
taken_same X (Ready m a ∷ P) = blind (λ Q. taken Q) (is_vain X (Ready m a) P) (Ready m a) (without_vain X P) refl ∙ taken_same X P
taken_same X (e ∷ P) = taken_same X P

pub failed_since_sent_same : (X : List Entry) (c : ℕ) (P : List Entry) → failed_since_sent c (without_vain X P) ≡ failed_since_sent c P
failed_since_sent_same X c [] = refl
failed_since_sent_same X c (Sent d n t ∷ P) = λ i. if d.0 == c then false else (failed_since_sent_same X c P i)
failed_since_sent_same X c (Failed d n x ∷ P) = λ i. if d.0 == c then true else (failed_since_sent_same X c P i)
failed_since_sent_same X c (Ready m a ∷ P) = blind (λ Q. failed_since_sent c Q) (is_vain X (Ready m a) P) (Ready m a) (without_vain X P) refl ∙ failed_since_sent_same X c P
failed_since_sent_same X c (e ∷ P) = failed_since_sent_same X c P

pub retries_same : (X : List Entry) (c : ℕ) (P : List Entry) → retries c (without_vain X P) ≡ retries c P
retries_same X c [] = refl
retries_same X c (Again d true ∷ P) = λ i. if d.0 == c then (retries_same X c P i) + 1 else (retries_same X c P i)
retries_same X c (Ready m a ∷ P) = blind (λ Q. retries c Q) (is_vain X (Ready m a) P) (Ready m a) (without_vain X P) refl ∙ retries_same X c P
retries_same X c (e ∷ P) = retries_same X c P

pub judgement_same : (X : List Entry) (n : ℕ) (P : List Entry) → judgement n (without_vain X P) ≡ judgement n P
judgement_same X n [] = refl
judgement_same X n (Judged c m d ∷ P) = λ i. if m.0 == n then Some d else (judgement_same X n P i)
judgement_same X n (Ready m a ∷ P) = blind (λ Q. judgement n Q) (is_vain X (Ready m a) P) (Ready m a) (without_vain X P) refl ∙ judgement_same X n P
judgement_same X n (e ∷ P) = judgement_same X n P

pub has_abort_same : (X : List Entry) (c : ℕ) (P : List Entry) → has_abort c (without_vain X P) ≡ has_abort c P
has_abort_same X c [] = refl
has_abort_same X c (AbortSet d n ∷ P) = λ i. if d.0 == c then true else (has_abort_same X c P i)
has_abort_same X c (Ready m a ∷ P) = blind (λ Q. has_abort c Q) (is_vain X (Ready m a) P) (Ready m a) (without_vain X P) refl ∙ has_abort_same X c P
has_abort_same X c (e ∷ P) = has_abort_same X c P

pub aborts_same : (X : List Entry) (P : List Entry) → aborts (without_vain X P) ≡ aborts P
aborts_same X [] = refl
aborts_same X (AbortSet c n ∷ P) = λ i. (aborts_same X P i) ++ n.0 ∷ []
aborts_same X (Aborted c n ok ∷ P) = λ i. filter (λ m. not (m == n.0)) (aborts_same X P i)
aborts_same X (Ready m a ∷ P) = blind (λ Q. aborts Q) (is_vain X (Ready m a) P) (Ready m a) (without_vain X P) refl ∙ aborts_same X P
aborts_same X (e ∷ P) = aborts_same X P

pub state_same : (X : List Entry) (s : HostSpec) (d : DevAddr) (P : List Entry) → state s d (without_vain X P) ≡ state s d P
state_same X s d [] = refl
state_same X s d (State e x ∷ P) = λ i. if same_dev e d then x else (state_same X s d P i)
state_same X s d (Offline e ∷ P) = λ i. if same_dev e d then Gone else (state_same X s d P i)
state_same X s d (Ready m a ∷ P) = blind (λ Q. state s d Q) (is_vain X (Ready m a) P) (Ready m a) (without_vain X P) refl ∙ state_same X s d P
state_same X s d (e ∷ P) = state_same X s d P

pub in_recovery_same : (X : List Entry) (P : List Entry) → in_recovery (without_vain X P) ≡ in_recovery P
in_recovery_same X [] = refl
in_recovery_same X (Failed c n x ∷ P) = refl
in_recovery_same X (EhEnd ∷ P) = refl
in_recovery_same X (Ready m a ∷ P) = blind (λ Q. in_recovery Q) (is_vain X (Ready m a) P) (Ready m a) (without_vain X P) refl ∙ in_recovery_same X P
in_recovery_same X (e ∷ P) = in_recovery_same X P

pub has_begun_same : (X : List Entry) (P : List Entry) → has_begun (without_vain X P) ≡ has_begun P
has_begun_same X [] = refl
has_begun_same X (EhBegin ∷ P) = refl
has_begun_same X (EhEnd ∷ P) = refl
has_begun_same X (Ready m a ∷ P) = blind (λ Q. has_begun Q) (is_vain X (Ready m a) P) (Ready m a) (without_vain X P) refl ∙ has_begun_same X P
has_begun_same X (e ∷ P) = has_begun_same X P

pub host_paused_same : (X : List Entry) (P : List Entry) → host_paused (without_vain X P) ≡ host_paused P
host_paused_same X [] = refl
host_paused_same X (Bounced c n HostBusy ∷ P) = refl
host_paused_same X (Tick ∷ P) = refl
host_paused_same X (Ready m a ∷ P) = blind (λ Q. host_paused Q) (is_vain X (Ready m a) P) (Ready m a) (without_vain X P) refl ∙ host_paused_same X P
host_paused_same X (e ∷ P) = host_paused_same X P

pub dev_paused_same : (X : List Entry) (s : HostSpec) (d : DevAddr) (P : List Entry) → dev_paused s d (without_vain X P) ≡ dev_paused s d P
dev_paused_same X s d [] = refl
dev_paused_same X s d (Bounced c n DeviceBusy ∷ P) = λ i. same_dev (dev_of s c.0) d || (dev_paused_same X s d P i)
dev_paused_same X s d (Again c false ∷ P) = λ i. same_dev (dev_of s c.0) d || (dev_paused_same X s d P i)
dev_paused_same X s d (Tick ∷ P) = refl
dev_paused_same X s d (Ready m a ∷ P) = blind (λ Q. dev_paused s d Q) (is_vain X (Ready m a) P) (Ready m a) (without_vain X P) refl ∙ dev_paused_same X s d P
dev_paused_same X s d (e ∷ P) = dev_paused_same X s d P

pub failed_same : (X : List Entry) (P : List Entry) → failed (without_vain X P) ≡ failed P
failed_same X [] = refl
failed_same X (Failed c n x ∷ P) = λ i. (failed_same X P i) ++ record { cmd = c; attempt = n; cancelled = x } ∷ []
failed_same X (Again c counted ∷ P) = λ i. filter (λ f. not (f.cmd.0 == c.0)) (failed_same X P i)
failed_same X (Told c a ∷ P) = λ i. filter (λ f. not (f.cmd.0 == c.0)) (failed_same X P i)
failed_same X (Ready m a ∷ P) = blind (λ Q. failed Q) (is_vain X (Ready m a) P) (Ready m a) (without_vain X P) refl ∙ failed_same X P
failed_same X (e ∷ P) = failed_same X P

pub is_cleared_same : (X : List Entry) (c : ℕ) (P : List Entry) → is_cleared c (without_vain X P) ≡ is_cleared c P
is_cleared_same X c [] = refl
is_cleared_same X c (Cleared d level ∷ P) = λ i. if d.0 == c then true else (is_cleared_same X c P i)
is_cleared_same X c (EhBegin ∷ P) = refl
is_cleared_same X c (Ready m a ∷ P) = blind (λ Q. is_cleared c Q) (is_vain X (Ready m a) P) (Ready m a) (without_vain X P) refl ∙ is_cleared_same X c P
is_cleared_same X c (e ∷ P) = is_cleared_same X c P

pub last_act_same : (X : List Entry) (P : List Entry) → last_act (without_vain X P) ≡ last_act P
last_act_same X [] = refl
last_act_same X (Act level scope ok ∷ P) = refl
last_act_same X (EhBegin ∷ P) = refl
last_act_same X (Ready m a ∷ P) = blind (λ Q. last_act Q) (is_vain X (Ready m a) P) (Ready m a) (without_vain X P) refl ∙ last_act_same X P
last_act_same X (e ∷ P) = last_act_same X P

pub last_own_same : (X : List Entry) (c : ℕ) (P : List Entry) → last_own c (without_vain X P) ≡ last_own c P
last_own_same X c [] = refl
last_own_same X c (Ready m a ∷ P) = blind (λ Q. last_own c Q) (is_vain X (Ready m a) P) (Ready m a) (without_vain X P) refl ∙ last_own_same X c P
last_own_same X c (Late m ∷ P) = last_own_same X c P
last_own_same X c (e ∷ P) = λ i. if is_own c e then Some e else last_own_same X c P i
