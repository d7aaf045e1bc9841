-- Where numbers are left, no rule bars a step exactly where nothing does.
use Rattle.std.proofs.Common.{◌≡◌, ◌⊎◌, ℕ, ◌+◌, ◌<◌, Bool, true, false, not, ◌&&◌, ◌||◌, cond, List, [], ◌∷◌, refl, sym, ◌∙◌, subst, inl, inr, ⊎_elim, Option, None, Some, is_none, nat_le, nat_lt, arith, ◌↔◌, ◌==◌}
use Rattle.std.specs.Prelude.{⊤}
use Rattle.std.specs.List.{list_any}
use Rattle.std.proofs.lemmas.Bool.{and_right}
use Rattle.std.proofs.lemmas.Bool.Decides.{leb_tells}
use Rattle.mid_base.specs.declared.answers.By.TheVariants.{Answer as ByAnswer, Expiry as ByExpiry}
use Rattle.mid_base.specs.declared.entries.Entry.{Entry}
use Rattle.mid_base.specs.declared.steps.Step.{Step}
use Rattle.mid_base.specs.declared.steps.Step.TheVariants.{Submit, Send, Work, Due as AskDue, Own, Settle, Drop, Abort, EhBegin as Begin, EhAct, EhFlush, EhEnd as End, Tick as GoOn, SetState}
use Rattle.mid_base.specs.declared.steps.Why.{Why}
use Rattle.mid_base.specs.declared.steps.Why.TheVariants.{LaneDone, Recovery, NoSend, Spent, NoWork, NoDue, NotOpen, NotReady, NotDue, NotOwned, NotLate, NoAbort, EhRunning, NoFailed, NotQuiet, EhIdle, LadderDone, LadderOpen, FlushDone, FlushLeft, WorkDue, AnswerWaiting, ExpiryWaiting, Illegal}
use Rattle.mid_base.specs.declared.host_spec.HostSpec.{HostSpec}
use Rattle.mid_base.specs.Past.{ticks}
use Rattle.mid_base.specs.Address.{has_dev}
use Rattle.device_states.specs.States.{may_become}
use Rattle.trace_model.specs.Attempts.{sends, attempts, answered, is_open, is_answered, late, owner, is_settled, is_due}
use Rattle.trace_model.specs.Commands.{aborts}
use Rattle.trace_model.specs.Devices.{state, in_recovery, has_begun}
use Rattle.trace_model.specs.Time.{is_expired}
use Rattle.trace_model.specs.Recovery.{is_quiet, failed, todo}
use Rattle.trace_model.specs.Flush.{is_empty}
use Rattle.trace_model.specs.Sending.{next_of_lane, pick}
use Rattle.mid_base.specs.Limits.{last_number}
use Rattle.trace_model.specs.Steps.{barred, would_send, first_why}
use Rattle.step_laws.specs.Enabled.{IsEnabled, IsRightlyBarred, HasNumbers, is_let, bars}

-- each cause of the list is a rule, or it isn't there
abbrev Ruled : List (Bool × Why) → Type 0
Ruled [] = ⊤
Ruled (x ∷ xs) = ((bars (Some x.1) ≡ true) ⊎ (x.0 ≡ false)) × Ruled xs

one : (b : Bool) (w : Why) (rest : Option Why) → (bars (Some w) ≡ true) ⊎ (b ≡ false) → bars (cond b (Some w) rest) ≡ false → (bars rest ≡ false → rest ≡ None) → cond b (Some w) rest ≡ None
one true w rest (inl r) h f = absurd (cc (sym r ∙ h))
one true w rest (inr e) h f = cc e
one false w rest r h f = f h

clear : (xs : List (Bool × Why)) → Ruled xs → bars (first_why xs) ≡ false → first_why xs ≡ None
clear [] r h = refl
clear (x ∷ xs) r h = one x.0 x.1 (first_why xs) r.0 h (clear xs r.1)

none_spent : (m k : ℕ) → k < m → nat_le m k ≡ false
none_spent m k l = ⊎_elim (λ yes. absurd (omega (arith, l, yes.1))) (λ no. no.0) (leb_tells m k)

ruled : (s : HostSpec) (P : List Entry) (step : Step) → HasNumbers P → (due : Bool) → bars (barred s due P step) ≡ false → barred s due P step ≡ None
ruled s P (Submit lane) n due h = let xs : List (Bool × Why) = (is_none (next_of_lane s P lane.0), LaneDone) ∷ [] in clear xs (inl refl, tt) h
ruled s P Send n due h = let xs : List (Bool × Why) = (in_recovery P, Recovery) ∷ (is_none (pick s P), NoSend) ∷ (would_send s P (pick s P) && nat_le last_number (sends P + 1), Spent) ∷ [] in clear xs (inl refl, (inl refl, (inr (and_right (would_send s P (pick s P)) (nat_le last_number (sends P + 1)) (none_spent last_number (sends P + 1) n.attempts)), tt))) h
ruled s P Work n due h = let xs : List (Bool × Why) = (not due, NoWork) ∷ [] in clear xs (inl refl, tt) h
ruled s P AskDue n due h = let xs : List (Bool × Why) = (not (list_any (is_expired s P) (attempts P)), NoDue) ∷ [] in clear xs (inl refl, tt) h
ruled s P (Own m ByAnswer) n due h = let xs : List (Bool × Why) = (not (is_open m.0 P), NotOpen) ∷ (not (is_answered m.0 P), NotReady) ∷ [] in clear xs (inl refl, (inl refl, tt)) h
ruled s P (Own m ByExpiry) n due h = let xs : List (Bool × Why) = (not (is_open m.0 P), NotOpen) ∷ (not (is_due m.0 P), NotDue) ∷ [] in clear xs (inl refl, (inl refl, tt)) h
ruled s P (Settle m) n due h = let xs : List (Bool × Why) = (is_none (owner m.0 P) || is_settled m.0 P, NotOwned) ∷ [] in clear xs (inl refl, tt) h
ruled s P (Drop m) n due h = let xs : List (Bool × Why) = (late m.0 P == 0, NotLate) ∷ [] in clear xs (inl refl, tt) h
ruled s P Abort n due h = let xs : List (Bool × Why) = (is_empty (aborts P), NoAbort) ∷ [] in clear xs (inl refl, tt) h
ruled s P Begin n due h = let xs : List (Bool × Why) = (has_begun P, EhRunning) ∷ (is_empty (failed P), NoFailed) ∷ (not (is_quiet s P), NotQuiet) ∷ [] in clear xs (inl refl, (inl refl, (inl refl, tt))) h
ruled s P EhAct n due h = let xs : List (Bool × Why) = (not (has_begun P), EhIdle) ∷ (is_empty (todo s P), LadderDone) ∷ [] in clear xs (inl refl, (inl refl, tt)) h
ruled s P EhFlush n due h = let xs : List (Bool × Why) = (not (has_begun P), EhIdle) ∷ (not (is_empty (todo s P)), LadderOpen) ∷ (is_empty (failed P), FlushDone) ∷ [] in clear xs (inl refl, (inl refl, (inl refl, tt))) h
ruled s P End n due h = let xs : List (Bool × Why) = (not (has_begun P), EhIdle) ∷ (not (is_empty (todo s P)), LadderOpen) ∷ (not (is_empty (failed P)), FlushLeft) ∷ [] in clear xs (inl refl, (inl refl, (inl refl, tt))) h
ruled s P GoOn n due h = let xs : List (Bool × Why) = (due, WorkDue) ∷ (list_any (λ n. is_open n P && is_answered n P) (attempts P) || list_any (λ n. nat_lt 0 (late n P)) (answered P), AnswerWaiting) ∷ (list_any (λ n. is_expired s P n || (is_open n P && is_due n P)) (attempts P), ExpiryWaiting) ∷ (nat_le last_number (ticks P), Spent) ∷ [] in clear xs (inl refl, (inl refl, (inl refl, (inr (none_spent last_number (ticks P) n.ticks_left), tt)))) h
ruled s P (SetState d x) n due h = let xs : List (Bool × Why) = (has_begun P, EhRunning) ∷ (not (has_dev s.luns d && may_become (state s d P) x), Illegal) ∷ [] in clear xs (inl refl, (inl refl, tt)) h

pub with_numbers : (s : HostSpec) (P : List Entry) (step : Step) → HasNumbers P → IsRightlyBarred s P step → (due : Bool) → (barred s due P step ≡ None) ↔ ((is_let due step ≡ true) × IsEnabled s P step)
with_numbers s P step n law due = (
  λ none. (law due).0 (subst (λ (w : Option Why). bars w ≡ false) (sym none) refl),
  λ h. ruled s P step n due ((law due).1 h),
)
