-- The relation over one entry more.
use Rattle.std.proofs.Common.{◌≡◌, ◌∙◌, sym, ap, subst, refl, ℕ, ◌==◌, Bool, true, false, not, List, [], ◌∷◌, map, inl, inr}
use Rattle.std.specs.Prelude.{cond, Option, Some}
use Rattle.std.specs.List.{All}
use Rattle.std.proofs.lemmas.Bool.{cases_Bool, false≢true, eqb-true}
use Rattle.std.proofs.lemmas.List.Elements.{All-weaker}
use Rattle.mid_base.specs.declared.answers.Answer.{Answer}
use Rattle.mid_base.specs.declared.answers.By.{By}
use Rattle.mid_base.specs.declared.answers.Disp.{Disp}
use Rattle.mid_base.specs.declared.host_spec.HostSpec.{HostSpec}
use Rattle.mid_base.specs.declared.names.Attempt.{Attempt}
use Rattle.mid_base.specs.declared.names.CmdId.{CmdId}
use Rattle.mid_base.specs.declared.names.Tag.{Tag}
use Rattle.mid_base.specs.declared.entries.Entry.{Entry}
use Rattle.mid_base.specs.declared.entries.Entry.TheVariants.{Took, Sent, Bounced, Ready, Due, Longer, DoneSaid, Owned, Late, Judged, AbortSet, Aborted, Failed, Cleared, EhBegin, EhEnd, Act, Probe, Offline, State, Tick}
use Rattle.mid_base.specs.Past.{was_sent}
use Rattle.trace_model.specs.Attempts.{is_open, is_settled}
use Rattle.trace_model.specs.Commands.{judgement}
use Rattle.trace_model.specs.Flush.{was_success}
use Rattle.trace_model.specs.Recovery.{Failure, failed}
use Rattle.verdict_table.specs.declared.verdicts.Verdicts.{Verdicts}
use Rattle.verdict_table.specs.VerdictsAgree.{row_of, IsShut, VerdictsAgree, IsApart}
use Rattle.verdict_table.proofs.Rows.{map_alike, answered_row}

-- each failed attempt stays shut
pub shut_still : (P Q : List Entry) (fs : List Failure) → ((f : Failure) → IsShut P f → IsShut Q f) → All (IsShut P) fs → All (IsShut Q) fs
shut_still P Q fs stays all = All-weaker (IsShut P) (IsShut Q) stays fs all

true_or : (b x : Bool) → x ≡ true → cond b true x ≡ true
true_or true x e = refl
true_or false x e = e

false_or : (b x : Bool) → x ≡ false → cond b false x ≡ false
false_or true x e = refl
false_or false x e = e

pub judged_shut : (P : List Entry) (c : CmdId) (n : Attempt) (d : Disp) (f : Failure) → IsShut P f → IsShut (Judged c n d ∷ P) f
judged_shut P c n d f h = (h.0, h.1, true_or (n.0 == f.attempt.0) (is_settled f.attempt.0 P) h.2)

pub failed_shut : (P : List Entry) (c : CmdId) (n : Attempt) (x : Bool) (f : Failure) → IsShut P f → IsShut (Failed c n x ∷ P) f
failed_shut P c n x f h = (h.0, h.1, true_or (n.0 == f.attempt.0) (is_settled f.attempt.0 P) h.2)

set_shut : (P : List Entry) (c : CmdId) (n : Attempt) (f : Failure) → IsShut P f → IsShut (AbortSet c n ∷ P) f
set_shut P c n f h = (h.0, h.1, true_or (n.0 == f.attempt.0) (is_settled f.attempt.0 P) h.2)

bounced_shut : (P : List Entry) (c : CmdId) (n : Attempt) (why : _) (f : Failure) → IsShut P f → IsShut (Bounced c n why ∷ P) f
bounced_shut P c n why f h = (h.0, false_or (n.0 == f.attempt.0) (is_open f.attempt.0 P) h.1, h.2)

-- the entries that say nothing of failed commands
pub verdicts_apart : (s : HostSpec) (P : List Entry) (t : Verdicts) (e : Entry) → IsApart e → VerdictsAgree s P t → VerdictsAgree s (e ∷ P) t
verdicts_apart s P t (Took c) apart run = record { rows = run.rows; shut = run.shut; most = run.most }
verdicts_apart s P t (Bounced c n why) apart run = record { rows = run.rows; shut = shut_still P (Bounced c n why ∷ P) (failed P) (bounced_shut P c n why) run.shut; most = run.most }
verdicts_apart s P t (Due n) apart run = record { rows = run.rows; shut = run.shut; most = run.most }
verdicts_apart s P t (Longer n) apart run = record { rows = run.rows; shut = run.shut; most = run.most }
verdicts_apart s P t (DoneSaid n) apart run = record { rows = run.rows; shut = run.shut; most = run.most }
verdicts_apart s P t (Late n) apart run = record { rows = run.rows; shut = run.shut; most = run.most }
verdicts_apart s P t (AbortSet c n) apart run = record { rows = run.rows; shut = shut_still P (AbortSet c n ∷ P) (failed P) (set_shut P c n) run.shut; most = run.most }
verdicts_apart s P t (Aborted c n ok) apart run = record { rows = run.rows; shut = run.shut; most = run.most }
verdicts_apart s P t (Cleared c level) apart run = record { rows = run.rows; shut = run.shut; most = run.most }
verdicts_apart s P t EhBegin apart run = record { rows = run.rows; shut = run.shut; most = run.most }
verdicts_apart s P t EhEnd apart run = record { rows = run.rows; shut = run.shut; most = run.most }
verdicts_apart s P t (Act level scope ok) apart run = record { rows = run.rows; shut = run.shut; most = run.most }
verdicts_apart s P t (Probe d op say) apart run = record { rows = run.rows; shut = run.shut; most = run.most }
verdicts_apart s P t (Offline d) apart run = record { rows = run.rows; shut = run.shut; most = run.most }
verdicts_apart s P t (State d x) apart run = record { rows = run.rows; shut = run.shut; most = run.most }
verdicts_apart s P t Tick apart run = record { rows = run.rows; shut = run.shut; most = run.most }
verdicts_apart s P t e apart run = absurd apart

-- two attempts of which one has what the other lacks
apart_by : (P : List Entry) (test : ℕ → Bool) (n m : ℕ) → test n ≡ true → test m ≡ false → (n == m) ≡ false
apart_by P test n m has lacks = elim (cases_Bool (n == m)) as (λ _. (n == m) ≡ false) [
  | inl is ↦ absurd (false≢true (sym lacks ∙ ap test (sym (eqb-true n m is)) ∙ has))
  | inr isnt ↦ isnt
]

-- an attempt that wasn't sent before
pub verdicts_sent : (s : HostSpec) (P : List Entry) (t : Verdicts) (c : CmdId) (n : Attempt) (u : Tag) → was_sent n.0 P ≡ false → VerdictsAgree s P t → VerdictsAgree s (Sent c n u ∷ P) t
verdicts_sent s P t c n u fresh run = record {
  rows = run.rows;
  shut = shut_still P (Sent c n u ∷ P) (failed P) stays run.shut;
  most = run.most;
}
  where
    stays : (f : Failure) → IsShut P f → IsShut (Sent c n u ∷ P) f
    stays f h =
        let far : (n.0 == f.attempt.0) ≡ false = apart_by P (λ (k : ℕ). not (was_sent k P)) n.0 f.attempt.0 (ap not fresh) (ap not h.0) in
        (true_or (n.0 == f.attempt.0) (was_sent f.attempt.0 P) h.0, ap (λ (b : Bool). cond b true (is_open f.attempt.0 P)) far ∙ h.1, h.2)

-- any answer
pub verdicts_answered : (s : HostSpec) (P : List Entry) (t : Verdicts) (n : Attempt) (a : Answer) → VerdictsAgree s P t → VerdictsAgree s (Ready n a ∷ P) t
verdicts_answered s P t n a run = record {
  rows = run.rows ∙ map_alike (row_of P) (row_of (Ready n a ∷ P)) P (failed P) (answered_row P n a) run.shut;
  shut = run.shut;
  most = run.most;
}

-- an open attempt that comes to an owner
pub verdicts_owned : (s : HostSpec) (P : List Entry) (t : Verdicts) (n : Attempt) (by : By) → is_open n.0 P ≡ true → VerdictsAgree s P t → VerdictsAgree s (Owned n by ∷ P) t
verdicts_owned s P t n by opened run = record {
  rows = run.rows;
  shut = shut_still P (Owned n by ∷ P) (failed P) stays run.shut;
  most = run.most;
}
  where
    stays : (f : Failure) → IsShut P f → IsShut (Owned n by ∷ P) f
    stays f h =
        let far : (n.0 == f.attempt.0) ≡ false = apart_by P (λ (k : ℕ). is_open k P) n.0 f.attempt.0 opened h.1 in
        (h.0, false_or (n.0 == f.attempt.0) (is_open f.attempt.0 P) h.1, ap (λ (b : Bool). cond b false (is_settled f.attempt.0 P)) far ∙ h.2)

-- an attempt that wasn't settled is judged
pub verdicts_judged : (s : HostSpec) (P : List Entry) (t : Verdicts) (c : CmdId) (n : Attempt) (d : Disp) → is_settled n.0 P ≡ false → VerdictsAgree s P t → VerdictsAgree s (Judged c n d ∷ P) t
verdicts_judged s P t c n d owned run = record {
  rows = run.rows ∙ map_alike (row_of P) (row_of (Judged c n d ∷ P)) P (failed P) alike run.shut;
  shut = shut_still P (Judged c n d ∷ P) (failed P) (judged_shut P c n d) run.shut;
  most = run.most;
}
  where
    alike : (f : Failure) → IsShut P f → row_of P f ≡ row_of (Judged c n d ∷ P) f
    alike f h =
        let far : (n.0 == f.attempt.0) ≡ false = apart_by P (λ (k : ℕ). not (is_settled k P)) n.0 f.attempt.0 (ap not owned) (ap not h.2) in
        ap (λ (b : Bool). record (row_of P f) { success = cond f.cancelled false (was_success (cond b (Some d) (judgement f.attempt.0 P))) }) (sym far)
