-- What a legal journal promises whoever hands commands in.
use Rattle.std.specs.Prelude.{◌≡◌, ℕ, ◌==◌, ◌≤◌, ◌<◌, true, false, List, ◌++◌, reverse, Some}
use Rattle.std.specs.List.{list_all}
use Rattle.mid_base.specs.declared.answers.Answer.{Answer}
use Rattle.mid_base.specs.declared.entries.Entry.{Entry}
use Rattle.mid_base.specs.declared.host_spec.HostSpec.{HostSpec}
use Rattle.mid_base.specs.Answers.{is_good}
use Rattle.mid_base.specs.Past.{sent_for}
use Rattle.trace_model.specs.Attempts.{answer, late, owner, is_by_answer, is_by_expiry, is_settled}
use Rattle.trace_model.specs.Commands.{retries}
use Rattle.trace_model.specs.Counts.{owners, QuietActs}
use Rattle.trace_model.specs.Drained.{tellings, was_told, Drained, NoneAfterTold}
use Rattle.trace_model.specs.Legal.{Legal}
use Rattle.trace_model.specs.Time.{deadline}
use Rattle.journal_laws.specs.Goods.{told, ready_at}
use Rattle.journal_laws.specs.Reports.{ToldVerdicts, retries_told}
use Rattle.journal_laws.specs.Vain.{without_late, without_replies}

pub record Headline (s : HostSpec) (journal : List Entry) : Type 0 where
  pub legal : Legal s journal
  -- no command is reported twice, and nothing of it stands after its report
  pub told_once : (c : ℕ) → tellings c (reverse journal) ≤ 1
  pub none_after_told : (c : ℕ) → NoneAfterTold c (reverse journal)
  -- each command of a drained host is reported once, and the host stays drained, whatever comes behind
  pub told_when_drained : Drained s journal → list_all (λ k. tellings k.id.0 (reverse journal) == 1) s.cmds ≡ true
  pub stays_drained : (back : List Entry) → Drained s journal → Drained s (journal ++ back)
  -- what is told is the verdict on what stands before, and the retries stay as they were then
  pub told_verdicts : ToldVerdicts (reverse journal)
  pub retries_stay : (c : ℕ) → was_told c (reverse journal) ≡ true → retries c (reverse journal) ≡ retries_told c (reverse journal)
  -- completion and timeout never both own an attempt
  pub one_owner : (n : ℕ) → owners n (reverse journal) ≤ 1
  -- answers that came too late change nothing: without them the journal is legal and the rest of it the same, none is late, and all others are there
  pub legal_without_late : Legal s (without_late journal)
  pub same_without_late : without_replies (without_late journal) ≡ without_replies journal
  pub none_late_then : (n : ℕ) → late n (reverse (without_late journal)) ≡ 0
  pub answers_then : (n : ℕ) → is_by_expiry (owner n (reverse journal)) ≡ false → answer n (reverse (without_late journal)) ≡ answer n (reverse journal)
  -- recovery acts only while as many commands are failed as are busy
  pub quiet : QuietActs s (reverse journal)
  -- a GOOD answer that owns its settled attempt was told, and one that came before the deadline loses to no expiry
  pub good_told : (n : ℕ) (a : Answer) → is_by_answer (owner n (reverse journal)) ≡ true → is_settled n (reverse journal) ≡ true
      → answer n (reverse journal) ≡ Some a → is_good a ≡ true → told (sent_for n (reverse journal)) (reverse journal) ≡ Some a
  pub in_time_wins : (n t : ℕ) → ready_at n (reverse journal) ≡ Some t → t < deadline s (reverse journal) n → is_by_expiry (owner n (reverse journal)) ≡ false
