-- What a legal journal promises follows from its rules.
use Rattle.std.proofs.Common.{◌≡◌, ℕ, zero, suc, ◌==◌, ◌≤◌, true, not, List, [], ◌∷◌, reverse, refl, arith}
use Rattle.std.specs.List.{list_all}
use Rattle.std.proofs.lemmas.Bool.{and_parts, eq-eqb}
use Rattle.mid_base.specs.declared.entries.Entry.{Entry}
use Rattle.mid_base.specs.declared.host_spec.CmdSpec.{CmdSpec}
use Rattle.mid_base.specs.declared.host_spec.HostSpec.{HostSpec}
use Rattle.trace_model.specs.Drained.{was_taken, was_told, tellings, is_done, NoneAfterTold}
use Rattle.trace_model.specs.Legal.{Legal, LegalByPlaces}
use Rattle.journal_laws.specs.Headline.{Headline}
use Rattle.journal_laws.specs.Vain.{without_late}
use Rattle.trace_model.proofs.Readings.{by_places, by_groups}
use Rattle.trace_model.proofs.Owners.{one_owner}
use Rattle.trace_model.proofs.OnceMore.{told_once}
use Rattle.trace_model.proofs.After.{none_after}
use Rattle.trace_model.proofs.Quiet.{quiet_acts}
use Rattle.journal_laws.proofs.Staying.{drained_on, told_by}
use Rattle.journal_laws.proofs.Verdicts.{told_verdicts, retries_stay}
use Rattle.journal_laws.proofs.GoodStays.{good_told}
use Rattle.journal_laws.proofs.InTime.{in_time}
use Rattle.journal_laws.proofs.Erased.{journal_still_legal, journal_others_stay, journal_left_late, journal_left_good}

one_by : (n : ℕ) → not (n == 0) ≡ true → n ≤ 1 → (n == 1) ≡ true
one_by zero h le = cc
one_by (suc n) h le = eq-eqb (suc n) 1 (omega arith)

told_all : (P : List Entry) (ks : List CmdSpec) → ((c : ℕ) → tellings c P ≤ 1) → list_all (is_done P) ks ≡ true → list_all (λ k. tellings k.id.0 P == 1) ks ≡ true
told_all P [] once h = refl
told_all P (k ∷ ks) once h =
    let both = and_parts (is_done P k) (list_all (is_done P) ks) h in
    let told : was_told k.id.0 P ≡ true = told_by (was_taken k.id.0 P) (was_told k.id.0 P) both.0 in
    rw (one_by (tellings k.id.0 P) told (once k.id.0)) (told_all P ks once both.1)

pub headline : (s : HostSpec) (journal : List Entry) → Legal s journal → Headline s journal
headline s journal legal =
    let places : LegalByPlaces s journal = by_places s (reverse journal) legal in
    let once : (c : ℕ) → tellings c (reverse journal) ≤ 1 = λ c. told_once s (reverse journal) c places in
    let after : (c : ℕ) → NoneAfterTold c (reverse journal) = λ c. none_after s c (reverse journal) places.each in
    record {
      legal = legal;
      told_once = once;
      none_after_told = after;
      told_when_drained = λ drained. told_all (reverse journal) s.cmds once drained;
      stays_drained = λ back drained. drained_on s journal back drained;
      told_verdicts = told_verdicts s (reverse journal) places.each;
      retries_stay = λ c told. retries_stay c (reverse journal) (after c) told;
      one_owner = λ n. one_owner s (reverse journal) n places;
      legal_without_late = by_groups s (reverse (without_late journal)) (journal_still_legal s journal places);
      same_without_late = journal_others_stay journal;
      none_late_then = λ n. journal_left_late s journal n places;
      answers_then = λ n untouched. journal_left_good journal n untouched;
      quiet = quiet_acts s (reverse journal) places;
      good_told = λ n a by done e g. good_told s (reverse journal) n a places by done e g;
      in_time_wins = λ n t r lt. in_time s (reverse journal) n t places.each r lt;
    }
