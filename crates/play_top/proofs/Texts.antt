-- The texts of hosts, number by number.
use Rattle.std.proofs.Common.{◌≡◌, ℕ, suc, ◌+◌, ◌<◌, nat_le, true, List, [], ◌∷◌, ◌++◌, map, reverse, refl, sym, ap, ◌∙◌, arith, inl, inr, append_assoc, add-one}
use Rattle.std.specs.Prelude.{All}
use Rattle.std.specs.List.{flat_map}
use Rattle.std.proofs.lemmas.Bool.{cases_Bool}
use Rattle.std.proofs.lemmas.Bool.Decides.{nat_tests}
use Rattle.std.proofs.lemmas.Grind.{flat_map-append}
use Rattle.mid_base.specs.declared.entries.Entry.{Entry}
use Rattle.mid_base.specs.declared.host_spec.CmdSpec.{CmdSpec}
use Rattle.mid_base.specs.declared.host_spec.HostSpec.{HostSpec}
use Rattle.report_text.specs.Text.{HostJournal, host_text}
use Rattle.drain_rounds.specs.Making.{HostRun}
use Rattle.play_sched.specs.Runs.{IsNumbered, is_named}
use Rattle.play_top.specs.Texts.{hosts_text, journal_of, named_text, run_text}
use Rattle.play_top.proofs.Turns.{AllBelow, named, turns, turns_ascend, turns_left}

abbrev number_of : HostJournal → ℕ
number_of h = h.number

abbrev journal_text : HostJournal → List ℕ
journal_text h = host_text h.number h.cmds h.journal

named_texts : (n : ℕ) (runs : List HostRun) → flat_map (named_text n) runs ≡ flat_map journal_text (named number_of n (map journal_of runs))
named_texts n [] = refl
named_texts n (r ∷ runs) = elim (cases_Bool (is_named n r)) [
  | inl is ↦ rw is (ap (λ (t : List ℕ). run_text r ++ t) (named_texts n runs))
  | inr isnt ↦ rw isnt (named_texts n runs)
]

-- the lines of the hosts with each number below n in turn
pub turn_text : ℕ → List HostRun → List ℕ
turn_text n runs = flat_map journal_text (turns number_of n (map journal_of runs))

pub no_turn : (runs : List HostRun) → turn_text 0 runs ≡ []
unfolding turn_text turns
no_turn runs = refl

pub turn_more : (n : ℕ) (runs : List HostRun) → turn_text n runs ++ flat_map (named_text n) runs ≡ turn_text (n + 1) runs
unfolding turn_text turns
turn_more n runs =
    rw add-one
    (ap (λ (t : List ℕ). turn_text n runs ++ t) (named_texts n runs)
    ∙ sym (flat_map-append journal_text (turns number_of n (map journal_of runs)) (named number_of n (map journal_of runs))))

-- what follows the lines of the hosts with number n
pub turn_left : (n : ℕ) (runs : List HostRun) → n < 64 → (rest : List ℕ) × (turn_text n runs ++ (flat_map (named_text n) runs ++ rest) ≡ turn_text 64 runs)
unfolding turn_text
turn_left n runs lt =
    let hosts = map journal_of runs in
    let left = turns_left number_of (n + 1) 64 hosts (omega arith) in
    let rest = flat_map journal_text left.0 in (
      rest,
      sym (append_assoc (turn_text n runs) (flat_map (named_text n) runs) rest)
          ∙ (ap (λ (t : List ℕ). t ++ rest) (turn_more n runs)
          ∙ (sym (flat_map-append journal_text (turns number_of (n + 1) hosts) left.0) ∙ ap (flat_map journal_text) left.1)),
    )

all_below : (runs : List HostRun) → All IsNumbered runs → AllBelow number_of 64 (map journal_of runs)
all_below [] all = tt
all_below (r ∷ runs) all =
    let here : nat_le r.spec.no.0 63 ≡ true = all 0 r (omega arith) in
    let below : r.spec.no.0 < 64 = grind (arith, nat_tests, here) in
    (below, all_below runs (λ k x lt. all (suc k) x (omega (arith, lt))))

pub all_turns : (runs : List HostRun) → All IsNumbered runs → turn_text 64 runs ≡ hosts_text runs
unfolding turn_text
all_turns runs all = ap (flat_map journal_text) (turns_ascend number_of 64 (map journal_of runs) (all_below runs all))

pub named_is : (n : ℕ) (host : HostRun) (spec : HostSpec) (cmds : List CmdSpec) (journal : List Entry) → spec ≡ host.spec → cmds ≡ spec.cmds → journal ≡ reverse host.entries
    → spec.no.0 ≡ n → named_text n host ≡ host_text spec.no.0 cmds journal
named_is n host spec cmds journal same given kept number =
    let here : host.spec.no.0 ≡ n = ap (λ (s : HostSpec). s.no.0) (sym same) ∙ number in
    let named_so : is_named n host ≡ true = grind (arith, nat_tests, here) in
    rw (named_so, given, kept, same) refl
