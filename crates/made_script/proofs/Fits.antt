-- A made script can be played.
use Rattle.std.proofs.Common.{◌≡◌, ℕ, zero, suc, ◌+◌, ◌*◌, ◌%◌, ◌<◌, ◌≤◌, Bool, true, false, ◌&&◌, ◌||◌, List, [], ◌∷◌, ◌++◌, length, refl, ap, ◌∙◌, arith, length-append}
use Rattle.std.specs.Prelude.{◌==◌, nat_le}
use Rattle.std.specs.List.{list_any, list_all}
use Rattle.std.proofs.lemmas.List.Folds.{list_any-append}
use Rattle.std.proofs.lemmas.List.Elements.{All-cons, All-nil}
use Rattle.std.proofs.lemmas.Bool.{le-leb}
use Rattle.std.proofs.lemmas.Bool.Decides.{nat_tests}
use Rattle.mid_base.specs.Address.{has_dev}
use Rattle.mid_base.specs.Bytes.{cdb_list}
use Rattle.mid_base.specs.Limits.{is_between, is_command, has_block, differ_in_id, KeepsLimits}
use Rattle.mid_base.specs.declared.host_spec.CmdSpec.{CmdSpec}
use Rattle.script_words.specs.Hex.{cdb_of}
use Rattle.script_text.specs.Playable.{IsPlayable, IsStepOf}
use Rattle.script_text.proofs.Grown.{all_more, ids_more}
use Rattle.made_script.specs.Made.{address, command, commands, host, made, read, units}

has_unit : (k : ℕ) → k < 4 → has_dev units (address k) ≡ true
has_unit zero b = refl
has_unit (suc zero) b = refl
has_unit (suc (suc zero)) b = refl
has_unit (suc (suc (suc zero))) b = refl
has_unit (suc (suc (suc (suc k)))) b = absurd (omega (arith, b))

read_fits : (block : ℕ) → is_between 1 16 (length (cdb_list (read block))) ≡ true
unfolding cdb_of
read_fits block = refl

command_is : (i : ℕ) → 1 ≤ i → i ≤ 65536 → is_command units (command i) ≡ true
command_is i some few =
    let lane : i % 4 < 4 = omega (arith) in
    rw (has_unit (i % 4) lane, le-leb 1 i some, le-leb i 4294967295 (omega (arith, few)), le-leb (i % 4) 63 (omega (arith, lane)), read_fits (8 * i % 65536)) refl

commands_are : (n : ℕ) → n ≤ 65536 → list_all (is_command units) (commands n) ≡ true
commands_are zero few = refl
commands_are (suc n) few =
    all_more (is_command units) (commands n) (command (n + 1)) (commands_are n (omega (arith, few))) (command_is (n + 1) (omega (arith)) (omega (arith, few)))

differs : (a b : ℕ) → a < b → (a == b) ≡ false
differs a b less = grind (arith, nat_tests)

-- no command has a number above the last one's
none_above : (n i : ℕ) → n < i → list_any (λ j. j.id.0 == i) (commands n) ≡ false
none_above zero i less = refl
none_above (suc n) i less =
    list_any-append (λ (j : CmdSpec). j.id.0 == i) (commands n) (command (n + 1) ∷ []) ∙ rw (none_above n i (omega (arith, less)), differs (n + 1) i (omega (arith, less))) refl

ids_differ : (n : ℕ) → differ_in_id (commands n) ≡ true
ids_differ zero = refl
ids_differ (suc n) = ids_more (commands n) (command (n + 1)) (ids_differ n) (none_above n (n + 1) (omega (arith)))

count : (n : ℕ) → length (commands n) ≡ n
count zero = refl
count (suc n) = omega (arith, length-append (commands n) (command (n + 1) ∷ []), count n)

keeps_limits : (n : ℕ) → n ≤ 65536 → KeepsLimits (host n)
keeps_limits n few =
    record {
      number = refl;
      tags = refl;
      lun_count = refl;
      command_count = le-leb (length (commands n)) 65536 (omega (arith, count n, few));
      plan_count = refl;
      luns = refl;
      addresses = refl;
      commands = commands_are n few;
      ids = ids_differ n;
      plan = refl;
    }

pub is_playable : (n : ℕ) → n ≤ 65536 → IsPlayable (made n)
is_playable n few =
    record {
      limits = All-cons KeepsLimits (host n) [] (keeps_limits n few) (All-nil KeepsLimits);
      numbers = refl;
      steps = All-nil (IsStepOf (host n ∷ []));
    }
