-- What the list of recovery says of a command is so, and its device is the host's.
use Rattle.std.proofs.Common.{eq-eqb, ◌≡◌, ℕ, ◌==◌, Bool, true, false, not, ◌&&◌, map, filter, find, List, [], ◌∷◌, refl, subst, ⊎_elim, Some}
use Rattle.std.specs.List.{list_all}
use Rattle.std.proofs.lemmas.Bool.{cases_Bool, and_parts, and_from, or_right, or_left}
use Rattle.std.proofs.lemmas.Option.{none-some, same_Some}
use Rattle.mid_base.specs.Address.{has_dev}
use Rattle.mid_base.specs.Limits.{KeepsLimits, is_command}
use Rattle.mid_base.specs.declared.names.DevAddr.{DevAddr}
use Rattle.mid_base.specs.declared.entries.Entry.{Entry}
use Rattle.mid_base.specs.declared.host_spec.CmdSpec.{CmdSpec}
use Rattle.mid_base.specs.declared.host_spec.LunSpec.{LunSpec}
use Rattle.mid_base.specs.declared.host_spec.HostSpec.{HostSpec}
use Rattle.disposition.specs.declared.todo.Todo.{Todo}
use Rattle.trace_model.specs.Attempts.{answer}
use Rattle.trace_model.specs.Legal.{EachStands}
use Rattle.trace_model.specs.Names.{dev_of}
use Rattle.trace_model.specs.Recovery.{Failure, failed, todo_of, listed, todo, is_cleared}
use Rattle.verdict_table.specs.Taken.{has_failed}
use Rattle.recovery_laws.proofs.Busy.{failed_busy}

pub record IsListed (s : HostSpec) (P : List Entry) (x : Todo) : Type 0 where
  pub fails : has_failed x.cmd.0 x.n.0 (failed P) ≡ true
  pub same_answer : x.cancelled ≡ false → x.answer ≡ answer x.n.0 P
  pub on_host : has_dev s.luns x.dev ≡ true

abbrev pub AreListed : HostSpec → List Entry → List Todo → Type 0
AreListed s P [] = Unit {0}
AreListed s P (x ∷ xs) = IsListed s P x × AreListed s P xs

pub some_listed : (s : HostSpec) (P : List Entry) (keep : Todo → Bool) (xs : List Todo) → AreListed s P xs → AreListed s P (filter keep xs)
some_listed s P keep [] h = tt
some_listed s P keep (x ∷ xs) h = ⊎_elim (λ yes. rw yes (h.0, some_listed s P keep xs h.1)) (λ no. rw no (some_listed s P keep xs h.1)) (cases_Bool (keep x))

found_dev : (luns : List LunSpec) (f : CmdSpec → Bool) (ks : List CmdSpec) (k : CmdSpec) → list_all (is_command luns) ks ≡ true → find f ks ≡ Some k → is_command luns k ≡ true
found_dev luns f [] k h e = absurd (none-some k e)
found_dev luns f (j ∷ ks) k h e =
    let parts = and_parts (is_command luns j) (list_all (is_command luns) ks) h in
    ⊎_elim
    (λ yes. subst (λ (i : CmdSpec). is_command luns i ≡ true) (same_Some j k (rw yes at e)) parts.0)
    (λ no. found_dev luns f ks k parts.1 (rw no at e))
    (cases_Bool (f j))

first_six : (a b c d e f : Bool) → a && b && c && d && e && f ≡ true → a ≡ true
first_six true b c d e f h = refl
first_six false b c d e f h = h

failed_dev : (s : HostSpec) (P : List Entry) (c n : ℕ) → KeepsLimits s → EachStands s P → has_failed c n (failed P) ≡ true → has_dev s.luns (dev_of s c) ≡ true
failed_dev s P c n limits each h =
    let b = failed_busy s P c n each h in
    subst (λ (d : DevAddr). has_dev s.luns d ≡ true) b.dev_is
    (first_six (has_dev s.luns b.command.dev) _ _ _ _ _ (found_dev s.luns (λ k. k.id.0 == c) s.cmds b.command limits.commands b.found))

one_listed : (s : HostSpec) (P : List Entry) (f : Failure) → KeepsLimits s → EachStands s P → has_failed f.cmd.0 f.attempt.0 (failed P) ≡ true → IsListed s P (todo_of s P f)
one_listed s P f limits each h = record {
  fails = h;
  same_answer = λ plain. rw plain refl;
  on_host = failed_dev s P f.cmd.0 f.attempt.0 limits each h;
}

all_listed : (s : HostSpec) (P : List Entry) (fs : List Failure) → KeepsLimits s → EachStands s P → ((c n : ℕ) → has_failed c n fs ≡ true → has_failed c n (failed P) ≡ true) → AreListed s P (map (todo_of s P) fs)
all_listed s P [] limits each sub = tt
all_listed s P (f ∷ fs) limits each sub = (
  one_listed s P f limits each (sub f.cmd.0 f.attempt.0 (or_left ((f.cmd.0 == f.cmd.0) && (f.attempt.0 == f.attempt.0)) _ (and_from (f.cmd.0 == f.cmd.0) (f.attempt.0 == f.attempt.0) (eq-eqb f.cmd.0 f.cmd.0 refl) (eq-eqb f.attempt.0 f.attempt.0 refl)))),
  all_listed s P fs limits each (λ c n h. sub c n (or_right ((f.cmd.0 == c) && (f.attempt.0 == n)) (has_failed c n fs) h)),
)

pub todo_listed : (s : HostSpec) (P : List Entry) → KeepsLimits s → EachStands s P → AreListed s P (todo s P)
todo_listed s P limits each = some_listed s P (λ x. not (is_cleared x.cmd.0 P)) (listed s P) (all_listed s P (failed P) limits each (λ c n h. h))
