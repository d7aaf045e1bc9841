-- While recovery goes on each command is idle or failing, so nothing else is under way.
use Rattle.std.proofs.Common.{eq-eqb, ◌≡◌, ℕ, true, List, [], ◌∷◌, refl, sym, subst}
use Rattle.mid_base.specs.Past.{sent_for}
use Rattle.mid_base.specs.declared.entries.Entry.{Entry}
use Rattle.mid_base.specs.declared.entries.Entry.TheVariants.{EhBegin}
use Rattle.mid_base.specs.declared.host_spec.HostSpec.{HostSpec}
use Rattle.disposition.specs.Disp.{among}
use Rattle.trace_model.specs.Attempts.{is_open}
use Rattle.trace_model.specs.Commands.{aborts}
use Rattle.trace_model.specs.Course.{IsOver}
use Rattle.trace_model.specs.Devices.{has_begun}
use Rattle.trace_model.specs.Legal.{EachStands, owed}
use Rattle.trace_model.specs.Recovery.{may_begin}
use Rattle.trace_model.proofs.Readings.{over_is}
use Rattle.trace_model.specs.Legal.{Stands}
use Rattle.trace_model.specs.Course.{Course}
use Rattle.trace_model.proofs.OnceMore.{held_all, false_of}
use Rattle.step_laws.proofs.Rests.{IsRest, rests, begun_in, begun_quiet, none_unsettled}
use Rattle.recovery_laws.specs.Still.{IsStill}

open_none : (s : HostSpec) (P : List Entry) (n : ℕ) → EachStands s P → has_begun P ≡ true → is_open n P ≡ true → ⊥
open_none s P n each b o = subst IsRest (((held_all s (sent_for n P) P each).0 n refl).0 o) ((rests s (sent_for n P) P each).1 b)

abort_none : (s : HostSpec) (P : List Entry) (n : ℕ) → EachStands s P → has_begun P ≡ true → among n (aborts P) ≡ true → ⊥
abort_none s P n each b a = subst IsRest (((held_all s (sent_for n P) P each).0 n refl).2 a) ((rests s (sent_for n P) P each).1 b)

none_there : (ns : List ℕ) → ((n : ℕ) → among n ns ≡ true → ⊥) → ns ≡ []
none_there [] h = refl
none_there (n ∷ ns) h = absurd (h n (rw (eq-eqb n n refl) refl))

pub still : (s : HostSpec) (P : List Entry) → EachStands s P → has_begun P ≡ true → IsStill s P
still s P each b = record {
  quiet = begun_quiet s P each b;
  within = begun_in s P each b;
  none_open = λ n. false_of _ (open_none s P n each b);
  none_unsettled = λ n. false_of _ (none_unsettled s P n each b);
  no_aborts = none_there (aborts P) (λ n. abort_none s P n each b);
}

-- before EhBegin all is as after it
pub began_still : (s : HostSpec) (P : List Entry) → EachStands s (EhBegin ∷ P) → IsStill s P
began_still s P each = let h = still s (EhBegin ∷ P) each refl in
    record { quiet = h.quiet; within = h.within; none_open = h.none_open; none_unsettled = h.none_unsettled; no_aborts = h.no_aborts }

pub may_still : (s : HostSpec) (P : List Entry) → EachStands s P → IsOver (owed s P) → may_begin s P ≡ true → IsStill s P
may_still s P each o may = began_still s P (subst (λ (k : Course). Stands k s P EhBegin) (sym (over_is (owed s P) o)) may, each)
