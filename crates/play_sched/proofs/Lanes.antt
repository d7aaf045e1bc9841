-- Lanes are handed in, the lowest first.
use Rattle.std.proofs.Common.{◌≡◌, ℕ, suc, ◌<◌, ◌+◌, Bool, true, false, Option, None, Some, List, ◌∷◌, refl, sym, ap, ◌∙◌, subst, inl, inr, arith}
use Rattle.std.specs.Prelude.{is_none, if◌then◌else◌}
use Rattle.std.proofs.lemmas.Bool.{cases_lt}
use Rattle.mid_base.specs.declared.entries.Entry.{Entry}
use Rattle.mid_base.specs.declared.steps.Step.{Step}
use Rattle.mid_base.specs.declared.steps.Step.TheVariants.{Submit}
use Rattle.mid_base.specs.declared.steps.Why.{Why}
use Rattle.mid_base.specs.declared.steps.Why.TheVariants.{LaneDone}
use Rattle.mid_base.specs.declared.host_spec.CmdSpec.{CmdSpec}
use Rattle.mid_base.specs.declared.host_spec.HostSpec.{HostSpec}
use Rattle.trace_model.specs.Sending.{next_of_lane}
use Rattle.trace_model.specs.Steps.{barred}
use Rattle.drain_rounds.specs.Making.{Comes, HostRun}
use Rattle.drain_rounds.specs.Rounds.{NamesNone, hand_in, named}
use Rattle.play_sched.specs.Phases.{Continues}
use Rattle.play_sched.specs.Rest.{IsHandedInBelow}
use Rattle.play_sched.proofs.Finds.{least_below, none_below}

abbrev submit : ℕ → Step
submit lane = Submit (record { 0 = lane })

barred_done : (s : HostSpec) (due : Bool) (P : List Entry) (lane : ℕ) → next_of_lane s P lane ≡ None → is_none (barred s due P (submit lane)) ≡ false
barred_done s due P lane e = rw e refl

free_left : (s : HostSpec) (due : Bool) (P : List Entry) (lane : ℕ) → barred s due P (submit lane) ≡ None → is_none (barred s due P (submit lane)) ≡ true
free_left s due P lane e = rw e refl

none_of : (x : Option CmdSpec) (why : Why) → (if is_none x then Some LaneDone else None) ≡ Some why → x ≡ None
none_of None why e = refl
none_of (Some k) why e = absurd (cc e)

-- the lane's step comes next, or the lane is done
pub lane_named : (s : HostSpec) (due : Bool) (P : List Entry) (lane : ℕ) → lane < 64 → IsHandedInBelow lane s P → barred s due P (submit lane) ≡ None
    → named hand_in s due P ≡ Some (submit lane)
lane_named s due P lane lt below free =
    least_below (λ t. is_none (barred s due P t)) submit 64 lane lt (free_left s due P lane free) (λ n less. barred_done s due P n (below n less))

pub lane_continues : (a b : HostRun) (lane : ℕ) → lane < 64 → IsHandedInBelow lane a.spec a.entries → Comes a.spec a.before a.entries (submit lane) None b.entries
    → Continues hand_in a b
lane_continues a b lane lt below comes = λ Q rest. record {
  steps = submit lane ∷ rest.steps;
  made = (comes.0, b.entries, comes.1, lane_named a.spec comes.0 a.entries lane lt below comes.2.adds.free, comes.2, rest.made);
  done = rest.done;
}

pub lane_done : (a b : HostRun) (lane : ℕ) (why : Why) → IsHandedInBelow lane a.spec a.entries → Comes a.spec a.before a.entries (submit lane) (Some why) b.entries
    → b.spec ≡ a.spec → IsHandedInBelow (lane + 1) b.spec b.entries
lane_done a b lane why below comes kept n lt =
    let none : next_of_lane a.spec a.entries lane ≡ None = none_of (next_of_lane a.spec a.entries lane) why comes.2.1 in
    rw (kept, comes.2.0) (elim (cases_lt n lane) [
      | inl less ↦ below n less
      | inr more ↦ let same : lane ≡ n = omega (arith, lt, more) in subst (λ (m : ℕ). next_of_lane a.spec a.entries m ≡ None) same none
    ])

pub lanes_done : (a : HostRun) → IsHandedInBelow 64 a.spec a.entries → NamesNone hand_in a.spec a.before a.entries
lanes_done a below due is = none_below (λ t. is_none (barred a.spec due a.entries t)) submit 64 (λ n lt. barred_done a.spec due a.entries n (below n lt))
