-- The numbers of the attempts of a legal journal go up to their count.
use Rattle.std.proofs.Common.{◌≡◌, ℕ, ◌+◌, ◌<◌, ◌==◌, true, not, ◌&&◌, List, [], ◌∷◌, get_or, arith, ⊎_elim}
use Rattle.std.specs.Prelude.{All}
use Rattle.std.proofs.lemmas.Bool.{and_parts, eqb-true}
use Rattle.std.proofs.lemmas.List.Elements.{All-cons, All-nil}
use Rattle.mid_base.specs.declared.entries.Entry.{Entry}
use Rattle.mid_base.specs.declared.entries.Entry.TheVariants.{Sent}
use Rattle.mid_base.specs.declared.host_spec.HostSpec.{HostSpec}
use Rattle.trace_model.specs.Attempts.{attempts, sends}
use Rattle.trace_model.specs.Devices.{in_recovery, is_online}
use Rattle.trace_model.specs.Names.{dev_of}
use Rattle.trace_model.specs.Sending.{may_send, pick, is_number, is_least_free}
use Rattle.trace_model.specs.Legal.{EachStands}
use Rattle.trace_model.proofs.Owes.{stands}

pub sent_number : (s : HostSpec) (P : List Entry) (c n t : ℕ) → may_send s P c n t ≡ true → n ≡ sends P + 1
sent_number s P c n t h =
    let first = not (in_recovery P) && is_number c (pick s P) && is_online s (dev_of s c) P in
    eqb-true n (sends P + 1) (and_parts first (n == sends P + 1) (and_parts (first && (n == sends P + 1)) (is_least_free s P t) h).0).1

pub all_below : (s : HostSpec) (P : List Entry) → EachStands s P → All (λ m. m < sends P + 1) (attempts P)
all_below s [] each = All-nil (λ m. m < 1)
all_below s (Sent c m t ∷ P) each =
    let rest = all_below s P each.1 in
    let number : m.0 ≡ sends P + 1 = ⊎_elim (λ al. sent_number s P c.0 m.0 t.0 al) (λ f. absurd (⊎_elim (λ q. cc q) (λ q. cc q) f)) (stands s P (Sent c m t) each.0) in
    All-cons (λ (k : ℕ). k < sends P + 1 + 1) m.0 (attempts P) (omega (arith, number)) (λ k d lt. let less : get_or (attempts P) k d < sends P + 1 = rest k d lt in omega (arith, less))
all_below s (e ∷ P) each = all_below s P each.1
