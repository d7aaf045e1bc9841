-- The scans of targets one after the other, and the host that they give.
use Rattle.std.proofs.Common.{◌≡◌, ℕ, ◌+◌, ◌<◌, List, [], ◌∷◌, ◌++◌, map, take, get_or, length, refl, sym, ap, ◌∙◌, subst}
use Rattle.std.proofs.lemmas.List.{take_more}
use Rattle.mid_base.specs.declared.names.DevAddr.{DevAddr}
use Rattle.mid_base.specs.declared.host_spec.HostSpec.{HostSpec}
use Rattle.host_template.specs.Standing.{Before}
use Rattle.debug_adapter.specs.Adapter.{AdapterStands}
use Rattle.debug_adapter.specs.declared.adapter.DebugAdapter.{DebugAdapter}
use Rattle.host_scan.specs.declared.target.Target.{Target}
use Rattle.host_scan.specs.declared.finding.Finding.{Finding}
use Rattle.host_scan.specs.Targets.{targets_of, zero_of}
use Rattle.host_scan.specs.Found.{found, probed_before, probes_of}
use Rattle.host_scan.specs.Findings.{ScansTo, finding_of, told, unit_by}
use Rattle.host_scan.proofs.Order.{Ascends, all_told, before_of, targets_ascend, unlisted}
use Rattle.host_scan.proofs.Listed.{same_host}

mapped_more : {A B : Type 0} (f : A → B) (xs : List A) (x : A) → map f (xs ++ x ∷ []) ≡ map f xs ++ f x ∷ []
mapped_more f [] x = refl
mapped_more f (y ∷ xs) x = ap (λ zs. f y ∷ zs) (mapped_more f xs x)

pub record Goes (s : HostSpec) (ts : List Target) (x : DebugAdapter) (fs : List Finding) : Type 0 where
  pub found : fs ≡ map (finding_of s) ts
  pub stands : AdapterStands x s (before_of s ts) []

pub one_more : (s : HostSpec) (ds : List DevAddr) (ts : List Target) (i : ℕ) (d : Target) (old new : DebugAdapter) (f : Finding) (fs gs : List Finding)
    → ts ≡ targets_of ds → i < length ts → ScansTo s old new (get_or ts i d) f → gs ≡ fs ++ f ∷ [] → fs ≡ map (finding_of s) (take i ts)
    → AdapterStands old s (before_of s (take i ts)) [] → Goes s (take (i + 1) ts) new gs
one_more s ds ts i d old new f fs gs e lt scan grown found stood =
    let t = get_or ts i d in
    let made = scan (before_of s (take i ts)) (unlisted s ts i d (subst Ascends (sym e) (targets_ascend ds)) lt) stood in
    let more = take_more ts i d lt in
    record {
      found =
          grown ∙ (ap (λ (hs : List Finding). hs ++ f ∷ []) found
          ∙ (ap (λ (g : Finding). map (finding_of s) (take i ts) ++ g ∷ []) made.0
          ∙ (sym (mapped_more (finding_of s) (take i ts) t) ∙ ap (map (finding_of s)) (sym more))));
      stands = subst (λ (b : Before). AdapterStands new s b [])
          (ap (λ (g : Finding). before_of s (take i ts) ++ told g ∷ []) made.0
          ∙ (sym (mapped_more (λ (u : Target). (zero_of u, probes_of s u)) (take i ts) t) ∙ ap (before_of s) (sym more))) made.1;
    }

pub host_is : (s : HostSpec) (ds : List DevAddr) (fs : List Finding) (new : HostSpec) → fs ≡ map (finding_of s) (targets_of ds)
    → new ≡ record s { luns = map (unit_by ds fs) s.luns } → new ≡ found ds s
host_is s ds fs new e h = h ∙ (ap (λ (gs : List Finding). record s { luns = map (unit_by ds gs) s.luns }) e ∙ same_host s ds)

pub probes_are : (s : HostSpec) (ds : List DevAddr) (fs : List Finding) (b : Before) → fs ≡ map (finding_of s) (targets_of ds) → b ≡ map told fs → b ≡ probed_before ds s
probes_are s ds fs b e h = h ∙ (ap (map told) e ∙ all_told s (targets_of ds))
