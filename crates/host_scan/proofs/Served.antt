-- How units serve INQUIRY and REPORT LUNS.
use Rattle.std.proofs.Common.{◌≡◌, ℕ, ◌+◌, Bool, true, false, not, ◌&&◌, nat_lt, List, [], ◌∷◌, take, Option, Some, None, Ok, Result, refl, sym, ap, ◌∙◌, arith}
use Rattle.std.proofs.lemmas.Bool.Decides.{nat_tests}
use Rattle.cdb_codec.specs.declared.cdb.Cdb.{Cdb}
use Rattle.cdb_codec.specs.declared.cdb.Cdb.TheVariants.{Inquiry, ReportLuns}
use Rattle.host_template.specs.Probes.{probe_cdb}
use Rattle.debug_lun.specs.declared.sense_code.Sense.{Sense}
use Rattle.debug_lun.specs.Units.{LogicalUnit}
use Rattle.debug_lun.specs.Commands.{block_count, first_block, is_write, moves_blocks, needs_start, passes_attention, read_command}
use Rattle.debug_lun.specs.Pages.{is_unknown_page, standard_inquiry}
use Rattle.lun_addr.specs.Grammar.{lun_list}
use Rattle.debug_lun.specs.Serving.{Served, first_refusal, gives, performed, refusals, run, run_read, serve, tried}
use Rattle.debug_lun.proofs.Spelled.{read_spelled}

served : (u : LogicalUnit) (block luns out : List ℕ) (c : Cdb) → read_command block ≡ Ok c → first_refusal (refusals u c) ≡ None → serve u block luns out ≡ performed u c luns out
unfolding serve run
served u block luns out c e none =
    ap (λ (r : Result Cdb Sense). run_read u luns out r) e ∙ ap (λ (o : Option Sense). tried u c luns out o) none

and_off : (b : Bool) → b && false ≡ false
and_off true = refl
and_off false = refl

none_below : (n : ℕ) → nat_lt n 0 ≡ false
none_below n = grind (arith, nat_tests)

none_holds : (a b c d e f : Bool) (s t u v w x : Sense) → a ≡ false → b ≡ false → c ≡ false → d ≡ false → e ≡ false → f ≡ false
    → first_refusal ((a, s) ∷ (b, t) ∷ (c, u) ∷ (d, v) ∷ (e, w) ∷ (f, x) ∷ []) ≡ None
none_holds a b c d e f s t u v w x p q r y z k = rw (p, q, r, y, z, k) refl

calm : (u : LogicalUnit) (c : Cdb) → passes_attention c ≡ true → needs_start c ≡ false → is_write c ≡ false → moves_blocks c ≡ false → first_block c + block_count c ≡ 0 → is_unknown_page c ≡ false
    → first_refusal (refusals u c) ≡ None
calm u c p s w m z k = none_holds _ _ _ _ _ _ _ _ _ _ _ _
    (ap (λ (t : Bool). u.attention && not t) p ∙ and_off u.attention)
    (ap (λ (t : Bool). not u.started && t) s ∙ and_off (not u.started))
    (ap (λ (t : Bool). u.write_protected && t) w ∙ and_off u.write_protected)
    (ap (λ (t : Bool). t && nat_lt 256 (block_count c)) m)
    (ap (λ (n : ℕ). nat_lt u.blocks n) z ∙ none_below u.blocks)
    k

pub inquiry_served : (u : LogicalUnit) (luns out : List ℕ) → serve u (probe_cdb 18) luns out ≡ gives u (take 36 standard_inquiry)
inquiry_served u luns out =
    served u (probe_cdb 18) luns out (Inquiry false 0 36 0) (read_spelled (Inquiry false 0 36 0) (probe_cdb 18) (omega arith, omega arith, omega arith) refl refl)
    (calm u (Inquiry false 0 36 0) refl refl refl refl refl refl)

pub report_served : (u : LogicalUnit) (luns out : List ℕ) → serve u (probe_cdb 160) luns out ≡ gives u (take 2056 (lun_list luns))
report_served u luns out =
    served u (probe_cdb 160) luns out (ReportLuns 0 2056 0) (read_spelled (ReportLuns 0 2056 0) (probe_cdb 160) (omega arith, omega arith, omega arith) refl refl)
    (calm u (ReportLuns 0 2056 0) refl refl refl refl refl refl)
