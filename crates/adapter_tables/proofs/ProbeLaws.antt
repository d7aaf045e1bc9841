-- How units serve the five probes.
use Rattle.std.proofs.Common.{◌≡◌, ◌≤◌, ℕ, ◌&&◌, min, Bool, true, false, not, nat_lt, List, [], ◌∷◌, ◌+◌, length, take, slice_index, Option, Some, None, Ok, Result, refl, sym, ap, ◌∙◌, subst, inl, inr, arith}
use Rattle.std.specs.Prelude.{is_none}
use Rattle.std.proofs.lemmas.List.{length-take, take_at}
use Rattle.std.proofs.lemmas.Bool.Decides.{eqb_tells, nat_tests}
use Rattle.mid_base.specs.Bytes.{cdb_list}
use Rattle.mid_base.specs.declared.bytes.CdbBytes.{CdbBytes}
use Rattle.mid_base.specs.declared.answers.Answer.{Answer}
use Rattle.mid_base.specs.declared.answers.ProbeSay.TheVariants.{Answered}
use Rattle.cdb_codec.specs.declared.cdb.Cdb.{Cdb}
use Rattle.cdb_codec.specs.declared.cdb.Cdb.TheVariants.{TestUnitReady, RequestSense, Inquiry, StartStop, ReportLuns}
use Rattle.mid_base.specs.Codes.{request_sense, inquiry, report_luns}
use Rattle.host_template.specs.Probes.{probe_cdb, code_of, IsProbe, allocation, taken}
use Rattle.debug_lun.specs.declared.sense_code.Sense.{Sense}
use Rattle.debug_lun.specs.Units.{LogicalUnit, Reply, reply_of}
use Rattle.debug_lun.specs.Commands.{data_needed, needed_for, read_command, passes_attention, needs_start, is_write, moves_blocks, first_block, block_count}
use Rattle.debug_lun.specs.Pages.{is_unknown_page, sense_bytes, inquiry as inquiry_data, listed_units}
use Rattle.lun_addr.specs.Grammar.{lun_list}
use Rattle.debug_lun.specs.Serving.{sense_due, Served, run, run_read, serve, tried, performed, placed, refusals, first_refusal, is_accepted_write}
use Rattle.debug_lun.proofs.Spelled.{read_spelled}
use Rattle.debug_lun.proofs.Told.{serve_tells}
use Rattle.debug_lun.proofs.Needed.{serve_looks}
use Rattle.adapter_tables.specs.Units.{data_out, probed}
use Rattle.adapter_tables.specs.Answering.{FetchesSense}

-- a probe is one of the five
pub by_code : (P : ℕ → Type 0) → P 0 → P 3 → P 18 → P 27 → P 160 → (code : ℕ) → code ≡ slice_index (probe_cdb code) 0 → P code
by_code P ready sense inquire start luns code is = elim (eqb_tells code 0) [
  | inl e0 ↦ subst P (sym e0.1) ready
  | inr n0 ↦ elim (eqb_tells code 3) [
    | inl e3 ↦ subst P (sym e3.1) sense
    | inr n3 ↦ elim (eqb_tells code 18) [
      | inl e18 ↦ subst P (sym e18.1) inquire
      | inr n18 ↦ elim (eqb_tells code 27) [
        | inl e27 ↦ subst P (sym e27.1) start
        | inr n27 ↦ elim (eqb_tells code 160) [
          | inl e160 ↦ subst P (sym e160.1) luns
          | inr n160 ↦ absurd (n0.1 (rw (n0.0, n3.0, n18.0, n27.0, n160.0) at is))
        ]
      ]
    ]
  ]
]

-- what is known of a command that isn't a write: it gives no more than n bytes
pub record Gives (n : ℕ) (u : LogicalUnit) (block luns out : List ℕ) : Type 0 where
  pub no_write : is_accepted_write u (read_command block) ≡ false
  pub fits : length (serve u block luns out).data_in ≤ n

serve_is : (u : LogicalUnit) (block luns out : List ℕ) (c : Cdb) → read_command block ≡ Ok c → serve u block luns out ≡ tried u c luns out (first_refusal (refusals u c))
unfolding serve run
serve_is u block luns out c e = ap (λ (r : Result Cdb Sense). run_read u luns out r) e

tried_fits : (n : ℕ) (u : LogicalUnit) (c : Cdb) (luns out : List ℕ) (o : Option Sense) → length (performed u c luns out).data_in ≤ n → length (tried u c luns out o).data_in ≤ n
tried_fits n u c luns out None le = le
tried_fits n u c luns out (Some s) le = omega arith

gives_by : (n : ℕ) (u : LogicalUnit) (block luns out : List ℕ) (c : Cdb) → read_command block ≡ Ok c → is_write c ≡ false → length (performed u c luns out).data_in ≤ n → Gives n u block luns out
gives_by n u block luns out c e reads le = record {
  no_write = ap (is_accepted_write u) e ∙ ap (λ (t : Bool). t && is_none (first_refusal (refusals u c))) reads;
  fits = subst (λ (x : Served). length x.data_in ≤ n) (sym (serve_is u block luns out c e)) (tried_fits n u c luns out (first_refusal (refusals u c)) le);
}

-- the commands of the five blocks
ready_read : read_command (probe_cdb 0) ≡ Ok (TestUnitReady 0)
ready_read = read_spelled (TestUnitReady 0) (probe_cdb 0) (omega arith) refl refl

sense_read : read_command (probe_cdb 3) ≡ Ok (RequestSense false 252 0)
sense_read = read_spelled (RequestSense false 252 0) (probe_cdb 3) (omega arith, omega arith) refl refl

inquiry_read : read_command (probe_cdb 18) ≡ Ok (Inquiry false 0 36 0)
inquiry_read = read_spelled (Inquiry false 0 36 0) (probe_cdb 18) (omega arith, omega arith, omega arith) refl refl

start_read : read_command (probe_cdb 27) ≡ Ok (StartStop false 1 0)
start_read = read_spelled (StartStop false 1 0) (probe_cdb 27) (omega arith, omega arith) refl refl

luns_read : read_command (probe_cdb 160) ≡ Ok (ReportLuns 0 2056 0)
luns_read = read_spelled (ReportLuns 0 2056 0) (probe_cdb 160) (omega arith, omega arith, omega arith) refl refl

take_fits : (n : ℕ) (xs : List ℕ) → length (take n xs) ≤ n
take_fits n xs = omega (arith, length-take n xs)

-- each of the five
gives_at : (u : LogicalUnit) (luns out : List ℕ) (code : ℕ) → code ≡ slice_index (probe_cdb code) 0 → Gives (allocation code) u (probe_cdb code) luns out
gives_at u luns out = by_code (λ code. Gives (allocation code) u (probe_cdb code) luns out)
    (gives_by 0 u (probe_cdb 0) luns out (TestUnitReady 0) ready_read refl (omega arith))
    (gives_by 252 u (probe_cdb 3) luns out (RequestSense false 252 0) sense_read refl (take_fits 252 (sense_bytes false (sense_due u u.pending))))
    (gives_by 36 u (probe_cdb 18) luns out (Inquiry false 0 36 0) inquiry_read refl (take_fits 36 (inquiry_data u.dev false 0)))
    (gives_by 0 u (probe_cdb 27) luns out (StartStop false 1 0) start_read refl (omega arith))
    (gives_by 2056 u (probe_cdb 160) luns out (ReportLuns 0 2056 0) luns_read refl (take_fits 2056 (lun_list (listed_units 0 luns))))

pub probe_gives_few : (u : LogicalUnit) (luns out : List ℕ) (cdb : CdbBytes) → IsProbe cdb → Gives (allocation (code_of cdb)) u (cdb_list cdb) luns out
probe_gives_few u luns out cdb known = subst (λ (block : List ℕ). Gives (allocation (code_of cdb)) u block luns out) (sym known)
    (gives_at u luns out (code_of cdb) (ap (λ (block : List ℕ). slice_index block 0) known))

-- a command that nothing refuses
and_off : (a : Bool) → a && false ≡ false
and_off true = refl
and_off false = refl

none_below : (b : ℕ) → nat_lt b 0 ≡ false
none_below b = grind (arith, nat_tests)

none_holds : (a b c d e f : Bool) (s t u v w x : Sense) → a ≡ false → b ≡ false → c ≡ false → d ≡ false → e ≡ false → f ≡ false
    → first_refusal ((a, s) ∷ (b, t) ∷ (c, u) ∷ (d, v) ∷ (e, w) ∷ (f, x) ∷ []) ≡ None
none_holds a b c d e f s t u v w x p q r y z k = rw (p, q, r, y, z, k) refl

calm : (u : LogicalUnit) (c : Cdb) → passes_attention c ≡ true → needs_start c ≡ false → is_write c ≡ false → moves_blocks c ≡ false → first_block c + block_count c ≡ 0 → is_unknown_page c ≡ false
    → first_refusal (refusals u c) ≡ None
calm u c p s w m z k = none_holds _ _ _ _ _ _ _ _ _ _ _ _
    (ap (λ (t : Bool). u.attention && not t) p ∙ and_off u.attention)
    (ap (λ (t : Bool). not u.started && t) s ∙ and_off (not u.started))
    (ap (λ (t : Bool). u.write_protected && t) w ∙ and_off u.write_protected)
    (ap (λ (t : Bool). t && nat_lt 256 (block_count c)) m)
    (ap (λ (n : ℕ). nat_lt u.blocks n) z ∙ none_below u.blocks)
    k

served_calm : (u : LogicalUnit) (block luns out : List ℕ) (c : Cdb) → read_command block ≡ Ok c → first_refusal (refusals u c) ≡ None → serve u block luns out ≡ performed u c luns out
served_calm u block luns out c e none = serve_is u block luns out c e ∙ ap (λ (o : Option Sense). tried u c luns out o) none

pub sense_fetched : (luns : List ℕ) (u : LogicalUnit) → FetchesSense (probed luns u request_sense)
sense_fetched luns u = subst FetchesSense (sym (served_calm u (probe_cdb 3) luns (data_out 0) (RequestSense false 252 0) sense_read (calm u (RequestSense false 252 0) refl refl refl refl refl refl))) (refl, refl)

pub inquiry_keeps : (luns : List ℕ) (u : LogicalUnit) → (probed luns u inquiry).unit ≡ u
inquiry_keeps luns u = ap (λ (x : Served). x.unit) (served_calm u (probe_cdb 18) luns (data_out 0) (Inquiry false 0 36 0) inquiry_read (calm u (Inquiry false 0 36 0) refl refl refl refl refl refl))

pub report_keeps : (luns : List ℕ) (u : LogicalUnit) → (probed luns u report_luns).unit ≡ u
report_keeps luns u = ap (λ (x : Served). x.unit) (served_calm u (probe_cdb 160) luns (data_out 0) (ReportLuns 0 2056 0) luns_read (calm u (ReportLuns 0 2056 0) refl refl refl refl refl refl))

-- a probe looks at no data-out
needs_none : (block : List ℕ) (c : Cdb) → read_command block ≡ Ok c → needed_for (Ok c) ≡ 0 → data_needed block ≡ 0
unfolding data_needed
needs_none block c e none = ap needed_for e ∙ none

none_needed_at : (code : ℕ) → code ≡ slice_index (probe_cdb code) 0 → data_needed (probe_cdb code) ≡ 0
none_needed_at = by_code (λ code. data_needed (probe_cdb code) ≡ 0)
    (needs_none (probe_cdb 0) (TestUnitReady 0) ready_read refl)
    (needs_none (probe_cdb 3) (RequestSense false 252 0) sense_read refl)
    (needs_none (probe_cdb 18) (Inquiry false 0 36 0) inquiry_read refl)
    (needs_none (probe_cdb 27) (StartStop false 1 0) start_read refl)
    (needs_none (probe_cdb 160) (ReportLuns 0 2056 0) luns_read refl)

none_needed : (cdb : CdbBytes) → IsProbe cdb → data_needed (cdb_list cdb) ≡ 0
none_needed cdb known = ap data_needed known ∙ none_needed_at (code_of cdb) (ap (λ (block : List ℕ). slice_index block 0) known)

pub probe_looks_at_none : (u : LogicalUnit) (cdb : CdbBytes) (luns out other : List ℕ) → IsProbe cdb → serve u (cdb_list cdb) luns out ≡ serve u (cdb_list cdb) luns other
probe_looks_at_none u cdb luns out other known =
    let none : data_needed (cdb_list cdb) ≡ 0 = none_needed cdb known in
    serve_looks u (cdb_list cdb) luns out other (rw none refl)

-- what is moved is what comes in
pub probe_moved : (u : LogicalUnit) (luns : List ℕ) (cdb : CdbBytes) → IsProbe cdb → (serve u (cdb_list cdb) luns (data_out 0)).reply.moved ≡ length (serve u (cdb_list cdb) luns (data_out 0)).data_in
probe_moved u luns cdb known = (serve_tells u (cdb_list cdb) luns (data_out 0)).moved_is (probe_gives_few u luns (data_out 0) cdb known).no_write

probed_is : (luns : List ℕ) (u : LogicalUnit) (cdb : CdbBytes) → IsProbe cdb → serve u (cdb_list cdb) luns (data_out 0) ≡ probed luns u (code_of cdb)
probed_is luns u cdb known = ap (λ (block : List ℕ). serve u block luns (data_out 0)) known

pub probe_fits : (luns : List ℕ) (u : LogicalUnit) (cdb : CdbBytes) → IsProbe cdb → length (probed luns u (code_of cdb)).data_in ≤ allocation (code_of cdb)
probe_fits luns u cdb known = subst (λ (x : Served). length x.data_in ≤ allocation (code_of cdb)) (probed_is luns u cdb known) (probe_gives_few u luns (data_out 0) cdb known).fits

-- ---- what the caller of a probe gets

pub moved_fits : (luns : List ℕ) (u : LogicalUnit) (cdb : CdbBytes) (a : Answer) → IsProbe cdb → reply_of a ≡ (serve u (cdb_list cdb) luns (data_out 0)).reply → a.moved ≤ allocation (code_of cdb)
moved_fits luns u cdb a known e =
    let moved : a.moved ≡ (serve u (cdb_list cdb) luns (data_out 0)).reply.moved = ap (λ (r : Reply). r.moved) e in
    let fits : length (serve u (cdb_list cdb) luns (data_out 0)).data_in ≤ allocation (code_of cdb) = (probe_gives_few u luns (data_out 0) cdb known).fits in
    omega (arith, moved, probe_moved u luns cdb known, fits)

allocation_small : (code : ℕ) → code ≡ slice_index (probe_cdb code) 0 → allocation code ≤ 2056
allocation_small = by_code (λ code. allocation code ≤ 2056) (omega arith) (omega arith) (omega arith) (omega arith) (omega arith)

pub moved_few : (luns : List ℕ) (u : LogicalUnit) (cdb : CdbBytes) (a : Answer) → IsProbe cdb → reply_of a ≡ (serve u (cdb_list cdb) luns (data_out 0)).reply → a.moved ≤ 2056
moved_few luns u cdb a known e =
    let most : allocation (code_of cdb) ≤ 2056 = allocation_small (code_of cdb) (ap (λ (block : List ℕ). slice_index block 0) known) in
    omega (arith, moved_fits luns u cdb a known e, most)

pub data_taken : (luns : List ℕ) (u : LogicalUnit) (cdb : CdbBytes) (a : Answer) (buffer rest into : List ℕ) → IsProbe cdb → reply_of a ≡ (serve u (cdb_list cdb) luns (data_out 0)).reply
    → buffer ≡ placed (serve u (cdb_list cdb) luns (data_out 0)).data_in rest → take a.moved into ≡ take a.moved buffer
    → taken (code_of cdb) (Answered a) into ≡ (probed luns u (code_of cdb)).data_in
data_taken luns u cdb a buffer rest into known e placing front =
    let least : min a.moved (allocation (code_of cdb)) ≡ a.moved = omega (arith, moved_fits luns u cdb a known e) in
    let size : length (serve u (cdb_list cdb) luns (data_out 0)).data_in ≡ a.moved = sym (ap (λ (r : Reply). r.moved) e ∙ probe_moved u luns cdb known) in
    ap (λ (k : ℕ). take k into) least
    ∙ (front
    ∙ (ap (λ (xs : List ℕ). take a.moved xs) placing
    ∙ (take_at (serve u (cdb_list cdb) luns (data_out 0)).data_in _ a.moved size
    ∙ ap (λ (x : Served). x.data_in) (probed_is luns u cdb known))))
