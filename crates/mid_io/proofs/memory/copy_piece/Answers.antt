use Rattle.std.proofs.Common.{◌≡◌, ℕ, ◌+◌, ◌-◌, List, ◌++◌, length, take, drop, sym, ap, ◌∙◌, arith}
use Rattle.std.proofs.lemmas.List.{take_at, take-append-drop, length-take, drop-drop, take_rest}
use Rattle.mid_io.proofs.memory.copy_piece.Goals as goal

piece_is : (bs : List ℕ) (p n : ℕ) (new rest : List ℕ) → new ≡ take n (take (length bs - p) (drop p bs)) → length new ≡ n
    → drop p bs ≡ take n (new ++ rest) ++ drop (p + n) bs
piece_is bs p n new rest h len =
    let e : new ≡ take n (drop p bs) = h ∙ ap (take n) (take_rest bs p) in
    sym (take-append-drop n (drop p bs))
    ∙ (ap (λ xs. xs ++ drop n (drop p bs)) (sym e ∙ sym (take_at new rest n len)) ∙ ap (λ ys. take n (new ++ rest) ++ ys) (drop-drop n p bs))

pub returns-clause-bytes : goal.returns-clause-bytes
returns-clause-bytes c =
    piece_is c.args.bytes.now c.args.place c.min-count.result c.copy_from_slice.new.self _ c.copy_from_slice.ensures.after (omega (arith, c.copy_from_slice.ensures.len, length-take {A = ℕ}))
