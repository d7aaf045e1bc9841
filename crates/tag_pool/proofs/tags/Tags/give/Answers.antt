use Rattle.std.proofs.Common.{arith, ◌≡◌, ◌∙◌, ap, sym, subst, ℕ, ◌<◌, List, length, true}
use Rattle.tag_pool.specs.Tags.{Holders, is_out}
use Rattle.tag_pool.specs.Words.{bit_of}
use Rattle.tag_pool.proofs.Held.{anew, free_given, out_within, less_out}
use Rattle.tag_pool.proofs.tags.Tags.give.Goals as goal

pub invariant_of-self : goal.invariant_of-self
invariant_of-self c =
    let out : is_out c.from-t.result c.self.inside.holders.items ≡ true =
    subst (λ (xs : Holders). is_out c.from-t.result xs ≡ true) (sym c.self.view_is) (subst (λ (t : ℕ). is_out t c.args.self.now ≡ true) (omega (arith, c.from-t.ensures)) c.requires)
    in
    let within : c.from-t.result < length c.self.inside.holders.items = out_within c.self.inside.holders.items c.from-t.result out in
    let value : c.deref_mut.result.now ≡ c.self.inside.free.items = c.deref_mut.ensures.value in
    let long : length c.set_bit.new.words ≡ length c.self.inside.free.items = omega (arith, c.set_bit.auto.words, ap (λ (xs : List ℕ). length xs) value) in (
      c.self.invariant.0,
      rw (anew c.self.inside.free.len c.self.inside.free.items c.set_bit.new.words (omega (arith, c.self.inside.free.ok.0)) long)
          (free_given c.self.inside.free.items c.set_bit.new.words c.self.inside.holders.items c.from-t.result c.self.invariant.1 within long c.set_bit.ensures.set
          (λ k other. c.set_bit.ensures.others k other ∙ ap (λ (xs : List ℕ). bit_of k xs) value)),
      omega (arith, c.self.invariant.2, less_out c.self.inside.holders.items c.from-t.result within out),
    )
