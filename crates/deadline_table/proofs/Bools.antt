-- Small facts on tests. `b` says that an entry is of attempt n, `o` that n is open, `l` that its deadline isn't after now, `d`
-- that it is due, `q` that it was said done.
use Rattle.std.proofs.Common.{◌≡◌, ◌≢◌, ℕ, ◌+◌, ◌*◌, ◌==◌, Bool, true, false, not, ◌&&◌, ◌||◌, cond, if◌then◌else◌, Option, Some, None, refl, arith}
use Rattle.std.proofs.lemmas.Bool.{ne_eqb, eq-eqb, false≢true}
use Rattle.std.proofs.lemmas.Bool.Decides.{nat_tests}
use Rattle.timer_list.specs.Timers.{is_before}

pub same : (n : ℕ) → (n == n) ≡ true
same n = eq-eqb n n refl

pub differ : {m n : ℕ} → m ≢ n → (m == n) ≡ false
differ {m} {n} ne = ne_eqb m n ne

pub closed : (b o : Bool) → o ≡ false → cond b false o ≡ false
closed true o h = refl
closed false o h = h

pub was_open : (b o : Bool) → cond b false o ≡ true → o ≡ true
was_open true o h = absurd (false≢true h)
was_open false o h = h

pub opened_before : (b o : Bool) → b ≡ false → cond b true o ≡ true → o ≡ true
opened_before true o e h = absurd (false≢true (cc))
opened_before false o e h = h

pub not_now : (b w : Bool) → cond b true w ≡ false → (b ≡ false) × (w ≡ false)
not_now true w h = absurd (false≢true (cc))
not_now false w h = (refl, h)

-- no timer runs where this was said
pub none_due : (o q : Bool) (x : Option ℕ) → (if o && not true && not q then x else None) ≡ None
none_due true q x = refl
none_due false q x = refl

pub none_done : (o d : Bool) (x : Option ℕ) → (if o && not d && not true then x else None) ≡ None
none_done true true x = refl
none_done true false x = refl
none_done false d x = refl

pub running : (b : Bool) (x y : ℕ) → (if b then Some x else None) ≡ Some y → (b ≡ true) × (x ≡ y)
running true x y h = (refl, cc)
running false x y h = absurd (cc)

-- expired is to run and to be over
pub expired_parts : (o l d q : Bool) → o && l && not d && not q ≡ true → (o && not d && not q ≡ true) × (l ≡ true)
expired_parts true true false false h = (refl, refl)
expired_parts true true false true h = absurd (false≢true h)
expired_parts true true true q h = absurd (false≢true h)
expired_parts true false d q h = absurd (false≢true h)
expired_parts false l d q h = absurd (false≢true h)

pub expires : (o l d q : Bool) → o && not d && not q ≡ true → l ≡ true → o && l && not d && not q ≡ true
expires true true d q h e = h
expires true false d q h e = absurd (false≢true e)
expires false l d q h e = absurd (false≢true h)

pub open_of : (o d q : Bool) → o && not d && not q ≡ true → o ≡ true
open_of true d q h = refl
open_of false d q h = absurd (false≢true h)

-- of two attempts that each come before the other
pub both_before : (n a m b : ℕ) → is_before n a m b ≡ true → is_before m b n a ≡ true → m ≡ n
both_before n a m b onward backward = grind (arith, nat_tests)

pub implied : (x b : Bool) → (x ≡ true → b ≡ true) → not x || b ≡ true
implied true b h = h refl
implied false b h = refl

pub implies : (x b : Bool) → not x || b ≡ true → x ≡ true → b ≡ true
implies true b h e = h
implies false b h e = absurd (false≢true e)

-- one timeout more
pub one_more : (sent time times : ℕ) → sent + time * (1 + (times + 1)) ≡ sent + time * (1 + times) + time
one_more sent time times = grind arith
