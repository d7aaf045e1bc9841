-- What was written goes on, on plain lists.
use Rattle.std.proofs.Common.{arith, sym, ◌≤◌, Result, Ok, Err, ◌≡◌, ℕ, List, [], ◌++◌, Option, None, Some, ap, ◌∙◌, append_assoc}
use Rattle.std.proofs.lemmas.List.{append-nil}
use Rattle.std.specs.Io.KnownBytes.{Appends, Keeps}
use Rattle.mid_io.specs.Causes.{Rose}
use Rattle.mid_io.specs.Whole.{IsCutShort, WritesAll}
use Rattle.mid_io.specs.declared.ends.Failed.{Failed}

pub appends_nothing : (a : Option (List ℕ)) → Appends a a []
appends_nothing None = tt
appends_nothing (Some p) = sym (append-nil p)

pub appends_more : (a b c : Option (List ℕ)) (x y : List ℕ) → Appends a b x → Appends b c y → Appends a c (x ++ y)
appends_more None b c x y h k = tt
appends_more (Some p) None c x y h k = absurd h
appends_more (Some p) (Some q) None x y h k = absurd k
appends_more (Some p) (Some q) (Some r) x y h k = k ∙ (ap (λ t. t ++ y) h ∙ append_assoc p x y)

pub keeps_on : (a b c : Option (List ℕ)) (x : List ℕ) → Appends a b x → Keeps b c → Appends a c x
keeps_on None b c x h k = tt
keeps_on (Some p) None c x h k = absurd h
keeps_on (Some p) (Some q) None x h k = absurd k
keeps_on (Some p) (Some q) (Some r) x h k = k ∙ h

-- what is out so far is a front
pub cut_here : (old new : Option (List ℕ)) (front rest full : List ℕ) → Appends old new front → front ++ rest ≡ full → IsCutShort old new full
cut_here old new front rest full h e = (front, rest, e, h)

-- a piece that is cut short, after what is out
pub cut_on : (old mid new : Option (List ℕ)) (x y z full : List ℕ) → Appends old mid x → IsCutShort mid new y → x ++ (y ++ z) ≡ full → IsCutShort old new full
cut_on old mid new x y z full h cut e = (
  x ++ cut.0,
  cut.1 ++ z,
  append_assoc x cut.0 (cut.1 ++ z) ∙ (ap (λ t. x ++ t) (sym (append_assoc cut.0 cut.1 z) ∙ ap (λ t. t ++ z) cut.2) ∙ e),
  appends_more old mid new x cut.0 h cut.3,
)

pub rose_on : (a b c : ℕ) → a ≤ b → Rose b c → Rose a c
rose_on a b c h r = omega (arith, r)

-- a failure within the piece y, after x, of what is x, y and z
pub errs_on : (old mid new : Option (List ℕ)) (x y z full : List ℕ) (a b c : ℕ) (e : Failed) → Appends old mid x → x ++ (y ++ z) ≡ full → a ≤ b
    → WritesAll mid new y b c (Err e) → WritesAll old new full a c (Err e)
errs_on old mid new x y z full a b c e h whole le w = (rose_on a b c le w.0, cut_on old mid new x y z full h w.1 whole)

-- the last piece
pub ends_on : (old mid new : Option (List ℕ)) (x y : List ℕ) (a b c : ℕ) (r : Result (Unit {0}) Failed) → Appends old mid x → a ≤ b
    → WritesAll mid new y b c r → WritesAll old new (x ++ y) a c r
ends_on old mid new x y a b c (Ok u) h le w = appends_more old mid new x y h w
ends_on old mid new x y a b c (Err e) h le w = errs_on old mid new x y [] (x ++ y) a b c e h (ap (λ t. x ++ t) (append-nil y)) le w
