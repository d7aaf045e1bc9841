-- Numbers, bytes, addresses and answers follow from their texts, and none of these has a space.
use Rattle.std.proofs.Common.{◌≡◌, ℕ, zero, suc, ◌+◌, ◌/◌, ◌%◌, ◌<◌, ◌==◌, inl, inr, ◌⊎◌, Bool, true, false, nat_lt, if◌then◌else◌, List, [], ◌∷◌, ◌++◌, get_or, refl, ap, ◌∙◌, arith}
use Rattle.std.specs.Fmt.{decimal}
use Rattle.std.proofs.lemmas.Fmt.{decimal_by_steps, decimal_injective}
use Rattle.std.proofs.lemmas.Bool.{ne_eqb}
use Rattle.std.proofs.lemmas.Grind.{common_steps}
use Rattle.std.proofs.Math.Nat.{div-add-mod}
use Rattle.mid_base.specs.Bytes.{sense_list}
use Rattle.mid_base.proofs.Same.{same_sense}
use Rattle.mid_base.specs.declared.bytes.SenseBytes.{SenseBytes}
use Rattle.mid_base.specs.declared.names.DevAddr.{DevAddr}
use Rattle.mid_base.specs.declared.answers.Answer.{Answer}
use Rattle.report_text.specs.Pieces.{hex_digit, hex_byte, hex_text, sense_text, address_text, answer_words}
use Rattle.report_text.specs.Readings.{AddressFits, AnswerFits, AreBytes, Fits, IsByte}
use Rattle.report_text.proofs.Joined.{lacks, AllLack, lacks-append, lacks-one, lacks-two, same_parts}

-- the words in place i
pub word : {vs ws : List (List ℕ)} → vs ≡ ws → (i : ℕ) → get_or vs i [] ≡ get_or ws i []
word h i = ap (λ (words : List (List ℕ)). get_or words i []) h

-- a byte that is no decimal digit
abbrev pub IsNoDigit : ℕ → Type 0
IsNoDigit c = (c < 48) ⊎ (57 < c)

digit_is_not : (c d : ℕ) → d < 10 → IsNoDigit c → ((48 + d) == c) ≡ false
digit_is_not c d lt (inl low) = ne_eqb (48 + d) c (λ e. omega (arith, e, low))
digit_is_not c d lt (inr high) = ne_eqb (48 + d) c (λ e. omega (arith, e, high, lt))

pub decimal_lacks : (c n : ℕ) → IsNoDigit c → Fits n → lacks c (decimal n) ≡ true
decimal_lacks c n other lt =
    decimal_by_steps (λ m ds. lacks c ds ≡ true)
    (λ m le. lacks-one c (48 + m) (digit_is_not c m le other))
    (λ m ds le h. lacks-append c ds ((48 + m % 10) ∷ []) h (lacks-one c (48 + m % 10) (digit_is_not c (m % 10) (omega arith) other)))
    n lt

no_space_digit : (b : Bool) (d : ℕ) → (if b then 48 + d else 87 + d) ≡ 32 → ⊥
no_space_digit true d e = omega (arith, e)
no_space_digit false d e = omega (arith, e)

pub hex_byte_lacks : (b : ℕ) → lacks 32 (hex_byte b) ≡ true
hex_byte_lacks b =
    lacks-two 32 (hex_digit (b / 16)) (hex_digit (b % 16))
    (ne_eqb (hex_digit (b / 16)) 32 (no_space_digit (nat_lt (b / 16) 10) (b / 16)))
    (ne_eqb (hex_digit (b % 16)) 32 (no_space_digit (nat_lt (b % 16) 10) (b % 16)))

pub hex_text_lacks : (bytes : List ℕ) → lacks 32 (hex_text bytes) ≡ true
hex_text_lacks [] = refl
hex_text_lacks (b ∷ bytes) = lacks-append 32 (hex_byte b) (hex_text bytes) (hex_byte_lacks b) (hex_text_lacks bytes)

sense_lacks : (bytes : List ℕ) → lacks 32 (sense_text bytes) ≡ true
sense_lacks [] = refl
sense_lacks (b ∷ bytes) = hex_text_lacks (b ∷ bytes)

hex_digit_same : (d e : ℕ) → d < 16 → e < 16 → hex_digit d ≡ hex_digit e → d ≡ e
hex_digit_same d e p q h = grind (arith, common_steps, p, q, h)

pub hex_byte_same : (b c : ℕ) → IsByte b → IsByte c → hex_byte b ≡ hex_byte c → b ≡ c
hex_byte_same b c p q h =
    let high : hex_digit (b / 16) ≡ hex_digit (c / 16) = cc in
    let low : hex_digit (b % 16) ≡ hex_digit (c % 16) = cc in
    let highs = hex_digit_same (b / 16) (c / 16) (omega (arith, p)) (omega (arith, q)) high in
    let lows = hex_digit_same (b % 16) (c % 16) (omega arith) (omega arith) low in
    omega (arith, highs, lows, div-add-mod b 16, div-add-mod c 16)

rest_bytes : (b : ℕ) (bytes : List ℕ) → AreBytes (b ∷ bytes) → AreBytes bytes
rest_bytes b bytes h k lt = h (suc k) (omega (arith, lt))

pub hex_text_same : (xs ys : List ℕ) → AreBytes xs → AreBytes ys → hex_text xs ≡ hex_text ys → xs ≡ ys
hex_text_same [] [] p q h = refl
hex_text_same [] (y ∷ ys) p q h = absurd (cc)
hex_text_same (x ∷ xs) [] p q h = absurd (cc)
hex_text_same (x ∷ xs) (y ∷ ys) p q h =
    let first : hex_byte x ≡ hex_byte y = cc in
    let later : hex_text xs ≡ hex_text ys = cc in
    let byte = hex_byte_same x y (p zero (omega arith)) (q zero (omega arith)) first in
    let rest = hex_text_same xs ys (rest_bytes x xs p) (rest_bytes y ys q) later in
    cc

sense_same : (xs ys : List ℕ) → AreBytes xs → AreBytes ys → sense_text xs ≡ sense_text ys → xs ≡ ys
sense_same [] [] p q h = refl
sense_same [] (y ∷ ys) p q h = absurd (cc)
sense_same (x ∷ xs) [] p q h = absurd (cc)
sense_same (x ∷ xs) (y ∷ ys) p q h = hex_text_same (x ∷ xs) (y ∷ ys) p q h

pub below : IsNoDigit 32
below = inl (omega arith)

pub above : IsNoDigit 58
above = inr (omega arith)

pub address_lacks : (d : DevAddr) → AddressFits d → lacks 32 (address_text d) ≡ true
address_lacks d fits =
    let last = decimal_lacks 32 d.lun below fits.2 in
    let later = lacks-append 32 (decimal d.target) (58 ∷ decimal d.lun) (decimal_lacks 32 d.target below fits.1) last in
    lacks-append 32 (decimal d.channel) (58 ∷ (decimal d.target ++ (58 ∷ decimal d.lun))) (decimal_lacks 32 d.channel below fits.0) later

-- the numbers of a text with colons
three : DevAddr → List (List ℕ)
three d = decimal d.target ∷ decimal d.lun ∷ []

colons : (d : DevAddr) → AddressFits d → AllLack 58 (decimal d.channel ∷ three d)
unfolding three
colons d fits = (decimal_lacks 58 d.channel above fits.0, (decimal_lacks 58 d.target above fits.1, (decimal_lacks 58 d.lun above fits.2, tt)))

address_is : (a b c x y z : ℕ) → a ≡ x → b ≡ y → c ≡ z
    → ◌≡◌ {A = DevAddr} (record { channel = a; target = b; lun = c }) (record { channel = x; target = y; lun = z })
address_is a b c x y z p q r =
    ap (λ (n : ℕ). record { channel = n; target = b; lun = c }) p
    ∙ (ap (λ (n : ℕ). record { channel = x; target = n; lun = c }) q ∙ ap (λ (n : ℕ). record { channel = x; target = y; lun = n }) r)

pub address_same : (d e : DevAddr) → AddressFits d → AddressFits e → address_text d ≡ address_text e → d ≡ e
unfolding three
address_same d e p q h =
    let parts : ◌≡◌ {A = List (List ℕ)} (decimal d.channel ∷ three d) (decimal e.channel ∷ three e) = same_parts 58 (decimal d.channel) (decimal e.channel) (three d) (three e) (colons d p) (colons e q) h in
    let first : decimal d.channel ≡ decimal e.channel = cc in
    let second : decimal d.target ≡ decimal e.target = cc in
    let third : decimal d.lun ≡ decimal e.lun = cc in
    address_is d.channel d.target d.lun e.channel e.target e.lun
    (decimal_injective d.channel e.channel p.0 q.0 first) (decimal_injective d.target e.target p.1 q.1 second) (decimal_injective d.lun e.lun p.2 q.2 third)

pub answer_lacks : (a : Answer) → AnswerFits a → AllLack 32 (answer_words a)
answer_lacks a fits =
    (hex_byte_lacks a.host.0, (hex_byte_lacks a.status, (decimal_lacks 32 a.moved below fits.2, (decimal_lacks 32 a.sum below fits.3, (sense_lacks (sense_list a.sense), tt)))))

answer_is : (h s m n g t k l : ℕ) (x y : SenseBytes) → h ≡ g → s ≡ t → x ≡ y → m ≡ k → n ≡ l
    → ◌≡◌ {A = Answer} (record { host = record { 0 = h }; status = s; sense = x; moved = m; sum = n }) (record { host = record { 0 = g }; status = t; sense = y; moved = k; sum = l })
answer_is h s m n g t k l x y p q r u v =
    ap (λ (z : ℕ). record { host = record { 0 = z }; status = s; sense = x; moved = m; sum = n }) p
    ∙ (ap (λ (z : ℕ). record { host = record { 0 = g }; status = z; sense = x; moved = m; sum = n }) q
    ∙ (ap (λ (z : SenseBytes). record { host = record { 0 = g }; status = t; sense = z; moved = m; sum = n }) r
    ∙ (ap (λ (z : ℕ). record { host = record { 0 = g }; status = t; sense = y; moved = z; sum = n }) u
    ∙ ap (λ (z : ℕ). record { host = record { 0 = g }; status = t; sense = y; moved = k; sum = z }) v)))

pub answer_same : (a b : Answer) → AnswerFits a → AnswerFits b → answer_words a ≡ answer_words b → a ≡ b
answer_same a b p q h =
    let first : hex_byte a.host.0 ≡ hex_byte b.host.0 = word h 0 in
    let second : hex_byte a.status ≡ hex_byte b.status = word h 1 in
    let third : decimal a.moved ≡ decimal b.moved = word h 2 in
    let fourth : decimal a.sum ≡ decimal b.sum = word h 3 in
    let fifth : sense_text (sense_list a.sense) ≡ sense_text (sense_list b.sense) = word h 4 in
    answer_is a.host.0 a.status a.moved a.sum b.host.0 b.status b.moved b.sum a.sense b.sense
    (hex_byte_same a.host.0 b.host.0 p.0 q.0 first) (hex_byte_same a.status b.status p.1 q.1 second)
    (same_sense a.sense b.sense (sense_same (sense_list a.sense) (sense_list b.sense) p.4 q.4 fifth))
    (decimal_injective a.moved b.moved p.2 q.2 third) (decimal_injective a.sum b.sum p.3 q.3 fourth)
