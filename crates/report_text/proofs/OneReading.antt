-- The words of an entry tell it.
use Rattle.std.proofs.Common.{◌≡◌, ℕ, ◌+◌, ◌*◌, ◌==◌, Bool, true, false, List, [], ◌∷◌, ◌++◌, ◌<◌, length, drop, refl, sym, ap, subst, ◌∙◌, arith}
use Rattle.std.specs.Fmt.{decimal}
use Rattle.std.specs.List.{join_with_byte}
use Rattle.std.proofs.lemmas.Fmt.{decimal_injective}
use Rattle.std.proofs.lemmas.Grind.{common_steps}
use Rattle.std.proofs.lemmas.List.{append_cancel_right}
use Rattle.mid_base.proofs.Same.{same_sense}
use Rattle.mid_base.specs.Bytes.{sense_list}
use Rattle.mid_base.specs.declared.bytes.SenseBytes.{SenseBytes}
use Rattle.mid_base.specs.declared.answers.Answer.{Answer}
use Rattle.mid_base.specs.declared.answers.BusyOf.{BusyOf}
use Rattle.mid_base.specs.declared.answers.BusyOf.TheVariants as busy
use Rattle.mid_base.specs.declared.answers.By.{By}
use Rattle.mid_base.specs.declared.answers.By.TheVariants as by
use Rattle.mid_base.specs.declared.answers.Disp.{Disp}
use Rattle.mid_base.specs.declared.answers.Disp.TheVariants as disps
use Rattle.mid_base.specs.declared.answers.ProbeSay.{ProbeSay}
use Rattle.mid_base.specs.declared.answers.ProbeSay.TheVariants.{Answered, Silent}
use Rattle.mid_base.specs.declared.answers.Scope.{Scope}
use Rattle.mid_base.specs.declared.answers.Scope.TheVariants as scopes
use Rattle.mid_base.specs.declared.states.DeviceState.{DeviceState}
use Rattle.mid_base.specs.declared.states.DeviceState.TheVariants as states
use Rattle.mid_base.specs.declared.entries.Entry.{Entry}
use Rattle.mid_base.specs.declared.entries.Entry.TheVariants.{Took, Sent, Bounced, Ready, Due, Longer, DoneSaid, Owned, Late, Judged, AbortSet, Aborted, Failed, Cleared, Sensed, Again, Told, EhBegin, EhEnd, Act, Probe, Offline, State, Tick}
use Rattle.report_text.specs.Pieces.{said_words, scope_text}
use Rattle.report_text.specs.Words.{busy_word, by_word, disp_word, ok_word, failed_word, again_word, state_word}
use Rattle.report_text.specs.Entries.{entry_words, entry_text}
use Rattle.report_text.specs.Text.{entry_line}
use Rattle.report_text.specs.Readings.{EntryFits, Fits, IsAimed, SaidFits, ScopeFits, is_aimed_at}
use Rattle.report_text.proofs.Joined.{lacks, AllLack, lacks-append, cut, same_parts}
use Rattle.report_text.proofs.Digits.{above, address_lacks, address_same, answer_lacks, answer_same, below, decimal_lacks, hex_byte_lacks, hex_byte_same, hex_text_lacks, hex_text_same, word}

-- A word as a number, so that two words of the table below are told apart by computing.
abbrev pub number : List ℕ → ℕ
number [] = 0
number (x ∷ xs) = x + 256 * number xs

-- the word in front, which says what kind of entry it is
abbrev pub kind : List (List ℕ) → ℕ
kind [] = 0
kind (w ∷ ws) = number w

apart : (a b : ℕ) → (a == b) ≡ false → a ≡ b → ⊥
apart a b p e = grind (arith, common_steps, p, e)

busy_lacks : (x : BusyOf) → lacks 32 (busy_word x) ≡ true
busy_lacks busy.Host = refl
busy_lacks busy.Device = refl

by_lacks : (x : By) → lacks 32 (by_word x) ≡ true
by_lacks by.Answer = refl
by_lacks by.Expiry = refl

disp_lacks : (x : Disp) → lacks 32 (disp_word x) ≡ true
disp_lacks disps.Success = refl
disp_lacks disps.Retry = refl
disp_lacks disps.Requeue = refl
disp_lacks disps.Fail = refl

ok_lacks : (x : Bool) → lacks 32 (ok_word x) ≡ true
ok_lacks true = refl
ok_lacks false = refl

failed_lacks : (x : Bool) → lacks 32 (failed_word x) ≡ true
failed_lacks true = refl
failed_lacks false = refl

again_lacks : (x : Bool) → lacks 32 (again_word x) ≡ true
again_lacks true = refl
again_lacks false = refl

state_lacks : (x : DeviceState) → lacks 32 (state_word x) ≡ true
state_lacks states.Created = refl
state_lacks states.Running = refl
state_lacks states.Quiesce = refl
state_lacks states.Block = refl
state_lacks states.Offline = refl
state_lacks states.Cancel = refl
state_lacks states.Del = refl

number_lacks : (n : ℕ) → Fits n → lacks 32 (decimal n) ≡ true
number_lacks n fits = decimal_lacks 32 n below fits

pair_lacks : (channel target : ℕ) → Fits channel → Fits target → lacks 32 (scope_text (scopes.Target channel target)) ≡ true
pair_lacks channel target p q = lacks-append 32 (decimal channel) (58 ∷ decimal target) (number_lacks channel p) (number_lacks target q)

scope_lacks : (x : Scope) → ScopeFits x → lacks 32 (scope_text x) ≡ true
scope_lacks (scopes.Cmd c) fits = number_lacks c.0 fits
scope_lacks (scopes.Dev d) fits = address_lacks d fits
scope_lacks (scopes.Target channel target) fits = pair_lacks channel target fits.0 fits.1
scope_lacks (scopes.Bus channel) fits = number_lacks channel fits
scope_lacks scopes.Host fits = refl

said_lacks : (x : ProbeSay) → SaidFits x → AllLack 32 (said_words x)
said_lacks (Answered a) fits = answer_lacks a fits
said_lacks Silent fits = (refl, tt)

-- no word of an entry has a space
entry_lacks : (e : Entry) → EntryFits e → AllLack 32 (entry_words e)
entry_lacks (Took c) f = (refl, (number_lacks c.0 f, tt))
entry_lacks (Sent c n t) f = (refl, (number_lacks c.0 f.0, (number_lacks n.0 f.1, (number_lacks t.0 f.2, tt))))
entry_lacks (Bounced c n x) f = (refl, (number_lacks c.0 f.0, (number_lacks n.0 f.1, (busy_lacks x, tt))))
entry_lacks (Ready n a) f = (refl, (number_lacks n.0 f.0, answer_lacks a f.1))
entry_lacks (Due n) f = (refl, (number_lacks n.0 f, tt))
entry_lacks (Longer n) f = (refl, (number_lacks n.0 f, tt))
entry_lacks (DoneSaid n) f = (refl, (number_lacks n.0 f, tt))
entry_lacks (Owned n x) f = (refl, (number_lacks n.0 f, (by_lacks x, tt)))
entry_lacks (Late n) f = (refl, (number_lacks n.0 f, tt))
entry_lacks (Judged c n x) f = (refl, (number_lacks c.0 f.0, (number_lacks n.0 f.1, (disp_lacks x, tt))))
entry_lacks (AbortSet c n) f = (refl, (number_lacks c.0 f.0, (number_lacks n.0 f.1, tt)))
entry_lacks (Aborted c n x) f = (refl, (number_lacks c.0 f.0, (number_lacks n.0 f.1, (ok_lacks x, tt))))
entry_lacks (Failed c n x) f = (refl, (number_lacks c.0 f.0, (number_lacks n.0 f.1, (failed_lacks x, tt))))
entry_lacks (Cleared c level) f = (refl, (number_lacks c.0 f.0, (number_lacks level f.1, tt)))
entry_lacks (Sensed c n s) f = (refl, (number_lacks c.0 f.0, (number_lacks n.0 f.1, (hex_text_lacks (sense_list s), tt))))
entry_lacks (Again c x) f = (refl, (number_lacks c.0 f, (again_lacks x, tt)))
entry_lacks (Told c a) f = (refl, (number_lacks c.0 f.0, answer_lacks a f.1))
entry_lacks EhBegin f = (refl, tt)
entry_lacks EhEnd f = (refl, tt)
entry_lacks (Act level x ok) f = (refl, (number_lacks level f.0, (scope_lacks x f.1, (ok_lacks ok, tt))))
entry_lacks (Probe d code said) f = (refl, (address_lacks d f.0, (hex_byte_lacks code, said_lacks said f.2)))
entry_lacks (Offline d) f = (refl, (address_lacks d f, tt))
entry_lacks (State d x) f = (refl, (address_lacks d f, (state_lacks x, tt)))
entry_lacks Tick f = (refl, tt)

-- the words that stand for values tell them
busy_same : (x y : BusyOf) → busy_word x ≡ busy_word y → x ≡ y
busy_same busy.Host busy.Host h = refl
busy_same busy.Device busy.Device h = refl
busy_same x y h = absurd (apart _ _ refl (ap number h))

by_same : (x y : By) → by_word x ≡ by_word y → x ≡ y
by_same by.Answer by.Answer h = refl
by_same by.Expiry by.Expiry h = refl
by_same x y h = absurd (apart _ _ refl (ap number h))

disp_same : (x y : Disp) → disp_word x ≡ disp_word y → x ≡ y
disp_same disps.Success disps.Success h = refl
disp_same disps.Retry disps.Retry h = refl
disp_same disps.Requeue disps.Requeue h = refl
disp_same disps.Fail disps.Fail h = refl
disp_same x y h = absurd (apart _ _ refl (ap number h))

ok_same : (x y : Bool) → ok_word x ≡ ok_word y → x ≡ y
ok_same true true h = refl
ok_same false false h = refl
ok_same x y h = absurd (apart _ _ refl (ap number h))

failed_same : (x y : Bool) → failed_word x ≡ failed_word y → x ≡ y
failed_same true true h = refl
failed_same false false h = refl
failed_same x y h = absurd (apart _ _ refl (ap number h))

again_same : (x y : Bool) → again_word x ≡ again_word y → x ≡ y
again_same true true h = refl
again_same false false h = refl
again_same x y h = absurd (apart _ _ refl (ap number h))

state_same : (x y : DeviceState) → state_word x ≡ state_word y → x ≡ y
state_same states.Created states.Created h = refl
state_same states.Running states.Running h = refl
state_same states.Quiesce states.Quiesce h = refl
state_same states.Block states.Block h = refl
state_same states.Offline states.Offline h = refl
state_same states.Cancel states.Cancel h = refl
state_same states.Del states.Del h = refl
state_same x y h = absurd (apart _ _ refl (ap number h))

-- what is made of equal parts
two_is : {A B : Type 0} (make : A → B → Entry) {a x : A} {b y : B} → a ≡ x → b ≡ y → make a b ≡ make x y
two_is {A} {B} make {a} {x} {b} {y} p q = ap (λ (z : A). make z b) p ∙ ap (λ (z : B). make x z) q

three_is : {A B C : Type 0} (make : A → B → C → Entry) {a x : A} {b y : B} {c z : C} → a ≡ x → b ≡ y → c ≡ z → make a b c ≡ make x y z
three_is {A} {B} {C} make {a} {x} {b} {y} {c} {z} p q r = ap (λ (t : A). make t b c) p ∙ (ap (λ (t : B). make x t c) q ∙ ap (λ (t : C). make x y t) r)

-- the words from place i on
after : {vs ws : List (List ℕ)} → vs ≡ ws → (i : ℕ) → drop i vs ≡ drop i ws
after h i = ap (λ (words : List (List ℕ)). drop i words) h

numbers : (m n : ℕ) → Fits m → Fits n → decimal m ≡ decimal n → m ≡ n
numbers m n p q h = decimal_injective m n p q h

target_same : (c t d u : ℕ) → Fits c × Fits t → Fits d × Fits u → scope_text (scopes.Target c t) ≡ scope_text (scopes.Target d u) → scopes.Target c t ≡ scopes.Target d u
target_same c t d u p q h =
    let parts = cut 58 (decimal c) (decimal d) (decimal t) (decimal u) (decimal_lacks 58 c above p.0) (decimal_lacks 58 d above q.0) h in
    ap (λ (n : ℕ). scopes.Target n t) (numbers c d p.0 q.0 parts.0) ∙ ap (λ (n : ℕ). scopes.Target d n) (numbers t u p.1 q.1 parts.1)

said_same : (x y : ProbeSay) → SaidFits x → SaidFits y → said_words x ≡ said_words y → x ≡ y
said_same (Answered a) (Answered b) p q h = ap Answered (answer_same a b p q h)
said_same Silent Silent p q h = refl
said_same x y p q h = absurd (apart _ _ refl (ap length h))

-- a level has one kind of scope
scope_same : (level : ℕ) (x y : Scope) → ScopeFits x → ScopeFits y → is_aimed_at level x ≡ true → is_aimed_at level y ≡ true → scope_text x ≡ scope_text y → x ≡ y
scope_same level (scopes.Cmd c) (scopes.Cmd d) f g p q h = ap (λ (n : ℕ). scopes.Cmd (record { 0 = n })) (numbers c.0 d.0 f g h)
scope_same level (scopes.Dev d) (scopes.Dev e) f g p q h = ap scopes.Dev (address_same d e f g h)
scope_same level (scopes.Target c t) (scopes.Target d u) f g p q h = target_same c t d u f g h
scope_same level (scopes.Bus c) (scopes.Bus d) f g p q h = ap scopes.Bus (numbers c d f g h)
scope_same level scopes.Host scopes.Host f g p q h = refl
scope_same level x y f g p q h = absurd (grind (arith, common_steps, p, q))

act_same : (k l : ℕ) (x y : Scope) (ok oj : Bool) → EntryFits (Act k x ok) → EntryFits (Act l y oj) → IsAimed (Act k x ok) → IsAimed (Act l y oj)
    → entry_words (Act k x ok) ≡ entry_words (Act l y oj) → Act k x ok ≡ Act l y oj
act_same k l x y ok oj f g p q h =
    let level = numbers k l f.0 g.0 (word h 1) in
    three_is Act level (scope_same k x y f.1 g.1 p (subst (λ (n : ℕ). is_aimed_at n y ≡ true) (sym level) q) (word h 2)) (ok_same ok oj (word h 3))

entry_same : (e f : Entry) → EntryFits e → EntryFits f → IsAimed e → IsAimed f → entry_words e ≡ entry_words f → e ≡ f
entry_same (Took c) (Took d) f g p q h = ap (λ (x : ℕ). Took (record { 0 = x })) (numbers c.0 d.0 f g (word h 1))
entry_same (Sent c n t) (Sent d m u) f g p q h =
    three_is (λ (x y z : ℕ). Sent (record { 0 = x }) (record { 0 = y }) (record { 0 = z })) (numbers c.0 d.0 f.0 g.0 (word h 1)) (numbers n.0 m.0 f.1 g.1 (word h 2)) (numbers t.0 u.0 f.2 g.2 (word h 3))
entry_same (Bounced c n s) (Bounced d m t) f g p q h =
    three_is (λ (x y : ℕ) (z : BusyOf). Bounced (record { 0 = x }) (record { 0 = y }) z) (numbers c.0 d.0 f.0 g.0 (word h 1)) (numbers n.0 m.0 f.1 g.1 (word h 2)) (busy_same s t (word h 3))
entry_same (Ready n a) (Ready m b) f g p q h =
    two_is (λ (x : ℕ) (y : Answer). Ready (record { 0 = x }) y) (numbers n.0 m.0 f.0 g.0 (word h 1)) (answer_same a b f.1 g.1 (after h 2))
entry_same (Due n) (Due m) f g p q h = ap (λ (x : ℕ). Due (record { 0 = x })) (numbers n.0 m.0 f g (word h 1))
entry_same (Longer n) (Longer m) f g p q h = ap (λ (x : ℕ). Longer (record { 0 = x })) (numbers n.0 m.0 f g (word h 1))
entry_same (DoneSaid n) (DoneSaid m) f g p q h = ap (λ (x : ℕ). DoneSaid (record { 0 = x })) (numbers n.0 m.0 f g (word h 1))
entry_same (Owned n s) (Owned m t) f g p q h =
    two_is (λ (x : ℕ) (y : By). Owned (record { 0 = x }) y) (numbers n.0 m.0 f g (word h 1)) (by_same s t (word h 2))
entry_same (Late n) (Late m) f g p q h = ap (λ (x : ℕ). Late (record { 0 = x })) (numbers n.0 m.0 f g (word h 1))
entry_same (Judged c n s) (Judged d m t) f g p q h =
    three_is (λ (x y : ℕ) (z : Disp). Judged (record { 0 = x }) (record { 0 = y }) z) (numbers c.0 d.0 f.0 g.0 (word h 1)) (numbers n.0 m.0 f.1 g.1 (word h 2)) (disp_same s t (word h 3))
entry_same (AbortSet c n) (AbortSet d m) f g p q h =
    two_is (λ (x y : ℕ). AbortSet (record { 0 = x }) (record { 0 = y })) (numbers c.0 d.0 f.0 g.0 (word h 1)) (numbers n.0 m.0 f.1 g.1 (word h 2))
entry_same (Aborted c n s) (Aborted d m t) f g p q h =
    three_is (λ (x y : ℕ) (z : Bool). Aborted (record { 0 = x }) (record { 0 = y }) z) (numbers c.0 d.0 f.0 g.0 (word h 1)) (numbers n.0 m.0 f.1 g.1 (word h 2)) (ok_same s t (word h 3))
entry_same (Failed c n s) (Failed d m t) f g p q h =
    three_is (λ (x y : ℕ) (z : Bool). Failed (record { 0 = x }) (record { 0 = y }) z) (numbers c.0 d.0 f.0 g.0 (word h 1)) (numbers n.0 m.0 f.1 g.1 (word h 2)) (failed_same s t (word h 3))
entry_same (Cleared c k) (Cleared d l) f g p q h =
    two_is (λ (x y : ℕ). Cleared (record { 0 = x }) y) (numbers c.0 d.0 f.0 g.0 (word h 1)) (numbers k l f.1 g.1 (word h 2))
entry_same (Sensed c n s) (Sensed d m t) f g p q h =
    three_is (λ (x y : ℕ) (z : SenseBytes). Sensed (record { 0 = x }) (record { 0 = y }) z) (numbers c.0 d.0 f.0 g.0 (word h 1)) (numbers n.0 m.0 f.1 g.1 (word h 2))
    (same_sense s t (hex_text_same (sense_list s) (sense_list t) f.2 g.2 (word h 3)))
entry_same (Again c s) (Again d t) f g p q h =
    two_is (λ (x : ℕ) (y : Bool). Again (record { 0 = x }) y) (numbers c.0 d.0 f g (word h 1)) (again_same s t (word h 2))
entry_same (Told c a) (Told d b) f g p q h =
    two_is (λ (x : ℕ) (y : Answer). Told (record { 0 = x }) y) (numbers c.0 d.0 f.0 g.0 (word h 1)) (answer_same a b f.1 g.1 (after h 2))
entry_same EhBegin EhBegin f g p q h = refl
entry_same EhEnd EhEnd f g p q h = refl
entry_same (Act k x ok) (Act l y oj) f g p q h = act_same k l x y ok oj f g p q h
entry_same (Probe d k s) (Probe e l t) f g p q h =
    three_is Probe (address_same d e f.0 g.0 (word h 1)) (hex_byte_same k l f.1 g.1 (word h 2)) (said_same s t f.2 g.2 (after h 3))
entry_same (Offline d) (Offline e) f g p q h = ap Offline (address_same d e f g (word h 1))
entry_same (State d s) (State e t) f g p q h = two_is State (address_same d e f g (word h 1)) (state_same s t (word h 2))
entry_same Tick Tick f g p q h = refl
entry_same e f x y p q h = absurd (apart _ _ refl (ap kind h))

some_words : (e : Entry) → 0 < length (entry_words e)
some_words Tick = omega arith
some_words e = omega arith

words_same : (vs ws : List (List ℕ)) → 0 < length vs → 0 < length ws → AllLack 32 vs → AllLack 32 ws → join_with_byte 32 vs ≡ join_with_byte 32 ws → vs ≡ ws
words_same [] ws l m p q h = absurd (omega (arith, l))
words_same (v ∷ vs) [] l m p q h = absurd (omega (arith, m))
words_same (v ∷ vs) (w ∷ ws) l m p q h = same_parts 32 v w vs ws p q h

pub line_same : (t u : ℕ) (e f : Entry) → Fits t → Fits u → EntryFits e → EntryFits f → IsAimed e → IsAimed f → entry_line t e ≡ entry_line u f → (t ≡ u) × (e ≡ f)
line_same t u e f k l x y p q h =
    let bare = append_cancel_right (decimal t ++ (32 ∷ entry_text e)) (decimal u ++ (32 ∷ entry_text f)) (10 ∷ []) h in
    let parts = cut 32 (decimal t) (decimal u) (entry_text e) (entry_text f) (number_lacks t k) (number_lacks u l) bare in
    let words = words_same (entry_words e) (entry_words f) (some_words e) (some_words f) (entry_lacks e x) (entry_lacks f y) parts.1 in
    (numbers t u k l parts.0, entry_same e f x y p q words)
