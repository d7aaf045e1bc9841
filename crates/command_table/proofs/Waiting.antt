-- What a write at a place changes of the commands that wait.
use Rattle.std.proofs.Common.{◌≡◌, ◌≢◌, ◌∙◌, sym, ap, subst, refl, ℕ, zero, suc, ◌==◌, Bool, true, false, not, ◌&&◌, ◌||◌, cond, List, [], ◌∷◌, ◌++◌, length, set, Option, None, Some, arith, inl, inr}
use Rattle.std.specs.Prelude.{slice_get}
use Rattle.std.proofs.lemmas.Bool.{cases_Bool, false≢true, eq-eqb, eqb-true, ne_eqb}
use Rattle.std.proofs.lemmas.Option.{same_Some, none-some, slice_get_past}
use Rattle.trace_model.specs.Commands.{waits, is_new}
use Rattle.command_table.specs.declared.rows.CommandRow.{CommandRow}
use Rattle.command_table.specs.declared.rows.Taken.{Taken}
use Rattle.command_table.specs.Rows.{waits_row, waits_taken, waits_at}
use Rattle.command_table.specs.CommandsAgree.{IsPlaced, ArePlaced}
use Rattle.command_table.proofs.Places.{get_set}
use Rattle.command_table.proofs.Entries.{get_push_old, get_push_new}

and_none : (b : Bool) → b && false ≡ false
and_none true = refl
and_none false = refl

-- one taken command after a write at the place of another, or at its own
elsewhere : (rs : List CommandRow) (i : ℕ) (r q : CommandRow) (d : ℕ) (x : Taken) → slice_get rs i ≡ Some r → (i == x.place) ≡ false
    → waits_taken d (set rs i q) (Some x) ≡ waits_taken d rs (Some x)
elsewhere rs i r q d x at isnt = ap (waits_row d) (get_set rs i x.place r q at ∙ ap (λ (b : Bool). cond b (Some q) (slice_get rs x.place)) isnt)

there : (rs : List CommandRow) (i : ℕ) (r q : CommandRow) (d : ℕ) (x : Taken) → slice_get rs i ≡ Some r → (i == x.place) ≡ true
    → waits_taken d (set rs i q) (Some x) ≡ waits_row d (Some q)
there rs i r q d x at is = ap (waits_row d) (get_set rs i x.place r q at ∙ ap (λ (b : Bool). cond b (Some q) (slice_get rs x.place)) is)

-- the order of a row that was taken is that of its place
own_order : (rs : List CommandRow) (xs : List Taken) (i : ℕ) (r : CommandRow) (j : ℕ) (x : Taken) → slice_get rs i ≡ Some r → ArePlaced rs xs
    → slice_get xs j ≡ Some x → (i == x.place) ≡ true → (r.order == j) ≡ true
own_order rs xs i r j x at placed get is =
    let was : IsPlaced rs j x = placed j x get in
    let here : was.row ≡ r = same_Some was.row r (sym was.at ∙ ap (slice_get rs) (sym (eqb-true i x.place is)) ∙ at) in
    eq-eqb r.order j (ap (λ (y : CommandRow). y.order) (sym here) ∙ was.order)

other_order : (xs : List Taken) (i : ℕ) (r : CommandRow) (j : ℕ) (o : Option Taken) → slice_get xs r.order ≡ Some (record { place = i; command = r.id })
    → slice_get xs j ≡ o → ((x : Taken) → o ≡ Some x → (i == x.place) ≡ false) → (r.order == j) ≡ false
other_order xs i r j o own get apart =
    ne_eqb r.order j (λ e. false≢true (sym (apart (record { place = i; command = r.id }) (sym get ∙ ap (slice_get xs) (sym e) ∙ own)) ∙ eq-eqb i i refl))

-- its line has it, where it waits
pub stands_there : (rs : List CommandRow) (xs : List Taken) (i : ℕ) (r : CommandRow) → slice_get rs i ≡ Some r → slice_get xs r.order ≡ Some (record { place = i; command = r.id })
    → waits r.standing ≡ true → waits_at rs xs r.device r.order ≡ true
stands_there rs xs i r at own is =
    ap (waits_taken r.device rs) own
    ∙ ap (waits_row r.device) at
    ∙ ap (λ (b : Bool). b && (r.device == r.device)) is
    ∙ eq-eqb r.device r.device refl

module _ (rs : List CommandRow) (xs : List Taken) (i : ℕ) (r q : CommandRow) (at : slice_get rs i ≡ Some r) (placed : ArePlaced rs xs) where
  -- the command waits no longer
  pub dropped : slice_get xs r.order ≡ Some (record { place = i; command = r.id }) → waits q.standing ≡ false
      → (d j : ℕ) → not (waits r.standing && ((r.device == d) && (r.order == j))) && waits_at rs xs d j ≡ waits_at (set rs i q) xs d j
  dropped own gone d j = by_taken (slice_get xs j) refl
    where
      drop_here : (a b w : Bool) → a ≡ true → not (w && (b && a)) && (w && b) ≡ false
      drop_here true true true h = refl
      drop_here true true false h = refl
      drop_here true false true h = refl
      drop_here true false false h = refl
      drop_here false b w h = absurd (false≢true h)

      drop_there : (a b v w : Bool) → a ≡ false → not (v && (b && a)) && w ≡ w
      drop_there true b v w h = absurd (false≢true (sym h))
      drop_there false true true w h = refl
      drop_there false false true w h = refl
      drop_there false b false w h = refl

      by_taken : (o : Option Taken) → slice_get xs j ≡ o → not (waits r.standing && ((r.device == d) && (r.order == j))) && waits_taken d rs o ≡ waits_taken d (set rs i q) o
      by_taken None get = and_none (not (waits r.standing && ((r.device == d) && (r.order == j))))
      by_taken (Some x) get = elim (cases_Bool (i == x.place)) as (λ _. not (waits r.standing && ((r.device == d) && (r.order == j))) && waits_taken d rs (Some x) ≡ waits_taken d (set rs i q) (Some x)) [
        | inl is ↦
            ap (λ (o : Option CommandRow). not (waits r.standing && ((r.device == d) && (r.order == j))) && waits_row d o) (ap (slice_get rs) (sym (eqb-true i x.place is)) ∙ at)
            ∙ drop_here (r.order == j) (r.device == d) (waits r.standing) (own_order rs xs i r j x at placed get is)
            ∙ sym (there rs i r q d x at is ∙ ap (λ (b : Bool). b && (q.device == d)) gone)
        | inr isnt ↦
            drop_there (r.order == j) (r.device == d) (waits r.standing) (waits_taken d rs (Some x)) (other_order xs i r j (Some x) own get (λ y e. subst (λ (z : Taken). (i == z.place) ≡ false) (same_Some x y e) isnt))
            ∙ sym (elsewhere rs i r q d x at isnt)
      ]

  -- the command waits again
  pub added : slice_get xs r.order ≡ Some (record { place = i; command = r.id }) → waits r.standing ≡ false → waits q.standing ≡ true → q.device ≡ r.device
      → (d j : ℕ) → ((r.device == d) && (r.order == j)) || waits_at rs xs d j ≡ waits_at (set rs i q) xs d j
  added own was now same_device d j = by_taken (slice_get xs j) refl
    where
      add_here : (a b w : Bool) → a ≡ true → w ≡ false → (b && a) || (w && b) ≡ b
      add_here true true w h k = refl
      add_here true false true h k = absurd (false≢true (sym k))
      add_here true false false h k = refl
      add_here false b w h k = absurd (false≢true h)

      add_there : (a b w : Bool) → a ≡ false → (b && a) || w ≡ w
      add_there true b w h = absurd (false≢true (sym h))
      add_there false true w h = refl
      add_there false false w h = refl

      by_taken : (o : Option Taken) → slice_get xs j ≡ o → ((r.device == d) && (r.order == j)) || waits_taken d rs o ≡ waits_taken d (set rs i q) o
      by_taken None get = add_there (r.order == j) (r.device == d) false (other_order xs i r j None own get (λ x e. absurd (none-some x e)))
      by_taken (Some x) get = elim (cases_Bool (i == x.place)) as (λ _. ((r.device == d) && (r.order == j)) || waits_taken d rs (Some x) ≡ waits_taken d (set rs i q) (Some x)) [
        | inl is ↦
            ap (λ (o : Option CommandRow). ((r.device == d) && (r.order == j)) || waits_row d o) (ap (slice_get rs) (sym (eqb-true i x.place is)) ∙ at)
            ∙ add_here (r.order == j) (r.device == d) (waits r.standing) (own_order rs xs i r j x at placed get is) was
            ∙ sym (there rs i r q d x at is ∙ ap (λ (b : Bool). b && (q.device == d)) now ∙ ap (λ (n : ℕ). n == d) same_device)
        | inr isnt ↦
            add_there (r.order == j) (r.device == d) (waits_taken d rs (Some x)) (other_order xs i r j (Some x) own get (λ y e. subst (λ (z : Taken). (i == z.place) ≡ false) (same_Some x y e) isnt))
            ∙ sym (elsewhere rs i r q d x at isnt)
      ]

  -- it waits or not as before
  pub stays : waits q.standing ≡ waits r.standing → q.device ≡ r.device → (d j : ℕ) → waits_at rs xs d j ≡ waits_at (set rs i q) xs d j
  stays still same_device d j = by_taken (slice_get xs j)
    where
      by_taken : (o : Option Taken) → waits_taken d rs o ≡ waits_taken d (set rs i q) o
      by_taken None = refl
      by_taken (Some x) = elim (cases_Bool (i == x.place)) as (λ _. waits_taken d rs (Some x) ≡ waits_taken d (set rs i q) (Some x)) [
        | inl is ↦
            ap (waits_row d) (ap (slice_get rs) (sym (eqb-true i x.place is)) ∙ at)
            ∙ sym (there rs i r q d x at is ∙ ap (λ (b : Bool). b && (q.device == d)) still ∙ ap (λ (n : ℕ). waits r.standing && (n == d)) same_device)
        | inr isnt ↦ sym (elsewhere rs i r q d x at isnt)
      ]

  -- a command that wasn't taken is at none of these places
  untaken : is_new r.standing ≡ true → (j : ℕ) (x : Taken) → slice_get xs j ≡ Some x → (i == x.place) ≡ false
  untaken fresh j x get =
      ne_eqb i x.place (λ e.
      let was : IsPlaced rs j x = placed j x get in
      let here : was.row ≡ r = same_Some was.row r (sym was.at ∙ ap (slice_get rs) (sym e) ∙ at) in
      false≢true (sym was.taken ∙ ap (λ (y : CommandRow). is_new y.standing) here ∙ fresh))

  pub refused : is_new r.standing ≡ true → (d j : ℕ) → waits_at rs xs d j ≡ waits_at (set rs i q) xs d j
  refused fresh d j = by_taken (slice_get xs j) refl
    where
      by_taken : (o : Option Taken) → slice_get xs j ≡ o → waits_taken d rs o ≡ waits_taken d (set rs i q) o
      by_taken None get = refl
      by_taken (Some x) get = sym (elsewhere rs i r q d x at (untaken fresh j x get))

  pub newly_taken : is_new r.standing ≡ true → waits q.standing ≡ true → q.device ≡ r.device
      → (d j : ℕ) → ((r.device == d) && (length xs == j)) || waits_at rs xs d j ≡ waits_at (set rs i q) (xs ++ record { place = i; command = r.id } ∷ []) d j
  newly_taken fresh now same_device d j = by_taken (slice_get xs j) refl
    where
      mine : Taken
      mine = record { place = i; command = r.id }

      or_false : (b w : Bool) → b && false || w ≡ w
      or_false true w = refl
      or_false false w = refl

      and_true_or : (b : Bool) → b && true || false ≡ b
      and_true_or true = refl
      and_true_or false = refl

      by_taken : (o : Option Taken) → slice_get xs j ≡ o → ((r.device == d) && (length xs == j)) || waits_taken d rs o ≡ waits_taken d (set rs i q) (slice_get (xs ++ mine ∷ []) j)
      by_taken (Some x) get =
          let lt : (length xs == j) ≡ false = ne_eqb (length xs) j (λ e. none-some x (sym (slice_get_past xs j (omega (arith, e))) ∙ get)) in
          ap (λ (b : Bool). ((r.device == d) && b) || waits_taken d rs (Some x)) lt
          ∙ or_false (r.device == d) (waits_taken d rs (Some x))
          ∙ sym (ap (waits_taken d (set rs i q)) (get_push_old xs mine x j get) ∙ elsewhere rs i r q d x at (untaken fresh j x get))
      by_taken None get = elim (cases_Bool (length xs == j)) as (λ _. ((r.device == d) && (length xs == j)) || false ≡ waits_taken d (set rs i q) (slice_get (xs ++ mine ∷ []) j)) [
        | inl is ↦
            ap (λ (b : Bool). ((r.device == d) && b) || false) is
            ∙ and_true_or (r.device == d)
            ∙ sym (ap (waits_taken d (set rs i q)) (ap (slice_get (xs ++ mine ∷ [])) (sym (eqb-true (length xs) j is)) ∙ get_push_new xs mine)
            ∙ there rs i r q d mine at (eq-eqb i i refl) ∙ ap (λ (b : Bool). b && (q.device == d)) now ∙ ap (λ (n : ℕ). n == d) same_device)
        | inr isnt ↦
            ap (λ (b : Bool). ((r.device == d) && b) || false) isnt
            ∙ or_false (r.device == d) false
            ∙ sym (ap (waits_taken d (set rs i q)) (beyond xs j (λ e. false≢true (sym isnt ∙ eq-eqb (length xs) j e)) get))
      ]
        where
          beyond : (ys : List Taken) (k : ℕ) → length ys ≢ k → slice_get ys k ≡ None → slice_get (ys ++ mine ∷ []) k ≡ None
          beyond [] zero ne none = absurd (ne refl)
          beyond [] (suc k) ne none = refl
          beyond (y ∷ ys) zero ne none = absurd (none-some y (sym none))
          beyond (y ∷ ys) (suc k) ne none = beyond ys k (λ e. ne (ap suc e)) none
