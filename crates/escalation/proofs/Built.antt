-- The rungs of a list are its pairs.
use Rattle.std.proofs.Common.{◌≡◌, ℕ, List, [], ◌∷◌, ◌++◌, map, refl, sym, ap, ◌∙◌, append_assoc}
use Rattle.std.proofs.lemmas.List.{map-append}
use Rattle.mid_base.specs.declared.names.DevAddr.{DevAddr}
use Rattle.mid_base.specs.declared.answers.Scope.{Scope}
use Rattle.mid_base.specs.declared.answers.Scope.TheVariants.{Cmd, Dev, Target, Bus, Host}
use Rattle.mid_base.specs.Levels.{number, fetch_sense, abort, start_unit, reset_device, reset_target, reset_bus, reset_host, give_up}
use Rattle.disposition.specs.declared.todo.Todo.{Todo}
use Rattle.disposition.specs.Ladder.{Pair, pairs, devs}
use Rattle.escalation.specs.declared.rungs.Rung.{Rung}
use Rattle.escalation.specs.declared.rungs.Rung.TheVariants.{ResetHost}
use Rattle.escalation.specs.Rungs.{pair_at, on_device, fetches, aborts}

paired : {X Y : Type 0} (f : X → Rung) (u : X → Y) (g : Y → Pair) → ((x : X) → pair_at (f x) ≡ g (u x)) → (xs : List X) → map pair_at (map f xs) ≡ map g (map u xs)
paired f u g h [] = refl
paired f u g h (x ∷ xs) = ap (λ (p : Pair). p ∷ map pair_at (map f xs)) (h x) ∙ ap (λ (ps : List Pair). g (u x) ∷ ps) (paired f u g h xs)

paired_devs : (f : DevAddr → Rung) (g : DevAddr → Pair) → ((d : DevAddr) → pair_at (f d) ≡ g d) → (ds : List DevAddr) → map pair_at (map f ds) ≡ map g ds
paired_devs f g h [] = refl
paired_devs f g h (d ∷ ds) = ap (λ (p : Pair). p ∷ map pair_at (map f ds)) (h d) ∙ ap (λ (ps : List Pair). g d ∷ ps) (paired_devs f g h ds)

grow : (a b c : List Rung) (ps qs : List Pair) → b ≡ a ++ c → map pair_at a ≡ ps → map pair_at c ≡ qs → map pair_at b ≡ ps ++ qs
grow a b c ps qs e h k = ap (map pair_at) e ∙ (map-append pair_at a c ∙ (ap (λ (r : List Pair). r ++ map pair_at c) h ∙ ap (λ (r : List Pair). ps ++ r) k))

flat : (F A S D T B G : List Pair) (h : Pair) → (((((([] ++ F) ++ A) ++ S) ++ D) ++ T) ++ B) ++ (h ∷ []) ++ G ≡ F ++ (A ++ (S ++ (D ++ (T ++ (B ++ (h ∷ G))))))
flat F A S D T B G h = simp (append_assoc) refl

pub built : (xs t1 t2 : List Todo) (d3 d4 d5 d6 d8 : List DevAddr) (a0 a1 a2 a3 a4 a5 a6 a7 a8 : List Rung) → a0 ≡ [] → t1 ≡ xs → t2 ≡ xs → d3 ≡ devs xs → d4 ≡ devs xs → d5 ≡ devs xs → d6 ≡ devs xs → d8 ≡ devs xs
    → a1 ≡ a0 ++ map fetches t1 → a2 ≡ a1 ++ map aborts t2 → a3 ≡ a2 ++ map (on_device start_unit) d3 → a4 ≡ a3 ++ map (on_device reset_device) d4 → a5 ≡ a4 ++ map (on_device reset_target) d5 → a6 ≡ a5 ++ map (on_device reset_bus) d6
    → a7 ≡ a6 ++ ResetHost ∷ [] → a8 ≡ a7 ++ map (on_device give_up) d8 → map pair_at a8 ≡ pairs xs
built xs t1 t2 d3 d4 d5 d6 d8 a0 a1 a2 a3 a4 a5 a6 a7 a8 z i1 i2 i3 i4 i5 i6 i8 e1 e2 e3 e4 e5 e6 e7 e8 =
    let cmds : List Scope = map (λ (x : Todo). Cmd x.cmd) xs in
    let ds : List DevAddr = devs xs in
    let F : List Pair = map (λ (c : Scope). (number fetch_sense, c)) cmds in
    let A : List Pair = map (λ (c : Scope). (number abort, c)) cmds in
    let S : List Pair = map (λ (d : DevAddr). (number start_unit, Dev d)) ds in
    let D : List Pair = map (λ (d : DevAddr). (number reset_device, Dev d)) ds in
    let T : List Pair = map (λ (d : DevAddr). (number reset_target, Target d.channel d.target)) ds in
    let B : List Pair = map (λ (d : DevAddr). (number reset_bus, Bus d.channel)) ds in
    let G : List Pair = map (λ (d : DevAddr). (number give_up, Dev d)) ds in
    let m0 : map pair_at a0 ≡ [] = ap (map pair_at) z in
    let k1 : map pair_at (map fetches t1) ≡ F = ap (λ (t : List Todo). map pair_at (map fetches t)) i1 ∙ paired fetches (λ (x : Todo). Cmd x.cmd) (λ (c : Scope). (number fetch_sense, c)) (λ x. refl) xs in
    let k2 : map pair_at (map aborts t2) ≡ A = ap (λ (t : List Todo). map pair_at (map aborts t)) i2 ∙ paired aborts (λ (x : Todo). Cmd x.cmd) (λ (c : Scope). (number abort, c)) (λ x. refl) xs in
    let k3 : map pair_at (map (on_device start_unit) d3) ≡ S = ap (λ (d : List DevAddr). map pair_at (map (on_device start_unit) d)) i3 ∙ paired_devs (on_device start_unit) (λ (d : DevAddr). (number start_unit, Dev d)) (λ d. refl) ds in
    let k4 : map pair_at (map (on_device reset_device) d4) ≡ D = ap (λ (d : List DevAddr). map pair_at (map (on_device reset_device) d)) i4 ∙ paired_devs (on_device reset_device) (λ (d : DevAddr). (number reset_device, Dev d)) (λ d. refl) ds in
    let k5 : map pair_at (map (on_device reset_target) d5) ≡ T = ap (λ (d : List DevAddr). map pair_at (map (on_device reset_target) d)) i5 ∙ paired_devs (on_device reset_target) (λ (d : DevAddr). (number reset_target, Target d.channel d.target)) (λ d. refl) ds in
    let k6 : map pair_at (map (on_device reset_bus) d6) ≡ B = ap (λ (d : List DevAddr). map pair_at (map (on_device reset_bus) d)) i6 ∙ paired_devs (on_device reset_bus) (λ (d : DevAddr). (number reset_bus, Bus d.channel)) (λ d. refl) ds in
    let k8 : map pair_at (map (on_device give_up) d8) ≡ G = ap (λ (d : List DevAddr). map pair_at (map (on_device give_up) d)) i8 ∙ paired_devs (on_device give_up) (λ (d : DevAddr). (number give_up, Dev d)) (λ d. refl) ds in
    let m1 = grow a0 a1 (map fetches t1) [] F e1 m0 k1 in
    let m2 = grow a1 a2 (map aborts t2) ([] ++ F) A e2 m1 k2 in
    let m3 = grow a2 a3 (map (on_device start_unit) d3) (([] ++ F) ++ A) S e3 m2 k3 in
    let m4 = grow a3 a4 (map (on_device reset_device) d4) ((([] ++ F) ++ A) ++ S) D e4 m3 k4 in
    let m5 = grow a4 a5 (map (on_device reset_target) d5) (((([] ++ F) ++ A) ++ S) ++ D) T e5 m4 k5 in
    let m6 = grow a5 a6 (map (on_device reset_bus) d6) ((((([] ++ F) ++ A) ++ S) ++ D) ++ T) B e6 m5 k6 in
    let m7 = grow a6 a7 (ResetHost ∷ []) (((((([] ++ F) ++ A) ++ S) ++ D) ++ T) ++ B) ((number reset_host, Host) ∷ []) e7 m6 refl in
    grow a7 a8 (map (on_device give_up) d8) ((((((([] ++ F) ++ A) ++ S) ++ D) ++ T) ++ B) ++ ((number reset_host, Host) ∷ [])) G e8 m7 k8
    ∙ flat F A S D T B G (number reset_host, Host)
