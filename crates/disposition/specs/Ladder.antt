-- The ladder over a list of failed commands: levels, scopes and the next act. Nothing here looks at a journal.
use Rattle.std.specs.Prelude.{ℕ, ◌+◌, ◌*◌, ◌==◌, Bool, true, false, not, ◌&&◌, if◌then◌else◌, List, [], ◌∷◌, ◌++◌, map, Option, None, Some, find, nat_lt}
use Rattle.std.specs.List.{list_any}
use Rattle.mid_base.specs.Bytes.{sense_list}
use Rattle.mid_base.specs.declared.names.DevAddr.{DevAddr}
use Rattle.mid_base.specs.declared.answers.Answer.{Answer}
use Rattle.mid_base.specs.declared.answers.Scope.{Scope}
use Rattle.mid_base.specs.declared.answers.Scope.TheVariants.{Cmd, Dev, Target, Bus, Host}
use Rattle.mid_base.specs.Address.{same_dev, in_scope}
use Rattle.mid_base.specs.Codes.{did_ok, check_condition}
use Rattle.mid_base.specs.Levels.{Level, not_online, fetch_sense, abort, start_unit, reset_device, reset_target, reset_bus, reset_host, give_up, no_level, number, level_of}
use Rattle.sense_data.specs.Grammar.{is_valid_sense}
use Rattle.disposition.specs.Disp.{check_sense, is_fail}
use Rattle.disposition.specs.declared.todo.Todo.{Todo}

abbrev pub wants_sense : Option Answer → Bool
wants_sense None = false
wants_sense (Some a) = (a.host.0 == did_ok) && (a.status == check_condition) && not (is_valid_sense (sense_list a.sense))

-- its sense asks for a start of the unit
abbrev pub wants_start : Option Answer → Bool
wants_start None = false
wants_start (Some a) = is_valid_sense (sense_list a.sense) && is_fail (check_sense (sense_list a.sense))

-- a command's own scope has it, or that of a reset has its device
abbrev pub is_in_scope : Scope → Todo → Bool
is_in_scope (Cmd c) x = x.cmd.0 == c.0
is_in_scope scope x = in_scope scope x.dev

-- x is of the kind that a level is for; `aborts` says whether the ladder has level 2
abbrev pub is_of_kind : Bool → Level → List Todo → Todo → Bool
is_of_kind aborts fetch_sense xs x = not x.cancelled && wants_sense x.answer
is_of_kind aborts abort xs x = x.cancelled && aborts
is_of_kind aborts start_unit xs x = wants_start x.answer && not (list_any (λ y. y.cancelled && same_dev y.dev x.dev) xs)
is_of_kind aborts not_online xs x = false
is_of_kind aborts no_level xs x = false
is_of_kind aborts _ xs x = true

-- the place of a device in address order
abbrev pub address : DevAddr → ℕ
address d = (d.channel * 256 + d.target) * 65536 + d.lun

-- devices in address order, each once
abbrev pub with_dev : DevAddr → List DevAddr → List DevAddr
with_dev d [] = d ∷ []
with_dev d (e ∷ es) = if same_dev d e then e ∷ es else if nat_lt (address d) (address e) then d ∷ e ∷ es else e ∷ with_dev d es

abbrev pub devs : List Todo → List DevAddr
devs [] = []
devs (x ∷ xs) = with_dev x.dev (devs xs)

-- an act is of a level on a scope
abbrev pub Pair : Type 0
Pair = ℕ × Scope

abbrev pub same_scope : Scope → Scope → Bool
same_scope (Cmd c) (Cmd d) = c.0 == d.0
same_scope (Dev d) (Dev e) = same_dev d e
same_scope (Target c t) (Target d u) = (c == d) && (t == u)
same_scope (Bus c) (Bus d) = c == d
same_scope Host Host = true
same_scope x y = false

abbrev pub same_pair : Pair → Pair → Bool
same_pair p q = (p.0 == q.0) && same_scope p.1 q.1

-- each pair that a list could want, in order
abbrev pub pairs : List Todo → List Pair
pairs xs =
    let cmds = map (λ x. Cmd x.cmd) xs in
    let ds = devs xs in
    map (λ c. (number fetch_sense, c)) cmds ++ (map (λ c. (number abort, c)) cmds
    ++ (map (λ d. (number start_unit, Dev d)) ds ++ (map (λ d. (number reset_device, Dev d)) ds
    ++ (map (λ d. (number reset_target, Target d.channel d.target)) ds ++ (map (λ d. (number reset_bus, Bus d.channel)) ds
    ++ ((number reset_host, Host) ∷ map (λ d. (number give_up, Dev d)) ds))))))

abbrev pub is_wanted_pair : Bool → List Todo → Pair → Bool
is_wanted_pair aborts xs p = list_any (λ x. is_in_scope p.1 x && is_of_kind aborts (level_of p.0) xs x) xs

-- what stands beyond the last place of p
abbrev pub beyond_pair : Pair → List Pair → List Pair
beyond_pair p [] = []
beyond_pair p (q ∷ qs) = if same_pair p q && not (list_any (same_pair p) qs) then qs else beyond_pair p qs

abbrev pub beyond : Option Pair → List Pair → List Pair
beyond None ps = ps
beyond (Some p) ps = beyond_pair p ps

-- the least pair that a list wants above the last one; `all` are the failed commands, the cleared ones too
abbrev pub next_of : Bool → Option Pair → List Todo → List Todo → Option Pair
next_of aborts last all xs = find (is_wanted_pair aborts xs) (beyond last (pairs all))
