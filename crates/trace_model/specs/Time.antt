-- Deadlines, and when time goes on.
use Rattle.std.specs.Prelude.{ℕ, ◌+◌, ◌*◌, ◌==◌, Bool, not, ◌&&◌, ◌||◌, List, nat_le, nat_lt}
use Rattle.std.specs.List.{list_any, list_all}
use Rattle.mid_base.specs.declared.entries.Entry.{Entry}
use Rattle.mid_base.specs.declared.host_spec.HostSpec.{HostSpec}
use Rattle.mid_base.specs.Past.{ticks, sent_for}
use Rattle.trace_model.specs.Names.{command}
use Rattle.trace_model.specs.Attempts.{attempts, sent_at, is_open, is_answered, late, answered, longers, is_due, is_said_done}

abbrev pub deadline : HostSpec → List Entry → ℕ → ℕ
deadline s P n = sent_at n P + (command s (sent_for n P)).timeout * (1 + longers n P)

-- n is due for asking
abbrev pub is_expired : HostSpec → List Entry → ℕ → Bool
is_expired s P n = is_open n P && nat_le (deadline s P n) (ticks P) && not (is_due n P) && not (is_said_done n P)

-- its deadline is the least, and its number among equal ones
abbrev pub is_before : HostSpec → List Entry → ℕ → ℕ → Bool
is_before s P n m = nat_lt (deadline s P n) (deadline s P m) || ((deadline s P n == deadline s P m) && nat_le n m)

-- n may be asked
abbrev pub may_ask : HostSpec → List Entry → ℕ → Bool
may_ask s P n = is_expired s P n && list_all (λ m. not (is_expired s P m) || is_before s P n m) (attempts P)

-- n waits for its owner
abbrev pub is_claimed : List Entry → ℕ → Bool
is_claimed P n = is_open n P && (is_answered n P || is_due n P)

abbrev pub may_tick : HostSpec → List Entry → Bool
may_tick s P =
    not (list_any (is_claimed P) (attempts P))
    && list_all (λ n. late n P == 0) (answered P)
    && not (list_any (is_expired s P) (attempts P))
