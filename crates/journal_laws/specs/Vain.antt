-- A journal without the answers that came too late. X and P have the newest entry first; P is a part of X.
use Rattle.std.specs.Prelude.{Bool, true, false, not, ◌||◌, if◌then◌else◌, List, [], ◌∷◌, reverse, filter}
use Rattle.mid_base.specs.declared.entries.Entry.{Entry}
use Rattle.mid_base.specs.declared.entries.Entry.TheVariants.{Ready, Late}
use Rattle.trace_model.specs.Attempts.{is_wanted, owner, is_by_expiry}

-- e after P is in vain: a stray answer, a good one whose attempt its expiry owns in X, or the ignoring of one
abbrev pub is_vain : List Entry → Entry → List Entry → Bool
is_vain X (Ready n a) P = not (is_wanted n.0 P) || is_by_expiry (owner n.0 X)
is_vain X (Late n) P = true
is_vain X e P = false

abbrev pub without_vain : List Entry → List Entry → List Entry
without_vain X [] = []
without_vain X (e ∷ P) = if is_vain X e P then without_vain X P else e ∷ without_vain X P

-- a journal without them
abbrev pub without_late : List Entry → List Entry
without_late journal = reverse (without_vain (reverse journal) (reverse journal))

-- an answer, or the ignoring of one
abbrev pub is_reply : Entry → Bool
is_reply (Ready n a) = true
is_reply (Late n) = true
is_reply e = false

abbrev pub without_replies : List Entry → List Entry
without_replies journal = filter (λ e. not (is_reply e)) journal
