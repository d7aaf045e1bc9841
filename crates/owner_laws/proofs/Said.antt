-- What looking back says, said of the journal: its oldest entry stands first.
use Rattle.std.proofs.Common.{◌≡◌, ◌↔◌, ℕ, ◌+◌, true, ◌∷◌, ◌++◌, Some, reverse, sym, subst}
use Rattle.mid_base.specs.Past.{was_sent, sent_for}
use Rattle.mid_base.specs.declared.answers.By.{By}
use Rattle.mid_base.specs.declared.entries.Entry.{Entry}
use Rattle.mid_base.specs.declared.entries.Entry.TheVariants.{Sent, Owned}
use Rattle.mid_base.specs.declared.host_spec.HostSpec.{HostSpec}
use Rattle.mid_base.specs.declared.names.Attempt.{Attempt}
use Rattle.mid_base.specs.declared.names.CmdId.{CmdId}
use Rattle.mid_base.specs.declared.names.Tag.{Tag}
use Rattle.trace_model.specs.Attempts.{sends, owner}
use Rattle.trace_model.specs.Claims.{tag_for}
use Rattle.trace_model.specs.Legal.{EachStands}
use Rattle.trace_model.proofs.Permitted.{each_before}
use Rattle.host_words.specs.Journals.{Journal, In, HasSent}
use Rattle.host_words.proofs.Owning.{in_first}
use Rattle.owner_laws.specs.Numbers.{WasSent, IsNumbered}
use Rattle.owner_laws.specs.Shown.{ShownUnder}
use Rattle.owner_laws.proofs.Turned.{in_place, turned_place, in_turned, in_unturned}
use Rattle.owner_laws.proofs.Attempts.{sent_stands, number_within, number_sent, sent_once, same_command, same_tag, was_sent_in, in_was_sent, tag_is, command_is, owner_in, in_owner, owned_was_sent}
use Rattle.owner_laws.proofs.Shows.{shown_under}

-- an entry at a place, and what stands behind it for who looks back
each_at : (s : HostSpec) (before after : Journal) (e : Entry) → EachStands s (reverse (before ++ e ∷ after)) → EachStands s (e ∷ reverse before)
each_at s before after e each = each_before s (reverse after) (e ∷ reverse before) (subst (EachStands s) (turned_place before after e) each)

pub said_sent : (journal : Journal) (n : Attempt) → (was_sent n.0 (reverse journal) ≡ true) ↔ WasSent journal n
said_sent journal n = (
  λ h. let r = was_sent_in n (reverse journal) h in ((tag_for n.0 (reverse journal)).0, (r.0, in_unturned _ journal r.1)),
  λ h. in_was_sent h.1.0 n (record { 0 = h.0 }) (reverse journal) (in_turned _ journal h.1.1),
)

pub said_tag : (s : HostSpec) (journal : Journal) (c : CmdId) (n : Attempt) (t : Tag) → EachStands s (reverse journal) → In (Sent c n t) journal → tag_for n.0 (reverse journal) ≡ t
said_tag s journal c n t each h = tag_is s (reverse journal) c n t each (in_turned _ journal h)

pub said_command : (s : HostSpec) (journal : Journal) (c : CmdId) (n : Attempt) (t : Tag) → EachStands s (reverse journal) → In (Sent c n t) journal → sent_for n.0 (reverse journal) ≡ c.0
said_command s journal c n t each h = command_is s (reverse journal) c n t each (in_turned _ journal h)

pub said_owner : (s : HostSpec) (journal : Journal) (n : Attempt) (by : By) → EachStands s (reverse journal) → (owner n.0 (reverse journal) ≡ Some by) ↔ In (Owned n by) journal
said_owner s journal n by each = (
  λ h. in_unturned _ journal (owner_in n by (reverse journal) h),
  λ h. in_owner s n by (reverse journal) each (in_turned _ journal h),
)

pub said_number : (s : HostSpec) (before after : Journal) (c : CmdId) (n : Attempt) (t : Tag) → EachStands s (reverse (before ++ Sent c n t ∷ after)) → n.0 ≡ sends (reverse before) + 1
said_number s before after c n t each = sent_stands s (reverse before) c n t (each_at s before after (Sent c n t) each).0

said_within : (s : HostSpec) (journal : Journal) (n : Attempt) → EachStands s (reverse journal) → WasSent journal n → IsNumbered journal n
said_within s journal n each h = number_within s (reverse journal) h.1.0 n (record { 0 = h.0 }) each (in_turned _ journal h.1.1)

pub said_given : (s : HostSpec) (journal : Journal) (n : Attempt) → EachStands s (reverse journal) → WasSent journal n ↔ IsNumbered journal n
said_given s journal n each = (
  said_within s journal n each,
  λ h. let r = number_sent s (reverse journal) n each h.0 h.1 in (r.1.0, (r.0, in_unturned _ journal r.2)),
)

pub said_once : (s : HostSpec) (journal : Journal) (c d : CmdId) (n : Attempt) (t u : Tag) → EachStands s (reverse journal) → In (Sent c n t) journal → In (Sent d n u) journal → (c ≡ d) × (t ≡ u)
said_once s journal c d n t u each h k =
    let e = sent_once s (reverse journal) c d n t u each (in_turned _ journal h) (in_turned _ journal k) in
    (same_command c d n n t u e, same_tag c d n n t u e)

pub said_before : (s : HostSpec) (before after : Journal) (n : Attempt) (by : By) → EachStands s (reverse (before ++ Owned n by ∷ after)) → WasSent before n
said_before s before after n by each =
    let r = owned_was_sent s (reverse before) n by (each_at s before after (Owned n by) each) in
    ((tag_for n.0 (reverse before)).0, (r.0, in_unturned _ before r.1))

pub said_numbered : (s : HostSpec) (journal : Journal) (n : Attempt) (by : By) → EachStands s (reverse journal) → In (Owned n by) journal → IsNumbered journal n
said_numbered s journal n by each h =
    let p = in_place (Owned n by) journal h in
    let w = said_before s p.0 p.1 n by (subst (λ (j : Journal). EachStands s (reverse j)) p.2 each) in
    said_within s journal n each (w.0, (w.1.0, subst (In (Sent w.1.0 n (record { 0 = w.0 }))) (sym p.2) (in_first _ p.0 (Owned n by ∷ p.1) w.1.1)))

pub said_shown : (s : HostSpec) (journal : Journal) (n : Attempt) (t : ℕ) → EachStands s (reverse journal) → ShownUnder s journal t n → HasSent journal t n
said_shown s journal n t each x = let r = shown_under s (reverse journal) n t x.0 each x.1 x.2 in (r.0, in_unturned _ journal r.1)
