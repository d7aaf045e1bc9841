-- What a lower layer does with the attempts that it holds, as the journal of a core grows.
use Rattle.std.proofs.Common.{◌≡◌, ◌∙◌, subst, refl, ℕ, Bool, true, false, cond, List, [], ◌∷◌, Option}
use Rattle.mid_base.specs.declared.answers.BusyOf.{BusyOf}
use Rattle.mid_base.specs.declared.entries.Entry.{Entry}
use Rattle.mid_base.specs.declared.entries.Entry.TheVariants as entry
use Rattle.mid_base.specs.declared.host_spec.HostSpec.{HostSpec}
use Rattle.mid_base.specs.declared.names.Attempt.{Attempt}
use Rattle.mid_base.specs.declared.names.CmdId.{CmdId}
use Rattle.mid_base.specs.declared.names.DevAddr.{DevAddr}
use Rattle.mid_base.specs.declared.names.Tag.{Tag}
use Rattle.host_template.specs.declared.queued.Queued.{Queued}
use Rattle.host_template.specs.declared.queued.Queued.TheVariants.{Taken, HostBusy, DeviceBusy}
use Rattle.host_template.specs.Meaning.{Meaning, SameNature, SameMeaning, IfHonest, NothingAdded, HonestQueue}
use Rattle.trace_model.specs.Judging.{has_abort_left}
use Rattle.trace_model.specs.Legal.{ByGroups, Group, onto}
use Rattle.trace_model.specs.Names.{dev_of}
use Rattle.trace_model.specs.Steps.{IsAdded}
use Rattle.held_laws.specs.Held.{IsRight}
use Rattle.held_laws.specs.Steps.{HonestGroup}
use Rattle.held_laws.proofs.Groups.{group_right}
use Rattle.mid_core.specs.Choices.{IsSaidOf, after_expiry, turned_away, who_was_busy}
use Rattle.mid_core.proofs.Staged.{each_of}

-- a lower layer stays what it is, and an honest one does with its attempts what the group tells
abbrev pub Does : HostSpec → List Entry → List Entry → Meaning → Meaning → Type 0
Does s P g old new = SameNature old new × IfHonest (HonestGroup s P g) old new

pub does_right : (s : HostSpec) (P g : List Entry) (old new : Meaning) → ByGroups s P → IsAdded s P g → Does s P g old new → IsRight s P old → IsRight s (onto g P) new
does_right s P g old new legal added does right = group_right s P g old new (each_of s P legal) added does.0 does.1 right

pub one_group : (s : HostSpec) (P g : List Entry) → Group s P g → IsAdded s P g
one_group s P (entry.Sent c n t ∷ entry.Bounced d m why ∷ []) may = absurd may.1.0
one_group s P g may = may

-- one that isn't called stays as it is
pub same_nature : (m : Meaning) → SameNature m m
same_nature m = record { honest = refl; tells = refl }

pub idle : (m : Meaning) → SameNature m m × IfHonest NothingAdded m m
idle m = (same_nature m, λ honest tells n d on. on)

pub expired_does : (s : HostSpec) (P : List Entry) (c : CmdId) (n : Attempt) (m : Meaning) → Does s P (after_expiry s P c n ∷ []) m m
expired_does s P c n m = by (has_abort_left s P c.0)
  where
    by : (b : Bool) → Does s P (cond b (entry.AbortSet c n) (entry.Failed c n true) ∷ []) m m
    by true = idle m
    by false = idle m

-- one that is asked takes no attempt
pub asked_does : (s : HostSpec) (P : List Entry) (n : Attempt) (e : Entry) (old new : Meaning) → IsSaidOf n e → SameNature old new → IfHonest NothingAdded old new → Does s P (e ∷ []) old new
asked_does s P n (entry.Due m) old new said same did = (same, did)
asked_does s P n (entry.Longer m) old new said same did = (same, did)
asked_does s P n (entry.DoneSaid m) old new said same did = (same, did)
asked_does s P n e old new said same did = absurd said

-- a meaning that is the same is so from one to the next
pub same_meaning : (m : Meaning) → SameMeaning m m
same_meaning m = record { nature = same_nature m; holds = λ n d. (λ on. on, λ on. on) }

pub natures : (a b c : Meaning) → SameNature a b → SameNature b c → SameNature a c
natures a b c p q = record { honest = q.honest ∙ p.honest; tells = q.tells ∙ p.tells }

pub meanings : (a b c : Meaning) → SameMeaning a b → SameMeaning b c → SameMeaning a c
meanings a b c p q = record {
  nature = natures a b c p.nature q.nature;
  holds = λ n d. (λ on. (p.holds n d).0 ((q.holds n d).0 on), λ on. (q.holds n d).1 ((p.holds n d).1 on));
}

-- what an attempt that was handed over makes of what is held
honest_queue : (n : ℕ) (dev : DevAddr) (q : Queued) (a b c : Meaning) → SameMeaning a b → HonestQueue n dev q b c → HonestQueue n dev q a c
honest_queue n dev Taken a b c same did = (did.0, did.1, λ m d other on. (same.holds m d).0 (did.2 m d other on))
honest_queue n dev HostBusy a b c same did = (did.0, λ m d on. (same.holds m d).0 (did.1 m d on))
honest_queue n dev DeviceBusy a b c same did = (did.0, λ m d on. (same.holds m d).0 (did.1 m d on))

honest_group : (s : HostSpec) (P : List Entry) (c : CmdId) (n : Attempt) (t : Tag) (q : Queued) (old new : Meaning) → HonestQueue n.0 (dev_of s c.0) q old new
    → HonestGroup s P (entry.Sent c n t ∷ turned_away c n (who_was_busy q)) old new
honest_group s P c n t Taken old new did = did
honest_group s P c n t HostBusy old new did = did
honest_group s P c n t DeviceBusy old new did = did

pub handed_honest : (s : HostSpec) (P : List Entry) (c : CmdId) (n : Attempt) (t : Tag) (dev : DevAddr) (q : Queued) (o : Option BusyOf) (old between new : Meaning) → dev ≡ dev_of s c.0 → who_was_busy q ≡ o
    → SameMeaning old between → IfHonest (HonestQueue n.0 dev q) between new → IfHonest (HonestGroup s P (entry.Sent c n t ∷ turned_away c n o)) old new
handed_honest s P c n t dev q o old between new at busy same did honest tells =
    let queued = honest_queue n.0 dev q old between new same (did (same.nature.honest ∙ honest) (same.nature.tells ∙ tells)) in
    subst (λ (x : Option BusyOf). HonestGroup s P (entry.Sent c n t ∷ turned_away c n x) old new) busy
    (honest_group s P c n t q old new (subst (λ (d : DevAddr). HonestQueue n.0 d q old new) at queued))
