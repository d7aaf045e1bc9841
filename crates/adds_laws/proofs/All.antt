-- Every step at once.
use Rattle.std.proofs.Common.{◌≡◌, Bool, true, false, List, [], ◌∷◌, refl, sym, ◌∙◌}
use Rattle.mid_base.specs.declared.names.CmdId.{CmdId}
use Rattle.mid_base.specs.declared.names.Attempt.{Attempt}
use Rattle.mid_base.specs.declared.names.Tag.{Tag}
use Rattle.mid_base.specs.declared.entries.Entry.{Entry}
use Rattle.mid_base.specs.declared.entries.Entry.TheVariants.{Sent}
use Rattle.mid_base.specs.declared.steps.Step.{Step}
use Rattle.mid_base.specs.declared.steps.Step.TheVariants.{Submit, Send, Work, Due, Own, Settle, Drop, Abort, EhBegin, EhAct, EhFlush, EhEnd, Tick, SetState}
use Rattle.mid_base.specs.declared.host_spec.HostSpec.{HostSpec}
use Rattle.host_template.specs.Standing.{Before}
use Rattle.trace_model.specs.Steps.{opens, IsAdded}
use Rattle.trace_model.specs.Legal.{onto, Group}
use Rattle.debug_adapter.specs.LowerRun.{LowerRun}
use Rattle.mid_core.specs.Steps.{AddsTo, Opens}
use Rattle.adds_laws.proofs.Along.{Ran, ran, says_there, group_one}
use Rattle.adds_laws.proofs.Plain.{owns_one, drops_one, begins_one, ends_one, ticks_one, sets_one, submits_one}
use Rattle.adds_laws.proofs.Sending.{send_one}
use Rattle.adds_laws.proofs.Waiting.{works_one, asks_one}
use Rattle.adds_laws.proofs.Settling.{settles_one, aborts_one}
use Rattle.adds_laws.proofs.Flushing.{flushes_one}
use Rattle.adds_laws.proofs.Acting.{acts_one}

abbrev is_send : Step → Bool
is_send Send = true
is_send t = false

no_sent : (s : HostSpec) (P : List Entry) (t : Step) (c : CmdId) (n : Attempt) (x : Tag) → is_send t ≡ false → opens s P t (Sent c n x) ≡ true → ⊥
no_sent s P Send c n x e o = cc e
no_sent s P t c n x e o = cc o

-- what another step than Send adds is a group
record Grouped (s : HostSpec) (b : Before) (P : List Entry) (t : Step) (g : List Entry) : Type 0 where
  opener : Entry
  rest : List Entry
  list : g ≡ opener ∷ rest
  opened : opens s P t opener ≡ true
  group : Group s P (opener ∷ rest)
  borne_out : Ran s b (onto rest (opener ∷ P))

grouped : (s : HostSpec) (b : Before) (P : List Entry) (t : Step) (g : List Entry) → is_send t ≡ false → Opens s P t g → IsAdded s P g → Ran s b (onto g P) → Grouped s b P t g
grouped s b P t [] k o a r = absurd o
grouped s b P t (Sent c n x ∷ g) k o a r = absurd (no_sent s P t c n x k o)
grouped s b P t (e ∷ g) k o a r = record { opener = e; rest = g; list = refl; opened = o; group = a; borne_out = r }

same_opener : (s : HostSpec) (b : Before) (P : List Entry) (t : Step) (g h : List Entry) → is_send t ≡ false → (x : Grouped s b P t g) → (y : Grouped s b P t h) → x.opener ≡ y.opener
same_opener s b P Send g h k x y = cc k
same_opener s b P (Submit lane) g h k x y = submits_one s P lane x.opener y.opener x.opened x.group.0 y.opened y.group.0
same_opener s b P Work g h k x y =
    works_one s b P x.opener y.opener x.opened (says_there s b x.opener x.rest P x.borne_out) y.opened (says_there s b y.opener y.rest P y.borne_out)
same_opener s b P Due g h k x y =
    asks_one s b P x.opener y.opener x.opened x.group.0 (says_there s b x.opener x.rest P x.borne_out) y.opened y.group.0 (says_there s b y.opener y.rest P y.borne_out)
same_opener s b P (Own n by) g h k x y = owns_one s P n by x.opener y.opener x.opened y.opened
same_opener s b P (Settle n) g h k x y = settles_one s P n x.opener y.opener x.opened x.group.0 y.opened y.group.0
same_opener s b P (Drop n) g h k x y = drops_one s P n x.opener y.opener x.opened y.opened
same_opener s b P Abort g h k x y =
    aborts_one s b P x.opener y.opener x.opened x.group.0 (says_there s b x.opener x.rest P x.borne_out) y.opened y.group.0 (says_there s b y.opener y.rest P y.borne_out)
same_opener s b P EhBegin g h k x y = begins_one s P x.opener y.opener x.opened y.opened
same_opener s b P EhAct g h k x y = acts_one s b P x.opener y.opener x.rest y.rest x.opened x.group x.borne_out y.opened y.group y.borne_out
same_opener s b P EhFlush g h k x y = flushes_one s P x.opener y.opener x.opened x.group.0 y.opened y.group.0
same_opener s b P EhEnd g h k x y = ends_one s P x.opener y.opener x.opened y.opened
same_opener s b P Tick g h k x y = ticks_one s P x.opener y.opener x.opened y.opened
same_opener s b P (SetState d z) g h k x y = sets_one s P d z x.opener y.opener x.opened y.opened

one_group : (s : HostSpec) (b : Before) (P : List Entry) (t : Step) (g h : List Entry) → is_send t ≡ false → Grouped s b P t g → Grouped s b P t h → g ≡ h
one_group s b P t g h k x y =
    x.list ∙ (group_one s b P x.opener y.opener x.rest y.rest (same_opener s b P t g h k x y) x.group.1 x.borne_out y.group.1 y.borne_out ∙ sym y.list)

pub adds_one : (s : HostSpec) (b : Before) (P : List Entry) (t : Step) (due other : Bool) (g h : List Entry)
    → AddsTo s due P t g → LowerRun s b (onto g P) → AddsTo s other P t h → LowerRun s b (onto h P) → g ≡ h
adds_one s b P Send due other g h x q y r = send_one s b P g h x.opened x.added q y.opened y.added r
adds_one s b P t due other g h x q y r =
    one_group s b P t g h refl (grouped s b P t g refl x.opened x.added (ran s b (onto g P) q)) (grouped s b P t h refl y.opened y.added (ran s b (onto h P) r))
