-- The tables, asked row by row: of each list of cases what each of them comes to.
use Rattle.std.specs.Prelude.{ℕ, Bool, true, false, List, [], ◌∷◌, map, Some}
use Rattle.mid_base.specs.declared.answers.Answer.{Answer}
use Rattle.mid_base.specs.declared.answers.BusyOf.TheVariants.{Host as HostBusy}
use Rattle.mid_base.specs.declared.answers.By.TheVariants.{Answer as ByAnswer, Expiry as ByExpiry}
use Rattle.mid_base.specs.declared.answers.Disp.{Disp}
use Rattle.mid_base.specs.declared.answers.Disp.TheVariants.{Success}
use Rattle.mid_base.specs.declared.answers.Scope.{Scope}
use Rattle.mid_base.specs.declared.answers.Scope.TheVariants.{Cmd, Dev, Target, Bus, Host}
use Rattle.mid_base.specs.declared.entries.Entry.{Entry}
use Rattle.mid_base.specs.declared.entries.Entry.TheVariants.{Act, EhBegin, EhEnd, Offline, State, Tick}
use Rattle.mid_base.specs.declared.names.DevAddr.{DevAddr}
use Rattle.mid_base.specs.declared.states.DeviceState.{DeviceState}
use Rattle.mid_base.specs.declared.states.DeviceState.TheVariants.{Created, Running, Quiesce, Block, Offline as OfflineState, Cancel, Del}
use Rattle.mid_base.specs.declared.states.HostState.{HostState}
use Rattle.mid_base.specs.declared.states.HostState.TheVariants as host
use Rattle.disposition.specs.Disp.{disp, check_sense}
use Rattle.mid_base.specs.Levels.{can_succeed, can_fail, level_of}
use Rattle.disposition.specs.Ladder.{is_in_scope, same_scope}
use Rattle.disposition.specs.declared.todo.Todo.{Todo}
use Rattle.worked_journals.specs.Hosts.{at, unit}
use Rattle.worked_journals.specs.Say.{bare, fine, fixed_bytes, was_reset, took, sent, bounced, ready, due, longer, done_said, owned, late, judged, abort_set, aborted, failed, cleared, sensed, again, told, probe}

abbrev pub device_states : List DeviceState
device_states = Created ∷ Running ∷ Quiesce ∷ Block ∷ OfflineState ∷ Cancel ∷ Del ∷ []

abbrev pub host_states : List HostState
host_states = host.Created ∷ host.Running ∷ host.Recovery ∷ host.Cancel ∷ host.CancelRecovery ∷ host.DelRecovery ∷ host.Del ∷ []

-- what host bytes come to, with GOOD; the first retry is allowed, and the device online
abbrev pub of_hosts : List ℕ → List Disp
of_hosts = map (λ h. disp (bare h 0) 0 1 false true)

-- what statuses come to, with DID_OK and without sense data
abbrev pub of_statuses : List ℕ → List Disp
of_statuses = map (λ status. disp (bare 0 status) 0 1 false true)

-- what an answer comes to after so many retries of those allowed
abbrev pub of_retries : Answer → List (ℕ × ℕ) → List Disp
of_retries a = map (λ counts. disp a counts.0 counts.1 false true)

-- what additional codes come to under a key
abbrev pub of_codes : ℕ → List (ℕ × ℕ) → List Disp
of_codes key = map (λ code. check_sense (fixed_bytes key code))

-- what keys come to with an additional code
abbrev pub of_keys : ℕ × ℕ → List ℕ → List Disp
of_keys code = map (λ key. check_sense (fixed_bytes key code))

-- sense data of an earlier command: response codes 71h and 73h
abbrev pub deferred_fixed : List ℕ
deferred_fixed = 113 ∷ 0 ∷ 5 ∷ 0 ∷ 0 ∷ 0 ∷ 0 ∷ 10 ∷ 0 ∷ 0 ∷ 0 ∷ 0 ∷ 32 ∷ 0 ∷ 0 ∷ 0 ∷ 0 ∷ 0 ∷ []

abbrev pub deferred_descriptor : List ℕ
deferred_descriptor = 115 ∷ 2 ∷ 4 ∷ 2 ∷ 0 ∷ 0 ∷ 0 ∷ 0 ∷ []

abbrev pub levels : List ℕ
levels = 0 ∷ 1 ∷ 2 ∷ 3 ∷ 4 ∷ 5 ∷ 6 ∷ 7 ∷ 8 ∷ 9 ∷ []

-- whether an act of each level may be ok, with these callbacks
abbrev pub may_be_ok : ℕ → List Bool
may_be_ok callbacks = map (λ level. can_succeed (record { 0 = callbacks }) (level_of level)) levels

abbrev pub may_have_failed : List Bool
may_have_failed = map (λ level. can_fail (level_of level)) levels

-- a command that failed, on a device
abbrev pub failed_on : DevAddr → ℕ → Todo
failed_on d c = record { cmd = record { 0 = c }; n = record { 0 = 9 }; dev = d; cancelled = true; answer = Some fine; cx = record { retries = 0; allowed = 5; failfast = false; online = true } }

abbrev pub scopes : List Scope
scopes = Cmd (record { 0 = 1 }) ∷ Dev (at 1 2 3) ∷ Target 1 2 ∷ Bus 1 ∷ Host ∷ []

-- which of those scopes have command c on a device
abbrev pub in_scopes : DevAddr → ℕ → List Bool
in_scopes d c = map (λ scope. is_in_scope scope (failed_on d c)) scopes

-- which of those scopes are the same as this one
abbrev pub same_scopes : Scope → List Bool
same_scopes x = map (same_scope x) scopes

-- an entry of each kind that names command 2
abbrev pub own_entries : List Entry
own_entries =
    took 2 ∷ sent 2 5 0 ∷ bounced 2 5 HostBusy ∷ judged 2 5 Success ∷ abort_set 2 5 ∷ aborted 2 5 true ∷ failed 2 5 true ∷
    cleared 2 4 ∷ sensed 2 5 was_reset ∷ again 2 true ∷ told 2 fine ∷ []

-- and one of each other kind, with that number
abbrev pub other_entries : List Entry
other_entries =
    ready 2 fine ∷ due 2 ∷ longer 2 ∷ done_said 2 ∷ owned 2 ByAnswer ∷ late 2 ∷ EhBegin ∷ EhEnd ∷ Act 7 Host true ∷
    probe 2 fine ∷ Offline unit ∷ State unit Running ∷ Tick ∷ []

-- one entry of each kind that may begin a group, and two that are owed
abbrev pub openers : List Entry
openers =
    took 1 ∷ sent 1 1 0 ∷ bounced 1 1 HostBusy ∷ ready 1 fine ∷ due 1 ∷ longer 1 ∷ done_said 1 ∷ owned 1 ByAnswer ∷ owned 1 ByExpiry ∷
    late 1 ∷ judged 1 1 Success ∷ abort_set 1 1 ∷ aborted 1 1 true ∷ failed 1 1 true ∷ cleared 1 4 ∷ again 1 true ∷ told 1 fine ∷
    EhBegin ∷ EhEnd ∷ Act 7 Host true ∷ State unit Running ∷ Tick ∷ []
