-- Traces: the notes made over a view, the newest note first.
use Rattle.std.specs.Prelude.{◌≡◌, ◌==◌, ℕ, true, List, [], ◌∷◌, Option, Some, None}
use Rattle.std.specs.List.{list_all}
use Rattle.retro_tree.specs.Ask.{answer}
use Rattle.retro_tree.specs.Change.{apply, may_make}
use Rattle.retro_tree.specs.Lawful.{IsLawful}
use Rattle.retro_tree.specs.declared.ask.Ask.{Ask}
use Rattle.retro_tree.specs.declared.ask.Ask.TheVariants as asks
use Rattle.retro_tree.specs.declared.change.Change.{Change}
use Rattle.retro_tree.specs.declared.change.Change.TheVariants as changes
use Rattle.retro_tree.specs.declared.note.Note.{Note}
use Rattle.retro_tree.specs.declared.note.Note.TheVariants.{Asked, Made}
use Rattle.retro_tree.specs.declared.state.State.{State}

-- the state of a view, and the notes made over it, the newest first
pub record Trace : Type 0 where
  pub start : State
  pub notes : List Note

-- a trace with one more note
abbrev pub noted : Trace → Note → Trace
noted trace note = record { start = trace.start; notes = note ∷ trace.notes }

-- the state that the changes of notes reach from a state
abbrev pub reached : List Note → State → State
reached [] s = s
reached (Asked a r ∷ notes) s = reached notes s
reached (Made c ∷ notes) s = apply c (reached notes s)

-- each answer is that of the state reached by the notes before it
abbrev pub AllHold : List Note → State → Type 0
AllHold [] s = Unit {0}
AllHold (Asked a r ∷ notes) s = AllHold notes s × (answer a (reached notes s) ≡ r)
AllHold (Made c ∷ notes) s = AllHold notes s

-- each change keeps a lawful state lawful where it is made
abbrev pub AllPass : List Note → State → Type 0
AllPass [] s = Unit {0}
AllPass (Asked a r ∷ notes) s = AllPass notes s
AllPass (Made c ∷ notes) s = AllPass notes s × (may_make c (reached notes s) ≡ true)

-- in each lawful state in which the notes hold, their changes keep it lawful
abbrev pub KeepsLaw : List Note → Type 0
KeepsLaw notes = (s : State) → IsLawful s → AllHold notes s → AllPass notes s

-- `base` is what the notes were before the last few were made
pub data IsEarlier : List Note → List Note → Type 0 where
  same : {notes : List Note} → IsEarlier notes notes
  later : {base notes : List Note} (note : Note) → IsEarlier base notes → IsEarlier base (note ∷ notes)

-- ---- sessions

-- the session that a query names, or None
abbrev pub asked_session : Ask → Option ℕ
asked_session (asks.VarOf sid name) = Some sid
asked_session (asks.CwdOf sid) = Some sid
asked_session (asks.StatusOf sid) = Some sid
asked_session _ = None

-- the session that a change names, or None
abbrev pub changed_session : Change → Option ℕ
changed_session (changes.SetVar sid name text) = Some sid
changed_session (changes.SetCwd sid p) = Some sid
changed_session (changes.SetStatus sid status) = Some sid
changed_session _ = None

abbrev pub with_session : Option ℕ → List ℕ → List ℕ
with_session None sids = sids
with_session (Some sid) sids = sid ∷ sids

-- the sessions that notes name
unfoldable pub named_sessions : List Note → List ℕ
named_sessions [] = []
named_sessions (Asked a r ∷ notes) = with_session (asked_session a) (named_sessions notes)
named_sessions (Made c ∷ notes) = with_session (changed_session c) (named_sessions notes)

-- notes are a session's own if they name no other session
abbrev pub IsOwn : ℕ → List Note → Type 0
IsOwn sid notes = list_all (λ k. k == sid) (named_sessions notes) ≡ true
