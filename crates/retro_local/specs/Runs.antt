-- The words of the contracts of what runs over a `Local`. Each of them speaks of every lawful state
-- in which the notes hold, so a contract is about one state at a time, whichever view the notes are
-- from.
use Rattle.std.specs.Prelude.{◌≡◌, ℕ, List}
use Rattle.retro_tree.specs.Lawful.{IsLawful}
use Rattle.retro_tree.specs.declared.note.Note.{Note}
use Rattle.retro_tree.specs.declared.state.State.{State}
use Rattle.retro_local.specs.Trace.{Trace, reached, AllHold, IsEarlier, IsOwn, named_sessions}

-- P holds of the state that the notes reach
abbrev pub Always : (State → Type 0) → Trace → Type 0
Always P trace =
    (s : State) → IsLawful s → AllHold trace.notes s → IsLawful (reached trace.notes s)
    → P (reached trace.notes s)

-- The old notes hold wherever the new ones do. f of the state that the old notes reach is the pair
-- of the state that the new notes reach and x.
pub record Computes {X : Type 0} (old new : Trace) (f : State → State × X) (x : X) : Type 0 where
  pub held : (s : State) → IsLawful s → AllHold new.notes s → AllHold old.notes s
  pub means : (s : State) → IsLawful s → AllHold new.notes s
      → f (reached old.notes s) ≡ (reached new.notes s, x)

-- The old notes hold wherever the new ones do. The state that the new notes reach is f of the state
-- that the old notes reach.
pub record Transforms (old new : Trace) (f : State → State) : Type 0 where
  pub held : (s : State) → IsLawful s → AllHold new.notes s → AllHold old.notes s
  pub means : (s : State) → IsLawful s → AllHold new.notes s
      → reached new.notes s ≡ f (reached old.notes s)

-- The old notes hold wherever the new ones do. f of the state that the old notes reach is g of the
-- state that the new notes reach. So g is what a loop still has to compute.
pub record Continues {X : Type 0} (old new : Trace) (f g : State → X) : Type 0 where
  pub held : (s : State) → IsLawful s → AllHold new.notes s → AllHold old.notes s
  pub means : (s : State) → IsLawful s → AllHold new.notes s
      → f (reached old.notes s) ≡ g (reached new.notes s)

-- The old notes hold wherever the new ones do. R relates the state that the old notes reach to the
-- one that the new notes reach.
pub record Relates (R : State → State → Type 0) (old new : Trace) : Type 0 where
  pub held : (s : State) → IsLawful s → AllHold new.notes s → AllHold old.notes s
  pub means : (s : State) → IsLawful s → AllHold new.notes s
      → R (reached old.notes s) (reached new.notes s)

-- The new trace has the old notes and later ones. The later ones name no session but this one.
pub record Extends (sid : ℕ) (old new : Trace) : Type 0 where
  pub start : new.start ≡ old.start
  pub later : (base : List Note) → IsEarlier base old.notes → IsEarlier base new.notes
  pub own : IsOwn sid old.notes → IsOwn sid new.notes

-- The new trace has the old notes and later ones. The later ones name no session.
pub record ExtendsTree (old new : Trace) : Type 0 where
  pub start : new.start ≡ old.start
  pub later : (base : List Note) → IsEarlier base old.notes → IsEarlier base new.notes
  pub tree : named_sessions new.notes ≡ named_sessions old.notes
