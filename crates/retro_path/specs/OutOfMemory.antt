-- What a call returns if memory can run out before it is done.
use Rattle.std.specs.Prelude.{◌≡◌, Option, Some, None, Result, Ok, Err}

-- an error that says that memory ran out says nothing of the meant value
abbrev pub IsMeant : {M : Type 0} → Option M → M → Type 0
IsMeant None meant = Unit {0}
IsMeant (Some refused) meant = meant ≡ refused

-- The result is what its definition says, unless memory ran out. `value` is what an Ok means, and
-- `fault` is what an error means. It is None for the error that says that memory ran out.
abbrev pub UnlessOutOfMemory : {X E M : Type 0} → (X → M) → (E → Option M) → Result X E → M → Type 0
UnlessOutOfMemory value fault (Ok x) meant = meant ≡ value x
UnlessOutOfMemory value fault (Err e) meant = IsMeant (fault e) meant
