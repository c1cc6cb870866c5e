-- What a result with a `SyntaxError` means.
use Rattle.std.specs.Prelude.{Option, Some, None, Result}
use Rattle.retro_path.specs.OutOfMemory.{UnlessOutOfMemory}
use Rattle.retro_syntax.specs.declared.syntax_error.SyntaxError.{SyntaxError}
use Rattle.retro_syntax.specs.declared.syntax_error.SyntaxError.TheVariants.{Unsupported, NoMem}

-- `Unsupported` says that the definition gives no value; `NoMem` says nothing.
abbrev pub fault : {M : Type 0} → SyntaxError → Option (Option M)
fault Unsupported = Some None
fault NoMem = None

-- The result is what the definition gives, unless memory ran out. `value` says what an Ok means.
abbrev pub Gives : {X M : Type 0} → (X → M) → Result X SyntaxError → Option M → Type 0
Gives value result meant = UnlessOutOfMemory (λ x. Some (value x)) fault result meant
