-- What the reader of the file `lines` returns.
use Rattle.std.specs.Prelude.{ℕ, Option, Some, None, Result, Ok, Err}
use Rattle.retro_path.specs.OutOfMemory.{UnlessOutOfMemory}
use Rattle.casebook_spool.specs.declared.lines.LinesError.{LinesError}
use Rattle.casebook_spool.specs.declared.lines.LinesError.TheVariants as errors

-- what an error says of a file, or None if memory ran out
abbrev pub refused : {A : Type 0} → LinesError → Option (Result A ℕ)
refused errors.NoMem = None
refused (errors.Row n) = Some (Err n)

-- the result is what the file is read as, unless memory ran out
abbrev pub ReadsLines : {A : Type 0} → Result A LinesError → Result A ℕ → Type 0
ReadsLines result read = UnlessOutOfMemory (λ x. Ok x) refused result read
