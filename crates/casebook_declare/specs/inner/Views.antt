-- What contracts see of the structs of the code.
use Rattle.std.specs.Prelude.{ℕ, ◌≤◌}
use Rattle.casebook_declare.specs.Quoted as quoted
use Rattle.casebook_declare.specs.declared.said.Said.{Said}

-- a quoted value without where its text lies in memory
abbrev pub said_view : Said → quoted.Said
said_view said = record { value = said.value; has_code = said.has_code; rest = said.rest.now }

-- some bytes, and no more than there are
abbrev pub IsWithin : ℕ → ℕ → Type 0
IsWithin width length = (1 ≤ width) × (width ≤ length)
