-- The lines of a recording of Retro's shell itself, as typed lines.
use Rattle.std.specs.Prelude.{ℕ, [], ◌∷◌, Option}
use Rattle.retro_shell.specs.Line.{line}
use Rattle.retro_keep.specs.declared.edit.Edit.{Edit}
use Rattle.retro_keep.specs.declared.noted.Noted.{Noted}
use Rattle.retro_redo.specs.Moments.{new_text}
use Rattle.casebook_real.specs.Lines.{Modelled, TypedLine}
use Rattle.casebook_real.specs.World.{Meaning}

-- what Retro's shell makes of states
abbrev pub shell : Meaning
shell typed s = (line typed.sid typed.text s).0

-- a recorded line as a modelled one that needs nothing, with the text that it runs in a repair
abbrev pub played : (ℕ → Option Edit) → ℕ × Noted → TypedLine
played edit l = record {
  typed = record { number = l.0; sid = l.1.sid; text = new_text edit l };
  texts = l ∷ [];
  basis = Modelled [];
}
