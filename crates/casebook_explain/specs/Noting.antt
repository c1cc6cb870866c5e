-- The lines of the recording: the texts of all told lines, numbered from 1 on.
use Rattle.std.specs.Prelude.{ℕ, ◌+◌, List, [], ◌∷◌, ◌++◌, flat_map, map}
use Rattle.retro_keep.specs.Recording.{noted_of}
use Rattle.retro_keep.specs.declared.noted.Noted.{Noted}
use Rattle.casebook_needs.specs.Needs.{note_of}
use Rattle.casebook_needs.specs.declared.need.Need.{Need}
use Rattle.casebook_explain.specs.declared.noting.Noting.{Noting}
use Rattle.casebook_explain.specs.declared.noting.Noting.TheVariants.{RunsAlone, WithNeeds}
use Rattle.casebook_explain.specs.declared.told.ToldLine.{ToldLine}

-- a text with needs as notes before its own
abbrev pub with_needs : List Need → Noted → Noted
with_needs needs noted = record noted { notes = map note_of needs ++ noted.notes }

-- the needs of a line are notes of its first text
abbrev pub first_with_needs : List Need → List Noted → List Noted
first_with_needs needs [] = []
first_with_needs needs (noted ∷ rest) = with_needs needs noted ∷ rest

-- the needs that are noted
abbrev pub needs_noted : Noting → List Need → List Need
needs_noted WithNeeds needs = needs
needs_noted RunsAlone needs = []

-- the texts of a line, with their notes and outputs
abbrev pub texts_of : Noting → ToldLine → List Noted
texts_of noting line =
    first_with_needs (needs_noted noting line.needs.items) (map noted_of line.runs.items)

-- texts with numbers, of which the first one is `n`
abbrev pub numbered : ℕ → List Noted → List (ℕ × Noted)
numbered n [] = []
numbered n (text ∷ texts) = (n, text) ∷ numbered (n + 1) texts

-- the texts of all lines with their numbers
unfoldable pub recorded_lines : Noting → List ToldLine → List (ℕ × Noted)
recorded_lines noting lines = numbered 1 (flat_map (texts_of noting) lines)
