-- What a patch does to one file.
use Rattle.std.specs.Prelude.{◌≡◌, ◌≢◌, ℕ, List, [], Option, Some, None, MatchOption, map}
use Rattle.std.specs.Prelude.{option_map}
use Rattle.std.specs.List.{concat}
use Rattle.retro_path.specs.Path.{PathValue}
use Rattle.casebook_patch.specs.Lines.{IsText, lines_of}
use Rattle.casebook_patch.specs.Parts.{PartValue, patched, turned}

-- The path of a file, its bytes before and after, or None where there is no file, and the parts in
-- which its lines differ, or None if both aren't text.
pub record ChangeValue : Type 0 where
  pub path : PathValue
  pub old : Option (List ℕ)
  pub new : Option (List ℕ)
  pub parts : Option (List PartValue)

-- the bytes of a file; a missing one has none
abbrev pub bytes_in : Option (List ℕ) → List ℕ
bytes_in None = []
bytes_in (Some bytes) = bytes

-- what parts make of the bytes of a file, or None if they don't fit
abbrev pub bytes_after : List PartValue → List ℕ → Option (List ℕ)
bytes_after parts bytes = option_map concat (patched 0 parts (lines_of bytes))

-- Parts make one text of another, and their opposites the other of the one.
pub record AreBetween (old new : List ℕ) (parts : List PartValue) : Type 0 where
  pub old_text : IsText old
  pub new_text : IsText new
  pub forward : bytes_after parts old ≡ Some new
  pub backward : bytes_after (map turned parts) new ≡ Some old

-- A change of a file at a path, which differs. It has parts if both are texts. A missing file is a
-- text without lines.
pub record IsChangeOf (path : PathValue) (old new : Option (List ℕ)) (c : ChangeValue) :
    Type 0 where
  pub at : c.path ≡ path
  pub old_is : c.old ≡ old
  pub new_is : c.new ≡ new
  pub differ : old ≢ new
  pub parts : MatchOption c.parts (¬ (IsText (bytes_in old) × IsText (bytes_in new)))
      (AreBetween (bytes_in old) (bytes_in new))
