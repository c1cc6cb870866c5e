-- A change of a file as it is written in a patch, in git's form.
use Rattle.std.specs.Prelude.{ℕ, ◌+◌, ◌-◌, ◌==◌, Bool, List, [], ◌∷◌, ◌++◌, codes, decimal}
use Rattle.std.specs.Prelude.{flat_map}
use Rattle.std.specs.Prelude.{Option, Some, None, if◌then◌else◌, length, slice_index}
use Rattle.hex.specs.Hex.{encode_lower}
use Rattle.sha1.specs.Sha1.{sha1}
use Rattle.retro_path.specs.Ascii.{newline, nul}
use Rattle.retro_path.specs.Path.{PathValue}
use Rattle.retro_path.specs.Slashed.{slashed}
use Rattle.casebook_text.specs.Hunks.{Marked}
use Rattle.casebook_text.specs.declared.hunk.Span.{Span}
use Rattle.casebook_text.specs.declared.line_diff.Mark.{Mark}
use Rattle.casebook_text.specs.declared.line_diff.Mark.TheVariants.{Same, Removed, Added}
use Rattle.casebook_patch.specs.Binary.{written_binary}
use Rattle.casebook_patch.specs.Changes.{ChangeValue, bytes_in}
use Rattle.casebook_patch.specs.Parts.{PartValue}
use Rattle.casebook_patch.specs.Quoted.{quoted}

-- ---- parts

abbrev pub sign : Mark → ℕ
sign Same = 32
sign Removed = 45
sign Added = 43

abbrev pub is_ended : List ℕ → Bool
is_ended line = slice_index line (length line - 1) == newline

-- a line after its sign. One without a newline says so
abbrev pub written_line : Marked → List ℕ
written_line line =
    sign line.0 ∷ line.1.now
    ++ (if is_ended line.1.now
    then []
    else newline ∷ codes "\\ No newline at end of file" ++ newline ∷ [])

-- the number of the first line of a text that a part has, or of the line before if it has none
abbrev pub first_number : Span → ℕ
first_number span = if span.count == 0 then span.before else span.before + 1

-- this number, and how many lines the part has if it isn't one
abbrev pub written_span : Span → List ℕ
written_span span =
    decimal (first_number span) ++ (if span.count == 1 then [] else codes "," ++ decimal span.count)

abbrev pub part_head : PartValue → List ℕ
part_head part =
    codes "@@ -" ++ written_span part.old ++ codes " +" ++ written_span part.new
    ++ codes " @@" ++ newline ∷ []

abbrev pub written_part : PartValue → List ℕ
written_part part = part_head part ++ flat_map written_line part.lines

-- ---- names

-- the two trees are called a and b
abbrev pub old_side : List ℕ
old_side = codes "a"

abbrev pub new_side : List ℕ
new_side = codes "b"

abbrev pub name_at : List ℕ → PathValue → List ℕ
name_at side path = side ++ slashed path

-- the name of a file at a path, or of no file
abbrev pub label : List ℕ → PathValue → Option (List ℕ) → List ℕ
label side path None = codes "/dev/null"
label side path (Some bytes) = quoted (name_at side path)

-- ---- heads

-- the digest by which git calls a file with these bytes
abbrev pub blob_digest : List ℕ → List ℕ
blob_digest bytes = sha1 (codes "blob " ++ decimal (length bytes) ++ nul ∷ bytes)

-- what git calls a file, or no file
abbrev pub blob_id : Option (List ℕ) → List ℕ
blob_id None = codes "0000000000000000000000000000000000000000"
blob_id (Some bytes) = encode_lower (blob_digest bytes)

-- whether a file is made or removed, and the mode that it has
abbrev pub fate : Option (List ℕ) → Option (List ℕ) → List ℕ
fate None new = codes "new file mode 100644" ++ newline ∷ []
fate (Some old) None = codes "deleted file mode 100644" ++ newline ∷ []
fate (Some old) (Some new) = []

-- the mode of a file that stays
abbrev pub kept_mode : Option (List ℕ) → Option (List ℕ) → List ℕ
kept_mode None new = []
kept_mode (Some old) None = []
kept_mode (Some old) (Some new) = codes " 100644"

-- the names of a file in both trees
unfoldable pub names_line : PathValue → List ℕ
names_line path =
    codes "diff --git " ++ quoted (name_at old_side path) ++ codes " "
    ++ quoted (name_at new_side path) ++ newline ∷ []

unfoldable pub index_line : Option (List ℕ) → Option (List ℕ) → List ℕ
index_line old new =
    codes "index " ++ blob_id old ++ codes ".." ++ blob_id new ++ kept_mode old new ++ newline ∷ []

abbrev pub head : ChangeValue → List ℕ
head c = names_line c.path ++ fate c.old c.new ++ index_line c.old c.new

-- ---- texts

-- what a file is called in both trees
unfoldable pub labels : ChangeValue → List ℕ
labels c =
    codes "--- " ++ label old_side c.path c.old
    ++ codes "\n+++ " ++ label new_side c.path c.new ++ newline ∷ []

-- the names of both files, and the parts in which they differ. An empty file that is made or
-- removed has none
abbrev pub written_text : ChangeValue → List PartValue → List ℕ
written_text c [] = []
written_text c (part ∷ parts) = labels c ++ flat_map written_part (part ∷ parts)

-- ---- changes

abbrev pub written_body : ChangeValue → Option (List PartValue) → List ℕ
written_body c None = written_binary (bytes_in c.old) (bytes_in c.new)
written_body c (Some parts) = written_text c parts

abbrev pub written_change : ChangeValue → List ℕ
written_change c = head c ++ written_body c c.parts

-- one change after another
abbrev pub written_changes : List ChangeValue → List ℕ
written_changes changes = flat_map written_change changes
