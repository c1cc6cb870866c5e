-- Notes with what the types of the program say of numbers, texts and paths.
use Rattle.std.specs.Prelude.{◌≡◌, ℕ, ◌^◌, ◌<◌, All, FitsSigned, IsUtf8, List, Option, Some, None, length}
use Rattle.std.specs.Int.{w64}
use Rattle.retro_path.specs.Name.{AllNames}
use Rattle.retro_path.specs.Path.{PathValue}
use Rattle.retro_path.specs.Slashed.{slashed}
use Rattle.casebook_folder.specs.declared.attributes.Attributes.{Attributes}
use Rattle.casebook_watch.specs.declared.file_time.FileTime.{FileTime}
use Rattle.casebook_watch.specs.declared.sight.Sight.{Sight}
use Rattle.casebook_spool.specs.declared.content.Content.{Content}
use Rattle.casebook_spool.specs.declared.content.Content.TheVariants as contents
use Rattle.casebook_spool.specs.declared.note.Note.{Note}
use Rattle.casebook_spool.specs.declared.note.Note.TheVariants as notes

abbrev pub AreBytes : List ℕ → Type 0
AreBytes bytes = All (λ b. b < 256) bytes

-- the names are names, and their text is UTF-8
abbrev pub IsPath : PathValue → Type 0
IsPath path = AllNames path × IsUtf8 (slashed path)

-- a second of 64 bits with a sign, and a nanosecond of 32 bits
abbrev pub IsTime : FileTime → Type 0
IsTime t = FitsSigned w64 t.second × (t.nanosecond < 2 ^ 32)

abbrev pub AreAttributes : Attributes → Type 0
AreAttributes a = (a.mode < 2 ^ 32) × (a.uid < 2 ^ 32) × (a.gid < 2 ^ 32)

abbrev pub IsSight : Sight → Type 0
IsSight s =
    AreAttributes s.attributes × (s.size < 2 ^ 64) × (s.number < 2 ^ 64)
    × IsTime s.read × IsTime s.written × IsTime s.changed

abbrev pub IsSightIfAny : Option Sight → Type 0
IsSightIfAny None = Unit {0}
IsSightIfAny (Some s) = IsSight s

-- a digest has 32 bytes
abbrev pub IsContent : Content → Type 0
IsContent (contents.Kept digest) = (length digest.bytes ≡ 32) × AreBytes digest.bytes
IsContent (contents.Target target) = AreBytes target
IsContent (contents.Unkept why) = Unit {0}

abbrev pub IsNote : Note → Type 0
IsNote (notes.Sight change) = IsPath change.path × IsSightIfAny change.sight
IsNote (notes.Holds holds) = IsPath holds.path × IsContent holds.content
IsNote (notes.Looked looked) = IsPath looked.path × IsTime looked.read
