-- What the text of a page is made of.
use Rattle.std.specs.Prelude.{◌≡◌, ℕ, Bool, true, false, not, ◌&&◌, List, [], ◌∷◌, ◌++◌, decimal, flat_map, nat_le}
use Rattle.std.specs.Prelude.{IsTrue}
use Rattle.std.specs.List.{filter, list_all}
use Rattle.casebook_text.specs.Html.{escaped}
use Rattle.casebook_text.specs.SafeText.{is_printable}
use Rattle.casebook_html.specs.Safe.{is_safe_text}
use Rattle.casebook_html.specs.Template.{bar_text, number_text, row_text, tag_text}
use Rattle.casebook_html.specs.declared.number_tag.NumberTag.{NumberTag}
use Rattle.casebook_html.specs.declared.number_tag.NumberTag.TheVariants as numbered
use Rattle.casebook_html.specs.declared.piece.Piece.{Piece}
use Rattle.casebook_html.specs.declared.piece.Piece.TheVariants.{Fixed, Numbered, Bar, Row, Link, Anchor, Output}
use Rattle.casebook_html.specs.declared.piece.Piece.TheVariants.{Words, Number, Text, Aside, Excerpt}
use Rattle.casebook_html.specs.declared.run.Run.{Run}
use Rattle.casebook_html.specs.declared.run.Run.TheVariants.{Recorded, Repaired}
use Rattle.casebook_html.specs.declared.tag.Tag.{Tag}
use Rattle.casebook_html.specs.declared.tag.Tag.TheVariants as tags

-- what stands before what a line printed
abbrev pub heading : Run → Tag
heading Recorded = tags.Saw
heading Repaired = tags.WouldSee

-- ---- what a piece is in the page

-- a link to the row of a line, which shows the line's number
abbrev pub link_text : NumberTag → ℕ → List ℕ
link_text tag number = number_text tag number ++ decimal number ++ tag_text tags.LinkEnd

-- a text is escaped
unfoldable pub piece_text : Piece → List ℕ
piece_text (Fixed tag) = tag_text tag
piece_text (Numbered tag number) = number_text tag number
piece_text (Bar changed alike) = bar_text changed alike
piece_text (Row number class) = row_text number class
piece_text (Link tag number) = link_text tag number
piece_text (Anchor number) = number_text numbered.Link number
piece_text (Output run number) = tag_text (heading run)
piece_text (Words words) = escaped words.now
piece_text (Number number) = decimal number
piece_text (Text text) = escaped text
piece_text (Aside text) = escaped text
piece_text (Excerpt text) = escaped text

-- ---- which pieces are allowed

abbrev pub is_digit : ℕ → Bool
is_digit b = nat_le 48 b && nat_le b 57

-- words are printable, and have no digits
abbrev pub is_words : List ℕ → Bool
is_words words = list_all (λ b. is_printable b && not (is_digit b)) words

-- the start of a link to the row of a line
abbrev pub is_link : NumberTag → Bool
is_link numbered.Link = true
is_link numbered.LinkChanged = true
is_link numbered.LinkAlike = true
is_link _ = false

-- Texts are safe to show, words say no number, and only links begin a link to a row.
abbrev pub is_allowed : Piece → Bool
is_allowed (Numbered tag number) = not (is_link tag)
is_allowed (Link tag number) = is_link tag
is_allowed (Words words) = is_words words.now
is_allowed (Text text) = is_safe_text text
is_allowed (Aside text) = is_safe_text text
is_allowed (Excerpt text) = is_safe_text text
is_allowed _ = true

-- ---- which pieces say something of a repair

-- signs: the heads of sections and boxes, what becomes of a path, and what isn't known
abbrev pub is_sign : Tag → Bool
is_sign tags.Unknown = true
is_sign tags.SignUnknown = true
is_sign tags.SignNeed = true
is_sign tags.SignObserved = true
is_sign tags.SignDoubtful = true
is_sign tags.SignDoubtfulNeed = true
is_sign tags.KeyCancelled = true
is_sign tags.KeyChanged = true
is_sign tags.KeyAlike = true
is_sign tags.KeyKept = true
is_sign tags.KeyUntouched = true
is_sign tags.Cancelled = true
is_sign tags.Restore = true
is_sign tags.Tell = true
is_sign tags.Lines = true
is_sign tags.Leak = true
is_sign tags.Modified = true
is_sign tags.Added = true
is_sign tags.Removed = true
is_sign tags.Undecided = true
is_sign _ = false

abbrev pub is_told : Piece → Bool
is_told (Fixed tag) = is_sign tag
is_told (Row number class) = true
is_told (Link tag number) = true
is_told (Anchor number) = true
is_told (Output run number) = true
is_told (Number number) = true
is_told (Text text) = true
is_told _ = false

-- what pieces tell a reader, in order
abbrev pub told : List Piece → List Piece
told pieces = filter is_told pieces

-- ---- pages

-- The text of a page that tells a reader this: the policy comes first, and then the texts of some
-- pieces that tell it, each of them allowed. Each piece begins and ends outside of tags, of the style
-- and of the script: so no text is in one of these, and no tag is the log's.
pub record IsPage (facts : List Piece) (text : List ℕ) : Type 0 where
  pub pieces : List Piece
  pub is_text : text ≡ tag_text tags.Begin ++ flat_map piece_text pieces
  pub allowed : IsTrue (list_all is_allowed pieces)
  pub tells : told pieces ≡ facts
