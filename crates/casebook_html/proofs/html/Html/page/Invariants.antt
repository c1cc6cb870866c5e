-- The text of the pieces so far.
use Rattle.std.proofs.Common.{◌≡◌, ◌++◌, string_bytes, take}
use Rattle.std.specs.Prelude.{flat_map}
use Rattle.casebook_html.specs.Page.{piece_text}
use Rattle.casebook_html.specs.Template.{tag_text}
use Rattle.casebook_html.specs.declared.tag.Tag.TheVariants.{Begin}
use Rattle.casebook_html.proofs.html.Html.page.Given as goal

abbrev pub invariant-loop-piece : goal.invariant-loop-piece
invariant-loop-piece l =
    string_bytes l.text ≡ tag_text Begin ++ flat_map piece_text (take l.piece-index l.piece-items)
