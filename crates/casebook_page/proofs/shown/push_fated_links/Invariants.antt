use Rattle.std.proofs.Common.{◌≡◌, ◌++◌, map, take}
use Rattle.casebook_page.specs.Told.{link_of}
use Rattle.casebook_html.specs.declared.piece.Piece.TheVariants.{Link}
use Rattle.casebook_page.proofs.shown.push_fated_links.Given as goal

abbrev pub invariant-loop-line : goal.invariant-loop-line
invariant-loop-line l = l.html ≡ l.fn.html ++ map (λ line. Link (link_of line.fate) line.number) (take l.line-index l.lines)
