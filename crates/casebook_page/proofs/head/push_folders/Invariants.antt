use Rattle.std.proofs.Common.{◌≡◌, ◌++◌, map, take}
use Rattle.casebook_text.specs.SafeLine.{word_bytes}
use Rattle.casebook_html.specs.declared.piece.Piece.TheVariants.{Text}
use Rattle.casebook_page.proofs.head.push_folders.Given as goal

abbrev pub invariant-loop-folder : goal.invariant-loop-folder
invariant-loop-folder l = l.html ≡ l.fn.html ++ map (λ folder. Text (word_bytes folder)) (take l.folder-index l.folders)
