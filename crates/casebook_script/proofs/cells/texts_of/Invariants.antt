use Rattle.std.proofs.Common.{[], map}
use Rattle.casebook_script.specs.Cells.{text_of}
use Rattle.casebook_script.specs.Steps.{with_item}
use Rattle.casebook_script.proofs.InTurn.{IsTurn}
use Rattle.casebook_script.proofs.cells.texts_of.Given as goal

abbrev pub invariant-loop-cell : goal.invariant-loop-cell
invariant-loop-cell l =
    IsTurn (with_item text_of) (λ cell. cell.now) [] (map (λ text. text) l.texts.items) l.cells l.cell-index
