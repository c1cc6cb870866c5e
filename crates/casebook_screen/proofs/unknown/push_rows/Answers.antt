use Rattle.std.proofs.Common.{◌∙◌, ◌++◌, ap₂, map}
use Rattle.casebook_screen.specs.declared.piece.Piece.TheVariants.{Number}
use Rattle.casebook_screen.proofs.Showing.{row_more}
use Rattle.casebook_screen.proofs.unknown.push_rows.Goals as goal

pub loop-rest-preserved : goal.loop-rest-preserved
loop-rest-preserved c =
    let more = c.in_ok-end-2.ensures ∙ c.in_ok-push_numbers-2.ensures
    ∙ ap₂ (λ screen numbers. screen ++ map Number numbers) c.in_ok-spaces.ensures
    c.first_numbers-in-loop-rest.ensures in
    rw (c.other_numbers-rest-in-loop-rest.ensures)
    (row_more Number 12 c.loop-rest.screen c.end-in-loop-rest.new.self c.args.screen.now c.args.numbers.now
    c.loop-rest.rest.now more c.loop-rest.invariant)
