-- A search finds the line with a number, if the numbers rise.
use Rattle.std.proofs.Common.{rules, sym}
use Rattle.std.proofs.lemmas.List.Sorted.{answers_always}
use Rattle.casebook_view.specs.CaseLines.{line_number}
use Rattle.casebook_view.proofs.Finding.{search_found, search_none}
use Rattle.casebook_view.proofs.case_lines.line_in.Goals as goal

pub returns-in-Ok : goal.returns-in-Ok
returns-in-Ok c rising =
    let equal = c.in-Ok.ensures.position line_number (answers_always _ _ _ (λ f a r g called. search rules)) in
    sym (search_found line_number c.args.lines.now c.args.number rising c.in-Ok.index _ c.in-Ok.ensures.bound equal)

pub returns-in-Err : goal.returns-in-Err
returns-in-Err c rising =
    let apart = c.in-Err.ensures.position line_number (answers_always _ _ _ (λ f a r g called. search rules)) in
    sym (search_none line_number c.args.lines.now c.args.number rising c.in-Err.field-0 apart)
