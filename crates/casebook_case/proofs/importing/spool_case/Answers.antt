use Rattle.std.proofs.Common.{◌∙◌, ap, sym}
use Rattle.std.specs.Prelude.{ok_or}
use Rattle.casebook_spool.specs.Lines.{lines_of}
use Rattle.casebook_spool.specs.Listings.{listing_of}
use Rattle.casebook_case.specs.Cases.{all_held, case_of, lines_or}
use Rattle.casebook_case.specs.Documents.{case_text}
use Rattle.casebook_case.specs.declared.case_fault.CaseFault.TheVariants.{BadFirst}
use Rattle.casebook_case.proofs.Made.{case_of_spool}
use Rattle.casebook_case.proofs.importing.spool_case.Goals as goal

pub returns : goal.returns
returns g c =
    let contents = c.in_ok-contents.contents.items in
    let first = c.in_ok-first_text.first_text.items in
    let lines = c.in_ok-lines_text.lines_text.items in
    let unseen = c.args.unseen.now in
    let texts = c.in_ok-text.ensures in
    case_of_spool (g.S.SpoolSource.holds c.args.source.now) contents first lines unseen
    c.in_ok-text.text.items
    c.in_ok-first_text.ensures c.in_ok-lines_text.ensures c.in_ok-contents.ensures
    (record {
      look = c.in_ok-first.first;
      observed = c.in_ok-lines.lines;
      looks = ap (λ t. ok_or (listing_of t) BadFirst) (sym c.as_slice.ensures.value) ∙ c.in_ok-first.ensures;
      observes = ap (λ t. lines_or (lines_of t)) (sym c.as_slice-2.ensures.value) ∙ c.in_ok-lines.ensures;
      held =
          ap (λ h. all_held h c.in_ok-first.first c.in_ok-lines.lines) (sym c.in_ok-held.ensures)
          ∙ c.in_ok-check_all.ensures;
      written =
          texts.written
          ∙ ap (λ x. case_text x c.as_slice-4.result.now c.as_slice-5.result.now unseen) c.as_slice-3.ensures.value
          ∙ ap (λ x. case_text contents x c.as_slice-5.result.now unseen) c.as_slice-4.ensures.value
          ∙ ap (λ x. case_text contents first x unseen) c.as_slice-5.ensures.value;
      again =
          texts.again
          ∙ ap (λ x. case_of x c.as_slice-4.result.now c.as_slice-5.result.now unseen) c.as_slice-3.ensures.value
          ∙ ap (λ x. case_of contents x c.as_slice-5.result.now unseen) c.as_slice-4.ensures.value
          ∙ ap (λ x. case_of contents first x unseen) c.as_slice-5.ensures.value;
    })
