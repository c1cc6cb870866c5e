use Rattle.std.proofs.Common.{◌≡◌, ◌++◌, ◌∙◌, ap, length, refl, sym, string_bytes}
use Rattle.std.specs.FinMap as finmap
use Rattle.std.proofs.lemmas.List.{length-map}
use Rattle.casebook_spool.specs.Written.{listing_row, row_line, sight_note, sights_notes}
use Rattle.casebook_spool.proofs.writing.sights_text.Goals as goal

pub loop-path-init : goal.loop-path-init
loop-path-init c =
    let count = c.len.ensures ∙ finmap.len-entries c.args.sights.now ∙ sym (length-map (finmap.entries c.args.sights.now) sight_note) in
    let head : string_bytes c.push_head.new.text ≡ row_line (listing_row c.args.at (length (sights_notes c.args.sights.now))) =
    c.in_ok-push_head.ensures ∙ ap (λ t. t ++ row_line (listing_row c.args.at c.len.result)) c.new-text.ensures.bytes
    ∙ ap (λ n. row_line (listing_row c.args.at n)) count in
    rw (head, c.into_iter-path-iterator.ensures.into_iter_gives, c.iter-path-items.ensures) refl
