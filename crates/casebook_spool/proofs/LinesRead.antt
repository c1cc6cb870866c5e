-- What the reader of lines returns.
use Rattle.std.proofs.Common.{◌≡◌, ◌∙◌, ℕ, ◌≤◌, List, Ok, arith, length, map, take, sym, ap, length-take-le}
use Rattle.std.proofs.lemmas.List.{length-map, take-map}
use Rattle.retro_path.specs.OutOfMemory.{IsMeant}
use Rattle.casebook_spool.specs.Lines.{items_of, lines_in, lines_of, lines_with, rows_length, up_to_record, whole_rows}
use Rattle.casebook_spool.specs.declared.item.Item.{Item}
use Rattle.casebook_spool.specs.declared.lines.LinesError.{LinesError}
use Rattle.casebook_spool.specs.declared.lines.LinesError.TheVariants as errors
use Rattle.casebook_spool.specs.Reads.{refused}
use Rattle.casebook_spool.proofs.Counting.{length_items, up_to_record_le, within}

-- an error of the items is one of the lines
pub refused_lines : (e : LinesError) (text : List ℕ) → IsMeant (refused e) (items_of 1 (whole_rows text))
    → IsMeant (refused e) (lines_of text)
unfolding lines_of
refused_lines errors.NoMem text h = tt
refused_lines (errors.Row n) text h = ap (lines_with (whole_rows text)) h

pub lines_read : (text : List ℕ) (items : List Item) → items_of 1 (whole_rows text) ≡ Ok items
    → lines_of text ≡ Ok (lines_in (whole_rows text) items)
unfolding lines_of
lines_read text items h = ap (lines_with (whole_rows text)) h

pub kept_fits : {R : Type 0} (f : R → List ℕ) (rows : List R) (items : List Item) (k : ℕ)
    → items_of 1 (map f rows) ≡ Ok items → k ≡ up_to_record items → k ≤ length rows
kept_fits f rows items k h is =
    let some = up_to_record_le items in
    let all = length_items 1 (map f rows) items h in
    let same = length-map rows f in
    omega (arith, some, all, same, is)

pub kept_length : {R : Type 0} (f : R → List ℕ) (rows : List R) (items : List Item) (k : ℕ)
    → items_of 1 (map f rows) ≡ Ok items → k ≡ up_to_record items → k ≡ length (take k rows)
kept_length f rows items k h is = sym (length-take-le k rows (kept_fits f rows items k h is))

pub rows_fit : {R : Type 0} (f : R → List ℕ) (rows : List R) (text : List ℕ) (k : ℕ)
    → map f rows ≡ whole_rows text → rows_length (map f (take k rows)) ≤ length text
rows_fit f rows text k e =
    let part : map f (take k rows) ≡ take k (whole_rows text) = sym (take-map f k rows) ∙ ap (take k) e in
    rw part (within text k)

pub same_rows : {R : Type 0} (f : R → List ℕ) (rows : List R) (text : List ℕ) (k : ℕ)
    → map f rows ≡ whole_rows text → map f (take k rows) ≡ take k (whole_rows text)
same_rows f rows text k e = sym (take-map f k rows) ∙ ap (take k) e
