use Rattle.std.proofs.Common.{◌∙◌, refl}
use Rattle.std.specs.Str.{is_utf8}
use Rattle.std.proofs.lemmas.Bool.{false_from_ne_true}
use Rattle.std.proofs.lemmas.Str.{IsUtf8-from_is_utf8, is_utf8-from_IsUtf8}
use Rattle.casebook_rows.specs.Reading.{path_of, text_of}
use Rattle.casebook_rows.proofs.paths.path_of.Goals as goal

pub returns-in-Ok : goal.returns-in-Ok
unfolding path_of
returns-in-Ok c =
    let text = c.as_slice.ensures.value ∙ c.in_ok-text.ensures in
    let utf8 = rw text at c.in-Ok.ensures.cases.1 in
    let bytes = c.in-Ok.ensures.cases.0 ∙ text in
    rw (is_utf8-from_IsUtf8 (text_of c.args.field.now) utf8) (rw bytes at c.path_of_text.ensures)

pub returns : goal.returns
unfolding path_of
returns c =
    let text = c.as_slice.ensures.value ∙ c.in_ok-text.ensures in
    let not_utf8 = rw text at c.in-Err.ensures.cases.0 in
    let test = false_from_ne_true (is_utf8 (text_of c.args.field.now))
    (λ e. not_utf8 (IsUtf8-from_is_utf8 (text_of c.args.field.now) e)) in
    rw test refl
