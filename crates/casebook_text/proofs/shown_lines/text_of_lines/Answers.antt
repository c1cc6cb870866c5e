use Rattle.std.proofs.Common.{◌+◌, ◌++◌, ◌∷◌, [], ap, string_bytes, subst, sym, take, ◌∙◌}
use Rattle.std.specs.Char.{encode_utf8}
use Rattle.std.proofs.lemmas.List.{take_more}
use Rattle.casebook_text.proofs.ShownLines.{IsTextOf, line_is_row, next_row, text_bytes, text_characters, text_is, text_lines}
use Rattle.casebook_text.proofs.shown_lines.text_of_lines.Goals as goal

pub loop-line-preserved : goal.loop-line-preserved
unfolding encode_utf8
loop-line-preserved c =
    let lines = c.args.lines.now in
    let i = c.loop-line.line-index in
    subst (IsTextOf (string_bytes c.push.new.self))
    (sym (take_more lines i c.line-item.result c.loop-line-test.true ∙ ap (λ t. take i lines ++ t ∷ []) (sym c.line-item.is)))
    (next_row (string_bytes c.loop-line.text) (string_bytes c.push_str.new.self) (string_bytes c.push.new.self) c.line-item.result
    (take i lines) c.loop-line.invariant (line_is_row c.line-item.result c.as_str.ensures.safe)
    (rw (← c.as_str.ensures.value) c.in_ok-push_str.ensures.bytes) c.in_ok-push.ensures.bytes)

pub returns-clause-characters : goal.returns-clause-characters
returns-clause-characters c =
    text_characters (string_bytes c.loop-line.text) c.args.lines.now
    (text_is _ c.args.lines.now c.loop-line.line-index c.loop-line-test.false c.loop-line.invariant)

pub returns-clause-bytes : goal.returns-clause-bytes
returns-clause-bytes c =
    text_bytes (string_bytes c.loop-line.text) c.args.lines.now
    (text_is _ c.args.lines.now c.loop-line.line-index c.loop-line-test.false c.loop-line.invariant)

pub returns-clause-lines : goal.returns-clause-lines
returns-clause-lines c =
    text_lines (string_bytes c.loop-line.text) c.args.lines.now
    (text_is _ c.args.lines.now c.loop-line.line-index c.loop-line-test.false c.loop-line.invariant)
