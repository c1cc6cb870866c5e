use Rattle.std.proofs.Common.{◌++◌, ap, ◌∙◌}
use Rattle.std.specs.Prelude.{codes}
use Rattle.casebook_text.specs.SafeLine.{word_bytes}
use Rattle.casebook_words.specs.Cut.{cut_words}
use Rattle.casebook_words.specs.Words.{value_limit, variable_words}
use Rattle.casebook_words.proofs.Saying.{both_said, said_two}
use Rattle.casebook_words.proofs.note_words.push_variable.Goals as goal

pub returns : goal.returns
unfolding variable_words
returns c =
    let line = c.args.line.now in
    let word = word_bytes c.args.name.now in
    let two =
    both_said line c.push_ascii.new.self c.push_word.new.self (codes "set variable ") word c.in_ok-push_ascii.ensures.ok
    (c.in_ok-push_word.ensures.ok
    ∙ ap (λ t. c.push_ascii.new.self ++ word_bytes t) (c.as_bytes.ensures.value ∙ c.as_str.ensures.value)) in
    let three =
    both_said line c.push_word.new.self c.push_ascii-2.new.self (codes "set variable " ++ word) (codes ": ") two
    c.in_ok-push_ascii-2.ensures.ok in
    said_two c.push_cut.result line c.push_ascii-2.new.self c.push_cut.new.line (codes "set variable " ++ word ++ codes ": ")
    (cut_words value_limit c.args.text.now) three (rw (← c.bytes.ensures) c.push_cut.ensures)
