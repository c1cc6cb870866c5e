use Rattle.std.proofs.Common.{◌≡◌, ◌++◌, ap, decimal, subst, ◌∙◌, OnOk}
use Rattle.std.specs.Prelude.{codes}
use Rattle.casebook_text.specs.SafeLine.{word_bytes}
use Rattle.casebook_words.proofs.Saying.{both_said, said_two}
use Rattle.casebook_recording.specs.Refusals.{var_words}
use Rattle.casebook_recording.proofs.refusal.push_var.Goals as goal

pub returns : goal.returns
unfolding var_words
returns c =
    let line = c.args.line.now in
    let word = word_bytes c.args.name.now in
    let two =
    both_said line c.push_ascii.new.self c.push_word.new.self (codes "the variable ") word c.in_ok-push_ascii.ensures.ok
    (c.in_ok-push_word.ensures.ok
    ∙ ap (λ t. c.push_ascii.new.self ++ word_bytes t) (c.as_bytes.ensures.value ∙ c.as_str.ensures.value)) in
    let three =
    both_said line c.push_word.new.self c.push_ascii-2.new.self (codes "the variable " ++ word) (codes " of session ") two
    c.in_ok-push_ascii-2.ensures.ok in
    said_two c.push_number.result line c.push_ascii-2.new.self c.push_number.new.self
    (codes "the variable " ++ word ++ codes " of session ") (decimal c.args.session) three
    (subst (λ n. OnOk c.push_number.result (c.push_number.new.self ≡ c.push_ascii-2.new.self ++ decimal n)) c.from.ensures
    c.push_number.ensures.ok)
