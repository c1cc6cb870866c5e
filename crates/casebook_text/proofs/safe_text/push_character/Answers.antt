use Rattle.std.proofs.Common.{sym, ◌∙◌, string_bytes}
use Rattle.casebook_text.proofs.Writing.{shown_itself, code_written, only_one}
use Rattle.casebook_text.proofs.safe_text.push_character.Goals as goal

pub returns-then-is_shown : goal.returns-then-is_shown
returns-then-is_shown c =
    only_one _ _ _ _ _ c.push.ensures.bytes
    (shown_itself c.args.breaks c.args.c (sym c.is_shown.ensures ∙ c.if-is_shown.true))

pub returns : goal.returns
returns c =
    code_written c.push-2.result c.args.breaks (string_bytes c.args.text.now) (string_bytes c.push_str.new.self)
    (string_bytes c.push_digits.new.text) (string_bytes c.push-2.new.self)
    c.args.c c.code_width.result c.from.result (sym c.is_shown.ensures ∙ c.if-is_shown.false)
    c.in_ok-push_str.ensures.bytes c.code_width.ensures c.from.ensures c.in_ok-push_digits.ensures c.push-2.ensures.bytes
