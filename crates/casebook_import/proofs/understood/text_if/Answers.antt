use Rattle.std.proofs.Common.{◌≡◌, ◌∙◌, Some, ap, rules, sym, true}
use Rattle.casebook_typed.specs.Values.{seen_value}
use Rattle.casebook_import.specs.Understood.{is_understood}
use Rattle.casebook_import.proofs.Texts.{known_text, odd_text}
use Rattle.casebook_import.proofs.understood.text_if.Goals as goal

pub returns-in_default : goal.returns-in_default
returns-in_default c =
    sym (odd_text c.args.state.now c.args.session (seen_value c.args.seen.now) c.args.text.now
    c.in_default.ensures.cases.0)

pub returns : goal.returns
returns c =
    let same = c.in-Ok.ensures.cases.0 in
    let known : c.in_ok-is_understood.field-0 ≡ true = search rules in
    ap Some (c.of.ensures ∙ c.in_ok-from_str.ensures.ok ∙ same)
    ∙ sym (known_text c.args.state.now c.args.session (seen_value c.args.seen.now) c.args.text.now
    c.in-Ok.ensures.cases.1
    (ap (is_understood c.args.state.now c.args.session) (sym same)
    ∙ sym c.in_ok-is_understood.ensures ∙ known)
    (sym c.in_ok-seen_touches.ensures ∙ c.if-branch.false))
