use Rattle.std.proofs.Common.{◌≡◌, ◌∙◌, ◌++◌, [], ap, drop, drop_of_length-le, map, subst, sym}
use Rattle.serde_json.specs.View.{items_of}
use Rattle.serde_json.specs.Written.{items_text}
use Rattle.retro_log.specs.LogText.{line_data, lines_data}
use Rattle.retro_json.proofs.ReadBack.{AreReadBack, array_read_back}
use Rattle.retro_log.proofs.writing.line.push_lines.Goals as goal

pub returns-clause-text : goal.returns-clause-text
unfolding lines_data
returns-clause-text c =
    let l = c.loop-number in
    let none : drop l.number-index c.args.lines.now ≡ [] =
    drop_of_length-le c.args.lines.now c.loop-number-test.false in
    c.in_ok-push-2.ensures.items
    ∙ ap (λ rest. l.text.items ++ items_text l.later (items_of (map line_data rest))) (sym none)
    ∙ l.invariant.0

pub returns-clause-read_back : goal.returns-clause-read_back
unfolding lines_data
returns-clause-read_back c =
    let l = c.loop-number in
    let none : drop l.number-index c.args.lines.now ≡ [] =
    drop_of_length-le c.args.lines.now c.loop-number-test.false in
    array_read_back (map line_data c.args.lines.now)
    (l.invariant.1 (subst (λ rest. AreReadBack (map line_data rest)) (sym none) tt))
