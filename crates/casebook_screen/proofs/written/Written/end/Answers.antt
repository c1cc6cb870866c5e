use Rattle.std.proofs.Common.{◌≡◌, ◌∙◌, ◌++◌, ◌∷◌, [], ap, ap₂}
use Rattle.std.proofs.lemmas.List.{append-nil}
use Rattle.casebook_text.specs.SafeLine.{text_of_lines}
use Rattle.casebook_screen.specs.Screen.{piece_text}
use Rattle.casebook_screen.proofs.Showing.{line_ended}
use Rattle.casebook_screen.proofs.written.Written.end.Goals as goal

pub returns : goal.returns
unfolding piece_text
returns c =
    let old = c.args.self.now.lines.items in
    let line = c.args.self.now.line in
    let pushed : c.push.new.self.items ≡ old ++ line ∷ []
    = c.in_ok-push.ensures.items ∙ ap (λ l. old ++ l ∷ []) c.replace-line.ensures.value in
    ap₂ (λ ls l. text_of_lines ls ++ l) pushed (c.replace-line.ensures.after ∙ c.new.ensures)
    ∙ append-nil (text_of_lines (old ++ line ∷ [])) ∙ line_ended old line
