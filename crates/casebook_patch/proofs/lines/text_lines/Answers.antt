use Rattle.std.proofs.Common.{ap, arith, subst, sym, ◌∙◌, ◌∷◌}
use Rattle.std.proofs.lemmas.Bool.Decides.{nat_tests}
use Rattle.std.specs.Prelude.{IsUtf8}
use Rattle.casebook_patch.specs.Lines.{lines_of}
use Rattle.casebook_patch.proofs.LineLemmas.{all_read, not_text, one_more_read}
use Rattle.casebook_patch.proofs.lines.text_lines.Goals as goal

pub returns-in_default : goal.returns-in_default
returns-in_default c =
    not_text c.args.bytes.now c.loop-rest.rest.now c.split_line.result.0.now c.split_line.result.1.now _ c.loop-rest.invariant
    c.split_line.ensures.lines c.in_default.ensures.cases.0

pub loop-rest-preserved : goal.loop-rest-preserved
loop-rest-preserved c =
    one_more_read c.args.bytes.now c.loop-rest.rest.now c.split_line.result.1.now c.loop-rest.lines.items c.push.new.self.items
    c.in-Ok.text c.loop-rest.invariant
    (c.split_line.ensures.lines ∙ ap (λ line. line ∷ lines_of c.split_line.result.1.now) (sym c.in-Ok.ensures.cases.0))
    c.in_ok-push.ensures.items (subst IsUtf8 (sym c.in-Ok.ensures.cases.0) c.in-Ok.ensures.cases.1)

pub returns : goal.returns
returns c = all_read c.args.bytes.now c.loop-rest.rest.now _ (grind (arith, nat_tests)) c.loop-rest.invariant
