use Rattle.std.proofs.Common.{◌≡◌, nat_le, true, false, sym, ◌∙◌}
use Rattle.retro_syntax.specs.Depth.{line_depth}
use Rattle.retro_syntax.specs.Lines.{line_view}
use Rattle.retro_syntax.proofs.LineLemmas.{parsed_long, refused_result, refused_deep, found_line}
use Rattle.retro_syntax.proofs.lines.parse.Goals as goal

pub returns-then-text-gt-LONGEST_LINE : goal.returns-then-text-gt-LONGEST_LINE
returns-then-text-gt-LONGEST_LINE c =
    record
    { meets = c.if-text-gt-LONGEST_LINE.true; function = parsed_long c.args.text.now c.if-text-gt-LONGEST_LINE.true }

pub returns-in_err-line : goal.returns-in_err-line
returns-in_err-line c =
    let both = refused_result c.args.text.now _ c.in_err-line.field-0.0 c.if-text-gt-LONGEST_LINE.false
    c.from_residual.ensures.1 c.in_err-line.ensures in
    record { meets = both.0; function = both.1 }

pub returns-then-not-is_shallow_line : goal.returns-then-not-is_shallow_line
returns-then-not-is_shallow_line c =
    let d : nat_le (line_depth (line_view c.in_ok-line.line)) 32 ≡ false = sym c.is_shallow_line.ensures
    ∙ c.if-not-is_shallow_line.true in
    let both = refused_deep c.args.text.now (line_view c.in_ok-line.line) c.if-text-gt-LONGEST_LINE.false
    c.in_ok-line.ensures d in
    record { meets = both.0; function = both.1 }

pub returns : goal.returns
returns c =
    let d : nat_le (line_depth (line_view c.in_ok-line.line)) 32 ≡ true = sym c.is_shallow_line.ensures
    ∙ c.if-not-is_shallow_line.false in
    let both = found_line c.args.text.now c.in_ok-line.line c.if-text-gt-LONGEST_LINE.false c.in_ok-line.ensures d in
    record { meets = both.0; function = both.1 }
