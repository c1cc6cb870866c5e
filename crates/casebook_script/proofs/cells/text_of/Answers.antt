use Rattle.std.proofs.Common.{◌∙◌, ◌++◌, Ok, ap, false, ok_or, rules, string_bytes, sym}
use Rattle.casebook_script.specs.Cells.{unescaped}
use Rattle.casebook_script.specs.declared.fault.RowFault.TheVariants.{Escape}
use Rattle.casebook_script.proofs.Escapes.{escape_ends, escape_fails, escape_goes_on, rest_shorter}
use Rattle.casebook_script.proofs.cells.text_of.Goals as goal

pub returns-in_default-escape_in : goal.returns-in_default-escape_in
returns-in_default-escape_in c =
    ap (λ t. ok_or t Escape)
    (escape_fails (string_bytes c.escapes.text) c.escapes.rest.now c.in-Some.plain.now c.in-Some.after.now
    (unescaped false c.args.cell.now) c.in-Some.ensures c.in_default-escape_in.ensures c.escapes.invariant.1)

pub escapes-preserved : goal.escapes-preserved
escapes-preserved c = (
  search rules,
  escape_goes_on (string_bytes c.escapes.text) c.escapes.rest.now c.in-Some.plain.now c.in-Some.after.now
      c.in-Some-escape_in.escaped.now c.in-Some-escape_in.more.now (string_bytes c.push_str-in-Some.new.self)
      (unescaped false c.args.cell.now) c.in-Some.ensures c.in-Some-escape_in.ensures
      (c.in_ok-push_str-2.ensures.bytes
      ∙ ap (λ t. t ++ c.in-Some-escape_in.escaped.now) c.in_ok-push_str.ensures.bytes) c.escapes.invariant.1,
)

pub escapes-smaller : goal.escapes-smaller
escapes-smaller c =
    rest_shorter c.escapes.rest.now c.in-Some.plain.now c.in-Some.after.now c.in-Some-escape_in.escaped.now
    c.in-Some-escape_in.more.now c.in-Some.ensures c.in-Some-escape_in.ensures

pub returns : goal.returns
returns c =
    ap (λ t. ok_or t Escape)
    (escape_ends (string_bytes c.escapes.text) c.escapes.rest.now (unescaped false c.args.cell.now) c.in_default.ensures
    c.escapes.invariant.1)
    ∙ ap Ok (sym (c.of.ensures ∙ c.in_ok-push_str-3.ensures.bytes))
