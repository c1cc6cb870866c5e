use Rattle.std.proofs.Common.{◌≡◌, ◌∙◌, Err, IsOk, None, Ok, Some, subst, sym}
use Rattle.std.proofs.lemmas.Result.{err_from_is_err_and}
use Rattle.retro_keep.specs.Edit.{edit, has_line, least, not_lines, twice_edited}
use Rattle.retro_keep.specs.Script.{ScriptValue}
use Rattle.retro_keep.specs.declared.edit_fault.EditRefusal.TheVariants.{NoSuchLine}
use Rattle.retro_keep.proofs.Edited.{edit_accepted, edit_missing, edit_ok, edit_twice, is_script}
use Rattle.retro_keep.proofs.script.Script.edit.Goals as goal

pub invariant_of-result : goal.invariant_of-result
invariant_of-result c =
    is_script c.in_ok-edits.edits (record {
      first = c.self.inside.first;
      lines = c.self.inside.lines.items;
    }) c.in_ok-lines.lines.items c.in_ok-lines.ensures c.self.invariant

pub returns-in-Some : goal.returns-in-Some
returns-in-Some c =
    edit_twice c.in-Some.number c.args.edits.now c.args.self
    (sym c.in-Some.is ∙ c.least_edited_twice.ensures)

pub returns-in-Some-least_missing : goal.returns-in-Some-least_missing
returns-in-Some-least_missing c =
    let edits = c.args.edits.now in
    let n = c.in-Some-least_missing.number in
    let script : ScriptValue = record {
      first = c.self.inside.first;
      lines = c.self.inside.lines.items;
    } in
    let twice : None ≡ least (twice_edited edits) =
    sym c.in_default.is ∙ c.least_edited_twice.ensures in
    let missing : Some n ≡ least (not_lines (has_line script) edits) =
    sym c.in-Some-least_missing.is ∙ rw c.deref.ensures.value at c.least_missing.ensures in
    subst (λ (s : ScriptValue). edit edits s ≡ Err (NoSuchLine n)) c.self.view_is
    (edit_missing n edits script twice missing)

-- memory runs out only if no edit is refused
pub returns-in_err-edits : goal.returns-in_err-edits
returns-in_err-edits c =
    let p = err_from_is_err_and c.from_residual.result c.from_residual.ensures.1 in
    let edits = c.args.edits.now in
    let script : ScriptValue = record {
      first = c.self.inside.first;
      lines = c.self.inside.lines.items;
    } in
    let twice : None ≡ least (twice_edited edits) =
    sym c.in_default.is ∙ c.least_edited_twice.ensures in
    let missing : None ≡ least (not_lines (has_line script) edits) =
    sym c.in_default-least_missing.is ∙ rw c.deref.ensures.value at c.least_missing.ensures in
    rw (p.1, p.2)
    (subst (λ (s : ScriptValue). IsOk (edit edits s)) c.self.view_is (edit_accepted edits script twice missing))

pub returns-in_err-lines : goal.returns-in_err-lines
returns-in_err-lines c =
    let p = err_from_is_err_and c.from_residual-in_err-lines.result c.from_residual-in_err-lines.ensures.1 in
    let edits = c.args.edits.now in
    let script : ScriptValue = record {
      first = c.self.inside.first;
      lines = c.self.inside.lines.items;
    } in
    let twice : None ≡ least (twice_edited edits) =
    sym c.in_default.is ∙ c.least_edited_twice.ensures in
    let missing : None ≡ least (not_lines (has_line script) edits) =
    sym c.in_default-least_missing.is ∙ rw c.deref.ensures.value at c.least_missing.ensures in
    rw (p.1, p.2)
    (subst (λ (s : ScriptValue). IsOk (edit edits s)) c.self.view_is (edit_accepted edits script twice missing))

pub returns : goal.returns
returns c =
    let edits = c.args.edits.now in
    let script : ScriptValue = record {
      first = c.self.inside.first;
      lines = c.self.inside.lines.items;
    } in
    let edited : ScriptValue = record {
      first = c.self.inside.first;
      lines = c.in_ok-lines.lines.items;
    } in
    let twice : None ≡ least (twice_edited edits) =
    sym c.in_default.is ∙ c.least_edited_twice.ensures in
    let missing : None ≡ least (not_lines (has_line script) edits) =
    sym c.in_default-least_missing.is ∙ rw c.deref.ensures.value at c.least_missing.ensures in
    subst (λ (s : ScriptValue). edit edits s ≡ Ok edited) c.self.view_is
    (edit_ok c.in_ok-edits.edits edits script c.in_ok-lines.lines.items twice missing
    c.in_ok-edits.ensures c.in_ok-lines.ensures)
