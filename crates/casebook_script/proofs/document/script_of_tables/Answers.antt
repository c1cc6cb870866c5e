use Rattle.std.proofs.Common.{◌≡◌, ◌∙◌, Ok, ap, subst, sym}
use Rattle.std.proofs.lemmas.Result.{err_from_is_err_and}
use Rattle.retro_log.specs.Document.{script_in}
use Rattle.casebook_script.specs.Scripts.{script_text, script_with}
use Rattle.casebook_script.specs.inner.Readable.{IsReadable}
use Rattle.casebook_script.proofs.Whole.{lines_fail, readable, script_made, sessions_fail, text_made}
use Rattle.casebook_script.proofs.document.script_of_tables.Goals as goal

pub returns-in_err-sessions-clause-text : goal.returns-in_err-sessions-clause-text
returns-in_err-sessions-clause-text c =
    let p = err_from_is_err_and c.from_residual.result c.from_residual.ensures.1 in
    rw (p.1, p.2)
    (sessions_fail c.args.tree.now.tree c.args.sessions.now c.args.lines.now c.in_err-sessions.field-0.0
    c.in_err-sessions.ensures)

pub returns-in_err-lines-clause-text : goal.returns-in_err-lines-clause-text
returns-in_err-lines-clause-text c =
    let p = err_from_is_err_and c.from_residual-in_err-lines.result c.from_residual-in_err-lines.ensures.1 in
    rw (p.1, p.2)
    (lines_fail c.args.tree.now.tree c.args.sessions.now c.args.lines.now c.in_ok-sessions.sessions.sessions
    c.in_err-lines.field-0.0 c.in_ok-sessions.ensures c.in_err-lines.ensures)

pub returns-clause-text : goal.returns-clause-text
returns-clause-text c =
    let tree = c.args.tree.now.tree in
    let found = c.in_ok-sessions.sessions.sessions in
    text_made tree c.args.sessions.now c.args.lines.now found c.in_ok-lines.lines.items c.in_ok-sessions.ensures
    c.in_ok-lines.ensures
    ∙ ap Ok (sym (c.in_ok-write_script.ensures.text
    ∙ ap (λ listed. script_text (script_with tree found listed)) c.as_slice.ensures.value))

pub returns-clause-again : goal.returns-clause-again
returns-clause-again c = λ lawful plain.
    let tree = c.args.tree.now.tree in
    let found = c.in_ok-sessions.sessions.sessions in
    let listed = c.in_ok-lines.lines.items in
    let same = c.as_slice.ensures.value in
    let reads = readable tree c.args.sessions.now c.args.lines.now found listed c.in_ok-sessions.ensures
    c.in_ok-lines.ensures lawful plain in
    record {
      script = script_with tree found listed;
      is_meant =
          script_made tree c.args.sessions.now c.args.lines.now found listed c.in_ok-sessions.ensures
          c.in_ok-lines.ensures;
      is_read =
          subst (λ ls. script_in c.in_ok-write_script.field-0.items ≡ Ok (script_with tree found ls)) same
          (c.in_ok-write_script.ensures.again (subst (λ ls. IsReadable (script_with tree found ls)) (sym same) reads));
    }
