use Rattle.std.proofs.Common.{◌∙◌, Bor, List, ℕ, Some, [], ap, sym}
use Rattle.std.specs.Prelude.{option_map}
use Rattle.casebook_shell.proofs.NamesSoFar.{row_names, row_names_nothing}
use Rattle.casebook_shell.proofs.rules.names_in.Goals as goal
use Rattle.casebook_shell.proofs.rules.names_in.Goals.{in-Some+in_ok-of+in_ok-insert, in_default}

pub loop-row-preserved : goal.loop-row-preserved
loop-row-preserved c =
    let l = c.loop-row in
    let none : Bor (List ℕ) = record { ref_ptr = (0, 0); now = [] } in
    elim c.match-name_in.branch [
      | in-Some+in_ok-of+in_ok-insert w ↦
          rw w.names-is
          (row_names l.names w.insert.new.self c.args.rows.now l.row-index none w.in_ok-of.field-0
          c.loop-row-test.true
          (sym c.name_in.ensures ∙ ap (option_map (λ (r : Bor (List ℕ)). r.now)) w.in-Some.is
          ∙ ap Some (sym w.in_ok-of.ensures))
          w.in_ok-insert.ensures.updates.0 l.invariant)
      | in_default w ↦
          rw w.names-is
          (row_names_nothing l.names c.args.rows.now l.row-index none c.loop-row-test.true
          (sym c.name_in.ensures ∙ ap (option_map (λ (r : Bor (List ℕ)). r.now)) w.in_default.is)
          l.invariant)
    ]
