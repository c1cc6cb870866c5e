-- The encoding of runs, which the model of `Run` needs.
use Rattle.std.specs.Prelude.{ℕ, List, refl}
use Rattle.std.specs.Coded.{Coded, code_by, coded×, coded_list, coded_ℕ}
use Rattle.retro_tree.specs.declared.note.Note.{Note}
use Rattle.retro_local.specs.inner.TraceCode.{coded_note}
use Rattle.retro_shell.specs.Runs.{RunValue}

-- as the nested pairs of the fields
abbrev pub coded_run : Coded RunValue
coded_run =
    code_by (ℕ × (List ℕ × (List Note × List ℕ)))
    (coded× coded_ℕ (coded× (coded_list coded_ℕ) (coded× (coded_list coded_note) (coded_list coded_ℕ))))
    (λ run. (run.sid, (run.text, (run.notes, run.output))))
    (λ p. record { sid = p.0; text = p.1.0; notes = p.1.1.0; output = p.1.1.1 }) (λ _. refl)
