-- The encoding of traces, which the model of `Local` needs.
use Rattle.std.specs.Prelude.{List, refl}
use Rattle.std.specs.Coded.{Coded, code_by, coded×, coded_list}
use Rattle.retro_tree.specs.declared.state.State.{State}
use Rattle.retro_tree.specs.declared.note.Note.{Note}
use Rattle.retro_tree.specs.contracts.state.State as state_type
use Rattle.retro_tree.specs.contracts.note.Note as note_type
use Rattle.retro_local.specs.Trace.{Trace}

abbrev pub coded_state : Coded State
coded_state = (state_type.the_row).coded

abbrev pub coded_note : Coded Note
coded_note = (note_type.the_row).coded

-- as the pair of the fields
abbrev pub coded_trace : Coded Trace
coded_trace =
    code_by (State × List Note) (coded× coded_state (coded_list coded_note))
    (λ trace. (trace.start, trace.notes)) (λ p. record { start = p.0; notes = p.1 }) (λ _. refl)
