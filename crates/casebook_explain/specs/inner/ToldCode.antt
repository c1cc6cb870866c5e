-- The code of told lines, which the model of `Told` needs.
use Rattle.std.specs.Prelude.{List, refl}
use Rattle.std.specs.Coded.{Coded, code_by, coded×, coded_list}
use Rattle.retro_tree.specs.declared.state.State.{State}
use Rattle.retro_tree.specs.contracts.state.State as state_type
use Rattle.casebook_explain.specs.Value.{ToldValue}
use Rattle.casebook_explain.specs.contracts.told.ToldLine as line_type
use Rattle.casebook_explain.specs.declared.told.ToldLine.{ToldLine}

-- as the pair of the parts
abbrev pub coded_told : Coded ToldValue
coded_told =
    code_by (State × List ToldLine)
    (coded× (state_type.the_row).coded (coded_list (line_type.the_row).coded))
    (λ t. (t.first, t.lines)) (λ p. record { first = p.0; lines = p.1 }) (λ _. refl)
