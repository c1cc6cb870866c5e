use Rattle.std.proofs.Common.{ℕ, List, ap, ap₂, ◌∙◌}
use Rattle.retro_tree.specs.Path.{PathValue}
use Rattle.casebook_view.specs.declared.case_line.CaseLine.{CaseLine}
use Rattle.casebook_summary.specs.Effects.{EffectValue}
use Rattle.casebook_summary.proofs.effect.effect_of.Goals as goal

abbrev effect_with : ℕ → List CaseLine → List PathValue → List PathValue → EffectValue
effect_with n led read wrote = record { number = n; led = led; read = read; wrote = wrote }

pub returns : goal.returns
returns c lines are =
    ap₂ (λ led read. effect_with c.args.number led read c.in_ok-wrote.wrote.items)
    (c.in_ok-led.ensures ∙ are c.args.number) c.in_ok-read.ensures
    ∙ ap (effect_with c.args.number _ _) c.in_ok-wrote.ensures
