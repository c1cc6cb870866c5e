-- Commands whose fields are over the limit.
use Rattle.std.proofs.Common.{◌≡◌, ℕ, List, false, refl, sym, ap, ◌∙◌}
use Rattle.std.specs.Prelude.{codes}
use Rattle.retro_tree.specs.declared.state.State.{State}
use Rattle.retro_local.specs.Runs.{Computes}
use Rattle.retro_local.specs.Trace.{Trace, reached}
use Rattle.retro_syntax.specs.Tree.{Item, Word}
use Rattle.retro_utils.specs.declared.done.Done.{Done}
use Rattle.retro_utils.specs.declared.input.Input.{Input}
use Rattle.retro_shell.specs.Expansion.{fields}
use Rattle.retro_shell.specs.Fields.{fields_fit}
use Rattle.retro_shell.specs.Outcomes.{refusal}
use Rattle.retro_shell.specs.Simple.{command_of}
use Rattle.retro_shell.specs.declared.context.Context.{Context}

refused : (context : Context) (fs : List (List ℕ)) (items : List Item) (input : Input) (s : State)
    → fields_fit fs ≡ false
    → command_of context fs items input s ≡ (s, refusal (codes "argument list too long") 126)
refused context fs items input s over = rw over refl

pub over_limit : (old new : Trace) (context : Context) (words : List Word) (items : List Item) (input : Input)
    (fs : List (List ℕ)) (done : Done)
    → Computes {X = List (List ℕ)} old new (λ s. (s, fields context s words)) fs
    → fields_fit fs ≡ false → done ≡ refusal (codes "argument list too long") 126
    → Computes {X = Done} old new (λ s. command_of context (fields context s words) items input s) done
over_limit old new context words items input fs done computes over is = record {
  held = computes.held;
  means = λ s lawful h.
      ap (λ (r : State × List (List ℕ)). command_of context r.1 items input r.0) (computes.means s lawful h)
      ∙ refused context fs items input (reached new.notes s) over ∙ ap (λ d. (reached new.notes s, d)) (sym is);
}
