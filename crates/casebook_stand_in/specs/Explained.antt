-- Which lines are modelled, and what an explanation of a line promises.
use Rattle.std.specs.Prelude.{◌≡◌, ℕ, Bool, if◌then◌else◌, List, Option, Some, None, IsTrue}
use Rattle.retro_tree.specs.declared.state.State.{State}
use Rattle.retro_shell.specs.Line.{line}
use Rattle.casebook_stand_in.specs.Effect.{EffectValue, observed, standing}
use Rattle.casebook_stand_in.specs.Lengths.{is_short}

-- A typed text models an effect if it isn't too long for a line, and its line gives the observed
-- state.
pub record Models (text : List ℕ) (effect : EffectValue) (s : State) : Type 0 where
  pub short : IsTrue (is_short text)
  pub gives : (line effect.sid text s).0 ≡ observed effect s

-- a line is modelled if it has a typed text that models its effect
abbrev pub IsModelled : Option (List ℕ) → EffectValue → State → Type 0
IsModelled None effect s = ⊥
IsModelled (Some text) effect s = Models text effect s

-- the effect that a line's texts have: the observed one if the line is modelled, and else the one
-- that stands for it
abbrev pub effect_of_texts : Bool → EffectValue → EffectValue
effect_of_texts is_modelled effect = if is_modelled then effect else standing effect
