-- The lines that are explained, each over the state before it.
use Rattle.std.specs.Prelude.{ℕ, List, [], ◌∷◌, Option, Some, None}
use Rattle.retro_path.specs.Path.{PathValue}
use Rattle.retro_tree.specs.declared.state.State.{State}
use Rattle.casebook_typed.specs.Lines.{LineValue}
use Rattle.casebook_stand_in.specs.Effect.{EffectValue, observed}
use Rattle.casebook_explain.specs.declared.seen_line.SeenLine.{SeenLine}
use Rattle.casebook_import.specs.Effects.{line_effect}
use Rattle.casebook_spool.specs.Held.{Held}
use Rattle.casebook_import.specs.Understood.{understood_text}

-- a line that was seen, by what it stands for
pub record SeenValue : Type 0 where
  pub text : List ℕ
  pub typed : Option (List ℕ)
  pub read : List PathValue
  pub listed : List PathValue
  pub effect : EffectValue

abbrev pub seen_value : SeenLine → SeenValue
seen_value line = record {
  text = line.text;
  typed = line.typed;
  read = line.read.items;
  listed = line.listed.items;
  effect = line.effect;
}

-- a text, or an empty one if it is hidden
abbrev pub text_or : Option (List ℕ) → List ℕ
text_or None = []
text_or (Some text) = text

abbrev pub seen_by : Held → State → LineValue → SeenValue
seen_by held s line = record {
  text = text_or line.text;
  typed = understood_text s line;
  read = line.seen.read;
  listed = line.seen.listed;
  effect = line_effect held s line;
}

-- the lines that were seen from a state on
abbrev pub seen_from : Held → State → List LineValue → List SeenValue
seen_from held s [] = []
seen_from held s (line ∷ lines) =
    seen_by held s line ∷ seen_from held (observed (line_effect held s line) s) lines
