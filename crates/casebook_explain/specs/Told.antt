-- What is promised of the texts by which a recording has a line.
use Rattle.std.specs.Prelude.{◌≡◌, ◌↔◌, ℕ, Bool, false, List, [], ◌∷◌, IfSome, IsTrue, Some, filter, map}
use Rattle.std.specs.Prelude.{if◌then◌else◌}
use Rattle.std.specs.List.{list_all}
use Rattle.retro_path.specs.Order.{path_eq}
use Rattle.retro_path.specs.Path.{PathValue}
use Rattle.retro_tree.specs.Session.{session_in}
use Rattle.retro_tree.specs.declared.ask.Ask.{Ask}
use Rattle.retro_tree.specs.declared.ask.Ask.TheVariants as asks
use Rattle.retro_tree.specs.declared.state.State.{State}
use Rattle.casebook_needs.specs.Line.{LineValue}
use Rattle.casebook_needs.specs.Needs.{needs_of}
use Rattle.casebook_needs.specs.declared.need.Need.{Need}
use Rattle.casebook_stand_in.specs.Effect.{observed}
use Rattle.casebook_stand_in.specs.Explained.{IsModelled, effect_of_texts}
use Rattle.casebook_stand_in.specs.Lengths.{is_short}
use Rattle.casebook_stand_in.specs.Texts.{Lead, text_in}
use Rattle.casebook_explain.specs.Done.{done_by}
use Rattle.casebook_explain.specs.Places.{shell_path}
use Rattle.casebook_explain.specs.declared.seen_line.SeenLine.{SeenLine}
use Rattle.casebook_explain.specs.declared.told.ToldLine.{ToldLine}

-- ---- needs

-- a line as a recorder noted it, by the state before it
abbrev pub noted_line : State → SeenLine → LineValue
noted_line s line = record {
  text = line.text;
  session = line.effect.sid;
  directory = (session_in line.effect.sid s.sessions).cwd;
  read = line.read.items;
  listed = line.listed.items;
  effects = done_by line.effect s;
  shell = Some (shell_path line.effect.sid);
}

-- whether a need is what the file at a path holds
abbrev pub asks_file : PathValue → Ask → Bool
asks_file path (asks.Bytes p) = path_eq p path
asks_file path _ = false

-- The needs of a line, by those that it has if it isn't modelled. The meaning of a modelled line
-- depends on its state alone, and on the functions, aliases and options of its session, which only
-- the machine's shell has.
abbrev pub needs_left : Bool → ℕ → List Need → List Need
needs_left is_modelled session needs =
    if is_modelled then filter (λ need. asks_file (shell_path session) need.ask) needs else needs

-- the needs of a line, in the state before it
abbrev pub needs_told : Bool → State → SeenLine → List Need
needs_told is_modelled s line =
    needs_left is_modelled line.effect.sid (needs_of s (noted_line s line))

-- ---- texts

-- the state after a line: the one before it with what the line was seen to change
abbrev pub state_after : SeenLine → ToldLine → State → State
state_after line told s = observed (effect_of_texts told.is_modelled line.effect) s

-- What a told line says of a line that was seen, over the state before it: its texts lead to the
-- state that was observed; it is modelled exactly if the typed text does so, and then that is its
-- only text; no text is too long; and its needs are those of the rules.
pub record IsTold (line : SeenLine) (told : ToldLine) (s : State) : Type 0 where
  pub session : told.session ≡ line.effect.sid
  pub leads : Lead told.session told.runs.items s (state_after line told s)
  pub modelled : IsTrue told.is_modelled ↔ IsModelled line.typed line.effect s
  pub typed : IsTrue told.is_modelled
      → IfSome line.typed (λ text. map text_in told.runs.items ≡ text ∷ [])
  pub short : IsTrue (list_all is_short (map text_in told.runs.items))
  pub needs : told.needs.items ≡ needs_told told.is_modelled s line

-- each line is told, from a state on
abbrev pub AreTold : List SeenLine → List ToldLine → State → Type 0
AreTold [] [] s = Unit {0}
AreTold (line ∷ lines) (told ∷ rest) s =
    IsTold line told s × AreTold lines rest (state_after line told s)
AreTold _ _ s = ⊥

-- the state after lines
abbrev pub state_at_end : List SeenLine → List ToldLine → State → State
state_at_end (line ∷ lines) (told ∷ rest) s = state_at_end lines rest (state_after line told s)
state_at_end _ _ s = s
