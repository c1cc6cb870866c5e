-- The state of the definition that a parser represents.
use Rattle.std.specs.Prelude.{List, map, reverse, Option, Result, Vec}
use Rattle.std.specs.declared.alloc.Global.{Global}
use Rattle.retro_syntax.specs.inner.Failing.{Gives}
use Rattle.retro_syntax.specs.Tree as T
use Rattle.retro_syntax.specs.Parsing as M
use Rattle.retro_syntax.specs.View.{token_view, view, commands_of, and_or_of, pipeline_of, word_view, simple_view}
use Rattle.retro_syntax.specs.View.{item_view}
use Rattle.retro_syntax.specs.declared.syntax_error.SyntaxError.{SyntaxError}
use Rattle.retro_syntax.specs.declared.tree.Token.{Token}
use Rattle.retro_syntax.specs.declared.tree.Word.{Word}
use Rattle.retro_syntax.specs.declared.tree.Item.{Item}
use Rattle.retro_syntax.specs.declared.tree.Simple.{Simple}
use Rattle.retro_syntax.specs.declared.tree.Commands.{Commands}
use Rattle.retro_syntax.specs.declared.tree.Command.{Command}
use Rattle.retro_syntax.specs.declared.parser.open.Open.{Open}
use Rattle.retro_syntax.specs.declared.parser.Frame.{Frame}
use Rattle.retro_syntax.specs.declared.parser.Frame.TheVariants as f
use Rattle.retro_syntax.specs.declared.parser.Place.{Place}
use Rattle.retro_syntax.specs.declared.parser.Place.TheVariants as p
use Rattle.retro_syntax.specs.declared.parser.Parser.{Parser}

abbrev pub open_view : Open → M.Open
open_view o =
    record {
      and_ors = map (and_or_of view) o.and_ors.items;
      pipelines = map (λ j. (pipeline_of view j.0, j.1)) o.pipelines.items;
      negated = o.negated;
    }

abbrev pub arm_view : Commands Command × Commands Command → T.Commands × T.Commands
arm_view a = (commands_of view a.0, commands_of view a.1)

abbrev pub frame_view : Frame → M.Frame
frame_view (f.Condition xs) = M.condition (map arm_view xs.items)
frame_view (f.Consequence xs c) = M.consequence (map arm_view xs.items) (commands_of view c)
frame_view (f.Alternative xs c t) =
    M.alternative (map arm_view xs.items) (commands_of view c) (commands_of view t)
frame_view (f.Body n ws) = M.body n (map word_view ws.items)

abbrev pub stages_view : Vec Simple Global → List T.Simple
stages_view ss = map simple_view ss.items

abbrev pub items_view : Vec Item Global → List T.Item
items_view is = map item_view is.items

abbrev pub words_view : Vec Word Global → List T.Word
words_view ws = map word_view ws.items

abbrev pub place_view : Place → M.Place
place_view p.Start = M.start
place_view (p.InSimple ss s) = M.in_simple (stages_view ss) (simple_view s)
place_view (p.Target ss is d) = M.target (stages_view ss) (items_view is) d
place_view (p.AfterBar ss) = M.after_bar (stages_view ss)
place_view (p.AfterCompound c) = M.after_compound (view c)
place_view p.ForName = M.for_name
place_view (p.ForIn n) = M.for_in n
place_view (p.ForWords n ws) = M.for_words n (words_view ws)
place_view (p.ForDo n ws) = M.for_do n (words_view ws)

abbrev pub level_view : Open × Frame → M.Open × M.Frame
level_view l = (open_view l.0, frame_view l.1)

-- the innermost first
abbrev pub stack_view : Vec (Open × Frame) Global → List (M.Open × M.Frame)
stack_view st = reverse (map level_view st.items)

abbrev pub parser_view : Parser → M.State
parser_view p = M.at (stack_view p.stack) (open_view p.here) (place_view p.place)

-- The token was read: the parser is in the state that the definition gives.
abbrev pub Parses : Parser → Result (Unit {0}) SyntaxError → Option M.State → Type 0
Parses p result next = Gives (λ _. parser_view p) result next

-- The token was read at this place.
abbrev pub ParsesAt : Parser → M.Place → Token → Parser → Result (Unit {0}) SyntaxError → Type 0
ParsesAt old place token new result =
    Parses new result
    (M.step_at (stack_view old.stack) (open_view old.here) place (token_view token))
