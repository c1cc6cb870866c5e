-- The tree that a value of the code represents, field by field.
use Rattle.std.specs.Prelude.{List, map, string_bytes, Vec}
use Rattle.std.specs.declared.alloc.Global.{Global}
use Rattle.retro_syntax.specs.Tree as T
use Rattle.retro_syntax.specs.Parsing.{join, listed, arms_up_to}
use Rattle.retro_syntax.specs.declared.tree.Parameter.{Parameter}
use Rattle.retro_syntax.specs.declared.tree.Parameter.TheVariants as q
use Rattle.retro_syntax.specs.declared.tree.Piece.{Piece}
use Rattle.retro_syntax.specs.declared.tree.Piece.TheVariants as p
use Rattle.retro_syntax.specs.declared.tree.Word.{Word}
use Rattle.retro_syntax.specs.declared.tree.Assignment.{Assignment}
use Rattle.retro_syntax.specs.declared.tree.Item.{Item}
use Rattle.retro_syntax.specs.declared.tree.Item.TheVariants as i
use Rattle.retro_syntax.specs.declared.tree.Simple.{Simple}
use Rattle.retro_syntax.specs.declared.tree.Simple.TheVariants as s
use Rattle.retro_syntax.specs.declared.tree.Token.{Token}
use Rattle.retro_syntax.specs.declared.tree.Token.TheVariants as t
use Rattle.retro_syntax.specs.declared.tree.Pipeline.{Pipeline}
use Rattle.retro_syntax.specs.declared.tree.AndOr.{AndOr}
use Rattle.retro_syntax.specs.declared.tree.Commands.{Commands}
use Rattle.retro_syntax.specs.declared.tree.Conditional.{Conditional}
use Rattle.retro_syntax.specs.declared.tree.Command.{Command, fold-Command}
use Rattle.retro_syntax.specs.declared.tree.Command.TheOpen.{Command-F}

abbrev pub parameter_view : Parameter → T.Parameter
parameter_view q.Status = T.status
parameter_view (q.Variable n) = T.variable n

abbrev pub piece_view : Piece → T.Piece
piece_view (p.Plain x) = T.plain (string_bytes x)
piece_view (p.Quoted x) = T.quoted (string_bytes x)
piece_view (p.Parameter x) = T.parameter (parameter_view x)
piece_view (p.QuotedParameter x) = T.quoted_parameter (parameter_view x)

abbrev pub word_view : Word → T.Word
word_view w = map piece_view w.pieces.items

abbrev pub assignment_view : Assignment → T.Assignment
assignment_view a = record { name = a.name; value = word_view a.value }

abbrev pub item_view : Item → T.Item
item_view (i.Argument w) = T.argument (word_view w)
item_view (i.Redirect d w) = T.redirect d (word_view w)

abbrev pub simple_view : Simple → T.Simple
simple_view (s.Assignments xs) = T.assignments (map assignment_view xs.items)
simple_view (s.Command is) = T.command (map item_view is.items)

abbrev pub token_view : Token → T.Token
token_view t.Semicolon = T.semicolon
token_view t.Bar = T.bar
token_view (t.Connector c) = T.connector c
token_view (t.Redirection d) = T.redirection d
token_view (t.Word w) = T.word (word_view w)

abbrev pub tokens_view : Vec Token Global → List T.Token
tokens_view ts = map token_view ts.items

module _ {C : Type 0} (of : C → T.Command) where
  abbrev pub pipeline_of : Pipeline C → T.Pipeline
  pipeline_of p = T.pipeline p.negated (of p.command)

  abbrev pub and_or_of : AndOr C → T.AndOr
  and_or_of a = join (map (λ j. (pipeline_of j.0, j.1)) a.before.items) (pipeline_of a.last)

  abbrev pub commands_of : Commands C → T.Commands
  commands_of c = listed (map and_or_of c.before.items) (and_or_of c.last) c.final_semicolon

  abbrev pub arms_of : Conditional C → T.Arms
  arms_of x =
      arms_up_to (map (λ a. (commands_of a.0, commands_of a.1)) x.before.items)
      (T.fi (commands_of x.condition) (commands_of x.consequence))

  abbrev pub arms_else_of : Conditional C → Commands C → T.Arms
  arms_else_of x e =
      arms_up_to (map (λ a. (commands_of a.0, commands_of a.1)) x.before.items)
      (T.otherwise (commands_of x.condition) (commands_of x.consequence) (commands_of e))

-- one level of a command, whose inner commands are trees already
abbrev pub view_step : Command-F T.Command → T.Command
view_step (Command-F.Pipe ss) = T.simples (map simple_view ss.items)
view_step (Command-F.If x) = T.conditional (arms_of (λ c. c) x.value)
view_step (Command-F.IfElse x e) = T.conditional (arms_else_of (λ c. c) x.value e.value)
view_step (Command-F.For x) =
    T.loop x.value.name (map word_view x.value.words.items)
    (commands_of (λ c. c) x.value.body)

-- a command's tree
unfoldable pub view : Command → T.Command
view = fold-Command T.Command view_step
