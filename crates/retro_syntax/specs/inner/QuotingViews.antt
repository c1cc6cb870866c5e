-- The state of the definition that a lexer represents.
use Rattle.std.specs.Prelude.{ℕ, List, Option, Result, map, string_bytes, Vec}
use Rattle.std.specs.declared.alloc.Global.{Global}
use Rattle.retro_syntax.specs.inner.Failing.{Gives}
use Rattle.retro_syntax.specs.Tree as T
use Rattle.retro_syntax.specs.Quoting as Q
use Rattle.retro_syntax.specs.View.{tokens_view, piece_view}
use Rattle.retro_syntax.specs.declared.syntax_error.SyntaxError.{SyntaxError}
use Rattle.retro_syntax.specs.declared.tree.Piece.{Piece}
use Rattle.retro_syntax.specs.declared.lexer.Quote.{Quote}
use Rattle.retro_syntax.specs.declared.lexer.Quote.TheVariants as q
use Rattle.retro_syntax.specs.declared.lexer.Operator.{Operator}
use Rattle.retro_syntax.specs.declared.lexer.Operator.TheVariants as o
use Rattle.retro_syntax.specs.declared.lexer.Pending.{Pending}
use Rattle.retro_syntax.specs.declared.lexer.Pending.TheVariants as p
use Rattle.retro_syntax.specs.declared.lexer.Lexer.{Lexer}

abbrev pub pieces_view : Vec Piece Global → List T.Piece
pieces_view ps = map piece_view ps.items

abbrev pub quote_view : Quote → Q.Quote
quote_view q.Unquoted = Q.unquoted
quote_view q.Single = Q.single
quote_view q.Double = Q.double

abbrev pub operator_view : Operator → Q.Operator
operator_view o.Semicolon = Q.one_semicolon
operator_view o.And = Q.one_ampersand
operator_view o.Bar = Q.one_bar
operator_view o.Less = Q.one_less
operator_view o.Greater = Q.one_greater

-- with the pieces of the pending word, and the name of the pending parameter
abbrev pub pending_view : Pending → List T.Piece → List ℕ → Q.Pending
pending_view p.Between ps n = Q.between
pending_view p.Comment ps n = Q.comment
pending_view (p.Operator op) ps n = Q.operator (operator_view op)
pending_view (p.Word digits q) ps n = Q.reading (Q.in_word ps digits (quote_view q))
pending_view (p.Dollar inside) ps n = Q.reading (Q.dollar ps inside)
pending_view (p.Name inside) ps n = Q.reading (Q.dollar_name ps inside n)
pending_view (p.Brace inside) ps n = Q.reading (Q.dollar_brace ps inside n)
pending_view (p.Question inside) ps n = Q.reading (Q.dollar_question ps inside)

-- the state before the next character, whatever the last one was
abbrev pub unescaped_view : Lexer → Q.Lexing
unescaped_view l =
    Q.with_pending (tokens_view l.tokens)
    (pending_view l.pending (pieces_view l.pieces) (string_bytes l.name))

abbrev pub lexer_view : Lexer → Q.Lexing
lexer_view l = record (unescaped_view l) { backslash = l.backslash }

-- The character was read: the lexer is in the state that the definition gives, but for `backslash`.
abbrev pub Reads : Lexer → Result (Unit {0}) SyntaxError → Option Q.Lexing → Type 0
Reads l result next = Gives (λ _. unescaped_view l) result next
