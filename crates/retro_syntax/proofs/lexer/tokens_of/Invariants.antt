use Rattle.std.proofs.Common.{◌≡◌, [], Some, length, drop}
use Rattle.std.specs.Str.{chars}
use Rattle.retro_syntax.specs.Quoting.{between, lex_run, with_pending}
use Rattle.retro_syntax.specs.inner.QuotingViews.{lexer_view}
use Rattle.retro_syntax.proofs.lexer.tokens_of.Given as goal

-- The characters that are left lead from here to the same end.
abbrev pub invariant-loop-c : goal.invariant-loop-c
invariant-loop-c l =
    lex_run (Some (lexer_view l.lexer)) (drop (length l.yielded) (chars l.text))
    ≡ lex_run (Some (with_pending [] between)) (chars l.text)
