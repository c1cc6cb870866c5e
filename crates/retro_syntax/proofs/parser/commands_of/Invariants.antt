use Rattle.std.proofs.Common.{◌≡◌, Some, map, []}
use Rattle.std.specs.Vec.Iter.{into_iter_items}
use Rattle.retro_syntax.specs.Parsing as M
use Rattle.retro_syntax.specs.View.{token_view}
use Rattle.retro_syntax.specs.inner.ParserViews.{parser_view}
use Rattle.retro_syntax.proofs.parser.commands_of.Given as goal

abbrev pub invariant-loop-token : goal.invariant-loop-token
invariant-loop-token l =
    (goal.iterator-loop-token).can_next l.token-iterator ×
    (goal.iterator-loop-token).is_finite l.token-iterator ×
    (M.run (Some (parser_view l.parser)) (map token_view (into_iter_items l.token-iterator)) ≡ M.run
    (Some (M.at [] M.empty_list M.start)) (map token_view l.fn.tokens.items))
