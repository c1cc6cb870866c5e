use Rattle.std.proofs.Common.{map}
use Rattle.retro_syntax.specs.View.{piece_view}
use Rattle.retro_syntax.proofs.ParserLemmas.{map-push}
use Rattle.retro_syntax.proofs.QuotingLemmas.{add_quoted_push}
use Rattle.retro_syntax.proofs.lexer.pieces.push_quoted_text.Goals as goal

pub returns-in-Some : goal.returns-in-Some
returns-in-Some c =
    rw (
      c.in-Some.ensures.items,
      map-push piece_view c.pop.new.self.items c.in-Some.last,
      add_quoted_push
          (map piece_view c.pop.new.self.items) (piece_view c.in-Some.last) c.args.more.now,
    )
    c.extend_quoted.ensures
