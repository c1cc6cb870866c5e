use Rattle.std.proofs.Common.{map}
use Rattle.retro_syntax.specs.View.{piece_view}
use Rattle.retro_syntax.proofs.ParserLemmas.{map-push}
use Rattle.retro_syntax.proofs.QuotingLemmas.{add_plain_push}
use Rattle.retro_syntax.proofs.lexer.pieces.push_plain.Goals as goal

pub returns-in-Some : goal.returns-in-Some
returns-in-Some c =
    rw (
      c.in-Some.ensures.items,
      map-push piece_view c.pop.new.self.items c.in-Some.last,
      add_plain_push
          (map piece_view c.pop.new.self.items) (piece_view c.in-Some.last) c.args.c,
    )
    c.extend_plain.ensures
