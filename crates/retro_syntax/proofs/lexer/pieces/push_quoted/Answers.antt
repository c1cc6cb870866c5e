use Rattle.std.proofs.Common.{map}
use Rattle.std.specs.Char.{encode_utf8}
use Rattle.retro_syntax.specs.View.{piece_view}
use Rattle.retro_syntax.proofs.ParserLemmas.{map-push}
use Rattle.retro_syntax.proofs.QuotingLemmas.{add_quoted_push}
use Rattle.retro_syntax.proofs.lexer.pieces.push_quoted.Goals as goal

pub returns-in-Some : goal.returns-in-Some
returns-in-Some c =
    rw (
      c.in-Some.ensures.items,
      map-push piece_view c.pop.new.self.items c.in-Some.last,
      add_quoted_push
          (map piece_view c.pop.new.self.items) (piece_view c.in-Some.last) (encode_utf8 c.args.c),
    )
    c.extend_quoted_character.ensures
