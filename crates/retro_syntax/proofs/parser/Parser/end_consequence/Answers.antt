use Rattle.std.proofs.Common.{sym}
use Rattle.retro_syntax.proofs.ParserLemmas.{none_consequence}
use Rattle.retro_syntax.proofs.parser.Parser.end_consequence.Goals as goal

pub returns-in_default : goal.returns-in_default
returns-in_default c =
    sym (none_consequence _ _ _ _ _ _ c.in_default.not-Elif c.in_default.not-Else c.in_default.not-Fi)
