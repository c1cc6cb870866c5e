use Rattle.std.proofs.Common.{sym}
use Rattle.retro_syntax.proofs.ParserLemmas.{none_condition}
use Rattle.retro_syntax.proofs.parser.Parser.end_condition.Goals as goal

pub returns-in_default : goal.returns-in_default
returns-in_default c = sym (none_condition _ _ _ _ _ c.in_default.not-Then)
