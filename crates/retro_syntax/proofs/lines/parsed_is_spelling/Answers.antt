use Rattle.retro_syntax.proofs.LineLemmas.{parsed-SpellsWithin, SpellsWithin-parsed}
use Rattle.retro_syntax.proofs.lines.parsed_is_spelling.Goals as goal

pub returns : goal.returns
returns c = record { read = parsed-SpellsWithin; spelled = SpellsWithin-parsed }
