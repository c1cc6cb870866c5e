use Rattle.std.proofs.Common.{string_bytes}
use Rattle.casebook_cli.proofs.HarmlessLemmas.{harmless}
use Rattle.casebook_cli.proofs.plain.plain_rows.Goals as goal

pub returns-clause-harmless : goal.returns-clause-harmless
returns-clause-harmless c =
    harmless string_bytes c.text_of_rows.result c.text_of_rows.ensures.characters c.text_of_rows.ensures.bytes
