use Rattle.std.proofs.Common.{sym}
use Rattle.casebook_text.specs.SafeLine.{IsSafeLine}
use Rattle.casebook_text.proofs.SafeLines.{bytes_of_line}
use Rattle.casebook_text.proofs.safe_line.SafeLine.as_str.Goals as goal

pub returns-clause-bytes : goal.returns-clause-bytes
returns-clause-bytes c = bytes_of_line c.args.self.now (rw (← c.self.view_is) c.self.invariant)
