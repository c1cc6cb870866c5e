-- The fault of a line that has no explanation.
use Rattle.std.specs.Prelude.{ℕ}
use Rattle.casebook_stand_in.specs.declared.explain_error.ExplainError.{ExplainError}
use Rattle.casebook_stand_in.specs.declared.explain_error.ExplainError.TheVariants as errors
use Rattle.casebook_explain.specs.declared.tell_fault.LineFault.TheVariants as line_faults
use Rattle.casebook_explain.specs.declared.tell_fault.TellFault.{TellFault}
use Rattle.casebook_explain.specs.declared.tell_fault.TellFault.TheVariants as faults

abbrev pub line_fault : ℕ → ExplainError → TellFault
line_fault place errors.NoMem = faults.NoMem
line_fault place (errors.Unwritten cell) = faults.Line place (line_faults.Unwritten cell)
line_fault place (errors.Unexplained cell) = faults.Line place (line_faults.Unexplained cell)
