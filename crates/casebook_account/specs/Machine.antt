-- The lines of the machine that a case says, each with the texts by which its recording has it.
use Rattle.std.specs.Prelude.{ℕ, ◌+◌, ◌/◌, ◌≤◌, ◌⊎◌, ◌^◌, ◌==◌, ℤ, pos, not, List, [], ◌∷◌, Option, Some, None, codes}
use Rattle.std.specs.Prelude.{if◌then◌else◌, length}
use Rattle.std.specs.List.{sum_by}
use Rattle.std.specs.Str.{is_utf8}
use Rattle.casebook_text.specs.SafeLine.{safe_bytes}
use Rattle.casebook_typed.specs.Lines.{LineValue}
use Rattle.casebook_typed.specs.declared.line.Owner.{Owner}
use Rattle.casebook_typed.specs.declared.line.Owner.TheVariants as owners
use Rattle.casebook_explain.specs.declared.told.ToldLine.{ToldLine}
use Rattle.casebook_account.specs.declared.machine_line.MachineLine.{MachineLine}

-- bytes as a text: as they are, if they are UTF-8, and otherwise as a terminal shows them
abbrev pub printed : List ℕ → List ℕ
printed bytes = if is_utf8 bytes then bytes else safe_bytes bytes

-- the text of a line, or a remark if it isn't known
abbrev pub typed_text : Owner → Option (List ℕ) → List ℕ
typed_text owners.Nobody text = codes "# changes outside of the recorded sessions"
typed_text (owners.Line name) None = codes "# a line that the history leaves out"
typed_text (owners.Line name) (Some text) = printed text

-- the seconds of a time in microseconds
abbrev pub seconds_of : ℕ → ℤ
seconds_of micros = pos (micros / 1000000)

-- how many texts a told line has
abbrev pub texts_of : ToldLine → ℕ
texts_of told = length told.runs.items

-- a line with its number, whose first text has a number
abbrev pub machine_line : ℕ → ℕ → ToldLine → LineValue → MachineLine
machine_line number first told line = record {
  number = number;
  session = told.session;
  text = typed_text line.owner line.text;
  second = seconds_of line.shown.at;
  is_observed = not told.is_modelled;
  overlaps = not (length line.overlapping == 0);
  first = first;
  end = first + texts_of told;
}

-- Lines that were told, of which the first one has a number, and its first text has one.
abbrev pub machine_from : ℕ → ℕ → List ToldLine → List LineValue → List MachineLine
machine_from number first (told ∷ rest) (line ∷ lines) =
    machine_line number first told line
    ∷ machine_from (number + 1) (first + texts_of told) rest lines
machine_from number first _ _ = []

-- there are more lines or texts than 32 bits number
abbrev pub IsTooMany : List ToldLine → Type 0
IsTooMany told = (2 ^ 32 ≤ 1 + length told) ⊎ (2 ^ 32 ≤ 1 + sum_by texts_of told)
