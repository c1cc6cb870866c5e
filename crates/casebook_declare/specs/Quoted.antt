-- Quoted values, as bash prints them.
use Rattle.std.specs.Prelude.{ℕ, ◌-◌, ◌==◌, ◌||◌, Bool, false, zero, suc, List, [], ◌∷◌}
use Rattle.std.specs.Prelude.{Option, Some, None, option_and_then, option_map, if◌then◌else◌}
use Rattle.casebook_declare.specs.Bytes.{dollar, double_quote, single_quote}
use Rattle.casebook_declare.specs.Units.{unit_of}
use Rattle.casebook_declare.specs.declared.quoting.Quoting.{Quoting}
use Rattle.casebook_declare.specs.declared.quoting.Quoting.TheVariants as quotings
use Rattle.casebook_declare.specs.declared.unit.Unit.{Unit}

-- what a quoted value says
pub record Said : Type 0 where
  pub value : List ℕ
  pub has_code : Bool  -- whether some byte couldn't be printed as it is
  pub rest : List ℕ  -- the text after the closing quote

abbrev pub quote_of : Quoting → ℕ
quote_of quotings.Double = double_quote
quote_of quotings.Ansi = single_quote

abbrev pub with_unit : Unit → Said → Said
with_unit unit said = record {
  value = unit.byte ∷ said.value;
  has_code = unit.is_code || said.has_code;
  rest = said.rest;
}

-- What a text after an opening quote says. Of its first bytes so many are passed over: they belong
-- to an escape that is read already.
unfoldable pub said_from : Quoting → ℕ → List ℕ → Option Said
said_from quoting passed [] = None
said_from quoting (suc passed) (b ∷ rest) = said_from quoting passed rest
said_from quoting zero (b ∷ rest) =
    if b == quote_of quoting then Some (record { value = []; has_code = false; rest = rest })
    else option_and_then
    (λ unit. option_map (with_unit unit) (said_from quoting (unit.width - 1) rest))
    (unit_of quoting (b ∷ rest))

-- `$'` and `'` are only round a value with a byte that can't be printed as it is.
abbrev pub needed : Said → Option Said
needed said = if said.has_code then Some said else None

abbrev pub after_dollar : List ℕ → Option Said
after_dollar [] = None
after_dollar (b ∷ rest) =
    if b == single_quote then option_and_then needed (said_from quotings.Ansi 0 rest) else None

-- what a text says that begins with a quoted value
unfoldable pub quoted : List ℕ → Option Said
quoted [] = None
quoted (b ∷ rest) =
    if b == double_quote then said_from quotings.Double 0 rest
    else if b == dollar then after_dollar rest
    else None
