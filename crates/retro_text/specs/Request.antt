-- Options and operands in a utility's fields (XBD 12.2), by one rule for all utilities that take
-- options.
use Rattle.std.specs.Prelude.{ℕ, ◌==◌, Bool, false, List, [], ◌∷◌, ◌++◌, drop, Option, Some, None, if◌then◌else◌}
use Rattle.std.specs.Prelude.{codes}
use Rattle.std.specs.List.{list_any}
use Rattle.retro_path.specs.Order.{text_eq}
use Rattle.retro_text.specs.Ascii.{dash}
use Rattle.retro_text.specs.declared.known_letters.KnownLetters.{KnownLetters}

-- the option letters that a utility knows: those without and those with an argument
pub record KnownValue : Type 0 where
  pub flags : List ℕ
  pub arguments : List ℕ

abbrev pub known_letters : List ℕ → List ℕ → KnownValue
known_letters flags arguments = record { flags = flags; arguments = arguments }

abbrev pub known_in : KnownLetters → KnownValue
known_in known = known_letters known.flags.now known.arguments.now

-- an option that was given: its letter, and its argument if it takes one
abbrev pub Given : Type 0
Given = ℕ × Option (List ℕ)

-- what the fields say: the options in their order, and the operands
pub record RequestValue : Type 0 where
  pub options : List Given
  pub operands : List (List ℕ)

abbrev pub request : List Given → List (List ℕ) → RequestValue
request options operands = record { options = options; operands = operands }

abbrev pub has_letter : List ℕ → ℕ → Bool
has_letter letters letter = list_any (λ known. known == letter) letters

-- ---- one field of grouped letters

-- the options so far, and the letter whose argument is the next field, if there is one
abbrev pub Group : Type 0
Group = List Given × Option ℕ

-- an option's argument is the rest of its field, or the next field if the rest is empty
abbrev pub with_rest : List Given → ℕ → List ℕ → Group
with_rest given letter [] = (given, Some letter)
with_rest given letter (b ∷ rest) = (given ++ (letter, Some (b ∷ rest)) ∷ [], None)

-- the options so far and those of the letters, or None if the utility doesn't know a letter
abbrev pub group : KnownValue → List Given → List ℕ → Option Group
group known given [] = Some (given, None)
group known given (letter ∷ letters) =
    if has_letter known.flags letter then group known (given ++ (letter, None) ∷ []) letters
    else if has_letter known.arguments letter then Some (with_rest given letter letters)
    else None

-- ---- all fields

-- a field is an option if it is a dash and at least one more character
abbrev pub is_option : List ℕ → Bool
is_option (b ∷ c ∷ more) = b == dash
is_option _ = false

abbrev pub after_group : Option Group → (List Given → Option ℕ → Option RequestValue) → Option RequestValue
after_group None next = None
after_group (Some g) next = next g.0 g.1

-- The request in the fields, after the options so far. `waiting` is the letter whose argument is
-- the next field. `--` ends the options, and so does the first operand.
abbrev pub request_after : KnownValue → List Given → Option ℕ → List (List ℕ) → Option RequestValue
request_after known given None [] = Some (request given [])
request_after known given (Some letter) [] = None
request_after known given (Some letter) (field ∷ fields) =
    request_after known (given ++ (letter, Some field) ∷ []) None fields
request_after known given None (field ∷ fields) =
    if text_eq field (codes "--") then Some (request given fields)
    else if is_option field then
    after_group (group known given (drop 1 field)) (λ all waiting. request_after known all waiting fields)
    else Some (request given (field ∷ fields))

-- the request in a utility's fields, or None if an option isn't known or lacks its argument
unfoldable pub request_in : KnownValue → List (List ℕ) → Option RequestValue
request_in known fields = request_after known [] None fields

-- ---- what a request has

-- whether an option was given
unfoldable pub has_option : ℕ → List Given → Bool
has_option letter options = list_any (λ given. given.0 == letter) options

-- the last argument of an option, or the one before these options
abbrev pub last_argument : Option (List ℕ) → ℕ → List Given → Option (List ℕ)
last_argument last letter [] = last
last_argument last letter (given ∷ options) =
    last_argument (if given.0 == letter then given.1 else last) letter options

-- the argument of an option: the last one if it was given more than once
unfoldable pub argument_of : ℕ → List Given → Option (List ℕ)
argument_of letter options = last_argument None letter options
