-- The variables that a text names after a dollar sign.
use Rattle.std.specs.Prelude.{ℕ, ◌==◌, Bool, false, not, List, [], ◌∷◌, codes, drop, Option}
use Rattle.std.specs.Prelude.{if◌then◌else◌}
use Rattle.std.specs.List.{before_first, filter_map, list_any, slice_split}
use Rattle.retro_path.specs.VarName.{continues_name, var_name_of}

-- '$'
abbrev pub dollar : ℕ
dollar = 36

-- '{'
abbrev pub brace : ℕ
brace = 123

-- '?'
abbrev pub question : ℕ
question = 63

-- what follows each dollar sign of a text, up to the next one
unfoldable pub after_dollars : List ℕ → List (List ℕ)
after_dollars text = drop 1 (slice_split (λ b. b == dollar) text)

-- a text without a `#` or a `!` at its front
abbrev pub without_operator : List ℕ → List ℕ
without_operator [] = []
without_operator (b ∷ bs) = if list_any (λ c. c == b) (codes "#!") then bs else b ∷ bs

-- What follows a dollar sign, without a brace at its front. After a brace a `#` asks for a length,
-- and a `!` for the value of the variable that is named by the value.
abbrev pub without_brace : List ℕ → List ℕ
without_brace [] = []
without_brace (b ∷ bs) = if b == brace then without_operator bs else b ∷ bs

-- whether a byte can't be in the name of a variable
abbrev pub ends_name : ℕ → Bool
ends_name b = not (continues_name b)

-- the variable that is named after a dollar sign, if a line can assign one of that name
unfoldable pub variable_after : List ℕ → Option (List ℕ)
variable_after part = var_name_of (before_first ends_name (without_brace part))

-- the variables that a text names, by `$name` and by `${name`
unfoldable pub variables_of : List ℕ → List (List ℕ)
variables_of text = filter_map variable_after (after_dollars text)

-- whether a text begins with a question mark
abbrev pub is_status : List ℕ → Bool
is_status [] = false
is_status (b ∷ bs) = b == question

-- whether a text has `$?` or `${?`
unfoldable pub names_status : List ℕ → Bool
names_status text = list_any (λ part. is_status (without_brace part)) (after_dollars text)
