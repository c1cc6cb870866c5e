-- The forms of the utilities' synopses (XCU chapter 4) that Retro's shell has. Any other use is a
-- usage fault there.
use Rattle.std.specs.Prelude.{ℕ, ◌==◌, nat_le, Bool, true, false, not, ◌&&◌, ◌||◌, List, [], ◌∷◌, length}
use Rattle.std.specs.Prelude.{Option, Some, None, codes, is_some}
use Rattle.retro_path.specs.Order.{text_eq}
use Rattle.retro_text.specs.Ascii.{letter}
use Rattle.retro_text.specs.Condition.{condition_in, before_bracket}
use Rattle.retro_text.specs.Cut.{cut_in}
use Rattle.retro_text.specs.Request.{RequestValue, KnownValue, known_letters, request_in, has_option}
use Rattle.retro_text.specs.Search.{search_in}
use Rattle.retro_text.specs.declared.utility.Utility.{Utility}
use Rattle.retro_text.specs.declared.utility.Utility.TheVariants as utilities

-- the option letters of a utility: those without and those with an argument
abbrev pub letters_of : Utility → KnownValue
letters_of utilities.Id = known_letters (codes "u") []
letters_of utilities.Cat = known_letters (codes "u") []
letters_of utilities.Tee = known_letters (codes "a") []
letters_of utilities.Cut = known_letters (codes "s") (codes "bfd")
letters_of utilities.Grep = known_letters (codes "Fvxcq") []
letters_of utilities.Mkdir = known_letters (codes "p") []
letters_of utilities.Rm = known_letters (codes "frR") []
letters_of utilities.Mv = known_letters (codes "f") []
letters_of _ = known_letters [] []

-- whether an operand is `-`
abbrev pub is_dash : List ℕ → Bool
is_dash operand = text_eq operand (codes "-")

-- the operands of `cd [dir]`, without `cd -`
abbrev pub is_directory_use : List (List ℕ) → Bool
is_directory_use [] = true
is_directory_use (dir ∷ []) = not (is_dash dir)
is_directory_use (x ∷ y ∷ more) = false

-- whether options and operands are in a form of the utility
abbrev pub is_form : Utility → RequestValue → Bool
is_form utilities.Pwd r = length r.operands == 0
is_form utilities.Cd r = is_directory_use r.operands
is_form utilities.Id r = has_option (letter (codes "u")) r.options && (length r.operands == 1)
is_form utilities.Cut r = is_some (cut_in r.options)
is_form utilities.Grep r = is_some (search_in r)
is_form utilities.Mkdir r = nat_le 1 (length r.operands)
is_form utilities.Rm r = nat_le 1 (length r.operands) || has_option (letter (codes "f")) r.options
is_form utilities.Cp r = nat_le 2 (length r.operands)
is_form utilities.Mv r = nat_le 2 (length r.operands)
is_form _ r = true

abbrev pub is_request_form : Utility → Option RequestValue → Bool
is_request_form u None = false
is_request_form u (Some r) = is_form u r

abbrev pub is_condition : Option (List (List ℕ)) → Bool
is_condition None = false
is_condition (Some operands) = is_some (condition_in operands)

-- whether a utility takes these fields: a use that is no usage fault
unfoldable pub takes : Utility → List (List ℕ) → Bool
takes utilities.Echo fields = true
takes utilities.True fields = true
takes utilities.False fields = true
takes utilities.Colon fields = true
takes utilities.Test fields = is_condition (Some fields)
takes utilities.Bracket fields = is_condition (before_bracket fields)
takes u fields = is_request_form u (request_in (letters_of u) fields)
