-- The utilities by their names (XCU chapter 4).
use Rattle.std.specs.Prelude.{ℕ, List, [], ◌∷◌, Option, find, codes}
use Rattle.retro_path.specs.Order.{text_eq}
use Rattle.retro_text.specs.declared.utility.Utility.{Utility}
use Rattle.retro_text.specs.declared.utility.Utility.TheVariants as utilities

abbrev pub name_of : Utility → List ℕ
name_of utilities.Echo = codes "echo"
name_of utilities.True = codes "true"
name_of utilities.False = codes "false"
name_of utilities.Colon = codes ":"
name_of utilities.Pwd = codes "pwd"
name_of utilities.Cd = codes "cd"
name_of utilities.Id = codes "id"
name_of utilities.Test = codes "test"
name_of utilities.Bracket = codes "["
name_of utilities.Cat = codes "cat"
name_of utilities.Tee = codes "tee"
name_of utilities.Cut = codes "cut"
name_of utilities.Grep = codes "grep"
name_of utilities.Mkdir = codes "mkdir"
name_of utilities.Rm = codes "rm"
name_of utilities.Cp = codes "cp"
name_of utilities.Mv = codes "mv"

abbrev pub all_utilities : List Utility
all_utilities =
    utilities.Echo ∷ utilities.True ∷ utilities.False ∷ utilities.Colon ∷ utilities.Pwd ∷ utilities.Cd
    ∷ utilities.Id ∷ utilities.Test ∷ utilities.Bracket ∷ utilities.Cat ∷ utilities.Tee ∷ utilities.Cut
    ∷ utilities.Grep ∷ utilities.Mkdir ∷ utilities.Rm ∷ utilities.Cp ∷ utilities.Mv ∷ []

-- the utility that has a name
unfoldable pub utility_named : List ℕ → Option Utility
utility_named name = find (λ u. text_eq name (name_of u)) all_utilities
