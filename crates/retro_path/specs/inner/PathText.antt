-- The names in the text of a path, its last slash, and the order of such texts.
use Rattle.std.specs.Prelude.{◌≡◌, ℕ, suc, ◌==◌, Bool, true, List, [], ◌∷◌, ◌++◌, drop, if◌then◌else◌, Some, IsTrue}
use Rattle.std.specs.List.{slice_split}
use Rattle.std.specs.Ordering.{nat_cmp}
use Rattle.std.specs.declared.cmp.Ordering.{Ordering}
use Rattle.retro_path.specs.Ascii.{slash}
use Rattle.retro_path.specs.Name.{is_name, AllNames}
use Rattle.retro_path.specs.Path.{PathValue, parent_of, last_of}
use Rattle.retro_path.specs.Slashed.{slashed}

-- the names in the text of a path: what is between its slashes and after the last one
unfoldable pub names_in : List ℕ → PathValue
names_in text = drop 1 (slice_split (λ b. b == slash) text)

-- a text is that of a path
pub record IsPathText (text : List ℕ) : Type 0 where
  pub text_is : text ≡ slashed (names_in text)
  pub names : AllNames (names_in text)

-- whether a text is empty or begins with a slash
abbrev pub at_slash : List ℕ → Bool
at_slash [] = true
at_slash (b ∷ rest) = b == slash

-- a text is split at its last slash, into the parent's text and the last name
pub record IsSplitAtLast (text parent name : List ℕ) : Type 0 where
  pub text_is : text ≡ parent ++ slash ∷ name
  pub parent_text : IsPathText parent
  pub parent_is : names_in parent ≡ parent_of (names_in text)
  pub last_is : last_of (names_in text) ≡ Some name
  pub name_passes : IsTrue (is_name name)

-- the place of a byte in the order: the slash is the least
abbrev pub rank : ℕ → ℕ
rank b = if b == slash then 0 else suc b

-- the order of bytes in which a slash is the least
abbrev pub slash_first : ℕ → ℕ → Ordering
slash_first x y = nat_cmp (rank x) (rank y)
