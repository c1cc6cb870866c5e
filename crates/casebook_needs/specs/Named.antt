-- The paths that words name, whether something is there or not.
use Rattle.std.specs.Prelude.{ℕ, ◌==◌, ◌++◌, ◌&&◌, Bool, false, not, List, [], ◌∷◌, codes, flat_map}
use Rattle.std.specs.Prelude.{Option, Some, None, option_map, position, take, drop}
use Rattle.std.specs.Prelude.{if◌then◌else◌}
use Rattle.std.specs.List.{list_any}
use Rattle.std.specs.Option.{option_and_then, option_to_list}
use Rattle.std.specs.Str.{is_utf8}
use Rattle.retro_path.specs.Ascii.{nul, slash}
use Rattle.retro_path.specs.Path.{PathValue}
use Rattle.retro_path.specs.Resolving.{resolve}
use Rattle.retro_path.specs.declared.resolving.Resolved.{Resolved}
use Rattle.retro_path.specs.declared.resolving.Resolved.TheVariants.{Is, Empty, LongName}
use Rattle.casebook_needs.specs.Words.{words_of}

-- whether a text can be a path: UTF-8 without a NUL
abbrev pub is_plain : List ℕ → Bool
is_plain text = is_utf8 text && not (list_any (λ b. b == nul) text)

abbrev pub resolved_path : Resolved → Option PathValue
resolved_path (Is path) = Some path
resolved_path Empty = None
resolved_path LongName = None

-- the path that a text names from a directory, or None if it names none: it can't be a path, is
-- empty, or has a name that is too long
unfoldable pub named_path : PathValue → List ℕ → Option PathValue
named_path directory text = if is_plain text then resolved_path (resolve directory text) else None

-- ---- patterns

-- whether a byte begins a pattern of names
abbrev pub is_pattern : ℕ → Bool
is_pattern b = list_any (λ c. c == b) (codes "*?[")

-- a text up to its last slash, with the slash; nothing if it has none
abbrev pub up_to_slash : List ℕ → List ℕ
up_to_slash [] = []
up_to_slash (b ∷ bs) = if list_any (λ c. c == slash) (b ∷ bs) then b ∷ up_to_slash bs else []

-- a directory by the text that ends in its slash; without a slash, the working directory
abbrev pub directory_text : List ℕ → List ℕ
directory_text [] = codes "."
directory_text (b ∷ bs) = b ∷ bs

-- the text before the first byte of a pattern, if there is one
abbrev pub before_pattern : List ℕ → Option (List ℕ)
before_pattern text = option_map (λ n. take n text) (position is_pattern text)

-- the directory in which a pattern begins: what precedes its first byte, up to the last slash
unfoldable pub pattern_directory : List ℕ → Option (List ℕ)
pattern_directory text =
    option_map (λ front. directory_text (up_to_slash front)) (before_pattern text)

-- ---- texts and words

-- the paths that a text names: itself, and the directory of a pattern
abbrev pub text_paths : PathValue → List ℕ → List PathValue
text_paths directory text =
    option_to_list (named_path directory text)
    ++ option_to_list (option_and_then (named_path directory) (pattern_directory text))

-- '~'
abbrev pub tilde : ℕ
tilde = 126

-- whether a word is a tilde, or begins with a tilde and a slash
abbrev pub is_home_word : List ℕ → Bool
is_home_word [] = false
is_home_word (b ∷ []) = b == tilde
is_home_word (b ∷ c ∷ rest) = b == tilde && c == slash

-- the paths that a word names if its tilde stands for a home directory
abbrev pub home_paths : PathValue → Option (List ℕ) → List ℕ → List PathValue
home_paths directory None word = []
home_paths directory (Some home) word =
    if is_home_word word then text_paths directory (home ++ drop 1 word) else []

abbrev pub word_paths : PathValue → Option (List ℕ) → List ℕ → List PathValue
word_paths directory home word = text_paths directory word ++ home_paths directory home word

-- the paths that the words of a text name from a directory, by the value of HOME
unfoldable pub paths_of : PathValue → Option (List ℕ) → List ℕ → List PathValue
paths_of directory home text = flat_map (word_paths directory home) (words_of text)
