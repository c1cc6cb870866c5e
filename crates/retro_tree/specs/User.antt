-- The password file: the number and the home directory of a login name. The form is the file's
-- usual one, which no standard defines.
use Rattle.std.specs.Prelude.{ℕ, ◌==◌, Bool, not, ◌&&◌, nat_le, List, [], ◌∷◌, length, Option, Some, None, option_map}
use Rattle.std.specs.Prelude.{if◌then◌else◌}
use Rattle.std.specs.List.{list_any, slice_split, filter_map}
use Rattle.std.specs.Str.{is_utf8, all_ascii_digits}
use Rattle.std.specs.Str.Parse.{digits_value}
use Rattle.retro_path.specs.Ascii.{nul, newline, colon}
use Rattle.retro_tree.specs.Order.{text_eq}
use Rattle.retro_tree.specs.declared.node.Node.{Node}
use Rattle.retro_tree.specs.declared.node.Node.TheVariants.{Missing, Dir, File}
use Rattle.retro_tree.specs.declared.user.User.{User}

-- UTF-8 without NUL
unfoldable pub is_plain_text : List ℕ → Bool
is_plain_text bytes = is_utf8 bytes && not (list_any (λ b. b == nul) bytes)

-- plain text, or None
abbrev pub plain_text : List ℕ → Option (List ℕ)
plain_text bytes = if is_plain_text bytes then Some bytes else None

-- the maximum number of digits
abbrev pub max_digits : ℕ
max_digits = 10

-- the number that one to ten decimal digits write, if it is less than 2^32
unfoldable pub user_number : List ℕ → Option ℕ
user_number text =
    if nat_le 1 (length text) && (nat_le (length text) max_digits && (all_ascii_digits text
    && nat_le (digits_value 10 text) 4294967295))
    then Some (digits_value 10 text) else None

-- the entry of these fields, with its login name, if they are well formed
abbrev pub entry_by : List ℕ → List ℕ → List ℕ → Option (List ℕ × User)
entry_by name number home =
    if nat_le 1 (length name) && (is_plain_text name && is_plain_text home)
    then option_map (λ n. (name, record { number = n; home = home })) (user_number number) else None

abbrev pub entry_of_fields : List (List ℕ) → Option (List ℕ × User)
entry_of_fields (name ∷ password ∷ number ∷ group ∷ info ∷ home ∷ shell ∷ []) =
    entry_by name number home
entry_of_fields _ = None

-- the entry of a well-formed line: seven fields, separated by colons
unfoldable pub entry_of_line : List ℕ → Option (List ℕ × User)
entry_of_line line = entry_of_fields (slice_split (λ b. b == colon) line)

-- the user of an entry, if it has the login name
abbrev pub named : List ℕ → Option (List ℕ × User) → Option User
named name None = None
named name (Some e) = if text_eq e.0 name then Some e.1 else None

-- the user of the first entry with the login name
abbrev pub first_of : List ℕ → List (List ℕ × User) → Option User
first_of name [] = None
first_of name (e ∷ es) = if text_eq e.0 name then Some e.1 else first_of name es

-- the user with a login name, by the well-formed lines
unfoldable pub find_user : List ℕ → List ℕ → Option User
find_user name bytes = first_of name (filter_map entry_of_line (slice_split (λ b. b == newline) bytes))

-- the user with a login name, if the node is the password file
abbrev pub user_in : List ℕ → Node → Option User
user_in name Missing = None
user_in name Dir = None
user_in name (File bytes) = find_user name bytes
