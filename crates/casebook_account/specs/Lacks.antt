-- What a recorder doesn't know.
use Rattle.std.specs.Prelude.{ℕ, ◌+◌, ◌==◌, zero, suc, Bool, true, false, not, List, [], ◌∷◌, ◌++◌, map}
use Rattle.std.specs.List.{filter, slice_split}
use Rattle.retro_path.specs.Ascii.{newline}
use Rattle.casebook_typed.specs.Sessions.{SessionValue}
use Rattle.casebook_account.specs.Machine.{printed}

-- ---- lines without a record

-- the number of a session, if some of its lines have no record
abbrev pub number_if : ℕ → ℕ → List ℕ
number_if number zero = []
number_if number (suc missing) = number ∷ []

-- the numbers of the sessions of which some lines have no record, where the first one has a number
abbrev pub incomplete_from : ℕ → List SessionValue → List ℕ
incomplete_from number [] = []
incomplete_from number (session ∷ sessions) =
    number_if number session.missing ++ incomplete_from (number + 1) sessions

-- ---- folders

abbrev pub has_bytes : List ℕ → Bool
has_bytes [] = false
has_bytes (b ∷ row) = true

-- the rows of a text that aren't empty
abbrev pub rows_in : List ℕ → List (List ℕ)
rows_in text = filter has_bytes (slice_split (λ b. b == newline) text)

-- the folders that rows name, as texts
abbrev pub unseen_in : List ℕ → List (List ℕ)
unseen_in text = map printed (rows_in text)
