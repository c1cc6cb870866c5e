-- What `who` prints.
use Rattle.std.specs.Prelude.{ℕ, List, ◌∷◌, Option, Some, None}
use Rattle.std.specs.List.{filter_map}
use Rattle.casebook_host.specs.Words.{rows_of, words_of}

-- somebody who is logged in
pub record LoginValue : Type 0 where
  pub name : List ℕ
  pub terminal : List ℕ

-- the login of a row with two words or more
abbrev pub login_of : List (List ℕ) → Option LoginValue
login_of (name ∷ terminal ∷ rest) = Some (record { name = name; terminal = terminal })
login_of _ = None

-- the logins of all rows, in order
unfoldable pub logins_in : List ℕ → List LoginValue
logins_in who = filter_map (λ row. login_of (words_of row)) (rows_of who)
