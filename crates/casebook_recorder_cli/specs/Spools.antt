-- Spools with names, the folders that they watch, and what is sent.
use Rattle.std.specs.Prelude.{ℕ, List, [], None, Option}
use Rattle.retro_path.specs.Path.{PathValue}
use Rattle.casebook_observe.specs.Files.{SpoolFiles}
use Rattle.casebook_observe.specs.Worlds.{World}

-- what each spool holds and watches, by its name, the rows of the folders in which it wasn't always
-- seen what lines only read, what a look at folders finds, and what was sent by which user, if that is
-- known
pub record AllSpools : Type 0 where
  pub held : List ℕ → SpoolFiles
  pub watched : List ℕ → List PathValue
  pub unseen : List ℕ → List ℕ
  pub found : List PathValue → World
  pub sent : List ℕ
  pub sender : Option ℕ

-- a spool that was just made
abbrev pub empty : SpoolFiles
empty = record { first = []; listing = []; lines = []; kept = λ digest. None }
