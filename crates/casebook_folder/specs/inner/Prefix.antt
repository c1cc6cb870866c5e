-- Prefixes of lists of steps.
use Rattle.std.specs.Prelude.{◌≡◌, List, ◌++◌}
use Rattle.casebook_folder.specs.Steps.{Step}

-- some steps of a list were made, from its first on
pub record MakesPrefix (steps old new : List Step) : Type 0 where
  pub done : List Step
  pub left : List Step
  pub all : steps ≡ done ++ left
  pub made : new ≡ old ++ done
