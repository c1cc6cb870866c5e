-- What contracts see of the seats of a board, and what settling a board comes to.
use Rattle.std.specs.Prelude.{◌≡◌, ◌+◌, ℕ, List, [], ◌∷◌, length, slice_index_or, sum_by}
use Rattle.std.specs.List.{AllByRecursion}
use Rattle.retro_pool.specs.Turns.{IsShared}

-- what tells boards apart
abbrev pub BoardId : Type 0
BoardId = ℕ × ℕ

-- the owner's seat: its board, the number of thieves, the number of jobs that the board has room
-- for, the dealt jobs, and the jobs that the owner took
pub record OwnerValue : Type 0 where
  pub board : BoardId
  pub thieves : ℕ
  pub room : ℕ
  pub dealt : List ℕ
  pub taken : List ℕ

-- a thief's seat: its board, its number, and the jobs that the thief took
pub record ThiefValue : Type 0 where
  pub board : BoardId
  pub number : ℕ
  pub taken : List ℕ

-- ---- the seats of a new board

abbrev pub new_owner : BoardId → ℕ → ℕ → OwnerValue
new_owner board thieves room =
    record { board = board; thieves = thieves; room = room; dealt = []; taken = [] }

abbrev pub new_thief : BoardId → ℕ → ThiefValue
new_thief board number = record { board = board; number = number; taken = [] }

-- new thieves of a board, whose numbers go up from a number
abbrev pub AreNew : BoardId → ℕ → List ThiefValue → Type 0
AreNew board number [] = Unit {0}
AreNew board number (t ∷ thieves) =
    (t ≡ new_thief board number) × AreNew board (number + 1) thieves

-- ---- steps of the owner

-- two values of one owner's seat
pub record HasSameBoard (old new : OwnerValue) : Type 0 where
  pub board : new.board ≡ old.board
  pub thieves : new.thieves ≡ old.thieves
  pub room : new.room ≡ old.room

-- ---- a settled board

-- how many jobs all seats took
abbrev pub all_taken : OwnerValue → List ThiefValue → ℕ
all_taken owner thieves = length owner.taken + sum_by (λ t. length t.taken) thieves

-- The lists of a settled board: the owner's, and then the thieves' by the numbers of their seats.
-- Each dealt job is in them once.
pub record IsSettled (owner : OwnerValue) (thieves : List ThiefValue)
    (lists : List (List ℕ)) : Type 0 where
  pub count : length lists ≡ owner.thieves + 1
  pub mine : slice_index_or lists 0 [] ≡ owner.taken
  pub theirs : AllByRecursion (λ t. slice_index_or lists t.number [] ≡ t.taken) thieves
  pub shared : IsShared (owner.thieves + 1) owner.dealt (λ seat. slice_index_or lists seat [])
