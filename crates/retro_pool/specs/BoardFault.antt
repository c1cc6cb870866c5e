-- The numbers of refusals of boards, and when a new board is refused.
use Rattle.std.specs.Prelude.{◌≤◌, ◌<◌, ℕ}
use Rattle.retro_pool.specs.declared.board.TheConstants.{MAX_THIEVES}
use Rattle.retro_pool.specs.declared.board_fault.BoardFault.{BoardFault}
use Rattle.retro_pool.specs.declared.board_fault.BoardFault.TheVariants.{OutOfMemory, Unsettled}
use Rattle.retro_pool.specs.declared.board_fault.BoardFault.TheVariants.{BoardFull, TooManySeats}

abbrev pub fault_number : BoardFault → ℕ
fault_number OutOfMemory = 17
fault_number Unsettled = 18
fault_number BoardFull = 19
fault_number TooManySeats = 20

-- A new board with a number of thieves is refused for too many thieves, exactly over the greatest
-- number, and otherwise only if memory runs out.
abbrev pub IsRefusal : ℕ → BoardFault → Type 0
IsRefusal thieves OutOfMemory = thieves ≤ MAX_THIEVES
IsRefusal thieves Unsettled = ⊥
IsRefusal thieves BoardFull = ⊥
IsRefusal thieves TooManySeats = MAX_THIEVES < thieves
