use Rattle.std.proofs.Common.{◌≡◌, ◌==◌, length, drop}
use Rattle.std.specs.List.{slice_split}
use Rattle.retro_tree.proofs.Users.{find_in}
use Rattle.retro_tree.proofs.user.find_user.Given as goal

abbrev pub invariant-loop-line : goal.invariant-loop-line
invariant-loop-line l =
    find_in l.name (drop (length l.yielded) (slice_split (λ b. b == 10) l.bytes))
    ≡ find_in l.name (slice_split (λ b. b == 10) l.bytes)
