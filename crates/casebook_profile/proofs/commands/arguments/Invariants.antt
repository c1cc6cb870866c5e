-- The words so far, and those of the items that are left.
use Rattle.std.proofs.Common.{◌≡◌, ◌++◌, drop, map}
use Rattle.retro_shell.specs.Expansion.{arguments}
use Rattle.retro_syntax.specs.View.{item_view, word_view}
use Rattle.casebook_profile.proofs.commands.arguments.Given as goal

abbrev pub invariant-loop-item : goal.invariant-loop-item
invariant-loop-item l =
    map (λ w. word_view w.now) l.words.items ++ arguments (map item_view (drop l.item-index l.items))
    ≡ arguments (map item_view l.items)
