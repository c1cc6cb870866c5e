-- Whether one of the words that are left is in the set, as one of all is.
use Rattle.std.proofs.Common.{◌≡◌, drop, map}
use Rattle.std.specs.BTreeSet.{contains}
use Rattle.std.specs.List.{list_any}
use Rattle.retro_path.specs.Order.{text_cmp}
use Rattle.casebook_shell.proofs.rules.has_any.Given as goal

abbrev pub invariant-loop-word : goal.invariant-loop-word
invariant-loop-word l =
    list_any (contains text_cmp l.names) (map (λ word. word.now) (drop l.word-index l.words))
    ≡ list_any (contains text_cmp l.names) (map (λ word. word.now) l.words)
