-- The paths of the words so far, and those of the words that are left.
use Rattle.std.proofs.Common.{◌≡◌, ◌++◌, drop, map}
use Rattle.std.specs.Prelude.{flat_map}
use Rattle.std.specs.Option.{option_copied}
use Rattle.casebook_needs.specs.Named.{word_paths}
use Rattle.casebook_needs.specs.Words.{words_of}
use Rattle.casebook_needs.proofs.named.paths_of.Given as goal

abbrev pub invariant-loop-word : goal.invariant-loop-word
invariant-loop-word l =
    l.paths.items
    ++ flat_map (word_paths l.directory (option_copied l.home))
    (map (λ word. word.now) (drop l.word-index l.word-items))
    ≡ flat_map (word_paths l.directory (option_copied l.home)) (words_of l.text)
