-- The paths so far, and those of the words that are left.
use Rattle.std.proofs.Common.{◌≡◌, ◌++◌, drop, map}
use Rattle.std.specs.List.{filter, filter_map}
use Rattle.casebook_needs.specs.Named.{named_path}
use Rattle.casebook_needs.specs.Needs.{has_slash}
use Rattle.casebook_needs.specs.Words.{words_of}
use Rattle.casebook_needs.proofs.scripts.script_paths.Given as goal

abbrev pub invariant-loop-word : goal.invariant-loop-word
invariant-loop-word l =
    l.paths.items
    ++ filter_map (named_path l.directory)
    (filter has_slash (map (λ word. word.now) (drop l.word-index l.word-items)))
    ≡ filter_map (named_path l.directory) (filter has_slash (words_of l.text))
