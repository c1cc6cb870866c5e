-- Whether one of the words that are left has a tilde that stands for HOME, as one of all has.
use Rattle.std.proofs.Common.{◌≡◌, drop, map}
use Rattle.std.specs.List.{list_any}
use Rattle.casebook_needs.specs.Named.{is_home_word}
use Rattle.casebook_needs.specs.Words.{words_of}
use Rattle.casebook_needs.proofs.rules.names_home.Given as goal

abbrev pub invariant-loop-word : goal.invariant-loop-word
invariant-loop-word l =
    list_any is_home_word (map (λ word. word.now) (drop l.word-index l.word-items))
    ≡ list_any is_home_word (words_of l.text)
