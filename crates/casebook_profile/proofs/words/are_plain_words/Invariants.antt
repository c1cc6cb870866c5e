use Rattle.std.proofs.Common.{◌≡◌, drop, map}
use Rattle.std.specs.List.{list_all}
use Rattle.retro_syntax.specs.View.{word_view}
use Rattle.casebook_profile.specs.Words as W
use Rattle.casebook_profile.proofs.words.are_plain_words.Given as goal

abbrev pub invariant-loop-word : goal.invariant-loop-word
invariant-loop-word l =
    list_all W.is_plain_word (map word_view (drop l.word-index l.words))
    ≡ list_all W.is_plain_word (map word_view l.words)
