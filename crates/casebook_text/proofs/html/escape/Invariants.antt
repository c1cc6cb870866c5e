use Rattle.std.proofs.Common.{◌≡◌, ◌++◌, string_bytes}
use Rattle.std.specs.Str.Iter.{chars_rest}
use Rattle.casebook_text.specs.Html.{escaped}
use Rattle.casebook_text.proofs.html.escape.Given as goal

abbrev pub invariant-loop-c : goal.invariant-loop-c
invariant-loop-c l = string_bytes l.html ++ escaped (chars_rest l.c-iterator) ≡ escaped l.text
