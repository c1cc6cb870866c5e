use Rattle.std.proofs.Common.{ap, [], ◌∙◌, map, List, option_map, string_bytes}
use Rattle.clap.specs.Words.{Text, app_of, is_simple}
use Rattle.std.proofs.lemmas.Bool.{and_parts}
use Rattle.retro_edge.specs.Calls.{call_of, unless_fault}
use Rattle.retro_edge.proofs.CallLemmas.{found_level, no_level, parsed_words, refused_words}
use Rattle.retro_edge.proofs.call.read_call.Goals as goal

pub returns-in-Some : goal.returns-in-Some
returns-in-Some c =
    let words : List Text = map string_bytes c.args.words.now in
    let none = c.in-Ok.ensures.kinds c.requires in
    let simple = (and_parts (is_simple (app_of c.args.program)) _ c.requires).0 in
    let both = c.in-Ok.ensures.matches simple in
    parsed_words (app_of c.args.program) words _ none both.1 _
    (ap (λ o. unless_fault [] (option_map call_of o))
    (found_level c.in-Ok.matches _ _ c.in-Some.ensures.name c.in-Some.ensures.rows))

pub returns-in-Ok : goal.returns-in-Ok
returns-in-Ok c =
    let words : List Text = map string_bytes c.args.words.now in
    let none = c.in-Ok.ensures.kinds c.requires in
    let simple = (and_parts (is_simple (app_of c.args.program)) _ c.requires).0 in
    let both = c.in-Ok.ensures.matches simple in
    parsed_words (app_of c.args.program) words _ none both.1 _
    (ap (λ o. unless_fault [] (option_map call_of o))
    (no_level c.in-Ok.matches c.in-None.ensures.name))

pub returns : goal.returns
returns c =
    let words : List Text = map string_bytes c.args.words.now in
    refused_words (app_of c.args.program) words c.in-Err.error (c.in-Err.ensures.kinds c.requires)
    (λ m. c.in_default.not-OutOfMemory (c.kind.ensures ∙ m))
