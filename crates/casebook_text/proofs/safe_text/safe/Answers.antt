use Rattle.std.proofs.Common.{◌<◌, length, drop, take, sym, ap, ◌∙◌, arith, string_bytes}
use Rattle.std.proofs.Common.{encode_utf8_all}
use Rattle.std.proofs.lemmas.Bool.Decides.{nat_tests}
use Rattle.bstr.proofs.lemmas.PieceLemmas.{piece-bounds}
use Rattle.casebook_text.proofs.Parts.{piece_written, all_written, character_shown, bytes_shown}
use Rattle.casebook_text.proofs.Parts.{stray_shown}
use Rattle.casebook_text.proofs.OriginalLemmas.{original_back}
use Rattle.casebook_text.proofs.ShownLemmas.{characters_safe, bytes_safe, ascii_itself}
use Rattle.casebook_text.specs.SafeText.{safe_text}
use Rattle.casebook_text.proofs.safe_text.safe.Goals as goal

pub split_at-requires : goal.split_at-requires
split_at-requires c =
    let bs = c.loop-rest.rest.now in
    let some : 0 < length bs = grind (arith, nat_tests, c.is_empty.ensures, c.loop-rest-test.true) in
    omega (arith, (piece-bounds bs some).2, c.decode-found.ensures.size)

pub loop-rest-smaller-in_ok-push_character-in-Some : goal.loop-rest-smaller-in_ok-push_character-in-Some
loop-rest-smaller-in_ok-push_character-in-Some c =
    let bs = c.loop-rest.rest.now in
    let some : 0 < length bs = grind (arith, nat_tests, c.is_empty.ensures, c.loop-rest-test.true) in
    let smaller : length c.split_at.result.1.now < length bs = omega (arith, (piece-bounds bs some).0, c.decode-found.ensures.size, c.split_at.ensures.back_len) in
    smaller

pub loop-rest-preserved-in_ok-push_character-in-Some : goal.loop-rest-preserved-in_ok-push_character-in-Some
loop-rest-preserved-in_ok-push_character-in-Some c =
    let bs = c.loop-rest.rest.now in
    let some : 0 < length bs = grind (arith, nat_tests, c.is_empty.ensures, c.loop-rest-test.true) in
    piece_written c.args.breaks (string_bytes c.loop-rest.text) (string_bytes c.push_character.new.text) bs
    c.split_at.result.1.now _ _ some c.loop-rest.invariant
    (c.split_at.ensures.back ∙ ap (λ n. drop n bs) c.decode-found.ensures.size)
    (character_shown c.args.breaks bs c.in-Some.c (sym c.decode-found.ensures.char ∙ c.in-Some.is))
    c.in_ok-push_character-in-Some.ensures

pub loop-rest-smaller : goal.loop-rest-smaller
loop-rest-smaller c =
    let bs = c.loop-rest.rest.now in
    let some : 0 < length bs = grind (arith, nat_tests, c.is_empty.ensures, c.loop-rest-test.true) in
    let smaller : length c.split_at.result.1.now < length bs = omega (arith, (piece-bounds bs some).0, c.decode-found.ensures.size, c.split_at.ensures.back_len) in
    smaller

pub loop-rest-preserved : goal.loop-rest-preserved
loop-rest-preserved c =
    let bs = c.loop-rest.rest.now in
    let some : 0 < length bs = grind (arith, nat_tests, c.is_empty.ensures, c.loop-rest-test.true) in
    piece_written c.args.breaks (string_bytes c.loop-rest.text) (string_bytes c.push_all_stray.new.text) bs
    c.split_at.result.1.now _ _ some c.loop-rest.invariant
    (c.split_at.ensures.back ∙ ap (λ n. drop n bs) c.decode-found.ensures.size)
    (ap stray_shown (c.split_at.ensures.front ∙ ap (λ n. take n bs) c.decode-found.ensures.size)
    ∙ bytes_shown c.args.breaks bs (sym c.decode-found.ensures.char ∙ c.in-None.is))
    c.in_ok-push_all_stray-in-None.ensures

pub returns-clause-value : goal.returns-clause-value
returns-clause-value c =
    all_written c.args.breaks (string_bytes c.loop-rest.text) c.loop-rest.rest.now
    (encode_utf8_all (safe_text c.args.breaks c.args.bytes.now))
    (grind (arith, nat_tests, c.is_empty.ensures, c.loop-rest-test.false)) c.loop-rest.invariant

pub returns-clause-characters : goal.returns-clause-characters
returns-clause-characters c = characters_safe c.args.breaks c.args.bytes.now (string_bytes c.loop-rest.text) (returns-clause-value c)

pub returns-clause-bytes : goal.returns-clause-bytes
returns-clause-bytes c = bytes_safe c.args.breaks c.args.bytes.now (string_bytes c.loop-rest.text) (returns-clause-value c)

pub returns-clause-ascii : goal.returns-clause-ascii
returns-clause-ascii c = ascii_itself c.args.breaks c.args.bytes.now (string_bytes c.loop-rest.text) (returns-clause-value c)

pub returns-clause-original : goal.returns-clause-original
returns-clause-original c =
    original_back c.args.breaks c.args.bytes.now (string_bytes c.loop-rest.text)
    (λ i. let fits = c.type_inv.bytes i in omega arith) (returns-clause-value c)
