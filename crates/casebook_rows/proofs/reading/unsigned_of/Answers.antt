use Rattle.std.proofs.Common.{◌≡◌, ◌∙◌, sym, IsUtf8, List, ℕ, Ok, Err, Result, Bor, MatchResult}
use Rattle.std.proofs.Common.{Some, None}
use Rattle.std.specs.Result.{result_ok}
use Rattle.casebook_rows.proofs.Numerals.{is_numeral-decides, numeral_is_utf8}
use Rattle.casebook_rows.proofs.Numbers.{not_numeral, parsed}
use Rattle.casebook_rows.proofs.reading.unsigned_of.Goals as goal

pub returns-then-not-is_numeral : goal.returns-then-not-is_numeral
returns-then-not-is_numeral c =
    sym (not_numeral c.args.base 64 c.args.field.now
    (sym c.is_numeral.ensures ∙ c.if-not-is_numeral.true))

module _ {E : Type 0} (bytes : List ℕ) (Q : E → Type 0) where
  abbrev Reads : Result (Bor (List ℕ)) E → Type 0
  Reads r = MatchResult r (λ s. (s.now ≡ bytes) × IsUtf8 bytes) (λ e. ¬ (IsUtf8 bytes) × Q e)

  -- a text is never refused
  never : IsUtf8 bytes → (r : Result (Bor (List ℕ)) E) → Reads r → result_ok r ≡ None → ⊥
  never utf8 (Ok x) h e = cc
  never utf8 (Err x) h e = h.0 utf8

  same : (r : Result (Bor (List ℕ)) E) (x : Bor (List ℕ)) → Reads r
      → result_ok r ≡ Some x → x.now ≡ bytes
  same (Ok y) x h e = cc h.0
  same (Err y) x h e = cc

pub returns-in_err-ok : goal.returns-in_err-ok
returns-in_err-ok c =
    let test = sym c.is_numeral.ensures ∙ c.if-not-is_numeral.false in
    let digits = (is_numeral-decides c.args.base c.args.field.now).0 test in
    let utf8 = numeral_is_utf8 c.args.base c.args.field.now c.requires.1 digits in
    absurd (never _ _ utf8 c.from_utf8.result c.from_utf8.ensures.cases
    (sym c.ok.ensures.value ∙ c.in_err-ok.was))

pub returns : goal.returns
returns c =
    let test = sym c.is_numeral.ensures ∙ c.if-not-is_numeral.false in
    let text = same _ _ c.from_utf8.result _ c.from_utf8.ensures.cases
    (sym c.ok.ensures.value ∙ c.in_ok-ok.was) in
    c.ok-2.ensures.value
    ∙ parsed c.args.base c.args.field.now c.from_str_radix.result c.requires.1 test
    (rw text at c.from_str_radix.ensures.value)
