-- Texts that do no harm on a terminal, and two things that hold of one result.
use Rattle.std.proofs.Common.{ℕ, List, Result, Ok, Err, IfOk, IsTrue}
use Rattle.std.specs.List.{list_all}
use Rattle.std.specs.Str.{chars}
use Rattle.casebook_text.specs.SafeText.{is_safe, is_safe_byte}
use Rattle.casebook_text.specs.declared.safe_text.Breaks.TheVariants.{Keep}
use Rattle.casebook_cli.specs.Harmless.{IsHarmless}

pub harmless : {A E : Type 0} (text : A → List ℕ) (r : Result A E)
    → IfOk r (λ x. IsTrue (list_all (is_safe Keep) (chars (text x))))
    → IfOk r (λ x. IsTrue (list_all (is_safe_byte Keep) (text x))) → IfOk r (λ x. IsHarmless (text x))
harmless text (Ok x) characters bytes = record { bytes = bytes; characters = characters }
harmless text (Err e) characters bytes = tt

pub both_ok : {A E : Type 0} (P Q R : A → Type 0) (r : Result A E) → ((x : A) → P x → Q x → R x) → IfOk r P → IfOk r Q
    → IfOk r R
both_ok P Q R (Ok x) f p q = f x p q
both_ok P Q R (Err e) f p q = tt
