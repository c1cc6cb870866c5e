-- Times as `jiff` shows them.
use Rattle.std.proofs.Common.{◌≡◌, ℕ, ℤ, List, pos, ◌*ℤ◌, Result, Ok, Err, String, string_bytes, sym}
use Rattle.std.specs.Prelude.{IfOk}
use Rattle.std.specs.declared.alloc.Global.{Global}
use Rattle.jiff.specs.Strtime.{StrftimeGives}
use Rattle.jiff.specs.Words.{Error, IsInstantParts}
use Rattle.casebook_about.specs.Time.{IsShownIn}

pub shown_so : (format : List ℕ) (second n : ℤ) (r : Result (String Global) Error) → n ≡ second *ℤ pos 1_000_000_000
    → StrftimeGives string_bytes format (IsInstantParts n) r
    → IfOk r (λ text. IsShownIn format second (string_bytes text))
shown_so format second n (Ok text) e gives =
    let here : StrftimeGives string_bytes format (IsInstantParts (second *ℤ pos 1_000_000_000)) (Ok text) =
    rw (sym e) gives in
    here
shown_so format second n (Err error) e gives = tt
