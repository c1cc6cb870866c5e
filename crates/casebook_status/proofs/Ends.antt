-- The first and the last of some lines.
use Rattle.std.proofs.Common.{◌≡◌, ℕ, ◌-◌, ◌≤◌, List, [], ◌∷◌, Some, length, map, get_or, ap, refl, sym, arith}
use Rattle.casebook_typed.specs.Lines.{LineValue}
use Rattle.casebook_typed.specs.Values.{line_value}
use Rattle.casebook_typed.specs.declared.line.TypedLine.{TypedLine}
use Rattle.casebook_status.specs.Recorded.{ends_of, last_of}

last_is : (lines : List TypedLine) (line d : TypedLine)
    → last_of (line_value line) (map line_value lines) ≡ line_value (get_or (line ∷ lines) (length lines) d)
last_is [] line d = refl
last_is (next ∷ lines) line d = last_is lines next d

pub ends_are : (lines : List TypedLine) (first last d e : TypedLine) → 2 ≤ length lines
    → first ≡ get_or lines 0 d → last ≡ get_or lines (length lines - 1) e
    → Some (first.shown.now.at, last.shown.now.at) ≡ ends_of (map line_value lines)
ends_are [] first last d e long f l = absurd (omega arith)
ends_are (line ∷ lines) first last d e long f l =
    let at_end : length (line ∷ lines) - 1 ≡ length lines = omega arith in
    rw (f, l, at_end) (ap (λ (v : LineValue). Some (line.shown.now.at, v.shown.at)) (sym (last_is lines line e)))
