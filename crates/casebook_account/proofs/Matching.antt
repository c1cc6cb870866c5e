-- What a repair did is said of the lines that its recording is shown with.
use Rattle.std.proofs.Common.{◌≡◌, ◌∙◌, ◌+◌, ◌++◌, ◌∷◌, [], ℕ, suc, Bool, true, false, cond, List, Option, Some, None, ap, ap₂, arith, drop, get_or, map, nat_lt, refl, sym, take}
use Rattle.std.specs.List.{prefix_len, take_while}
use Rattle.std.proofs.lemmas.List.{map-append}
use Rattle.retro_keep.specs.Recording.{RecordingValue, number_in}
use Rattle.retro_keep.specs.declared.noted.Noted.{Noted}
use Rattle.retro_redo.specs.declared.verdict.SettledLine.{SettledLine}
use Rattle.casebook_account.specs.Shown.{front_below, is_below, is_line_below, rest_from, settled_by, settled_from}
use Rattle.casebook_account.specs.Shown.{settled_line, shown, shown_by, shown_from, shown_settled, texts_shown}
use Rattle.casebook_account.specs.declared.account.Account.{Account}
use Rattle.casebook_account.specs.declared.account.Machine.{Machine}
use Rattle.casebook_account.specs.declared.machine_line.MachineLine.{MachineLine}

abbrev number_of : SettledLine → ℕ
number_of l = l.number

plus_one : (p : ℕ) → 1 + p ≡ suc p
plus_one p = omega arith

take_next : {X : Type 0} (x : X) (xs : List X) (p : ℕ) → take (1 + p) (x ∷ xs) ≡ x ∷ take p xs
take_next x xs p = ap (λ n. take n (x ∷ xs)) (plus_one p)

drop_next : {X : Type 0} (x : X) (xs : List X) (p : ℕ) → drop (1 + p) (x ∷ xs) ≡ drop p xs
drop_next x xs p = ap (λ n. drop n (x ∷ xs)) (plus_one p)

-- the same numbers below an end, and the same ones after these
abbrev Fronts : ℕ → List SettledLine → List (ℕ × Noted) → Type 0
Fronts end settled lines =
    (map number_of (take_while (is_line_below end) settled) ≡ map number_in (front_below end lines))
    × (map number_of (drop (prefix_len (is_line_below end) settled) settled) ≡ map number_in (rest_from end lines))

module _ (end : ℕ) (s : SettledLine) (settled : List SettledLine) (l : ℕ × Noted) (lines : List (ℕ × Noted))
    (first : s.number ≡ l.0) (others : map number_of settled ≡ map number_in lines) (rest : Fronts end settled lines) where
  abbrev p : ℕ
  p = prefix_len (is_line_below end) settled

  abbrev q : ℕ
  q = prefix_len (is_below end) lines

  -- by the same test of the first number
  by_tests : (one two : Bool) → one ≡ two
      → (map number_of (take (cond one (1 + p) 0) (s ∷ settled)) ≡ map number_in (take (cond two (1 + q) 0) (l ∷ lines)))
      × (map number_of (drop (cond one (1 + p) 0) (s ∷ settled)) ≡ map number_in (drop (cond two (1 + q) 0) (l ∷ lines)))
  by_tests true true same = (
    ap (map number_of) (take_next s settled p) ∙ ap₂ (λ n ns. n ∷ ns) first rest.0 ∙ sym (ap (map number_in) (take_next l lines q)),
    ap (map number_of) (drop_next s settled p) ∙ rest.1 ∙ sym (ap (map number_in) (drop_next l lines q)),
  )
  by_tests false false same = (refl, ap₂ (λ n ns. n ∷ ns) first others)
  by_tests true false same = cc
  by_tests false true same = cc

  fronts_by : Fronts end (s ∷ settled) (l ∷ lines)
  fronts_by = by_tests (nat_lt s.number end) (nat_lt l.0 end) (ap (λ n. nat_lt n end) first)

front_match : (end : ℕ) (settled : List SettledLine) (lines : List (ℕ × Noted))
    → map number_of settled ≡ map number_in lines → Fronts end settled lines
front_match end [] [] same = (refl, refl)
front_match end [] (l ∷ lines) same = cc
front_match end (s ∷ settled) [] same = cc
front_match end (s ∷ settled) (l ∷ lines) same =
    fronts_by end s settled l lines (ap (λ ns. get_or ns 0 0) same) (ap (drop 1) same)
    (front_match end settled lines (ap (drop 1) same))

line_match : (r : RecordingValue) (line : MachineLine) (settled : List SettledLine) (texts : List (ℕ × Noted))
    → map number_of settled ≡ map number_in texts
    → map number_of (settled_line line settled) ≡ map number_in (texts_shown r line texts)
line_match r line [] [] same = refl
line_match r line [] (text ∷ texts) same = cc
line_match r line (s ∷ settled) [] same = cc
line_match r line (s ∷ settled) (text ∷ texts) same = refl

machine_match : (r : RecordingValue) (machine : List MachineLine) (settled : List SettledLine) (texts : List (ℕ × Noted))
    → map number_of settled ≡ map number_in texts
    → map number_of (settled_from machine settled) ≡ map number_in (shown_from r machine texts)
machine_match r [] settled texts same = refl
machine_match r (line ∷ machine) settled texts same =
    let parts = front_match line.end settled texts same in
    let front = take_while (is_line_below line.end) settled in
    let rest = drop (prefix_len (is_line_below line.end) settled) settled in
    map-append number_of (settled_line line front) (settled_from machine rest)
    ∙ ap₂ (λ a b. a ++ b) (line_match r line front (front_below line.end texts) parts.0)
    (machine_match r machine rest (rest_from line.end texts) parts.1)
    ∙ sym (map-append number_in (texts_shown r line (front_below line.end texts))
    (shown_from r machine (rest_from line.end texts)))

by_machine : (r : RecordingValue) (machine : Option Machine) (settled : List SettledLine) (some : RecordingValue)
    → map number_of settled ≡ map number_in some.lines
    → map number_of (settled_by machine settled) ≡ map number_in (shown_by r machine some).lines
by_machine r None settled some same = same
by_machine r (Some machine) settled some same = machine_match r machine.lines.items settled some.lines same

-- If it is said of each text of a recording what a repair did with it, and of no other, so it is of
-- each line that the recording is shown with.
pub shown_match : (account : Account) (settled : List SettledLine) (some : RecordingValue)
    → map (λ l. l.number) settled ≡ map number_in some.lines
    → map (λ l. l.number) (shown_settled account settled) ≡ map number_in (shown account some).lines
shown_match account settled some same = by_machine account.recording account.machine settled some same
