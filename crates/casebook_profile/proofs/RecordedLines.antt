-- Lines of a recording that aren't among those that aren't understood.
use Rattle.std.proofs.Common.{◌≡◌, ℕ, ◌==◌, ◌||◌, Bool, false, List, [], ◌∷◌, ◌++◌, Option, Some, None, refl, ap, sym, ◌∙◌, eq-eqb}
use Rattle.std.proofs.lemmas.Bool.{or_parts, true≢false}
use Rattle.std.proofs.lemmas.List.Folds.{list_any-append}
use Rattle.std.specs.List.{list_any}
use Rattle.retro_syntax.specs.Lines.{parsed}
use Rattle.retro_tree.specs.declared.state.State.{State}
use Rattle.retro_keep.specs.Recording.{RecordingValue}
use Rattle.retro_keep.specs.declared.noted.Noted.{Noted}
use Rattle.casebook_usage.specs.declared.obstacle.Obstacle.{Obstacle}
use Rattle.casebook_profile.specs.Lines.{text_obstacle}
use Rattle.casebook_profile.specs.Proper.{ProperLine, is_unknown}
use Rattle.casebook_profile.specs.UnknownLines.{scope_after, unknown_after, unknown_if, unknown_lines_of}
use Rattle.casebook_profile.specs.declared.unknown_line.UnknownLine.{UnknownLine}
use Rattle.casebook_profile.proofs.ProperLines.{understood_lines}

-- lines that a number finds
abbrev has_number : ℕ → UnknownLine → Bool
has_number number line = line.number == number

none_if : (number : ℕ) (o : Option Obstacle) → list_any (has_number number) (unknown_if number o) ≡ false → o ≡ None
none_if number None none = refl
none_if number (Some obstacle) none =
    absurd (true≢false (sym (ap (λ b. b || false) (eq-eqb number number refl)) ∙ none))

-- the text of a line isn't unknown after some lines
none_after : (first : State) (known before after : List (ℕ × Noted)) (line : ℕ × Noted)
    → list_any (has_number line.0) (unknown_after first known (before ++ line ∷ after)) ≡ false
    → (lines : List (ℕ × Noted)) × (text_obstacle (scope_after first lines line.1.sid) line.1.text ≡ None)
none_after first known [] after line none =
    let o : Option Obstacle = text_obstacle (scope_after first known line.1.sid) line.1.text in
    let rest : List UnknownLine = unknown_after first (known ++ line ∷ []) after in
    let a = or_parts (list_any (has_number line.0) (unknown_if line.0 o)) (list_any (has_number line.0) rest)
    (sym (list_any-append (has_number line.0) (unknown_if line.0 o) rest) ∙ none) in
    (known, none_if line.0 o a.0)
none_after first known (x ∷ before) after line none =
    let o : Option Obstacle = text_obstacle (scope_after first known x.1.sid) x.1.text in
    let rest : List UnknownLine = unknown_after first (known ++ x ∷ []) (before ++ line ∷ after) in
    let a = or_parts (list_any (has_number line.0) (unknown_if x.0 o)) (list_any (has_number line.0) rest)
    (sym (list_any-append (has_number line.0) (unknown_if x.0 o) rest) ∙ none) in
    none_after first (known ++ x ∷ []) before after line a.1

pub known_lines : (r : RecordingValue) (before after : List (ℕ × Noted)) (line : ℕ × Noted) (s : State)
    → r.lines ≡ before ++ line ∷ after → is_unknown r line.0 ≡ false
    → ProperLine line.1.sid (parsed line.1.text) s
unfolding unknown_lines_of
known_lines r before after line s are known =
    let (lines, none) = none_after r.first [] before after line
    (ap (λ ls. list_any (has_number line.0) (unknown_after r.first [] ls)) (sym are) ∙ known) in
    understood_lines (scope_after r.first lines line.1.sid) line.1.sid line.1.text s refl none
