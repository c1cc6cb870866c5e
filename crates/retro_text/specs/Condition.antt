-- `test` and `[` (XCU test).
use Rattle.std.specs.Prelude.{ℕ, Bool, false, not, ◌==◌, ◌-◌, List, [], ◌∷◌, take, length, Option, Some, None}
use Rattle.std.specs.Prelude.{option_map, codes, if◌then◌else◌}
use Rattle.std.specs.List.{ends_with}
use Rattle.retro_path.specs.Order.{text_eq}
use Rattle.retro_text.specs.declared.condition.PathTest.{PathTest}
use Rattle.retro_text.specs.declared.condition.PathTest.TheVariants.{Exists, IsFile, IsDir}
use Rattle.retro_text.specs.declared.condition.Condition.{Condition}
use Rattle.retro_text.specs.declared.condition.Condition.TheVariants.{Known, Path}

-- a condition: one that doesn't depend on files, with whether it holds, or a test of the path that
-- a text names
pub data ConditionValue : Type 0 where
  known : Bool → ConditionValue
  path : PathTest → List ℕ → ConditionValue

abbrev pub condition_view : Condition → ConditionValue
condition_view (Known holds) = known holds
condition_view (Path test text) = path test text.now

abbrev pub is_empty : List ℕ → Bool
is_empty text = length text == 0

-- `-n t`, `-z t`, `-e p`, `-f p` and `-d p`
unfoldable pub unary : List ℕ → List ℕ → Option ConditionValue
unary operator t =
    if text_eq operator (codes "-n") then Some (known (not (is_empty t)))
    else if text_eq operator (codes "-z") then Some (known (is_empty t))
    else if text_eq operator (codes "-e") then Some (path Exists t)
    else if text_eq operator (codes "-f") then Some (path IsFile t)
    else if text_eq operator (codes "-d") then Some (path IsDir t)
    else None

-- whether `a = b` or `a != b` holds
unfoldable pub binary : List ℕ → List ℕ → List ℕ → Option Bool
binary a operator b =
    if text_eq operator (codes "=") then Some (text_eq a b)
    else if text_eq operator (codes "!=") then Some (not (text_eq a b))
    else None

-- the condition that the operands make, by their number, or None if they make none
unfoldable pub condition_in : List (List ℕ) → Option ConditionValue
condition_in [] = Some (known false)
condition_in (t ∷ []) = Some (known (not (is_empty t)))
condition_in (operator ∷ t ∷ []) = unary operator t
condition_in (a ∷ operator ∷ b ∷ []) = option_map known (binary a operator b)
condition_in (a ∷ b ∷ c ∷ d ∷ more) = None

-- the operands before a last operand `]`
unfoldable pub before_bracket : List (List ℕ) → Option (List (List ℕ))
before_bracket operands =
    if ends_with text_eq operands (codes "]" ∷ []) then Some (take (length operands - 1) operands) else None
