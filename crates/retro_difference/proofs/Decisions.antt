-- How a line changes one cell's entry.
use Rattle.std.proofs.Common.{◌≡◌, ◌≢◌, ◌↔◌, ℕ, Bool, true, false, List, [], ◌∷◌, ◌++◌, Option, Some, None, sym, ap}
use Rattle.std.proofs.Common.{subst, refl, ◌∙◌, length, length-append, arith}
use Rattle.std.specs.Prelude.{IsTrue}
use Rattle.std.proofs.lemmas.Bool.{true≢false}
use Rattle.std.proofs.lemmas.List.{append_cancel_left, append_cancel_right}
use Rattle.retro_tree.specs.Change.{value_grown}
use Rattle.retro_tree.specs.Overlay.{combined_value}
use Rattle.retro_tree.specs.Exact.{IsDifference}
use Rattle.retro_tree.specs.declared.value.Value.{Value}
use Rattle.retro_tree.specs.declared.value.Value.TheVariants as values
use Rattle.retro_tree.specs.declared.node.Node.TheVariants as nodes
use Rattle.retro_tree.specs.declared.overlay_entry.OverlayEntry.{OverlayEntry}
use Rattle.retro_tree.specs.declared.overlay_entry.OverlayEntry.TheVariants as entries
use Rattle.retro_difference.specs.inner.Write.{entry_after, decided_entry}
use Rattle.retro_difference.specs.inner.Decision.{Appends, differ_by_empty_file}
use Rattle.retro_difference.specs.declared.write.Write.{Write}
use Rattle.retro_difference.specs.declared.write.Write.TheVariants.{Grow}

bytes_of : Value → List ℕ
bytes_of (values.Node (nodes.File bytes)) = bytes
bytes_of v = []

same_file : (p q : List ℕ) → values.Node (nodes.File p) ≡ values.Node (nodes.File q) → p ≡ q
unfolding bytes_of
same_file p q e = ap bytes_of e

pub files_apart : (p q : List ℕ) → values.Node (nodes.File p) ≢ values.Node (nodes.File q) → p ≢ q
files_apart p q h e = h (ap (λ b. values.Node (nodes.File b)) e)

-- two files to which bytes are appended
pub both_grow : (b : Bool) (recorded chosen : Option OverlayEntry) (p q x y : List ℕ)
    → Appends (Some x) recorded → Appends (Some y) chosen → (IsTrue b ↔ (p ++ x ≡ q ++ y))
    → IsTrue b ↔ (combined_value recorded (values.Node (nodes.File p))
    ≡ combined_value chosen (values.Node (nodes.File q)))
both_grow b recorded chosen p q x y g h is = (
  λ t. g p ∙ ap (λ bs. values.Node (nodes.File bs)) (is.0 t) ∙ sym (h q),
  λ e. is.1 (same_file (p ++ x) (q ++ y) (sym (g p) ∙ e ∙ h q)),
)

-- one file to which either bytes are appended
pub same_after_file : (b : Bool) (file x y : List ℕ) → (IsTrue b ↔ (x ≡ y)) → IsTrue b ↔ (file ++ x ≡ file ++ y)
same_after_file b file x y is = (λ t. ap (λ z. file ++ z) (is.0 t), λ e. is.1 (append_cancel_left file x y e))

-- ---- the entry after the line
pub removed_where_same : (b : Bool) (was now : Value) (o : Option OverlayEntry) → IsTrue b ↔ (was ≡ now) → IsTrue b
    → IsDifference (decided_entry None o) was now
removed_where_same b was now o is t = is.0 t

pub written_where_different : (w : Write) (was now : Value) (o : Option OverlayEntry)
    → entry_after w o ≡ Some (entries.Value now) → was ≢ now → IsDifference (decided_entry (Some w) o) was now
written_where_different w was now o e h = subst (λ x. IsDifference x was now) (sym e) (refl, h)

-- ---- the same bytes appended to two values
longer : (x : ℕ) (xs bytes : List ℕ) → bytes ≡ x ∷ (xs ++ bytes) → ⊥
longer x xs bytes e = omega (arith, ap length e, length-append xs bytes)

pub grown_alike : (bytes : List ℕ) (was now : Value) → differ_by_empty_file was now ≡ true
    → value_grown bytes was ≡ value_grown bytes now
grown_alike bytes (values.Node nodes.Missing) (values.Node (nodes.File [])) e = refl
grown_alike bytes (values.Node (nodes.File [])) (values.Node nodes.Missing) e = refl
grown_alike bytes was now e = absurd (true≢false (sym e))

grown_apart : (bytes : List ℕ) (was now : Value) → differ_by_empty_file was now ≡ false → was ≢ now
    → value_grown bytes was ≢ value_grown bytes now
grown_apart bytes (values.Node (nodes.File p)) (values.Node (nodes.File q)) e h same =
    h (ap (λ b. values.Node (nodes.File b)) (append_cancel_right p q bytes (same_file (p ++ bytes) (q ++ bytes) same)))
grown_apart bytes (values.Node nodes.Missing) (values.Node nodes.Missing) e h same = h refl
grown_apart bytes (values.Node nodes.Missing) (values.Node nodes.Dir) e h same = cc
grown_apart bytes (values.Node nodes.Missing) (values.Node (nodes.File [])) e h same = true≢false e
grown_apart bytes (values.Node nodes.Missing) (values.Node (nodes.File (x ∷ xs))) e h same =
    longer x xs bytes (same_file bytes (x ∷ (xs ++ bytes)) same)
grown_apart bytes (values.Node nodes.Dir) (values.Node nodes.Missing) e h same = cc
grown_apart bytes (values.Node nodes.Dir) (values.Node nodes.Dir) e h same = h refl
grown_apart bytes (values.Node nodes.Dir) (values.Node (nodes.File q)) e h same = cc
grown_apart bytes (values.Node (nodes.File [])) (values.Node nodes.Missing) e h same = true≢false e
grown_apart bytes (values.Node (nodes.File (x ∷ xs))) (values.Node nodes.Missing) e h same =
    longer x xs bytes (sym (same_file (x ∷ (xs ++ bytes)) bytes same))
grown_apart bytes (values.Node (nodes.File p)) (values.Node nodes.Dir) e h same = cc
grown_apart bytes (values.Node was) (values.Cwd q) e h same = cc
grown_apart bytes (values.Node was) (values.Text t) e h same = cc
grown_apart bytes (values.Node was) (values.Status n) e h same = cc
grown_apart bytes (values.Cwd p) (values.Node now) e h same = cc
grown_apart bytes (values.Text t) (values.Node now) e h same = cc
grown_apart bytes (values.Status n) (values.Node now) e h same = cc
grown_apart bytes was now e h same = h same

-- an entry grows, if the values aren't the same then
pub entry_grown : (bytes : List ℕ) (entry : OverlayEntry) (was : Value)
    → IsDifference (Some entry) was (combined_value (Some entry) was)
    → differ_by_empty_file was (combined_value (Some entry) was) ≡ false
    → IsDifference (decided_entry (Some (Grow bytes)) (Some entry)) (value_grown bytes was)
    (value_grown bytes (combined_value (Some entry) was))
entry_grown bytes (entries.Value v) was h e = (refl, grown_apart bytes was v e h.1)
entry_grown bytes (entries.Growth old) was h e = absurd h

pub ruleset growths = (both_grow, files_apart)

pub ruleset deciding = (removed_where_same, written_where_different)

pub ruleset deciding_both = (grown_alike, entry_grown)
