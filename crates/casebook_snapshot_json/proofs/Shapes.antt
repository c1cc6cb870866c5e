-- The rows of a document have no float, and are arrays of texts and numbers.
use Rattle.std.proofs.Common.{◌≡◌, ◌≤◌, ◌∙◌, ℕ, Bool, true, false, List, refl, sym, ap, subst, arith}
use Rattle.std.specs.Str.{is_utf8, IsUtf8}
use Rattle.std.proofs.lemmas.Str.{is_utf8-from_IsUtf8}
use Rattle.serde_json.specs.Data.{Data, depth}
use Rattle.serde_json.specs.Read.{max_depth}
use Rattle.serde_json.specs.Written.{has_float}
use Rattle.retro_path.specs.Path.{PathValue}
use Rattle.retro_tree.specs.declared.entry.Entry.{Entry}
use Rattle.retro_tree.specs.declared.entry.Entry.TheVariants.{Dir, File}
use Rattle.retro_json.specs.Values.{entry_data, path_text, row_data}
use Rattle.casebook_snapshot.specs.declared.snapshot.SkippedPath.{SkippedPath}
use Rattle.casebook_snapshot_json.specs.Documents.{odd_data, plain_data, skipped_by, skipped_data}
use Rattle.casebook_snapshot_json.specs.Reasons.{reason_text}
use Rattle.casebook_snapshot.proofs.Names.{not_utf8}

entry_float : (path : List ℕ) (entry : Entry) → has_float (entry_data path entry) ≡ false
entry_float path Dir = refl
entry_float path (File bytes) = refl

pub row_float : (e : PathValue × Entry) → has_float (row_data e) ≡ false
unfolding row_data
row_float e = entry_float (path_text e.0) e.1

entry_low : (path : List ℕ) (entry : Entry) → depth (entry_data path entry) ≤ 1
entry_low path Dir = omega arith
entry_low path (File bytes) = omega arith

pub row_low : (e : PathValue × Entry) → depth (row_data e) ≤ 1
unfolding row_data
row_low e = entry_low (path_text e.0) e.1

by_float : (b : Bool) (s : SkippedPath) → has_float (skipped_by b s) ≡ false
by_float true s = refl
by_float false s = refl

pub skipped_float : (s : SkippedPath) → has_float (skipped_data s) ≡ false
unfolding skipped_data
skipped_float s = by_float (is_utf8 s.child.name.items) s

by_low : (b : Bool) (s : SkippedPath) → depth (skipped_by b s) ≤ 1
by_low true s = omega arith
by_low false s = omega arith

pub skipped_low : (s : SkippedPath) → depth (skipped_data s) ≤ 1
unfolding skipped_data
skipped_low s = by_low (is_utf8 s.child.name.items) s

-- ---- values that are rows

pub row_has_none : (d : Data) (p : PathValue) (entry : Entry) → d ≡ row_data (p, entry) → has_float d ≡ false
row_has_none d p entry e = ap has_float e ∙ row_float (p, entry)

pub row_fits : (d : Data) (p : PathValue) (entry : Entry) → d ≡ row_data (p, entry) → depth d ≤ max_depth
row_fits d p entry e =
    let low = row_low (p, entry) in subst (λ x. depth x ≤ max_depth) (sym e) (omega (arith, low))

pub skipped_has_none : (d : Data) (s : SkippedPath) → d ≡ skipped_data s → has_float d ≡ false
skipped_has_none d s e = ap has_float e ∙ skipped_float s

pub skipped_fits : (d : Data) (s : SkippedPath) → d ≡ skipped_data s → depth d ≤ max_depth
skipped_fits d s e =
    let low = skipped_low s in subst (λ x. depth x ≤ max_depth) (sym e) (omega (arith, low))

pub ruleset rows = (row_has_none, row_fits, skipped_has_none, skipped_fits)

-- ---- what is skipped, by its name

pub text_skipped : (s : SkippedPath) (n r : List ℕ) → n ≡ s.child.name.items → IsUtf8 s.child.name.items
    → r ≡ reason_text s.reason → plain_data s.child.parent n r ≡ skipped_data s
unfolding skipped_data
text_skipped s n r same text reason =
    ap (λ x. plain_data s.child.parent x r) same
    ∙ ap (plain_data s.child.parent s.child.name.items) reason
    ∙ sym (ap (λ b. skipped_by b s) (is_utf8-from_IsUtf8 s.child.name.items text))

pub odd_skipped : (s : SkippedPath) (r : List ℕ) → ¬ (IsUtf8 s.child.name.items) → r ≡ reason_text s.reason
    → odd_data s.child.parent s.child.name.items r ≡ skipped_data s
unfolding skipped_data
odd_skipped s r odd reason =
    ap (odd_data s.child.parent s.child.name.items) reason
    ∙ sym (ap (λ b. skipped_by b s) (not_utf8 s.child.name.items odd))

pub ruleset skips = (text_skipped, odd_skipped)
