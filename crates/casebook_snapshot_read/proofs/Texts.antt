-- Bytes that are a text, or aren't.
use Rattle.std.proofs.Common.{◌≡◌, ◌∙◌, ℕ, List, Result, Err, sym, ap, subst, cond}
use Rattle.std.specs.Str.{IsUtf8}
use Rattle.std.proofs.lemmas.Str.{is_utf8-from_IsUtf8}
use Rattle.casebook_snapshot.proofs.Names.{not_utf8}
use Rattle.casebook_snapshot_read.specs.Documents.{document_in, document_in_text, document_view}
use Rattle.casebook_snapshot_read.specs.Reads.{Reads}
use Rattle.casebook_snapshot_read.specs.declared.document.SnapshotDocument.{SnapshotDocument}
use Rattle.casebook_snapshot_read.specs.declared.fault.SnapshotFault.{SnapshotFault}
use Rattle.casebook_snapshot_read.specs.declared.fault.SnapshotFault.TheVariants.{NotJson}

pub of_text : (bytes text : List ℕ) → text ≡ bytes → IsUtf8 bytes → document_in bytes ≡ document_in_text text
unfolding document_in
of_text bytes text same utf8 =
    ap (λ b. cond b (document_in_text bytes) (Err NotJson)) (is_utf8-from_IsUtf8 bytes utf8) ∙ ap document_in_text (sym same)

pub reads_text : (r : Result SnapshotDocument SnapshotFault) (bytes text : List ℕ) → text ≡ bytes → IsUtf8 bytes
    → Reads document_view r (document_in_text text) → Reads document_view r (document_in bytes)
reads_text r bytes text same utf8 reads = subst (Reads document_view r) (sym (of_text bytes text same utf8)) reads

pub of_no_text : (bytes : List ℕ) → ¬ (IsUtf8 bytes) → document_in bytes ≡ Err NotJson
unfolding document_in
of_no_text bytes odd = ap (λ b. cond b (document_in_text bytes) (Err NotJson)) (not_utf8 bytes odd)

pub ruleset texts = (of_text, reads_text, of_no_text)
