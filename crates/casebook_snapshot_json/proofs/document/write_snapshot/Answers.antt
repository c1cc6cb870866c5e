use Rattle.std.proofs.Common.{◌∙◌, ◌++◌, ap, codes, sym}
use Rattle.serde_json.specs.Data.{string}
use Rattle.serde_json.specs.Written.{compact_text}
use Rattle.casebook_snapshot_json.specs.Documents.{attributes_rows, skipped_rows, snapshot_data}
use Rattle.casebook_snapshot_json.specs.Documents.{snapshot_text, tree_rows}
use Rattle.casebook_snapshot_json.proofs.Pieces.{in_pieces, snapshot_pieces}
use Rattle.casebook_snapshot_json.proofs.document.write_snapshot.Goals as goal

pub returns : goal.returns
unfolding snapshot_data snapshot_text
returns c =
    let s = c.args.snapshot.now in
    let attributes = attributes_rows c.args.at.now s.rows.entries in
    let root = compact_text (string c.args.root.now) in
    let skipped = skipped_rows s.skipped.items in
    let taken = compact_text (string c.args.taken.now) in
    let trees = tree_rows s.rows.entries in
    let one =
    c.in_ok-extend_from_slice.ensures.items ∙ ap (λ t. t ++ codes "{\"attributes\":") c.new-text.ensures.items in
    let two = c.in_ok-push_attributes.ensures ∙ ap (λ t. t ++ compact_text attributes) one in
    let three = c.in_ok-extend_from_slice-2.ensures.items ∙ ap (λ t. t ++ codes ",\"root\":") two in
    let four = c.in_ok-push_string.ensures ∙ ap (λ t. t ++ root) three in
    let five = c.in_ok-extend_from_slice-3.ensures.items ∙ ap (λ t. t ++ codes ",\"skipped\":") four in
    let six =
    c.in_ok-push_skipped.ensures
    ∙ ap (λ x. c.extend_from_slice-3.new.self.items ++ compact_text (skipped_rows x)) c.as_slice.ensures.value
    ∙ ap (λ t. t ++ compact_text skipped) five in
    let seven =
    c.in_ok-extend_from_slice-4.ensures.items ∙ ap (λ t. t ++ codes ",\"snapshot\":1,\"taken\":") six in
    let eight = c.in_ok-push_string-2.ensures ∙ ap (λ t. t ++ taken) seven in
    let nine = c.in_ok-extend_from_slice-5.ensures.items ∙ ap (λ t. t ++ codes ",\"tree\":") eight in
    let ten = c.in_ok-push_tree.ensures ∙ ap (λ t. t ++ compact_text trees) nine in
    c.in_ok-extend_from_slice-6.ensures.items ∙ ap (λ t. t ++ (codes "}" ++ codes "\n")) ten
    ∙ in_pieces (codes "{\"attributes\":") (compact_text attributes) (codes ",\"root\":") root
    (codes ",\"skipped\":") (compact_text skipped) (codes ",\"snapshot\":1,\"taken\":") taken
    (codes ",\"tree\":") (compact_text trees) (codes "}") (codes "\n")
    ∙ ap (λ t. t ++ codes "\n")
    (sym (snapshot_pieces attributes c.args.root.now skipped c.args.taken.now trees))
