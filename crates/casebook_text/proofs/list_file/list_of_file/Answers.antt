use Rattle.std.proofs.Common.{[], ◌∷◌, string_bytes, ap, ◌∙◌}
use Rattle.std.specs.List.{join_by}
use Rattle.std.specs.Prelude.{flat_map}
use Rattle.casebook_text.specs.ListFile.{items_of_line}
use Rattle.casebook_text.proofs.FileLemmas.{file_joined, texts_of}
use Rattle.casebook_text.proofs.list_file.list_of_file.Goals as goal

pub returns : goal.returns
returns c =
    file_joined (string_bytes c.in_ok-list.list) c.args.text.now c.in_ok-lines.lines.items c.in_ok-items.items.items
    c.in_ok-lines.ensures
    (c.in_ok-items.ensures ∙ ap (λ xs. flat_map items_of_line (texts_of xs)) c.as_slice.ensures.value)
    (c.in_ok-list.ensures.ok ∙ ap (join_by (λ t. t.now) (44 ∷ [])) c.as_slice-2.ensures.value)
