use Rattle.std.proofs.Common.{◌∙◌, ap, sym, List, [], ◌∷◌}
use Rattle.std.specs.Prelude.{is_some}
use Rattle.std.specs.FinMap as finmap
use Rattle.std.specs.List.{list_any}
use Rattle.retro_path.specs.Path.{PathValue}
use Rattle.casebook_needs.specs.Named.{named_path}
use Rattle.casebook_import.proofs.Making.{unwatched_place, watched_place}
use Rattle.casebook_import.proofs.first_state.make_place.Goals as goal

pub returns-then-is_watched : goal.returns-then-is_watched
returns-then-is_watched c =
    watched_place c.args.sights.now c.in-Some.path c.as_slice.result.now c.args.name.now
    c.args.state.now
    (sym (c.in_ok-path.ensures ∙ ap (λ d. named_path d c.args.name.now) c.root.ensures)
    ∙ c.in-Some.is)
    (c.as_slice.ensures.value ∙ c.in_ok-prefixes.ensures)
    c.is_watched.result c.is_watched.ensures c.if-is_watched.true

pub returns : goal.returns
returns c =
    unwatched_place c.args.sights.now c.in-Some.path c.as_slice-2.result.now c.args.name.now
    c.args.state.now
    (sym (c.in_ok-path.ensures ∙ ap (λ d. named_path d c.args.name.now) c.root.ensures)
    ∙ c.in-Some.is)
    (c.as_slice-2.ensures.value ∙ c.in_ok-prefixes.ensures)
    c.is_watched.result
    (c.is_watched.ensures
    ∙ ap (λ (ps : List PathValue). list_any (λ q. is_some (finmap.get c.args.sights.now q)) ([] ∷ ps))
    (c.as_slice.ensures.value ∙ sym c.as_slice-2.ensures.value))
    c.make_directories.new.state c.if-is_watched.false
    c.in_ok-make_directories.ensures
