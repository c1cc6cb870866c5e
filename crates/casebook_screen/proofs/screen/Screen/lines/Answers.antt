use Rattle.std.proofs.Common.{◌≡◌, ◌∙◌, ◌++◌, IsTrue, ap, subst, sym, take_all, true}
use Rattle.std.specs.Prelude.{flat_map}
use Rattle.std.specs.List.{list_all}
use Rattle.std.proofs.lemmas.Result.{IfOk-weaker}
use Rattle.casebook_text.specs.SafeLine.{text_of_lines}
use Rattle.casebook_screen.specs.Screen.{IsScreen, is_allowed, piece_text}
use Rattle.casebook_screen.proofs.Showing.{each_passes, written_screen}
use Rattle.casebook_screen.proofs.screen.Screen.lines.Goals as goal

pub push-requires : goal.push-requires
push-requires c =
    subst (λ piece. IsTrue (is_allowed piece)) (sym c.piece-item.is)
    (each_passes is_allowed c.deref-piece-items.result.now c.loop-piece.piece-index c.piece-item.result
    c.loop-piece-test.true
    (subst (λ pieces. list_all is_allowed pieces ≡ true) (sym c.deref-piece-items.ensures.value) c.self.invariant))

pub returns : goal.returns
returns c =
    let pieces = c.self.inside.pieces.items in
    let same : text_of_lines c.loop-piece.written.lines.items ++ c.loop-piece.written.line ≡ flat_map piece_text pieces
    = c.loop-piece.invariant
    ∙ ap (flat_map piece_text)
    (take_all c.loop-piece.piece-index c.deref-piece-items.result.now c.loop-piece-test.false
    ∙ c.deref-piece-items.ensures.value) in
    IfOk-weaker c.into_lines.result _ _
    (λ lines are. subst (λ facts. IsScreen facts lines.items) c.self.view_is
    (written_screen c.loop-piece.written.line c.loop-piece.written.lines.items lines.items pieces same
    c.self.invariant are))
    c.into_lines.ensures
