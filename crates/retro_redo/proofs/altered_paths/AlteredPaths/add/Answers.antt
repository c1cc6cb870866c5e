use Rattle.std.proofs.Common.{◌∙◌, ◌||◌, ◌∷◌, [], ap, sym}
use Rattle.retro_redo.specs.inner.Altered.{has_path}
use Rattle.retro_redo.proofs.AlteredPaths.{path_added, path_known}
use Rattle.retro_redo.proofs.altered_paths.AlteredPaths.add.Goals as goal

pub returns-in_ok-insert : goal.returns-in_ok-insert
returns-in_ok-insert c = λ p.
    path_added c.self.inside.paths.keys c.insert.new.self.keys c.args.path.now c.in_ok-copy.field-0
    c.in_ok-copy.ensures c.in_ok-insert.ensures.updates.0 p
    ∙ ap (λ ks. has_path p ks || has_path p (c.args.path.now ∷ [])) c.self.view_is

pub returns-else-not-contains : goal.returns-else-not-contains
returns-else-not-contains c =
    path_known c.args.self.now c.args.path.now
    (ap (has_path c.args.path.now) (sym c.self.view_is) ∙ sym c.contains.ensures ∙ c.if-not-contains.false)
