use Rattle.std.proofs.Common.{◌∙◌, ap, sym, refl}
use Rattle.std.specs.Prelude.{◌||◌}
use Rattle.casebook_compare.specs.Coverage.{is_at_path}
use Rattle.casebook_compare.specs.inner.PathSets.{has_path}
use Rattle.casebook_compare.proofs.PathSets.{added_path}
use Rattle.casebook_compare.proofs.coverage.add_skipped.Goals as goal

pub returns-in_ok-insert-in-Is : goal.returns-in_ok-insert-in-Is
returns-in_ok-insert-in-Is c = λ p.
    added_path c.args.paths.now.keys c.insert.new.self.keys c.in-Is.path c.in-Is.path refl
    c.in_ok-insert-in-Is.ensures.updates.0 p
    ∙ ap (λ x. has_path p c.args.paths.now.keys || is_at_path p x) (sym c.in-Is.is ∙ c.in_ok-path.ensures)
