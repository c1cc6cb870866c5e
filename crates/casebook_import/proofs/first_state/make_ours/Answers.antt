use Rattle.std.proofs.Common.{◌∙◌, ap}
use Rattle.retro_path.specs.Path.{parent_of, prefixes_of}
use Rattle.casebook_import.proofs.Making.{ours_made}
use Rattle.casebook_import.proofs.first_state.make_ours.Goals as goal

pub returns : goal.returns
returns c =
    ours_made c.as_slice.result.now c.as_slice-2.result.now c.args.state.now
    c.make_directories.new.state c.make_directories-2.new.state
    c.in_ok-make_directories.ensures c.in_ok-make_directories-2.ensures
    (c.as_slice.ensures.value ∙ c.in_ok-elsewhere-2.ensures
    ∙ ap prefixes_of c.in_ok-elsewhere.ensures)
    (c.as_slice-2.ensures.value ∙ c.in_ok-shells.ensures
    ∙ ap prefixes_of (c.in_ok-parent.ensures ∙ ap parent_of c.in_ok-shell_path.ensures))
