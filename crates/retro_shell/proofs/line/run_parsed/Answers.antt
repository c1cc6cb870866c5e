-- The run of an executed line.
use Rattle.std.proofs.Common.{rules, ◌≡◌, refl, ap, sym, ◌∙◌}
use Rattle.retro_syntax.specs.Lines.{parsed}
use Rattle.retro_shell.proofs.Certified.{certified}
use Rattle.retro_shell.proofs.line.run_parsed.Goals as goal

pub of-requires : goal.of-requires
of-requires g c =
    let text : c.of-text.result ≡ c.args.parsed.now = search rules in
    certified _ _ _ _ _ _ _ refl (ap parsed text ∙ sym c.line.ensures) c.in_ok-progress.ensures.means
    c.in_ok-progress.ensures.extends c.in_ok-notes.ensures.state c.in_ok-notes.ensures.holding
    c.in_ok-notes.ensures.own c.in_ok-notes.ensures.allowed
