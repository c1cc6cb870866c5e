use Rattle.std.proofs.Common.{◌∙◌, ap, sym, Option}
use Rattle.std.specs.FinMap as finmap
use Rattle.std.specs.Option.{option_copied, unwrap_or}
use Rattle.retro_path.specs.Order.{text_cmp}
use Rattle.retro_tree.specs.Session.{default_session}
use Rattle.retro_tree.specs.declared.session.Session.{Session}
use Rattle.casebook_import.proofs.effects.var_in.Goals as goal

pub returns-in-None : goal.returns-in-None
unfolding default_session
returns-in-None c =
    let none = sym c.get.ensures ∙ ap option_copied c.in-None.is in
    let here = ap (λ m. finmap.get m c.args.session) c.sessions.ensures in
    sym (
    ap (λ (o : Option Session). finmap.get (unwrap_or o default_session).vars c.args.name.now)
    (sym here ∙ none)
    ∙ finmap.get-empty text_cmp c.args.name.now
    )
