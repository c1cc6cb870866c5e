use Rattle.std.proofs.Common.{◌∙◌, ap, cond}
use Rattle.std.specs.Prelude.{unwrap_or}
use Rattle.std.specs.BTreeMap.{get_by}
use Rattle.std.specs.Ordering.{is_eq}
use Rattle.retro_path.specs.Order.{text_cmp}
use Rattle.casebook_typed.specs.inner.Places.{place_named}
use Rattle.casebook_typed.proofs.Keys.{or_other, same_name}
use Rattle.casebook_typed.proofs.names.Places.insert.Goals as goal

pub returns : goal.returns
returns c = λ q.
    ap (λ o. unwrap_or o 0) (c.in_ok-insert.ensures.updates.0 q)
    ∙ or_other (is_eq (text_cmp c.args.key q)) c.args.place (get_by (text_cmp q) c.args.self.now.places)
    ∙ ap (λ b. cond b c.args.place (place_named c.args.self.now q)) (same_name c.args.key q)
