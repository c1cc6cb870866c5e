use Rattle.std.proofs.Common.{◌∙◌, ap, sym}
use Rattle.std.specs.FinMap as finmap
use Rattle.retro_path.specs.Order.{text_total}
use Rattle.retro_tree.proofs.MapLemmas.{get_made}
use Rattle.casebook_spool.proofs.contents.Contents.get.Goals as goal

pub returns : goal.returns
returns c =
    c.get.ensures.value
    ∙ sym (get_made text_total c.self.inside.by_digest.entries c.args.digest.now.bytes)
    ∙ ap (λ m. finmap.get m c.args.digest.now.bytes) c.self.view_is
