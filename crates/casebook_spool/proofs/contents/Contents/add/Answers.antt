use Rattle.std.proofs.Common.{◌≡◌, ◌∙◌, ap, rules, List, ℕ}
use Rattle.std.specs.FinMap as finmap
use Rattle.sha2.specs.Sha256.{sha256}
use Rattle.retro_path.specs.Order.{text_exact, text_total}
use Rattle.retro_tree.proofs.MapLemmas.{made_insert}
use Rattle.casebook_spool.proofs.contents.Contents.add.Goals as goal

pub returns-clause-ok : goal.returns-clause-ok
returns-clause-ok c =
    let digest = c.digest-digest.result in
    let is : digest ≡ sha256 c.args.bytes = search rules in
    made_insert text_total text_exact c.self.inside.by_digest.entries
    c.insert.new.self.entries digest c.args.bytes c.in_ok-insert.ensures.updates.0
    ∙ ap (λ m. finmap.insert m digest c.args.bytes) c.self.view_is
    ∙ ap (λ (d : List ℕ). finmap.insert c.args.self.now d c.args.bytes) is
