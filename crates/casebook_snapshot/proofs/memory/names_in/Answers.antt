use Rattle.std.proofs.Common.{rules, ◌≡◌, ◌+◌, [], subst}
use Rattle.std.proofs.lemmas.List.{drop_all}
use Rattle.std.proofs.Math.ListN.{drop}
use Rattle.casebook_snapshot.specs.inner.Memories.{AreChildrenBut, contents_of}
use Rattle.casebook_snapshot.proofs.Memories.{lists, split, starts}
use Rattle.casebook_snapshot.proofs.memory.names_in.Goals as goal

pub loop-entry-init : goal.loop-entry-init
loop-entry-init c = λ root. starts root c.args.entries.now c.args.path.now c.new-children.result.items c.new-children.ensures.items

pub loop-entry-preserved : goal.loop-entry-preserved
loop-entry-preserved c =
    λ root. c.in_ok-list_entry.ensures root (drop (c.loop-entry.entry-index + 1) c.args.entries.now)
    (subst (λ x. AreChildrenBut (contents_of root c.args.entries.now) c.args.path.now x c.loop-entry.children.items)
    (split c.args.entries.now c.loop-entry.entry-index c.entry-item.result (search rules) (search rules))
    (c.loop-entry.invariant root))

pub returns : goal.returns
returns c =
    let end : drop c.loop-entry.entry-index c.args.entries.now ≡ [] = drop_all c.loop-entry.entry-index c.args.entries.now (search rules) in
    λ root. lists root c.args.entries.now c.args.path.now c.loop-entry.children.items
    (subst (λ x. AreChildrenBut (contents_of root c.args.entries.now) c.args.path.now x c.loop-entry.children.items) end
    (c.loop-entry.invariant root))
