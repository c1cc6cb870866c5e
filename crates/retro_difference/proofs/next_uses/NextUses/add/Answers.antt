use Rattle.std.proofs.Common.{◌≡◌, ◌⊎◌, List, subst, sym, true}
use Rattle.retro_difference.specs.NextUses.{Use, has_use}
use Rattle.retro_difference.proofs.Entries.{one_kept, one_only}
use Rattle.retro_difference.proofs.next_uses.NextUses.add.Goals as goal

pub returns-clause-kept : goal.returns-clause-kept
returns-clause-kept c = λ n d has.
    one_kept c.self.inside.uses.keys c.insert.new.self.keys (c.args.number, c.args.cell)
    c.in_ok-insert.ensures.updates.0 n d (subst (λ (us : List Use). has_use n d us ≡ true) (sym c.self.view_is) has)

pub returns-clause-only : goal.returns-clause-only
returns-clause-only c = λ n d has.
    subst (λ (us : List Use). (has_use n d us ≡ true) ⊎ ((n ≡ c.args.number) × (d ≡ c.args.cell))) c.self.view_is
    (one_only c.self.inside.uses.keys c.insert.new.self.keys (c.args.number, c.args.cell)
    c.in_ok-insert.ensures.updates.0 n d has)
