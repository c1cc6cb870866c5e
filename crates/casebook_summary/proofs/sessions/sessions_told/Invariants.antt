use Rattle.std.proofs.Common.{◌≡◌, drop}
use Rattle.std.specs.BTreeSet.{insert_key}
use Rattle.std.specs.List.{fold}
use Rattle.std.specs.Ordering.{nat_cmp}
use Rattle.casebook_summary.specs.Counts.{sessions_told}
use Rattle.casebook_summary.proofs.sessions.sessions_told.Given as goal

abbrev pub invariant-loop-notice : goal.invariant-loop-notice
invariant-loop-notice l =
    fold (λ sessions notice. insert_key nat_cmp sessions notice.session) l.sessions.keys (drop l.notice-index l.notices)
    ≡ sessions_told l.notices
