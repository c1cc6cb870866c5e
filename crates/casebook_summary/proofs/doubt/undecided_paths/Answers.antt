use Rattle.std.proofs.Common.{map}
use Rattle.casebook_summary.specs.Restorations.{restored_path}
use Rattle.casebook_summary.proofs.PathSets.{undecided_keys}
use Rattle.casebook_summary.proofs.doubt.undecided_paths.Goals as goal

pub returns : goal.returns
returns c =
    undecided_keys (λ found. found.items) c.into_paths.result c.args.case.now.recording
    c.args.case.now.repair.recording c.args.unknown.now (map restored_path c.args.restorations.now)
    c.in_ok-paths_for_real.field-0.paths.keys c.without-paths.result.paths.keys
    c.in_ok-paths_for_real.ensures c.without-paths.ensures c.into_paths.ensures.items c.into_paths.ensures.sorted
