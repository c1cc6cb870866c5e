-- The paths so far, and those of the entries that are left.
use Rattle.std.proofs.Common.{◌≡◌, ◌++◌, map}
use Rattle.std.specs.List.{filter}
use Rattle.casebook_watch.specs.Seen.{gone_paths, is_changed, is_gone, is_listed, is_read}
use Rattle.casebook_watch.specs.Seen.{passes_from, paths_where}
use Rattle.casebook_watch.proofs.seen.seen_between.Given as goal

abbrev pub invariant-loop-path : goal.invariant-loop-path
invariant-loop-path l = record {
  read : l.read.items ++ map (λ e. e.0) (filter (passes_from is_read l.before) l.path-iterator)
      ≡ paths_where is_read l.before l.after;
  listed : l.listed.items ++ map (λ e. e.0) (filter
      (passes_from is_listed l.before) l.path-iterator)
      ≡ paths_where is_listed l.before l.after;
  changed : l.changed.items ++ map (λ e. e.0) (filter
      (passes_from is_changed l.before) l.path-iterator)
      ≡ paths_where is_changed l.before l.after;
}

abbrev pub invariant-loop-path-2 : goal.invariant-loop-path-2
invariant-loop-path-2 l =
    l.gone.items ++ map (λ e. e.0) (filter (is_gone l.after) l.path-iterator)
    ≡ gone_paths l.before l.after
