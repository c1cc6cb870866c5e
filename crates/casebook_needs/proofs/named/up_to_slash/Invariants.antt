use Rattle.std.proofs.Common.{◌≡◌, ◌≤◌, take}
use Rattle.casebook_needs.specs.Named.{up_to_slash}
use Rattle.casebook_needs.proofs.named.up_to_slash.Given as goal

abbrev pub invariant-loop-index : goal.invariant-loop-index
invariant-loop-index l = record {
  within : l.end ≤ l.index;
  so_far : take l.end l.text ≡ up_to_slash (take l.index l.text);
}
