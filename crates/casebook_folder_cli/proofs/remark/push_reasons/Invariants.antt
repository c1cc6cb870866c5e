use Rattle.std.proofs.Common.{◌≡◌, ◌++◌, take}
use Rattle.std.specs.List.{flat_map}
use Rattle.casebook_folder_cli.specs.Remarks.{reason_words}
use Rattle.casebook_folder_cli.proofs.remark.push_reasons.Given as goal

abbrev pub invariant-loop-reason : goal.invariant-loop-reason
invariant-loop-reason l = l.line ≡ l.fn.line ++ flat_map (reason_words l.skipped) (take l.reason-index l.reasons)
