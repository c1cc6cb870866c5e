-- The numbers under which refusals are reported.
use Rattle.std.specs.Prelude.{ℕ}
use Rattle.retro_json.specs.declared.fault.Refusal.{Refusal}
use Rattle.retro_json.specs.declared.fault.Refusal.TheVariants.{NumbersNotRising, UnknownSession, LawlessTree, OverLimit}
use Rattle.retro_json.specs.declared.fault.Refusal.TheVariants.{NotJson, WrongShape, UnknownKey, BadHex, BadVersion}

abbrev pub refusal_number : Refusal → ℕ
refusal_number NumbersNotRising = 8
refusal_number UnknownSession = 9
refusal_number LawlessTree = 10
refusal_number OverLimit = 11
refusal_number NotJson = 12
refusal_number (WrongShape part) = 13
refusal_number UnknownKey = 14
refusal_number BadHex = 15
refusal_number BadVersion = 16
