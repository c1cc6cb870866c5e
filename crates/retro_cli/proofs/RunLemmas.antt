-- Runs that write an answer.
use Rattle.std.proofs.Common.{◌≡◌, List, Option, Some, None, IfSome, Ok, subst}
use Rattle.std.specs.Io.KnownBytes.{Appends}
use Rattle.retro_cli.specs.Exit.{exit_of}
use Rattle.retro_edge.specs.Output.{AppendsPart}
use Rattle.retro_cli.specs.Program.{Answered, Answers, Runs, Text, request_refusal}
use Rattle.retro_cli.specs.Words.{Request, request_in}
use Rattle.retro_cli.specs.declared.ending.Ending.{Ending}
use Rattle.retro_cli.specs.declared.ending.Ending.TheVariants.{CheckNo, Done}
use Rattle.retro_cli.specs.declared.exit.Exit.TheVariants as exits

-- the answer to a request about what was read
module _ (words : List Text) (request : Request) (ending : Ending) (read text : Text)
    (asks : request_in words ≡ Some request) (accepted : request_refusal request read ≡ None)
    (answered : Answered request read (exit_of (Ok ending)) text) where
  answers : Answers words read (exit_of (Ok ending)) text
  answers = record { request = request; words_ask = asks; accepted = accepted; answered = answered }

wrote : (words : List Text) (ending : Ending) (read text : Text) (old new : Option Text)
    → Answers words read (exit_of (Ok ending)) text → Appends old new text
    → Runs words read old new (exit_of (Ok ending))
wrote words Done read text old new answers whole = (text, answers, whole)
wrote words CheckNo read text old new answers whole = (text, answers, whole)

known : (P : Text → Type 0) (remaining : Option Text) (read : Text) → IfSome remaining (λ bytes. read ≡ bytes) → P read
    → IfSome remaining P
known P None read is h = tt
known P (Some bytes) read is h = subst P is h

-- the answer was written whole
pub ends_whole : (words : List Text) (request : Request) (ending : Ending) (remaining : Option Text) (read text : Text)
    (old new : Option Text) → IfSome remaining (λ bytes. read ≡ bytes)
    → request_in words ≡ Some request → request_refusal request read ≡ None
    → Answered request read (exit_of (Ok ending)) text → Appends old new text
    → IfSome remaining (λ bytes. Runs words bytes old new (exit_of (Ok ending)))
ends_whole words request ending remaining read text old new is asks accepted answered whole =
    known (λ bytes. Runs words bytes old new (exit_of (Ok ending))) remaining read is
    (wrote words ending read text old new (answers words request ending read text asks accepted answered) whole)

-- a part of it was written
pub ends_part : (words : List Text) (request : Request) (ending : Ending) (remaining : Option Text) (read text : Text)
    (old new : Option Text) → IfSome remaining (λ bytes. read ≡ bytes)
    → request_in words ≡ Some request → request_refusal request read ≡ None
    → Answered request read (exit_of (Ok ending)) text → AppendsPart old new text
    → IfSome remaining (λ bytes. Runs words bytes old new exits.WriteFailed)
ends_part words request ending remaining read text old new is asks accepted answered part =
    known (λ bytes. Runs words bytes old new exits.WriteFailed) remaining read is
    (exit_of (Ok ending), text, answers words request ending read text asks accepted answered, part)
