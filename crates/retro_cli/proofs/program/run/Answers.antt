use Rattle.std.proofs.Common.{map, string_bytes, subst}
use Rattle.std.proofs.lemmas.Result.{err_from_is_err_and}
use Rattle.std.specs.Io.KnownBytes.{Appends}
use Rattle.retro_edge.specs.Output.{AppendsPart}
use Rattle.retro_cli.specs.Words.{request_view}
use Rattle.retro_cli.proofs.RunLemmas.{ends_part, ends_whole}
use Rattle.retro_cli.proofs.program.run.Goals as goal

pub returns-in_err-write_all-clause-runs : goal.returns-in_err-write_all-clause-runs
returns-in_err-write_all-clause-runs g c =
    let p = err_from_is_err_and c.from_residual-in_err-write_all.result c.from_residual-in_err-write_all.ensures.1 in
    let old = g.W.Write.contents c.args.output.now.writer in
    let new = g.W.Write.contents c.write_all.new.self.writer in
    rw (p.1, p.2)
    (ends_part (map string_bytes c.args.words.now) (request_view c.in_ok-request.request) c.in_ok-text.ending
    (g.R.Read.remaining c.args.input.now.reader) c.in_ok-bytes.bytes.items c.in_ok-text.text.items old new
    c.in_ok-bytes.ensures.bytes c.in_ok-request.ensures c.in_ok-text.ensures.accepted c.in_ok-text.ensures.ok
    (subst (AppendsPart old new) c.deref.ensures.value c.in_err-write_all.ensures.part))

pub returns-clause-runs : goal.returns-clause-runs
returns-clause-runs g c =
    let old = g.W.Write.contents c.args.output.now.writer in
    let new = g.W.Write.contents c.write_all.new.self.writer in
    ends_whole (map string_bytes c.args.words.now) (request_view c.in_ok-request.request) c.in_ok-text.ending
    (g.R.Read.remaining c.args.input.now.reader) c.in_ok-bytes.bytes.items c.in_ok-text.text.items old new
    c.in_ok-bytes.ensures.bytes c.in_ok-request.ensures c.in_ok-text.ensures.accepted c.in_ok-text.ensures.ok
    (subst (Appends old new) c.deref.ensures.value c.in_ok-write_all.ensures.whole)
