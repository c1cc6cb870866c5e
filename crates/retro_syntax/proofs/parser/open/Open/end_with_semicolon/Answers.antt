use Rattle.std.proofs.Common.{◌≡◌, [], map, sym, false, arith}
use Rattle.retro_syntax.specs.View.{view, and_or_of}
use Rattle.retro_syntax.proofs.ParserLemmas.{all_closed-listed, map-push, nil_from_length}
use Rattle.retro_syntax.proofs.parser.open.Open.end_with_semicolon.Goals as goal

pub returns : goal.returns
returns c =
    let j : c.args.self.pipelines.items ≡ [] = nil_from_length c.args.self.pipelines.items (omega arith) in
    let n : c.args.self.negated ≡ false = c.if-self.false in
    rw (j, n, c.in_ok-last.ensures.items, map-push (and_or_of view) c.pop.new.self.items c.in_ok-last.last)
    (sym (all_closed-listed (map (and_or_of view) c.pop.new.self.items) (and_or_of view c.in_ok-last.last)))
