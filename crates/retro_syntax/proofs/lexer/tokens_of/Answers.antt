use Rattle.std.proofs.Common.{◌≡◌, ◌<◌, ◌+◌, ℕ, List, [], Some, None, length, get_or, drop, sym, ap, ◌∙◌, arith}
use Rattle.std.proofs.lemmas.Iterator.{YieldsList-from_chars}
use Rattle.std.proofs.lemmas.Iterator.Consumers.{YieldsList-turn, YieldsList-end}
use Rattle.std.proofs.lemmas.List.{at_drop_more, drop_all, length_push}
use Rattle.std.specs.Str.{chars}
use Rattle.retro_syntax.specs.Quoting.{Lexing, between, lex_end, lex_run, lex_step, tokens_of, with_pending}
use Rattle.retro_syntax.specs.inner.QuotingViews.{lexer_view}
use Rattle.retro_syntax.proofs.FailingLemmas.{gives_fault}
use Rattle.retro_syntax.proofs.lexer.tokens_of.Goals as goal

step_at : (l : Lexing) (cs : List ℕ) (n c : ℕ) → (n < length cs) × (c ≡ get_or cs n c)
    → lex_run (Some l) (drop n cs) ≡ lex_run (lex_step l c) (drop (n + 1) cs)
step_at l cs n c h = at_drop_more (lex_run (Some l)) cs n c h.0
    ∙ ap (λ x. lex_run (lex_step l x) (drop (n + 1) cs)) (sym h.1)

stuck : (l : Lexing) (cs : List ℕ) (n c : ℕ) → (n < length cs) × (c ≡ get_or cs n c)
    → lex_run (Some l) (drop n cs) ≡ lex_run (Some (with_pending [] between)) cs
    → lex_step l c ≡ None → tokens_of cs ≡ None
unfolding tokens_of
stuck l cs n c h e s = ap lex_end (sym e ∙ step_at l cs n c h ∙ ap (λ m. lex_run m (drop (n + 1) cs)) s)

pub loop-c-preserved : goal.loop-c-preserved
loop-c-preserved c =
    let t = YieldsList-turn (YieldsList-from_chars c.args.text.now c.utf8.text cc) c.loop-c.yielded _
    c.loop-c.yielded_by _ _ c.in-Some.c c.in-Some.is c.next.ensures.steps in
    let e = step_at (lexer_view c.loop-c.lexer) (chars c.args.text.now) (length c.loop-c.yielded) c.in-Some.c t in
    let n = length_push c.loop-c.yielded c.in-Some.c in
    rw n (ap (λ m. lex_run m (drop (length c.loop-c.yielded + 1) (chars c.args.text.now))) (sym c.in_ok-read.ensures)
    ∙ sym e ∙ c.loop-c.invariant)

pub returns-in_err-read : goal.returns-in_err-read
returns-in_err-read c =
    let t = YieldsList-turn (YieldsList-from_chars c.args.text.now c.utf8.text cc) c.loop-c.yielded _
    c.loop-c.yielded_by _ _ c.in-Some.c c.in-Some.is c.next.ensures.steps in
    gives_fault _ _ c.in_err-read.field-0.0 _ _ c.from_residual.ensures.1 c.in_err-read.ensures
    (stuck (lexer_view c.loop-c.lexer) (chars c.args.text.now) (length c.loop-c.yielded) c.in-Some.c t
    c.loop-c.invariant)

at_end : (cs : List ℕ) (n : ℕ) (l : Lexing) → drop n cs ≡ []
    → lex_run (Some l) (drop n cs) ≡ lex_run (Some (with_pending [] between)) cs
    → lex_end (Some l) ≡ tokens_of cs
unfolding tokens_of
at_end cs n l d e = ap lex_end (sym (ap (lex_run (Some l)) d) ∙ e)

pub returns : goal.returns
returns c =
    let t = YieldsList-end (YieldsList-from_chars c.args.text.now c.utf8.text cc) c.loop-c.yielded _ c.loop-c.yielded_by
    _ _ c.in-None.is c.next.ensures.steps in
    let d : drop (length c.loop-c.yielded) (chars c.args.text.now) ≡ [] = drop_all (length c.loop-c.yielded)
    (chars c.args.text.now) (omega (arith, t.1)) in
    rw (at_end (chars c.args.text.now) (length c.loop-c.yielded) (lexer_view c.loop-c.lexer) d c.loop-c.invariant) at
    c.finish.ensures
