use Rattle.std.proofs.Common.{◌≡◌, ◌++◌, ℕ, List, Result, Ok, Err, ◌∙◌, append_assoc}
use Rattle.std.specs.Prelude.{OnOk, codes}
use Rattle.casebook_check.specs.Keys.{key_name}
use Rattle.casebook_check.specs.Words.{place_words}
use Rattle.casebook_check.proofs.words.push_place.Goals as goal

-- texts that are appended one after the other
together : {A E : Type 0} (r : Result A E) (new old words key end : List ℕ)
    → OnOk r (new ≡ old ++ words ++ key ++ end) → OnOk r (new ≡ old ++ (words ++ key ++ end))
together (Ok x) new old words key end h = h ∙ simp append_assoc
together (Err e) new old words key end h = h

pub returns-in-Value : goal.returns-in-Value
unfolding place_words
returns-in-Value c =
    rw c.in-Value.is (together c.push_key-in-Value.result c.push_key-in-Value.new.line c.args.line.now
    (codes "the value of \"") (key_name c.in-Value.key) (codes "\"") c.push_key-in-Value.ensures)
