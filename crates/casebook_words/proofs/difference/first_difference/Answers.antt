use Rattle.casebook_words.proofs.FirstDifference.{found_none, found_some}
use Rattle.casebook_words.proofs.difference.first_difference.Goals as goal

pub returns-then-not-is_any_some : goal.returns-then-not-is_any_some
returns-then-not-is_any_some c =
    found_none c.args.old.now c.args.new.now c.after_common-rests.result.old.now c.after_common-rests.result.new.now
    c.after_common-rests.result.before c.text_at_front-old.result c.text_at_front-new.result c.is_any_some.result
    (record {
      same = c.after_common-rests.ensures.same;
      old_is = c.after_common-rests.ensures.old;
      new_is = c.after_common-rests.ensures.new;
      first = c.text_at_front-old.ensures.value;
      second = c.text_at_front-new.ensures.value;
      test = c.is_any_some.ensures;
    }) c.if-not-is_any_some.true

pub returns : goal.returns
returns c =
    found_some c.args.old.now c.args.new.now c.after_common-rests.result.old.now c.after_common-rests.result.new.now
    c.after_common-rests.result.before c.text_at_front-old.result c.text_at_front-new.result c.is_any_some.result
    (record {
      same = c.after_common-rests.ensures.same;
      old_is = c.after_common-rests.ensures.old;
      new_is = c.after_common-rests.ensures.new;
      first = c.text_at_front-old.ensures.value;
      second = c.text_at_front-new.ensures.value;
      test = c.is_any_some.ensures;
    }) c.if-not-is_any_some.false
