use Rattle.std.proofs.Common.{arith, sym, ◌∙◌, drop, slice_range}
use Rattle.mm_model.specs.Words.{words_from}
use Rattle.compressed_proof.proofs.Listing.{lists_pushed}
use Rattle.compressed_proof.proofs.brackets.read_labels.Goals as goal

pub loop-start-preserved : goal.loop-start-preserved
loop-start-preserved c =
    let text = c.args.text.now in
    let bytes = slice_range text c.in-Some.start c.in-Some.end in
    record {
      within = (c.in-Some.ensures.range).2;
      count = omega (arith, c.in_ok-push.ensures.len, c.in-Some.ensures.range);
      lists = lists_pushed c.loop-start.labels.items c.push.new.self.items c.in-Some.start bytes c.in_ok-copy_of.field-0
          (words_from c.in-Some.end (drop c.in-Some.end text)) (words_from c.loop-start.at (drop c.loop-start.at text)) (words_from c.args.from (drop c.args.from text))
          c.in_ok-push.ensures.items c.in_ok-copy_of.ensures c.in-Some.ensures.first (sym c.is_close.ensures ∙ c.if-is_close.false) c.loop-start.invariant.lists;
    }
