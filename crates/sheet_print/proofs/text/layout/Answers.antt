use Rattle.std.proofs.Common.{◌≡◌, List, ℕ, subst, sym, length, ◌≤◌}
use Rattle.std.specs.Option.{option_copied}
use Rattle.mm_base.specs.Limits.{most_sheet_bytes}
use Rattle.sheet_text.specs.Layout.{layout}
use Rattle.sheet_text.specs.Reads.{ReadsAs}
use Rattle.sheet_laws.specs.ReadAgain.{ReadsOnlyAs}
use Rattle.sheet_print.proofs.Pieces.{layout_put}
use Rattle.sheet_print.specs.Pieces.{shown}
use Rattle.sheet_print.proofs.text.layout.Goals as goal

pub returns : goal.returns
returns c =
    let s = c.args.sheet.now in let proof = option_copied c.args.proof in
    let text : c.from_vec.result ≡ layout s proof = layout_put s proof (shown c.in_ok-names.names.items) _ _ _ _ _ _ (rw c.as_slice.ensures at c.in_ok-names.ensures)
    (rw c.new-text.ensures.items at c.in_ok-put_header.ensures) (rw (c.as_slice-2.ensures.value, c.as_slice-3.ensures) at c.in_ok-put_items.ensures)
    c.in_ok-put_proof.ensures (rw c.as_slice-4.ensures at c.in_ok-put_pairs.ensures) c.in_ok-put.ensures c.from_vec.ensures in
    record {
      text = text;
      back = λ spellable line. subst (λ (t : List ℕ). ReadsAs t s) (sym text) (c.laid_out_reads_back.ensures.back s proof spellable line);
      only = λ spellable line. subst (λ (t : List ℕ). length t ≤ most_sheet_bytes → ReadsOnlyAs t s) (sym text) (c.laid_out_reads_back.ensures.only s proof spellable line);
    }
