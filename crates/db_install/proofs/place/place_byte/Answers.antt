use Rattle.std.proofs.Common.{◌≡◌, ◌≤◌, ◌<◌, ◌-◌, ℕ, suc, List, length, sym, ap, subst, ◌∙◌, arith, drop, false}
use Rattle.frame_lists.specs.Entries.{first_byte}
use Rattle.mm_frames.specs.Contents.{Contents, contents_of, place_byte as start_byte}
use Rattle.mm_model.specs.Statements.{statements}
use Rattle.mm_model.specs.Words.{words_from}
use Rattle.install_model.specs.Installed.{place_byte}
use Rattle.db_install.specs.Ends.{end_from}
use Rattle.db_install.proofs.EndLaws.{is_found, starts_there}
use Rattle.db_install.proofs.place.place_byte.Goals as goal

found_within : (text : List ℕ) (frames : Contents) (place start : ℕ) → frames ≡ contents_of text → 0 < place → place ≤ length (statements text)
    → start ≡ start_byte frames (place - 1) → start ≤ length text
found_within text frames place start of above h s =
    let inside : place - 1 < length (statements text) = omega (arith, above, h) in
    let is = s ∙ ap (λ c. start_byte c (place - 1)) of ∙ starts_there text (place - 1) inside in
    subst (λ n. n ≤ length text) (sym is) (is_found text (place - 1) inside).within

found_end : (text : List ℕ) (frames : Contents) (place start end : ℕ) → frames ≡ contents_of text → 0 < place → place ≤ length (statements text)
    → start ≡ start_byte frames (place - 1) → end ≡ end_from false (words_from start (drop start text)) → end ≡ place_byte (statements text) place
found_end text frames place start end of above h s e =
    let inside : place - 1 < length (statements text) = omega (arith, above, h) in
    let one : suc (place - 1) ≡ place = omega (arith, above) in
    let is = s ∙ ap (λ c. start_byte c (place - 1)) of ∙ starts_there text (place - 1) inside in
    e ∙ ap (λ n. end_from false (words_from n (drop n text))) is ∙ (is_found text (place - 1) inside).ends ∙ ap (λ n. place_byte (statements text) n) one

pub statement_end-requires : goal.statement_end-requires
statement_end-requires c =
    let p = c.if-place-eq0.false in
    let above : 0 < c.args.place = omega (arith, p) in
    found_within c.args.text.now c.args.frames.now c.args.place c.place_byte-start.result c.requires.of_text above c.requires.within c.place_byte-start.ensures

pub returns-clause-byte : goal.returns-clause-byte
returns-clause-byte c =
    let p = c.if-place-eq0.false in
    let above : 0 < c.args.place = omega (arith, p) in
    found_end c.args.text.now c.args.frames.now c.args.place c.place_byte-start.result c.statement_end.result c.requires.of_text above c.requires.within
    c.place_byte-start.ensures c.statement_end.ensures.byte
