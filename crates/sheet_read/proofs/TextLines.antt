-- The lines as they are cut off a text, and the lines of the definitions.
use Rattle.std.proofs.Common.{◌≡◌, ℕ, suc, ◌+◌, ◌≤◌, ◌^◌, Bool, true, false, cond, not, eqb, List, [], ◌∷◌, ◌++◌, length, take, drop, map, filter}
use Rattle.std.proofs.Common.{refl, sym, ap, ◌∙◌, subst, arith, inl, inr, append_assoc, append-nil, length-append}
use Rattle.std.specs.List.{onto_first}
use Rattle.std.proofs.lemmas.Bool.{cases_Bool}
use Rattle.std.proofs.lemmas.Bool.Decides.{nat_tests}
use Rattle.std.proofs.lemmas.List.{length-map}
use Rattle.bstr.specs.Text.{line_len, lines_of}
use Rattle.bstr.proofs.lemmas.LineLemmas.{lines-nil, lines-step}
use Rattle.sheet_text.specs.Lines.{Line, line, lines, before_trimmed, trim_end, is_blank, numbered_from, lines_not_blank, line_past_end}
use Rattle.sheet_read.specs.declared.lines.TextLine.{TextLine}
use Rattle.sheet_read.specs.Parts.{kept_from, line_in, lines_in}
use Rattle.sheet_read.proofs.Basics.{cond_else}

-- the lines with their line feeds, from the first byte on
lines-feed : (bs : List ℕ) → lines_of (10 ∷ bs) ≡ (10 ∷ []) ∷ lines_of bs
unfolding line_len
lines-feed bs = lines-step (10 ∷ bs) (omega arith)

lines-more : (b : ℕ) (bs : List ℕ) → eqb b 10 ≡ false → lines_of (b ∷ bs) ≡ onto_first b (lines_of bs)
unfolding line_len
lines-more b [] e = lines-step (b ∷ []) (omega arith) ∙ rw (e, lines-nil) refl
lines-more b (c ∷ cs) e =
    let len : line_len (b ∷ c ∷ cs) ≡ suc (line_len (c ∷ cs)) = cond_else (eqb b 10) 1 (suc (line_len (c ∷ cs))) e in
    lines-step (b ∷ c ∷ cs) (omega arith)
    ∙ ap (λ (k : ℕ). take k (b ∷ c ∷ cs) ∷ lines_of (drop k (b ∷ c ∷ cs))) len
    ∙ ap (λ (ls : List (List ℕ)). onto_first b ls) (sym (lines-step (c ∷ cs) (omega arith)))

-- the same lines, where the white space at their ends does not count
abbrev trimmed : List (List ℕ) → List (List ℕ)
trimmed ls = map trim_end ls

trimmed-onto : (b : ℕ) (xs ys : List (List ℕ)) → trimmed xs ≡ trimmed ys → trimmed (onto_first b xs) ≡ trimmed (onto_first b ys)
trimmed-onto b [] [] e = refl
trimmed-onto b [] (y ∷ ys) e = absurd cc
trimmed-onto b (x ∷ xs) [] e = absurd cc
trimmed-onto b (x ∷ xs) (y ∷ ys) e =
    let first : trim_end x ≡ trim_end y = cc in
    let rest : trimmed xs ≡ trimmed ys = cc in
    ap (λ (l : List ℕ). before_trimmed b l ∷ trimmed xs) first ∙ ap (λ (ls : List (List ℕ)). before_trimmed b (trim_end y) ∷ ls) rest

trimmed-lines : (bs : List ℕ) → trimmed (lines_of bs) ≡ trimmed (lines bs)
trimmed-lines [] = ap trimmed lines-nil
trimmed-lines (b ∷ bs) =
    elim (cases_Bool (eqb b 10)) [
      | inl e ↦
          let is : b ≡ 10 = grind (arith, nat_tests) in
          ap (λ (k : ℕ). trimmed (lines_of (k ∷ bs))) is ∙ ap trimmed (lines-feed bs) ∙ ap (λ (ls : List (List ℕ)). [] ∷ ls) (trimmed-lines bs)
          ∙ ap trimmed (sym (ap (λ (t : Bool). cond t ([] ∷ lines bs) (onto_first b (lines bs))) e))
      | inr e ↦ ap trimmed (lines-more b bs e) ∙ trimmed-onto b (lines_of bs) (lines bs) (trimmed-lines bs) ∙ ap trimmed (sym (ap (λ (t : Bool). cond t ([] ∷ lines bs) (onto_first b (lines bs))) e))
    ]

numbered-same : (n : ℕ) (xs ys : List (List ℕ)) → trimmed xs ≡ trimmed ys → numbered_from n xs ≡ numbered_from n ys
numbered-same n [] [] e = refl
numbered-same n [] (y ∷ ys) e = absurd cc
numbered-same n (x ∷ xs) [] e = absurd cc
numbered-same n (x ∷ xs) (y ∷ ys) e =
    let first : trim_end x ≡ trim_end y = cc in
    let rest : trimmed xs ≡ trimmed ys = cc in
    ap (λ (l : List ℕ). line n l ∷ numbered_from (suc n) xs) first ∙ ap (λ (ls : List Line). line n (trim_end y) ∷ ls) (numbered-same (suc n) xs ys rest)

pub kept-lines : (text : List ℕ) → kept_from 1 (lines_of text) ≡ lines_not_blank text
kept-lines text = ap (λ (ls : List Line). filter (λ l. not (is_blank l)) ls) (numbered-same 1 (lines_of text) (lines text) (trimmed-lines text))

pub count-lines : (text : List ℕ) → length (lines_of text) ≡ length (lines text)
count-lines text = sym (length-map (lines_of text) trim_end) ∙ ap (λ (ls : List (List ℕ)). length ls) (trimmed-lines text) ∙ length-map (lines text) trim_end

lines-few : (bs : List ℕ) → length (lines bs) ≤ length bs
lines-few [] = omega arith
lines-few (b ∷ bs) =
    let rest = lines-few bs in
    elim (eqb b 10) as (λ t. length (cond t ([] ∷ lines bs) (onto_first b (lines bs))) ≤ suc (length bs)) [
      | true ↦ omega arith
      | false ↦ onto-few b bs (lines bs) rest
    ]
  where
    onto-few : (b : ℕ) (bs : List ℕ) (ls : List (List ℕ)) → length ls ≤ length bs → length (onto_first b ls) ≤ suc (length bs)
    onto-few b bs [] h = omega arith
    onto-few b bs (l ∷ ls) h = omega arith

-- ---- the loop over the lines

-- what was kept, and the lines behind it
pub record Keeps (kept : List Line) (number : ℕ) (rest : List (List ℕ)) (text : List ℕ) : Type 0 where
  pub lines : kept ++ kept_from number rest ≡ lines_not_blank text
  pub count : number + length rest ≡ line_past_end text
  pub few : number + length rest ≤ suc (length text)
  pub fits : length kept + length rest ≤ length text

pub keeps-start : (text : List ℕ) → Keeps [] 1 (lines_of text) text
keeps-start text =
    let n = count-lines text in
    let few = lines-few text in
    record { lines = kept-lines text; count = omega arith; few = omega arith; fits = omega arith }

pub keeps-line : (kept : List Line) (number : ℕ) (bytes : List ℕ) (rest : List (List ℕ)) (text : List ℕ)
    → is_blank (line number (trim_end bytes)) ≡ false → Keeps kept number (bytes ∷ rest) text
    → Keeps (kept ++ line number (trim_end bytes) ∷ []) (number + 1) rest text
keeps-line kept number bytes rest text e h = record {
  lines =
      let one : number + 1 ≡ suc number = omega arith in
      append_assoc kept (line number (trim_end bytes) ∷ []) (kept_from (number + 1) rest)
      ∙ ap (λ (k : ℕ). kept ++ line number (trim_end bytes) ∷ kept_from k rest) one
      ∙ ap (λ (t : Bool). kept ++ cond (not t) (line number (trim_end bytes) ∷ kept_from (suc number) rest) (kept_from (suc number) rest)) (sym e)
      ∙ h.lines;
  count = let c = h.count in omega arith;
  few = let c = h.few in omega arith;
  fits = let c = h.fits in omega (arith, length-append kept (line number (trim_end bytes) ∷ []));
}

pub keeps-blank : (kept : List Line) (number : ℕ) (bytes : List ℕ) (rest : List (List ℕ)) (text : List ℕ)
    → is_blank (line number (trim_end bytes)) ≡ true → Keeps kept number (bytes ∷ rest) text → Keeps kept (number + 1) rest text
keeps-blank kept number bytes rest text e h = record {
  lines =
      let one : number + 1 ≡ suc number = omega arith in
      ap (λ (k : ℕ). kept ++ kept_from k rest) one
      ∙ ap (λ (t : Bool). kept ++ cond (not t) (line number (trim_end bytes) ∷ kept_from (suc number) rest) (kept_from (suc number) rest)) (sym e)
      ∙ h.lines;
  count = let c = h.count in omega arith;
  few = let c = h.few in omega arith;
  fits = let c = h.fits in omega arith;
}

pub keeps-end : (kept : List Line) (number : ℕ) (text : List ℕ) → Keeps kept number [] text → (kept ≡ lines_not_blank text) × (number ≡ line_past_end text)
keeps-end kept number text h = let c = h.count in (sym (append-nil kept) ∙ h.lines, omega arith)

pub keeps-first : (kept : List Line) (rest : List (List ℕ)) (text : List ℕ) → kept ≡ [] → rest ≡ lines_of text → Keeps kept 1 rest text
keeps-first kept rest text e d = subst (λ (ls : List (List ℕ)). Keeps kept 1 ls text) (sym d) (subst (λ (k : List Line). Keeps k 1 (lines_of text) text) (sym e) (keeps-start text))

pub keeps-few : (ts : List TextLine) (number : ℕ) (rest : List (List ℕ)) (text : List ℕ) → Keeps (lines_in ts) number rest text → length text ≤ 2 ^ 24 → length ts ≤ 2 ^ 24
keeps-few ts number rest text h le = let c = h.fits in omega (arith, length-map ts line_in)
