-- The statements of a text with a theorem in it are those before the place, those of the block, and the others.
use Rattle.std.proofs.Common.{◌≡◌, ◌<◌, ◌≤◌, ℕ, zero, suc, ◌+◌, false, List, [], ◌∷◌, ◌++◌, length, take, drop, map, flat_map, refl, sym, ap, ◌∙◌}
use Rattle.std.proofs.Common.{arith, codes, append_assoc, None, length-append}
use Rattle.std.specs.List.{AllByRecursion, slice_index_or, last_or, drop-map}
use Rattle.std.specs.Option.{option_map_or}
use Rattle.std.proofs.Math.Seq.{take-append_seam}
use Rattle.std.proofs.lemmas.List.{take-append-drop, length-map, length-take-le}
use Rattle.mm_model.specs.Names.{Name}
use Rattle.mm_model.specs.Words.{Word, words}
use Rattle.mm_model.specs.Tokens.{tokens}
use Rattle.mm_model.specs.Statements.{Statement, statements}
use Rattle.sheet_text.specs.Layout.{ended}
use Rattle.install_model.specs.declared.install.NewTheorem.{NewTheorem}
use Rattle.install_model.specs.Installed.{byte_behind, place_byte, pair_line, hyp_line, theorem_line, block, installed}
use Rattle.install_model.specs.Moved.{pair_statement, hyp_statement, theorem_statement, block_statements}
use Rattle.install_laws.specs.InstalledStatements.{names, tokens_of, HasNoDollar, IsPlain, IsPlainTheorem}
use Rattle.install_laws.specs.InstalledStatements.{StatementsArePutIn}
use Rattle.install_laws.proofs.Forward.{split, statements_forward}
use Rattle.install_laws.proofs.Lines.{behind, pair_is, hyp_is, theorem_is, block_is}
use Rattle.install_laws.proofs.WordLaws.{names_in, names_join, names_from, names_white, names_token, names_next, names_behind}
use Rattle.install_laws.proofs.WordLaws.{names_dollar, behind_ends, plain_token, plain_dollar}
use Rattle.install_laws.proofs.WordCuts.{Cut, cut}
use Rattle.install_laws.proofs.StatementCuts.{statements_among, statements_are, cut_behind, plain_run}

-- ---- the lines of the block; behind each is more text

-- what stands behind a statement
abbrev end : List ℕ → List ℕ
end more = 32 ∷ 36 ∷ 46 ∷ 10 ∷ more

names_end : (more : List ℕ) → names_in (end more) ≡ codes "$." ∷ names_in more
names_end more =
    names_next 32 (codes "$.") (10 ∷ more) refl (refl, (refl, tt)) refl ∙ ap (λ (ns : List Name). codes "$." ∷ ns) (names_white 10 more refl)

-- a plain word goes on with a statement
plain_one : (n : Name) (front more : List Name) → HasNoDollar n → statements_among front (n ∷ more) ≡ statements_among (front ++ n ∷ []) more
plain_one n front more h = plain_run (n ∷ []) front more (h, tt)

pub pair_words : (p : Name × Name) (more : List ℕ) → IsPlain p.0 × IsPlain p.1
    → names_in (ended (pair_line p) ++ more) ≡ codes "$d" ∷ p.0 ∷ p.1 ∷ codes "$." ∷ names_in more
pair_words p more h = ap (λ bytes. names_in (bytes ++ more)) (pair_is p) ∙ ap names_in regroup ∙ named
  where
    regroup : (codes "$d " ++ p.0 ++ codes " " ++ p.1 ++ 32 ∷ 36 ∷ 46 ∷ 10 ∷ []) ++ more ≡ 36 ∷ 100 ∷ 32 ∷ (p.0 ++ (32 ∷ (p.1 ++ end more)))
    regroup = simp append_assoc

    named : names_in (36 ∷ 100 ∷ 32 ∷ (p.0 ++ (32 ∷ (p.1 ++ end more)))) ≡ codes "$d" ∷ p.0 ∷ p.1 ∷ codes "$." ∷ names_in more
    named =
        names_token (codes "$d") (32 ∷ (p.0 ++ (32 ∷ (p.1 ++ end more)))) (refl, (refl, tt)) refl
        ∙ ap (λ (ns : List Name). codes "$d" ∷ ns) (names_next 32 p.0 (32 ∷ (p.1 ++ end more)) refl (plain_token p.0 h.0) refl
        ∙ ap (λ (ns : List Name). p.0 ∷ ns) (names_next 32 p.1 (end more) refl (plain_token p.1 h.1) refl ∙ ap (λ (ns : List Name). p.1 ∷ ns) (names_end more)))

pair_put : (p : Name × Name) (more : List ℕ) → IsPlain p.0 × IsPlain p.1
    → statements_among [] (names_in (ended (pair_line p) ++ more)) ≡ pair_statement p ∷ statements_among [] (names_in more)
pair_put p more h =
    ap (statements_among []) (pair_words p more h)
    ∙ plain_one p.0 (codes "$d" ∷ []) (p.1 ∷ codes "$." ∷ names_in more) (plain_dollar p.0 h.0)
    ∙ plain_one p.1 (codes "$d" ∷ p.0 ∷ []) (codes "$." ∷ names_in more) (plain_dollar p.1 h.1)

pub dollars : (ns : List Name) → AllByRecursion IsPlain ns → AllByRecursion HasNoDollar ns
dollars [] h = tt
dollars (n ∷ ns) h = (plain_dollar n h.0, dollars ns h.1)

pub hyp_words : (h : Name × List Name) (more : List ℕ) → IsPlain h.0 × AllByRecursion IsPlain h.1
    → names_in (ended (hyp_line h) ++ more) ≡ h.0 ∷ codes "$e" ∷ (h.1 ++ codes "$." ∷ names_in more)
hyp_words h more p = ap (λ bytes. names_in (bytes ++ more)) (hyp_is h) ∙ ap names_in regroup ∙ named
  where
    regroup : (h.0 ++ codes " $e" ++ behind h.1 ++ 32 ∷ 36 ∷ 46 ∷ 10 ∷ []) ++ more ≡ h.0 ++ (32 ∷ 36 ∷ 101 ∷ (behind h.1 ++ end more))
    regroup = by (behind h.1)
      where
        by : (bs : List ℕ) → (h.0 ++ codes " $e" ++ bs ++ 32 ∷ 36 ∷ 46 ∷ 10 ∷ []) ++ more ≡ h.0 ++ (32 ∷ 36 ∷ 101 ∷ (bs ++ end more))
        by bs = simp append_assoc

    named : names_in (h.0 ++ (32 ∷ 36 ∷ 101 ∷ (behind h.1 ++ end more))) ≡ h.0 ∷ codes "$e" ∷ (h.1 ++ codes "$." ∷ names_in more)
    named =
        names_token h.0 (32 ∷ 36 ∷ 101 ∷ (behind h.1 ++ end more)) (plain_token h.0 p.0) refl
        ∙ ap (λ (ns : List Name). h.0 ∷ ns) (names_next 32 (codes "$e") (behind h.1 ++ end more) refl (refl, (refl, tt)) (behind_ends h.1 (end more) refl)
        ∙ ap (λ (ns : List Name). codes "$e" ∷ ns) (names_behind h.1 (end more) p.1 refl ∙ ap (λ (ns : List Name). h.1 ++ ns) (names_end more)))

hyp_put : (h : Name × List Name) (more : List ℕ) → IsPlain h.0 × AllByRecursion IsPlain h.1
    → statements_among [] (names_in (ended (hyp_line h) ++ more)) ≡ hyp_statement h ∷ statements_among [] (names_in more)
hyp_put h more p =
    ap (statements_among []) (hyp_words h more p)
    ∙ plain_one h.0 [] (codes "$e" ∷ (h.1 ++ codes "$." ∷ names_in more)) (plain_dollar h.0 p.0)
    ∙ plain_run h.1 (h.0 ∷ codes "$e" ∷ []) (codes "$." ∷ names_in more) (dollars h.1 p.1)

pub theorem_words : (t : NewTheorem) (more : List ℕ) → IsPlainTheorem t
    → names_in (ended (theorem_line t) ++ more) ≡ t.name ∷ codes "$p" ∷ (t.formula ++ codes "$=" ∷ (names_in t.proof ++ codes "$." ∷ names_in more))
theorem_words t more p = ap (λ bytes. names_in (bytes ++ more)) (theorem_is t) ∙ ap names_in regroup ∙ named
  where
    regroup : (t.name ++ codes " $p" ++ behind t.formula ++ codes " $= " ++ t.proof ++ 32 ∷ 36 ∷ 46 ∷ 10 ∷ []) ++ more
        ≡ t.name ++ (32 ∷ 36 ∷ 112 ∷ (behind t.formula ++ (32 ∷ 36 ∷ 61 ∷ 32 ∷ (t.proof ++ end more))))
    regroup = by (behind t.formula)
      where
        by : (bs : List ℕ) → (t.name ++ codes " $p" ++ bs ++ codes " $= " ++ t.proof ++ 32 ∷ 36 ∷ 46 ∷ 10 ∷ []) ++ more
            ≡ t.name ++ (32 ∷ 36 ∷ 112 ∷ (bs ++ (32 ∷ 36 ∷ 61 ∷ 32 ∷ (t.proof ++ end more))))
        by bs = simp append_assoc

    named_proof : names_in (32 ∷ 36 ∷ 61 ∷ 32 ∷ (t.proof ++ end more)) ≡ codes "$=" ∷ (names_in t.proof ++ codes "$." ∷ names_in more)
    named_proof =
        names_next 32 (codes "$=") (32 ∷ (t.proof ++ end more)) refl (refl, (refl, tt)) refl
        ∙ ap (λ (ns : List Name). codes "$=" ∷ ns)
        (names_white 32 (t.proof ++ end more) refl ∙ names_join t.proof (end more) refl
        ∙ ap (λ (ns : List Name). names_in t.proof ++ ns) (names_end more))

    named : names_in (t.name ++ (32 ∷ 36 ∷ 112 ∷ (behind t.formula ++ (32 ∷ 36 ∷ 61 ∷ 32 ∷ (t.proof ++ end more)))))
        ≡ t.name ∷ codes "$p" ∷ (t.formula ++ codes "$=" ∷ (names_in t.proof ++ codes "$." ∷ names_in more))
    named =
        names_token t.name (32 ∷ 36 ∷ 112 ∷ (behind t.formula ++ (32 ∷ 36 ∷ 61 ∷ 32 ∷ (t.proof ++ end more)))) (plain_token t.name p.name) refl
        ∙ ap (λ (ns : List Name). t.name ∷ ns)
        (names_next 32 (codes "$p") (behind t.formula ++ (32 ∷ 36 ∷ 61 ∷ 32 ∷ (t.proof ++ end more))) refl (refl, (refl, tt))
        (behind_ends t.formula (32 ∷ 36 ∷ 61 ∷ 32 ∷ (t.proof ++ end more)) refl)
        ∙ ap (λ (ns : List Name). codes "$p" ∷ ns)
        (names_behind t.formula (32 ∷ 36 ∷ 61 ∷ 32 ∷ (t.proof ++ end more)) p.formula refl ∙ ap (λ (ns : List Name). t.formula ++ ns) named_proof))

theorem_put : (t : NewTheorem) (more : List ℕ) → IsPlainTheorem t
    → statements_among [] (names_in (ended (theorem_line t) ++ more)) ≡ theorem_statement t ∷ statements_among [] (names_in more)
theorem_put t more p =
    ap (statements_among []) (theorem_words t more p)
    ∙ plain_one t.name [] (codes "$p" ∷ (t.formula ++ codes "$=" ∷ (names_in t.proof ++ codes "$." ∷ names_in more))) (plain_dollar t.name p.name)
    ∙ plain_run t.formula (t.name ∷ codes "$p" ∷ []) (codes "$=" ∷ (names_in t.proof ++ codes "$." ∷ names_in more)) (dollars t.formula p.formula)
    ∙ plain_run (names_in t.proof) ((t.name ∷ codes "$p" ∷ t.formula) ++ codes "$=" ∷ []) (codes "$." ∷ names_in more) (names_dollar t.proof p.proof)
    ∙ ap (λ (s : List Name). (s ++ codes "$." ∷ []) ∷ statements_among [] (names_in more)) (append_assoc (t.name ∷ codes "$p" ∷ t.formula) (codes "$=" ∷ []) (names_in t.proof))

-- lines, one behind the other
module _ {X : Type 0} (P : X → Type 0) (line : X → List ℕ) (statement : X → List Name)
    (put : (x : X) (more : List ℕ) → P x → statements_among [] (names_in (line x ++ more)) ≡ statement x ∷ statements_among [] (names_in more)) where
  lines_put : (xs : List X) (more : List ℕ) → AllByRecursion P xs
      → statements_among [] (names_in (flat_map line xs ++ more)) ≡ map statement xs ++ statements_among [] (names_in more)
  lines_put [] more h = refl
  lines_put (x ∷ xs) more h =
      ap (λ bytes. statements_among [] (names_in bytes)) (append_assoc (line x) (flat_map line xs) more)
      ∙ put x (flat_map line xs ++ more) h.0
      ∙ ap (λ ss. statement x ∷ ss) (lines_put xs more h.1)

-- what stands behind the theorem's line
abbrev pub close : List ℕ → List ℕ
close more = 36 ∷ 125 ∷ 10 ∷ more

pub close_words : (more : List ℕ) → names_in (close more) ≡ codes "$}" ∷ names_in more
close_words more = names_token (codes "$}") (10 ∷ more) (refl, (refl, tt)) refl ∙ ap (λ (ns : List Name). codes "$}" ∷ ns) (names_white 10 more refl)

pub block_opened : (t : NewTheorem) (more : List ℕ) → names_in (block t ++ more)
    ≡ codes "${" ∷ names_in (flat_map (λ q. ended (pair_line q)) t.pairs ++ (flat_map (λ h. ended (hyp_line h)) t.hyps ++ (ended (theorem_line t) ++ close more)))
block_opened t more = ap (λ bytes. names_in (bytes ++ more)) (block_is t) ∙ ap names_in regroup ∙ opened
  where
    pairs_line : List ℕ
    pairs_line = flat_map (λ q. ended (pair_line q)) t.pairs

    hyps_line : List ℕ
    hyps_line = flat_map (λ h. ended (hyp_line h)) t.hyps

    theorem : List ℕ
    theorem = ended (theorem_line t)

    regroup : (10 ∷ 36 ∷ 123 ∷ 10 ∷ pairs_line ++ hyps_line ++ theorem ++ 36 ∷ 125 ∷ 10 ∷ []) ++ more ≡ 10 ∷ 36 ∷ 123 ∷ 10 ∷ (pairs_line ++ (hyps_line ++ (theorem ++ (close more))))
    regroup = by pairs_line hyps_line theorem
      where
        by : (a b c : List ℕ) → (10 ∷ 36 ∷ 123 ∷ 10 ∷ a ++ b ++ c ++ 36 ∷ 125 ∷ 10 ∷ []) ++ more ≡ 10 ∷ 36 ∷ 123 ∷ 10 ∷ (a ++ (b ++ (c ++ (36 ∷ 125 ∷ 10 ∷ more))))
        by a b c = simp append_assoc

    opened : names_in (10 ∷ 36 ∷ 123 ∷ 10 ∷ (pairs_line ++ (hyps_line ++ (theorem ++ (close more))))) ≡ codes "${" ∷ names_in (pairs_line ++ (hyps_line ++ (theorem ++ (close more))))
    opened =
        names_next 10 (codes "${") (10 ∷ (pairs_line ++ (hyps_line ++ (theorem ++ (close more))))) refl (refl, (refl, tt)) refl
        ∙ ap (λ (ns : List Name). codes "${" ∷ ns) (names_white 10 (pairs_line ++ (hyps_line ++ (theorem ++ (close more)))) refl)

block_put : (t : NewTheorem) (more : List ℕ) → IsPlainTheorem t → statements_among [] (names_in (block t ++ more)) ≡ block_statements t ++ statements_among [] (names_in more)
block_put t more p =
    ap (statements_among []) (block_opened t more)
    ∙ ap (λ ss. (codes "${" ∷ []) ∷ ss)
    (lines_put (λ (q : Name × Name). IsPlain q.0 × IsPlain q.1) (λ q. ended (pair_line q)) pair_statement pair_put t.pairs
    (flat_map (λ h. ended (hyp_line h)) t.hyps ++ (ended (theorem_line t) ++ close more)) p.pairs
    ∙ ap (λ ss. map pair_statement t.pairs ++ ss)
    (lines_put (λ (h : Name × List Name). IsPlain h.0 × AllByRecursion IsPlain h.1) (λ h. ended (hyp_line h)) hyp_statement hyp_put t.hyps (ended (theorem_line t) ++ close more) p.hyps
    ∙ ap (λ ss. map hyp_statement t.hyps ++ ss) (theorem_put t (close more) p ∙ ap (λ ss. theorem_statement t ∷ ss) (ap (statements_among []) (close_words more)))))
    ∙ sym joined
  where
    joined : block_statements t ++ statements_among [] (names_in more)
        ≡ (codes "${" ∷ []) ∷ (map pair_statement t.pairs ++ (map hyp_statement t.hyps ++ (theorem_statement t ∷ (codes "$}" ∷ []) ∷ statements_among [] (names_in more))))
    joined = by (map pair_statement t.pairs) (map hyp_statement t.hyps) (theorem_statement t) (statements_among [] (names_in more))
      where
        by : (a b : List (List Name)) (s : List Name) (r : List (List Name))
            → ((codes "${" ∷ []) ∷ a ++ b ++ s ∷ (codes "$}" ∷ []) ∷ []) ++ r ≡ (codes "${" ∷ []) ∷ (a ++ (b ++ (s ∷ (codes "$}" ∷ []) ∷ r)))
        by a b s r = simp append_assoc

-- ---- a front of words

front_is : {X : Type 0} (n : ℕ) (f xs : List X) → n ≤ length xs → f ++ drop n xs ≡ xs → f ≡ take n xs
front_is n f xs l e =
    let parts : length f + length (drop n xs) ≡ length xs = sym (length-append f (drop n xs)) ∙ ap length e in
    let both : length (take n xs) + length (drop n xs) ≡ length xs = sym (length-append (take n xs) (drop n xs)) ∙ ap length (take-append-drop n xs) in
    let front : length (take n xs) ≡ n = length-take-le n xs l in
    let same : length f ≡ n = omega (arith, parts, both, front) in
    sym (take-append_seam f (drop n xs)) ∙ ap (λ k. take k (f ++ drop n xs)) same ∙ ap (take n) e

-- ---- the law

-- the text with the block at a byte behind which a word can end
pub at_byte : (text : List ℕ) (at : ℕ) (t : NewTheorem)
    → names_in (take at text ++ block t ++ drop at text) ≡ names_in (take at text) ++ names_in (block t ++ drop at text)
at_byte text at t = ap names_in (append_assoc (take at text) (block t) (drop at text)) ∙ names_join (take at text) (block t ++ drop at text) refl

-- the names before the byte and behind it
pub record IsParted (text : List ℕ) (at count : ℕ) : Type 0 where
  pub before : names_in (take at text) ≡ take count (names_in text)
  pub after : names_in (drop at text) ≡ drop count (names_in text)

pub parted : (text : List ℕ) (i : ℕ) → i < length (words text) → (c : Cut 0 text (words text) i) → IsParted text c.count (suc i)
parted text i l c =
    let m = c.count in
    let zero_more : 0 + m ≡ m = omega arith in
    let after : names_in (drop m text) ≡ drop (suc i) (names_in text) =
    sym (names_from (0 + m) (drop m text)) ∙ ap names c.rest ∙ sym (drop-map (λ (w : Word). w.bytes) (suc i) (words text)) in
    let whole : names_in (take m text) ++ drop (suc i) (names_in text) ≡ names_in text =
    ap (λ ns. names_in (take m text) ++ ns) (sym after) ∙ sym (names_join (take m text) (drop m text) c.ends) ∙ ap names_in (take-append-drop m text) in
    let counted : length (names_in text) ≡ length (words text) = length-map (words text) (λ (w : Word). w.bytes) in
    record { before = front_is (suc i) (names_in (take m text)) (names_in text) (omega (arith, l, counted)) whole; after = after }

take_behind : (place n : ℕ) (text : List ℕ) (t : NewTheorem) → place ≡ suc n → place ≤ length (statements text) → IsPlainTheorem t
    → tokens_of (statements (installed text place t)) ≡ take place (tokens_of (statements text)) ++ block_statements t ++ drop place (tokens_of (statements text))
take_behind place n text t is l p =
    let many : n < length (split [] (tokens text)) = let e = ap length (statements_forward text) in omega (arith, is, l, e) in
    let k = cut_behind false [] n (words text) many in
    let c = cut text 0 k.at k.within in
    let ss = statements_among [] (names_in text) in
    let byte : place_byte (statements text) (suc n) ≡ c.count =
    ap (λ (xs : List Statement). option_map_or byte_behind (last_or None (slice_index_or xs n [])) 0) (statements_forward text) ∙ k.byte ∙ c.byte ∙ zero_and c.count in
    let parts = parted text k.at k.within c in
    statements_are (installed text place t)
    ∙ ap (λ m. statements_among [] (names_in (installed text m t))) is
    ∙ ap (λ m. statements_among [] (names_in (take m text ++ block t ++ drop m text))) byte
    ∙ ap (statements_among []) (at_byte text c.count t ∙ ap (λ ns. ns ++ names_in (block t ++ drop c.count text)) parts.before)
    ∙ k.more (names_in (block t ++ drop c.count text))
    ∙ ap (λ rest. take (suc n) ss ++ rest)
    (block_put t (drop c.count text) p ∙ ap (λ ns. block_statements t ++ statements_among [] ns) parts.after
    ∙ ap (λ rest. block_statements t ++ rest) k.rest)
    ∙ sym (append_assoc (take (suc n) ss) (block_statements t) (drop (suc n) ss))
    ∙ ap (λ xs. take (suc n) xs ++ block_statements t ++ drop (suc n) xs) (sym (statements_are text))
    ∙ ap (λ m. take m (tokens_of (statements text)) ++ block_statements t ++ drop m (tokens_of (statements text))) (sym is)
  where
    zero_and : (m : ℕ) → 0 + m ≡ m
    zero_and m = omega arith

pub statements_are_put_in : StatementsArePutIn
statements_are_put_in text zero t l p =
    statements_are (installed text 0 t) ∙ block_put t text p ∙ ap (λ rest. block_statements t ++ rest) (sym (statements_are text))
statements_are_put_in text (suc n) t l p = take_behind (suc n) n text t refl l p
