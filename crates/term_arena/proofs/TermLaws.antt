-- The children of all terms in one list.
use Rattle.std.proofs.Common.{◌≡◌, ℕ, ◌+◌, ◌<◌, ◌≤◌, ◌^◌, Option, None, List, zero, suc, [], ◌∷◌, ◌++◌, length, take, drop, get_or, refl, ap, sym}
use Rattle.std.proofs.Common.{subst, ◌∙◌, arith, length-append, length-drop}
use Rattle.std.proofs.lemmas.List.{map_push, length_push, length-map, get_or-map, take-map, take-append-le, drop-append-le, take_all, drop_at, length-take-le, take-append-drop}
use Rattle.term_model.specs.declared.shape.Id.{Id}
use Rattle.term_model.specs.declared.shape.Shape.{Shape}
use Rattle.term_arena.specs.declared.terms.Entry.{Entry}
use Rattle.term_model.specs.Terms.{Free, no_code, term_at, shape_count, shape_of, term_of}
use Rattle.term_arena.specs.Inside.{entry_term, entry_terms, IsPacked, IsTerms}

pub packed_push : (start : ℕ) (entries : List Entry) (end : ℕ) (e : Entry) → IsPacked start entries end → e.start ≡ end → IsPacked start (entries ++ e ∷ []) (end + shape_count e.shape)
packed_push start [] end e p s = (s ∙ sym p, ap (λ (n : ℕ). n + shape_count e.shape) p)
packed_push start (x ∷ entries) end e p s = (p.0, packed_push (start + shape_count x.shape) entries end e p.1 s)

pub packed_grows : (start : ℕ) (entries : List Entry) (end : ℕ) → IsPacked start entries end → start ≤ end
packed_grows start [] end p = omega arith
packed_grows start (x ∷ entries) end p = omega (arith, packed_grows (start + shape_count x.shape) entries end p.1)

-- the children of an entry stand within the list
pub packed_at : (start : ℕ) (entries : List Entry) (end : ℕ) (i : ℕ) (d : Entry) → IsPacked start entries end → i < length entries
    → (get_or entries i d).start + shape_count (get_or entries i d).shape ≤ end
packed_at start [] end i d p h = absurd (omega arith)
packed_at start (x ∷ entries) end zero d p h = omega (arith, p.0, packed_grows (start + shape_count x.shape) entries end p.1)
packed_at start (x ∷ entries) end (suc i) d p h = packed_at (start + shape_count x.shape) entries end i d p.1 (omega arith)

pub packed_take : (start : ℕ) (entries : List Entry) (end : ℕ) (m : ℕ) (d : Entry) → IsPacked start entries end → m < length entries → IsPacked start (take m entries) (get_or entries m d).start
packed_take start [] end m d p h = absurd (omega arith)
packed_take start (x ∷ entries) end zero d p h = sym p.0
packed_take start (x ∷ entries) end (suc m) d p h = (p.0, packed_take (start + shape_count x.shape) entries end m d p.1 (omega arith))

window_append : (children more : List Id) (start count : ℕ) → start + count ≤ length children → take count (drop start (children ++ more)) ≡ take count (drop start children)
window_append children more start count h =
    ap (take count) (drop-append-le start children more (omega arith)) ∙ take-append-le count (drop start children) more (omega (arith, length-drop start children))

pub terms_append : (start : ℕ) (entries : List Entry) (children more : List Id) → IsPacked start entries (length children) → entry_terms (children ++ more) entries ≡ entry_terms children entries
terms_append start [] children more p = refl
terms_append start (e ∷ entries) children more p =
    let within : e.start + shape_count e.shape ≤ length children = omega (arith, p.0, packed_grows (start + shape_count e.shape) entries (length children) p.1) in
    rw (window_append children more e.start (shape_count e.shape) within, terms_append (start + shape_count e.shape) entries children more p.1) refl

-- the children past the last one that an entry has are not missed
pub terms_cut : (start : ℕ) (entries : List Entry) (children : List Id) (n : ℕ) → IsPacked start entries n → n ≤ length children → entry_terms (take n children) entries ≡ entry_terms children entries
terms_cut start entries children n p h =
    let p' : IsPacked start entries (length (take n children)) = rw (length-take-le n children h) p in
    sym (terms_append start entries (take n children) (drop n children) p') ∙ ap (λ (xs : List Id). entry_terms xs entries) (take-append-drop n children)

-- one more term
pub terms_push : (entries : List Entry) (children more : List Id) (e : Entry) → IsPacked 0 entries (length children) → e.start ≡ length children → shape_count e.shape ≡ length more
    → entry_terms (children ++ more) (entries ++ e ∷ []) ≡ entry_terms children entries ++ term_of e.shape e.constants more ∷ []
terms_push entries children more e p s h =
    let here : take (shape_count e.shape) (drop e.start (children ++ more)) ≡ more =
    ap (take (shape_count e.shape)) (ap (λ (k : ℕ). drop k (children ++ more)) s ∙ drop_at children more (length children) refl) ∙ take_all (shape_count e.shape) more (omega (arith, h)) in
    map_push (entry_term (children ++ more)) entries e ∙ rw (here, terms_append 0 entries children more p) refl

pub shape_back : (shape : Shape) (constants : ℕ) (children : List Id) → length children ≡ shape_count shape → shape_of (term_of shape constants children) ≡ shape
shape_back (Shape.Var s c) constants children h = refl
shape_back (Shape.Free c) constants children h = refl
shape_back (Shape.Node l c n) constants children h = ap (Shape.Node l c) h

-- the shape of an entry's term is the entry's
pub entry_shape : (children : List Id) (e : Entry) → e.start + shape_count e.shape ≤ length children → shape_of (entry_term children e) ≡ e.shape
entry_shape children e h =
    shape_back e.shape e.constants (take (shape_count e.shape) (drop e.start children))
    (length-take-le (shape_count e.shape) (drop e.start children) (omega (arith, length-drop e.start children)))

pub terms_more : (entries : List Entry) (children more : List Id) (bound : List (Option ℕ)) (e : Entry) → IsTerms entries children bound
    → e.start ≡ length children → shape_count e.shape ≡ length more
    → length entries + 1 < 2 ^ 32 → length children + length more < 2 ^ 32 → IsTerms (entries ++ e ∷ []) (children ++ more) (bound ++ None ∷ [])
terms_more entries children more bound e t s h few few_children =
    let n = length-append children more in
    record {
      same = length_push bound None ∙ ap (λ (k : ℕ). k + 1) t.same ∙ sym (length_push entries e);
      packed = subst (IsPacked 0 (entries ++ e ∷ [])) (ap (λ (k : ℕ). length children + k) h ∙ sym n) (packed_push 0 entries (length children) e t.packed s);
      few = omega (arith, few, length_push entries e);
      few_children = omega (arith, few_children, n);
    }

-- what is left where the entries are cut, and the children behind them
pub record IsCutTo (entries : List Entry) (children left : List Id) (bound : List (Option ℕ)) (m : ℕ) : Type 0 where
  pub terms : IsTerms (take m entries) left (take m bound)
  pub nodes : entry_terms left (take m entries) ≡ take m (entry_terms children entries)

pub terms_less : (entries : List Entry) (children left : List Id) (bound : List (Option ℕ)) (m n : ℕ) → IsTerms entries children bound
    → m ≤ length entries → n ≤ length children → IsPacked 0 (take m entries) n → left ≡ take n children → IsCutTo entries children left bound m
terms_less entries children left bound m n t h k p e =
    let short : length (take n children) ≡ n = length-take-le n children k in
    rw e (record {
      terms = record {
        same = length-take-le m bound (omega (arith, t.same)) ∙ sym (length-take-le m entries h);
        packed = rw short p;
        few = omega (arith, t.few, length-take-le m entries h);
        few_children = omega (arith, t.few_children, short);
      };
      nodes = terms_cut 0 (take m entries) children n p k ∙ sym (take-map (entry_term children) m entries);
    })

pub packed_before : (entries : List Entry) (end m : ℕ) (e : Entry) → IsPacked 0 entries end → m < length entries → e ≡ get_or entries m e → IsPacked 0 (take m entries) e.start × (e.start ≤ end)
packed_before entries end m e p h is =
    let start : (get_or entries m e).start ≡ e.start = ap (λ (x : Entry). x.start) (sym is) in
    (subst (IsPacked 0 (take m entries)) start (packed_take 0 entries end m e p h), omega (arith, packed_at 0 entries end m e p h, start))

-- the entry at a place, with its children within the list
pub entry_within : (entries : List Entry) (children : List Id) (bound : List (Option ℕ)) (i : ℕ) (e : Entry) → IsTerms entries children bound
    → i < length (entry_terms children entries) → e ≡ get_or entries i e → e.start + shape_count e.shape ≤ length children
entry_within entries children bound i e t h is =
    let within : i < length entries = omega (arith, h, length-map entries (entry_term children)) in
    let P : Entry → Type 0 = λ (x : Entry). x.start + shape_count x.shape ≤ length children in
    subst P (sym is) (packed_at 0 entries (length children) i e t.packed within)

pub shape_at : (entries : List Entry) (children : List Id) (bound : List (Option ℕ)) (i : ℕ) (e : Entry) → IsTerms entries children bound
    → i < length (entry_terms children entries) → e ≡ get_or entries i e → e.shape ≡ shape_of (term_at (entry_terms children entries) i)
shape_at entries children bound i e t h is =
    let within : i < length entries = omega (arith, h, length-map entries (entry_term children)) in
    let here : term_at (entry_terms children entries) i ≡ entry_term children e = get_or-map (entry_term children) entries i e (Free no_code) within ∙ ap (entry_term children) (sym is) in
    rw here (sym (entry_shape children e (entry_within entries children bound i e t h is)))
