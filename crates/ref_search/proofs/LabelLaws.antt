-- Whether the assertion of a label fits.
use Rattle.std.proofs.Common.{◌≡◌, ℕ, zero, suc, ◌+◌, ◌<◌, ◌==◌, Bool, true, false, List, [], ◌∷◌, ◌++◌, length, map, get_or, nat_le, if◌then◌else◌}
use Rattle.std.proofs.Common.{Option, Some, None, option_map, refl, sym, ap, subst, ◌∙◌, inl, inr, arith, Result, Ok, Err, IfOk}
use Rattle.std.proofs.lemmas.Bool.{cases_Bool}
use Rattle.std.proofs.lemmas.List.{length-map}
use Rattle.std.specs.List.{AllByRecursion, flat_map, range_with_len}
use Rattle.std.specs.Option.{option_copied}
use Rattle.std.specs.Borrow.{Bor}
use Rattle.mm_frames.specs.Contents.{Contents, contents_of, frame_at}
use Rattle.mm_frames.proofs.Queries.{frame-is}
use Rattle.mm_base.specs.declared.errors.Memory.{Memory}
use Rattle.mm_base.specs.declared.kinds.Kinds.{Kinds}
use Rattle.mm_base.specs.declared.symbols.Sym.{Sym}
use Rattle.mm_base.specs.declared.symbols.Label.{Label}
use Rattle.mm_base.specs.declared.symbols.Pair.{Pair}
use Rattle.mm_base.specs.declared.symbols.Typecode.{Typecode}
use Rattle.mm_base.specs.declared.tree.Tree.{Tree}
use Rattle.mm_base.specs.declared.tree.Tree.TheVariants.{Node, outs-Var, outs-Node}
use Rattle.mm_base.proofs.TreeInduction.{tree_ind}
use Rattle.mm_model.specs.declared.frames.Frame.{Frame}
use Rattle.mm_model.specs.Statements.{statements}
use Rattle.mm_model.specs.Frames.{frame_of}
use Rattle.mm_model.specs.Productions.{TypedVariable, typed_variables}
use Rattle.mm_model.specs.Book.{Assertion}
use Rattle.model_laws.specs.DatabaseLaws.{FramesAreWhole}
use Rattle.solve_model.specs.Firsts.{IsFirstOrNone, picks, orders}
use Rattle.solve_model.specs.Trees.{Open, work, fresh, leaf_tree, open_leaves}
use Rattle.solve_model.proofs.TreeLaws.{replace-Work, replace-Fresh, open_leaves-Work, open_leaves-Fresh}
use Rattle.written_model.specs.Found.{is_ground}
use Rattle.written_model.specs.WrittenSteps.{no_tree, value_of}
use Rattle.mm_database.specs.declared.assertions.Parsed.{Parsed}
use Rattle.mm_database.specs.Books.{parsed_at, assertion_of, usable_with}
use Rattle.mm_database.specs.ByHead.{is_head, has_head}
use Rattle.mm_database.specs.Opened.{Opened, IsOpened}
use Rattle.ref_search.specs.declared.placing.Fit.{Fit}
use Rattle.ref_search.specs.declared.wanted.Wanted.{Wanted}
use Rattle.ref_search.specs.Matching.{valued_by, Becomes, NeverBecomes}
use Rattle.ref_search.specs.Completing.{use_of, IsRule}
use Rattle.ref_search.specs.Placing.{trees_at, orders_of, FitsWanted, CanFit, HasAll, HasValues, IsFitOf}
use Rattle.ref_search.specs.Searching.{book, FitsAs, FitsLabel, NoFit, IsLabelFit, IsSoundUse, ForEachText, head_of, layer_head}
use Rattle.ref_search.proofs.Lists.{labels_part}
use Rattle.ref_search.proofs.MatchLaws.{node_value}
use Rattle.ref_search.proofs.PlaceLaws.{all_none, cons_head, cons_tail}
use Rattle.ref_search.proofs.FitLaws.{first_same, in_range, range_count}

pub some_is_some : {X : Type 0} (o : Option X) (x y : X) → o ≡ Some x → o ≡ Some y → x ≡ y
some_is_some o x y e f = let g : Some x ≡ Some y = sym e ∙ f in cc

pub none_is_none : {X : Type 0} (o : Option X) (x : X) → o ≡ None → o ≡ Some x → ⊥
none_is_none o x e f = let g : None ≡ Some x = sym e ∙ f in cc

-- ---- the assertion of a label, from what is kept of it

module _ (parsed : List (Option Parsed)) (l : Label) where
  pub usable_none : (f : Option Frame) → parsed_at parsed l ≡ None → usable_with parsed l f ≡ None
  usable_none None e = refl
  usable_none (Some f) e = ap (option_map (assertion_of l f)) e

  pub usable_some : (f : Frame) (p : Parsed) → parsed_at parsed l ≡ Some p → usable_with parsed l (Some f) ≡ Some (assertion_of l f p)
  usable_some f p e = ap (option_map (assertion_of l f)) e

  pub usable_kept : (f : Option Frame) (p : Parsed) (a : Assertion) → parsed_at parsed l ≡ Some p → usable_with parsed l f ≡ Some a → (g : Frame) × (a ≡ assertion_of l g p)
  usable_kept None p a e h = absurd (cc)
  usable_kept (Some f) p a e h = (f, some_is_some (usable_with parsed l (Some f)) a (assertion_of l f p) h (usable_some f p e))

module _ (kinds : Kinds) (text : List ℕ) (d : Opened) (opened : IsOpened kinds text d) (given : Option (List Pair)) (w : Wanted) (l : Label) where
  pub no_frame : frame_of (statements text) l ≡ None → IsLabelFit (book kinds text d) given w l None
  no_frame e = record {
    first = all_none (FitsLabel (book kinds text d) given w l)
        (λ order c. none_is_none (usable_with d.parsed l (frame_of (statements text) l)) c.0 (ap (usable_with d.parsed l) e) c.2.usable) (orders_of (length w.hyps));
    values = tt;
  }

  module _ (f : Frame) (p : Parsed) (frame : frame_of (statements text) l ≡ Some f) (kept : parsed_at d.parsed l ≡ Some p) where
    the_usable : usable_with d.parsed l (frame_of (statements text) l) ≡ Some (assertion_of l f p)
    the_usable = ap (usable_with d.parsed l) frame ∙ usable_some d.parsed l f p kept

    pub rule_of : FramesAreWhole → (vars : List Sym) → vars ≡ p.vars → IsRule (assertion_of l f p) f vars
    rule_of whole vars e =
        let k = opened.kept l p kept in
        let same : k.frame ≡ f = some_is_some (frame_of (statements text) l) k.frame f k.frame_is frame in
        record {
          frame_is = refl;
          vars_are = e ∙ k.vars ∙ ap (λ (g : Frame). map (λ (v : TypedVariable). v.sym) (typed_variables g.hyps)) same;
          typed = refl;
          differ = (whole kinds text (book kinds text d) opened.database opened.no_fault l f frame).variables;
        }

    pub label_fit : (o : Option Fit) → IsFitOf (assertion_of l f p) given w o → IsLabelFit (book kinds text d) given w l o
    label_fit o h = record {
      first = first_same (CanFit (assertion_of l f p) given w) (FitsLabel (book kinds text d) given w l)
          (λ order c. (assertion_of l f p, c.0, record { usable = the_usable; fits = c.1 }))
          (λ order c. (
            c.1,
            subst (λ a. FitsWanted a given w order c.1)
                (some_is_some (usable_with d.parsed l (frame_of (statements text) l)) c.0 (assertion_of l f p) c.2.usable the_usable) c.2.fits,
          ))
          (orders_of (length w.hyps)) (option_map (λ (fit : Fit). fit.order) o) h.first;
      values = by o h.values;
    }
      where
        by : (o : Option Fit) → HasValues (λ fit. FitsWanted (assertion_of l f p) given w fit.order fit.trees) o
            → HasValues (λ fit. (a : Assertion) × FitsAs (book kinds text d) given w l fit.order a fit.trees) o
        by None h = tt
        by (Some fit) h = (assertion_of l f p, record { usable = the_usable; fits = h })

-- ---- orders

pub record IsOrder (n bound : ℕ) (order : List ℕ) : Type 0 where
  pub count : length order ≡ n
  pub inside : AllByRecursion (λ k. k < bound) order

all_map : {X Y : Type 0} (P : Y → Type 0) (Q : X → Type 0) (f : X → Y) → ((x : X) → Q x → P (f x)) → (xs : List X) → AllByRecursion Q xs → AllByRecursion P (map f xs)
all_map P Q f h [] k = tt
all_map P Q f h (x ∷ xs) k = (h x k.0, all_map P Q f h xs k.1)

all_both_lists : {X : Type 0} (P : X → Type 0) (xs ys : List X) → AllByRecursion P xs → AllByRecursion P ys → AllByRecursion P (xs ++ ys)
all_both_lists P [] ys h k = k
all_both_lists P (x ∷ xs) ys h k = (h.0, all_both_lists P xs ys h.1 k)

all_flat : {X Y : Type 0} (P : Y → Type 0) (Q : X → Type 0) (f : X → List Y) → ((x : X) → Q x → AllByRecursion P (f x)) → (xs : List X) → AllByRecursion Q xs → AllByRecursion P (flat_map f xs)
all_flat P Q f h [] k = tt
all_flat P Q f h (x ∷ xs) k = all_both_lists P (f x) (flat_map f xs) (h x k.0) (all_flat P Q f h xs k.1)

abbrev IsPickInside : ℕ → ℕ × List ℕ → Type 0
IsPickInside bound p = (p.0 < bound) × AllByRecursion (λ k. k < bound) p.1

picks_inside : (bound : ℕ) (xs : List ℕ) → AllByRecursion (λ k. k < bound) xs → AllByRecursion (IsPickInside bound) (picks xs)
picks_inside bound [] h = tt
picks_inside bound (x ∷ xs) h = ((h.0, h.1), all_map (IsPickInside bound) (IsPickInside bound) (λ (p : ℕ × List ℕ). (p.0, x ∷ p.1)) (λ p k. (k.0, (h.0, k.1))) (picks xs) (picks_inside bound xs h.1))

orders_are : (n bound : ℕ) (xs : List ℕ) → AllByRecursion (λ k. k < bound) xs → AllByRecursion (IsOrder n bound) (orders n xs)
orders_are zero bound xs h = (record { count = refl; inside = tt }, tt)
orders_are (suc n) bound xs h =
    all_flat (IsOrder (suc n) bound) (IsPickInside bound) (λ (p : ℕ × List ℕ). map (λ rest. p.0 ∷ rest) (orders n p.1))
    (λ p k. all_map (IsOrder (suc n) bound) (IsOrder n bound) (λ rest. p.0 ∷ rest) (λ r i. record { count = ap suc i.count; inside = (k.0, i.inside) }) (orders n p.1) (orders_are n bound p.1 k.1))
    (picks xs) (picks_inside bound xs h)

pub all_orders : (n : ℕ) → AllByRecursion (IsOrder n n) (orders_of n)
all_orders n = by (nat_le n 6)
  where
    inside : AllByRecursion (λ k. k < n) (range_with_len 0 n)
    inside = subst (λ m. AllByRecursion (λ k. k < m) (range_with_len 0 n)) (let e : 0 + n ≡ n = omega arith in e) (in_range 0 n)

    by : (b : Bool) → AllByRecursion (IsOrder n n) (if b then orders n (range_with_len 0 n) else range_with_len 0 n ∷ [])
    by true = orders_are n n (range_with_len 0 n) inside
    by false = (record { count = range_count 0 n; inside = inside }, tt)

pub none_where : {X : Type 0} (P Q : X → Type 0) → ((x : X) → Q x → P x → ⊥) → (xs : List X) → AllByRecursion Q xs → IsFirstOrNone P xs None
none_where P Q h [] k = refl
none_where P Q h (x ∷ xs) k = inr (h x k.0, none_where P Q h xs k.1)

-- ---- labels of other assertions do not fit

-- where an assertion with this conclusion is looked for
pub data Standing (t formula : Tree) : Type 0 where
  at_variable : has_head None t ≡ true → Standing t formula
  at_head : {h : Label} → head_of formula ≡ Some h → has_head (Some h) t ≡ true → Standing t formula
  never : NeverBecomes t formula → Standing t formula

not_closed : (t : Tree) (x : Open) → open_leaves t ≡ x ∷ [] → is_ground t ≡ true → ⊥
not_closed t x e h = let f : false ≡ true = sym (ap (λ (ys : List Open). length ys == 0) e) ∙ h in cc

pub standing : (formula : Tree) → is_ground formula ≡ true → (t : Tree) → Standing t formula
standing formula closed = tree_ind (λ t. Standing t formula)
    (λ s c. at_variable (ap (is_head None) (outs-Var s c)))
    (λ c n. never (record { never = λ f e. not_closed formula (work c n) (sym (ap open_leaves (sym (replace-Work (λ s c. f s) leaf_tree c n) ∙ e)) ∙ open_leaves-Work c n) closed }))
    (λ c n. never (record { never = λ f e. not_closed formula (fresh c n) (sym (ap open_leaves (sym (replace-Fresh (λ s c. f s) leaf_tree c n) ∙ e)) ∙ open_leaves-Fresh c n) closed }))
    (λ k c ts i. by k c ts (head_of formula) refl)
  where
    node_head : (k : Label) (c : Typecode) (ts : List Tree) (f : Sym → Tree) → Becomes (Node k c ts) formula f → head_of formula ≡ Some k
    node_head k c ts f e = ap head_of (sym e ∙ node_value f (Node k c ts) k c ts refl) ∙ ap layer_head (outs-Node k c (map (valued_by f) ts))

    by : (k : Label) (c : Typecode) (ts : List Tree) (o : Option Label) → head_of formula ≡ o → Standing (Node k c ts) formula
    by k c ts None h = never (record { never = λ f e. none_is_none (head_of formula) k h (node_head k c ts f e) })
    by k c ts (Some m) h = elim (cases_Bool (k.0 == m.0)) [
      | inl is ↦ at_head h (ap (is_head (Some m)) (outs-Node k c ts) ∙ is)
      | inr not ↦ never (record { never = λ f e. labels_part k m not (some_is_some (head_of formula) k m (node_head k c ts f e) h) })
    ]

module _ (kinds : Kinds) (text : List ℕ) (d : Opened) (given : Option (List Pair)) (w : Wanted) (l : Label) where
  pub nothing_kept : parsed_at d.parsed l ≡ None → NoFit (book kinds text d) given w l
  nothing_kept e =
      all_none (FitsLabel (book kinds text d) given w l)
      (λ order c. none_is_none (usable_with d.parsed l (frame_of (statements text) l)) c.0 (usable_none d.parsed l (frame_of (statements text) l) e) c.2.usable) (orders_of (length w.hyps))

  module _ (p : Parsed) (kept : parsed_at d.parsed l ≡ Some p) where
    fits_kept : (order : List ℕ) (c : FitsLabel (book kinds text d) given w l order)
        → map (valued_by (value_of (use_of c.0 c.1))) (p.tree ∷ p.hyps) ≡ w.formula ∷ trees_at w.hyps order
    fits_kept order c =
        let k = usable_kept d.parsed l (frame_of (statements text) l) p c.0 kept c.2.usable in
        ap (λ (a : Assertion). map (valued_by (value_of (use_of c.0 c.1))) (a.tree ∷ a.hyps)) (sym k.1) ∙ c.2.fits.hyps_are

    pub never_conclusion : NeverBecomes p.tree w.formula → NoFit (book kinds text d) given w l
    never_conclusion n =
        all_none (FitsLabel (book kinds text d) given w l)
        (λ order c.
        let f = valued_by (value_of (use_of c.0 c.1)) in
        n.never (value_of (use_of c.0 c.1)) (cons_head (f p.tree) w.formula (map f p.hyps) (trees_at w.hyps order) (fits_kept order c))) (orders_of (length w.hyps))

    pub other_number : (length p.hyps ≡ length w.hyps → ⊥) → NoFit (book kinds text d) given w l
    other_number n =
        none_where (FitsLabel (book kinds text d) given w l) (IsOrder (length w.hyps) (length w.hyps))
        (λ order i c.
        let f = valued_by (value_of (use_of c.0 c.1)) in
        n (sym (length-map p.hyps f) ∙ ap length (cons_tail (f p.tree) w.formula (map f p.hyps) (trees_at w.hyps order) (fits_kept order c))
        ∙ length-map order (λ k. get_or w.hyps k no_tree) ∙ i.count))
        (orders_of (length w.hyps)) (all_orders (length w.hyps))

-- ---- what the calls say, put together

pub frame_none : (kinds : Kinds) (text : List ℕ) (d : Opened) → IsOpened kinds text d → (given : Option (List Pair)) (w : Wanted) (l : Label) (f : Option (Bor Frame)) → f ≡ None
    → ((text : List ℕ) → d.contents ≡ contents_of text → option_copied f ≡ frame_of (statements text) l) → IsLabelFit (book kinds text d) given w l None
frame_none kinds text d opened given w l f none in_text = no_frame kinds text d opened given w l (sym (in_text text opened.contents) ∙ ap option_copied none)

pub frame_some : FramesAreWhole → (d : Opened) (given : Option (List Pair)) (w : Wanted) (l : Label) (p : Parsed) → parsed_at d.parsed l ≡ Some p
    → (f : Option (Bor Frame)) (g : Bor Frame) → f ≡ Some g
    → ((text : List ℕ) → d.contents ≡ contents_of text → option_copied f ≡ frame_of (statements text) l)
    → (vars : List Sym) (tree : Tree) (hyps : List Tree) → vars ≡ p.vars → tree ≡ p.tree → hyps ≡ p.hyps
    → (r : Result (Option Fit) Memory) → IfOk r (λ o. (a : Assertion) → IsRule a g.now vars → a.tree ≡ tree → a.hyps ≡ hyps → IsFitOf a given w o)
    → IfOk r (λ o. ForEachText d (λ b. IsLabelFit b given w l o))
frame_some whole d given w l p kept f g some in_text vars tree hyps v t h (Err m) k = k
frame_some whole d given w l p kept f g some in_text vars tree hyps v t h (Ok o) k = λ kinds text opened.
    let frame : frame_of (statements text) l ≡ Some g.now = sym (in_text text opened.contents) ∙ ap option_copied some in
    label_fit kinds text d opened given w l g.now p frame kept o (k (assertion_of l g.now p) (rule_of kinds text d opened given w l g.now p frame kept whole vars v) (sym t) (sym h))

-- ---- the frame of a label, and the use that fits

pub frame_of_text : (d : Opened) (l : Label) (c : Contents) (f : Option Frame) → c ≡ d.contents → f ≡ frame_at c l → (text : List ℕ) → d.contents ≡ contents_of text → f ≡ frame_of (statements text) l
frame_of_text d l c f same is text e = is ∙ frame-is c l text (same ∙ e)

pub label_sound : (d : Opened) (l : Label) (f : Frame) (p : Parsed) (o : Option Fit) → frame_at d.contents l ≡ Some f → parsed_at d.parsed l ≡ Some p → HasAll f o
    → HasValues (λ (fit : Fit). IsSoundUse d l fit.trees) o
label_sound d l f p None e k h = tt
label_sound d l f p (Some fit) e k h = record {
  assertion = assertion_of l f p;
  is_usable = ap (usable_with d.parsed l) e ∙ usable_some d.parsed l f p k;
  count = h;
}
