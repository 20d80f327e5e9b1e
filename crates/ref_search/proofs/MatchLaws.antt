-- How bindings grow, and what they say of the values that agree with them.
use Rattle.std.proofs.Common.{◌≡◌, ℕ, zero, suc, ◌+◌, ◌<◌, ◌≤◌, ◌==◌, Bool, true, false, not, List, [], ◌∷◌, ◌++◌, length, map, get_or, drop}
use Rattle.std.proofs.Common.{drop-cons, Some, None, refl, sym, ap, subst, ◌∙◌, inl, inr, add-one, append_assoc, arith, Result, Ok, Err, IfOk}
use Rattle.std.proofs.lemmas.Bool.{cases_Bool}
use Rattle.std.proofs.lemmas.List.{append-nil, length-append, length-map}
use Rattle.std.specs.List.{AllByRecursion}
use Rattle.std.specs.Borrow.{Bor}
use Rattle.mm_base.specs.declared.errors.Memory.{Memory}
use Rattle.mm_base.specs.declared.symbols.Sym.{Sym}
use Rattle.mm_base.specs.declared.symbols.Label.{Label}
use Rattle.mm_base.specs.declared.symbols.Typecode.{Typecode}
use Rattle.mm_base.specs.declared.tree.Tree.{Tree}
use Rattle.mm_base.specs.declared.tree.Tree.TheVariants.{Var, Work, Fresh, Node}
use Rattle.mm_base.proofs.TreeFacts.{SameNode, same_node}
use Rattle.mm_model.specs.Chains.{same_code}
use Rattle.mm_model.specs.Names.{typecode, sym as symbol_of}
use Rattle.solve_model.specs.Trees.{Open, leaf_tree, open_leaves, flatten, same_tree}
use Rattle.solve_model.proofs.TreeLaws.{replace-Var, replace-Work, replace-Fresh, replace-Node, open_leaves-Work, open_leaves-Node}
use Rattle.solve_laws.specs.Replacements.{SameTreeDecides}
use Rattle.written_model.specs.Found.{is_ground}
use Rattle.written_model.specs.WrittenSteps.{no_tree}
use Rattle.ref_search.specs.Matching.{valued_by, is_among, Binding, bound_to, Agrees, AreBound, IsOver, IsLonger, IsMatched, IsValue, Becomes, BecomeTo, AllBecome}
use Rattle.ref_search.proofs.Lists.{same_number, same_sym, same_label, codes_same, self_number, labels_differ, codes_differ, all_append, all_front, all_last, all_weaker, all_at}

-- ---- what a variable is bound to

pub bound_passed : (bs : List Binding) (s : Sym) (i : ℕ) (d : Binding) → i < length bs → false ≡ ((get_or bs i d).0.0 == s.0) → bound_to (drop i bs) s ≡ bound_to (drop (i + 1) bs) s
bound_passed bs s i d h e =
    let other : ((get_or bs i d).0.0 == s.0) ≡ false = sym e in
    let here : bound_to (get_or bs i d ∷ drop (suc i) bs) s ≡ bound_to (drop (suc i) bs) s = rw other refl in
    rw add-one (ap (λ xs. bound_to xs s) (drop-cons bs i d h) ∙ here)

pub agrees_bound : (f : Sym → Tree) (bs : List Binding) (s : Sym) (t : Tree) → AllByRecursion (λ (b : Binding). f b.0 ≡ b.1.now) bs → bound_to bs s ≡ Some t → f s ≡ t
agrees_bound f [] s t a e = absurd (cc)
agrees_bound f (b ∷ bs) s t a e = elim (cases_Bool (b.0.0 == s.0)) [
  | inl is ↦
      let here : Some b.1.now ≡ Some t = rw is at e in
      let value : b.1.now ≡ t = cc in
      sym (ap f (same_sym b.0 s is)) ∙ a.0 ∙ value
  | inr not ↦ agrees_bound f bs s t a.1 (rw not at e)
]

bound_front : (bs more : List Binding) (s : Sym) (t : Tree) → bound_to bs s ≡ Some t → bound_to (bs ++ more) s ≡ Some t
bound_front [] more s t e = absurd (cc)
bound_front (b ∷ bs) more s t e = elim (cases_Bool (b.0.0 == s.0)) [ inl is ↦ rw is (rw is at e) | inr not ↦ rw not (bound_front bs more s t (rw not at e)) ]

bound_behind : (bs more : List Binding) (s : Sym) → bound_to bs s ≡ None → bound_to (bs ++ more) s ≡ bound_to more s
bound_behind [] more s e = refl
bound_behind (b ∷ bs) more s e = elim (cases_Bool (b.0.0 == s.0)) [
  | inl is ↦ let none : Some b.1.now ≡ None = rw is at e in absurd (cc)
  | inr not ↦ rw not (bound_behind bs more s (rw not at e))
]

pub longer_all : (P : Binding → Type 0) (old new : List Binding) → IsLonger old new → AllByRecursion P new → AllByRecursion P old
longer_all P old new l h = all_front P old l.more (subst (AllByRecursion P) l.is h)

pub agreed : (f : Sym → Tree) (old new : List Binding) → IsLonger old new → Agrees f new → Agrees f old
agreed f old new l a = record { each = longer_all (λ b. f b.0 ≡ b.1.now) old new l a.each }

pub stays : (bs : List Binding) → IsLonger bs bs
stays bs = record { more = []; is = sym (append-nil bs) }

pub longer_twice : (a b c : List Binding) → IsLonger a b → IsLonger b c → IsLonger a c
longer_twice a b c l m = record { more = l.more ++ m.more; is = m.is ∙ ap (λ xs. xs ++ m.more) l.is ∙ append_assoc a l.more m.more }

-- ---- matches that bind nothing, one after the other, and of one meaning

module _ (vars : List Sym) (Has : (Sym → Tree) → Type 0) where
  pub settled : (bs : List Binding) (fits : Bool) → (fits ≡ true → (f : Sym → Tree) → Agrees f bs → Has f) → (fits ≡ false → (f : Sym → Tree) → IsOver vars f → Agrees f bs → Has f → ⊥)
      → IsMatched vars Has bs bs fits
  settled bs fits h k = record { longer = stays bs; bound = λ b. b; agrees = λ e f o a p. a; has = h; none = k }

  pub refused : (old new : List Binding) → IsLonger old new → (AreBound vars old → AreBound vars new)
      → ((f : Sym → Tree) → IsOver vars f → Agrees f old → Has f → ⊥) → IsMatched vars Has old new false
  refused old new l b h = record { longer = l; bound = b; agrees = λ e. absurd (cc); has = λ e. absurd (cc); none = λ e. h }

  pub refused_here : (bs : List Binding) → ((f : Sym → Tree) → Has f → ⊥) → IsMatched vars Has bs bs false
  refused_here bs h = refused bs bs (stays bs) (λ b. b) (λ f o a p. h f p)

module _ (vars : List Sym) (Has Other : (Sym → Tree) → Type 0) (there : (f : Sym → Tree) → Has f → Other f) (back : (f : Sym → Tree) → Other f → Has f) where
  pub renamed : (old new : List Binding) (fits : Bool) → IsMatched vars Has old new fits → IsMatched vars Other old new fits
  renamed old new fits m = record {
    longer = m.longer;
    bound = m.bound;
    agrees = λ e f o a p. m.agrees e f o a (back f p);
    has = λ e f a. there f (m.has e f a);
    none = λ e f o a p. m.none e f o a (back f p);
  }

module _ (vars : List Sym) (First Next Both : (Sym → Tree) → Type 0) (first : (f : Sym → Tree) → Both f → First f) (next : (f : Sym → Tree) → Both f → Next f)
    (both : (f : Sym → Tree) → First f → Next f → Both f) where
  pub joined : (a b c : List Binding) (fits : Bool) → IsMatched vars First a b true → IsMatched vars Next b c fits → IsMatched vars Both a c fits
  joined a b c fits m n = record {
    longer = longer_twice a b c m.longer n.longer;
    bound = λ h. n.bound (m.bound h);
    agrees = λ e f o h p. n.agrees e f o (m.agrees refl f o h (first f p)) (next f p);
    has = λ e f h. both f (m.has refl f (agreed f b c n.longer h)) (n.has e f h);
    none = λ e f o h p. n.none e f o (m.agrees refl f o h (first f p)) (next f p);
  }

-- ---- one variable

true_or : (b : Bool) → b ≡ true → b ≡ false → ⊥
true_or b e f = let g : true ≡ false = sym e ∙ f in cc

pub known_matched : SameTreeDecides → (vars : List Sym) (bs : List Binding) (s : Sym) (t known : Tree) (fits : Bool) → bound_to bs s ≡ Some known → fits ≡ same_tree known t
    → IsMatched vars (IsValue s t) bs bs fits
known_matched decides vars bs s t known fits e is =
    settled vars (IsValue s t) bs fits
    (λ h f a. agrees_bound f bs s known a.each e ∙ (decides known t).0 (sym is ∙ h))
    (λ h f o a p. true_or (same_tree known t) ((decides known t).1 (sym (agrees_bound f bs s known a.each e) ∙ p)) (sym is ∙ h))

pub new_matched : (vars : List Sym) (bs : List Binding) (s : Sym) (t : Bor Tree) → bound_to bs s ≡ None → is_among vars s ≡ true → IsMatched vars (IsValue s t.now) bs (bs ++ (s, t) ∷ []) true
new_matched vars bs s t none is = record {
  longer = record { more = (s, t) ∷ []; is = refl };
  bound = λ h. record {
    once = all_append (λ (b : Binding). bound_to (bs ++ (s, t) ∷ []) b.0 ≡ Some b.1.now) bs (s, t)
        (all_weaker (λ (b : Binding). bound_to bs b.0 ≡ Some b.1.now) (λ (b : Binding). bound_to (bs ++ (s, t) ∷ []) b.0 ≡ Some b.1.now) (λ b e. bound_front bs ((s, t) ∷ []) b.0 b.1.now e) bs h.once)
        (bound_behind bs ((s, t) ∷ []) s none ∙ here);
    among = all_append (λ (b : Binding). is_among vars b.0 ≡ true) bs (s, t) h.among is;
  };
  agrees = λ e f o a p. record { each = all_append (λ (b : Binding). f b.0 ≡ b.1.now) bs (s, t) a.each p };
  has = λ e f a. all_last (λ (b : Binding). f b.0 ≡ b.1.now) bs (s, t) a.each;
  none = λ e. absurd (cc);
}
  where
    here : bound_to ((s, t) ∷ []) s ≡ Some t.now
    here = let e = self_number s.0 in rw e refl

not_ground : is_ground no_tree ≡ false
not_ground = ap (λ (xs : List Open). length xs == 0) (open_leaves-Work (typecode (symbol_of 0)) 0)

pub other_matched : (vars : List Sym) (bs : List Binding) (s : Sym) (t : Tree) → is_ground t ≡ true → is_among vars s ≡ false → IsMatched vars (IsValue s t) bs bs false
other_matched vars bs s t closed out =
    refused vars (IsValue s t) bs bs (stays bs) (λ b. b)
    (λ f o a p. let wrong : false ≡ true = sym not_ground ∙ ap is_ground (sym (o s out) ∙ p) ∙ closed in cc)

-- ---- one tree

pub var_matched : (vars : List Sym) (old new : List Binding) (fits : Bool) (pattern t : Tree) (s : Sym) (c : Typecode) → pattern ≡ Var s c
    → IsMatched vars (IsValue s t) old new fits → IsMatched vars (Becomes pattern t) old new fits
var_matched vars old new fits pattern t s c e m =
    renamed vars (IsValue s t) (Becomes pattern t) (λ f p. value f ∙ p) (λ f p. sym (value f) ∙ p) old new fits m
  where
    value : (f : Sym → Tree) → valued_by f pattern ≡ f s
    value f = ap (valued_by f) e ∙ replace-Var (λ s c. f s) leaf_tree s c

module _ (decides : SameTreeDecides) (vars : List Sym) (bs : List Binding) (fits : Bool) (pattern t : Tree) (is : fits ≡ same_tree pattern t) where
  leaf_matched : ((f : Sym → Tree) → valued_by f pattern ≡ pattern) → IsMatched vars (Becomes pattern t) bs bs fits
  leaf_matched stays =
      settled vars (Becomes pattern t) bs fits
      (λ h f a. stays f ∙ (decides pattern t).0 (sym is ∙ h))
      (λ h f o a p. true_or (same_tree pattern t) ((decides pattern t).1 (sym (stays f) ∙ p)) (sym is ∙ h))

  pub work_matched : (c : Typecode) (n : ℕ) → pattern ≡ Work c n → IsMatched vars (Becomes pattern t) bs bs fits
  work_matched c n e = leaf_matched (λ f. ap (valued_by f) e ∙ replace-Work (λ s c. f s) leaf_tree c n ∙ sym e)

  pub fresh_matched : (c : Typecode) (n : ℕ) → pattern ≡ Fresh c n → IsMatched vars (Becomes pattern t) bs bs fits
  fresh_matched c n e = leaf_matched (λ f. ap (valued_by f) e ∙ replace-Fresh (λ s c. f s) leaf_tree c n ∙ sym e)

-- ---- a production

pub counts_differ : (f : Sym → Tree) (ps ts : List Tree) → map (valued_by f) ps ≡ ts → length ps ≡ length ts
counts_differ f ps ts e = sym (length-map ps (valued_by f)) ∙ ap length e

pub node_value : (f : Sym → Tree) (pattern : Tree) (l : Label) (c : Typecode) (ps : List Tree) → pattern ≡ Node l c ps → valued_by f pattern ≡ Node l c (map (valued_by f) ps)
node_value f pattern l c ps e = ap (valued_by f) e ∙ replace-Node (λ s c. f s) leaf_tree l c ps

module _ (vars : List Sym) (bs : List Binding) (pattern t : Tree) (l : Label) (c : Typecode) (ps : List Tree) (is : pattern ≡ Node l c ps) where
  pub no_node : ((k : Label) (d : Typecode) (ts : List Tree) → t ≡ Node k d ts → ⊥) → IsMatched vars (Becomes pattern t) bs bs false
  no_node h = refused_here vars (Becomes pattern t) bs (λ f p. h l c (map (valued_by f) ps) (sym p ∙ node_value f pattern l c ps is))

  module _ (k : Label) (d : Typecode) (ts : List Tree) (too : t ≡ Node k d ts) where
    pub same_head : (f : Sym → Tree) → Becomes pattern t f → SameNode l k c d (map (valued_by f) ps) ts
    same_head f p = same_node l k c d (map (valued_by f) ps) ts (sym (node_value f pattern l c ps is) ∙ p ∙ too)

    pub other_label : true ≡ not (l.0 == k.0) → IsMatched vars (Becomes pattern t) bs bs false
    other_label h = refused_here vars (Becomes pattern t) bs (λ f p. labels_differ l k h (same_head f p).label)

    pub other_code : true ≡ not (same_code c d) → IsMatched vars (Becomes pattern t) bs bs false
    other_code h = refused_here vars (Becomes pattern t) bs (λ f p. codes_differ c d h (same_head f p).code)

    pub other_count : (length ps ≡ length ts → ⊥) → IsMatched vars (Becomes pattern t) bs bs false
    other_count h = refused_here vars (Becomes pattern t) bs (λ f p. h (sym (length-map ps (valued_by f)) ∙ ap length (same_head f p).children))

-- ---- the parts of a production, one after the other

become_more : (n : ℕ) (ps ts : List Tree) (f : Sym → Tree) (p t : Tree) → n < length ps → n < length ts → BecomeTo n ps ts f → Becomes (get_or ps n p) (get_or ts n t) f → BecomeTo (suc n) ps ts f
become_more n [] ts f p t h k b e = absurd (omega arith)
become_more n (x ∷ ps) [] f p t h k b e = absurd (omega arith)
become_more zero (x ∷ ps) (y ∷ ts) f p t h k b e = (e, tt)
become_more (suc n) (x ∷ ps) (y ∷ ts) f p t h k b e = (b.0, become_more n ps ts f p t (omega arith) (omega arith) b.1 e)

become_before : (n : ℕ) (ps ts : List Tree) (f : Sym → Tree) → BecomeTo (suc n) ps ts f → BecomeTo n ps ts f
become_before zero ps ts f b = tt
become_before (suc n) [] ts f b = tt
become_before (suc n) (x ∷ ps) [] f b = tt
become_before (suc n) (x ∷ ps) (y ∷ ts) f b = (b.0, become_before n ps ts f b.1)

pub become_here : (n : ℕ) (ps ts : List Tree) (f : Sym → Tree) (p t : Tree) → n < length ps → n < length ts → BecomeTo (suc n) ps ts f → Becomes (get_or ps n p) (get_or ts n t) f
become_here n [] ts f p t h k b = absurd (omega arith)
become_here n (x ∷ ps) [] f p t h k b = absurd (omega arith)
become_here zero (x ∷ ps) (y ∷ ts) f p t h k b = b.0
become_here (suc n) (x ∷ ps) (y ∷ ts) f p t h k b = become_here n ps ts f p t (omega arith) (omega arith) b.1

become_all : (n : ℕ) (ps ts : List Tree) (f : Sym → Tree) → length ps ≤ n → length ps ≡ length ts → BecomeTo n ps ts f → map (valued_by f) ps ≡ ts
become_all n [] [] f h e b = refl
become_all n [] (y ∷ ts) f h e b = absurd (omega (arith, e))
become_all n (x ∷ ps) [] f h e b = absurd (omega (arith, e))
become_all zero (x ∷ ps) (y ∷ ts) f h e b = absurd (omega arith)
become_all (suc n) (x ∷ ps) (y ∷ ts) f h e b =
    let rest = become_all n ps ts f (omega arith) (omega (arith, e)) b.1 in
    ap (λ z. z ∷ map (valued_by f) ps) b.0 ∙ ap (λ zs. y ∷ zs) rest

pub become_of : (n : ℕ) (ps ts : List Tree) (f : Sym → Tree) → map (valued_by f) ps ≡ ts → BecomeTo n ps ts f
become_of n ps ts f e = subst (λ zs. BecomeTo n ps zs f) e (itself n ps)
  where
    itself : (n : ℕ) (ps : List Tree) → BecomeTo n ps (map (valued_by f) ps) f
    itself zero ps = tt
    itself (suc n) [] = tt
    itself (suc n) (x ∷ ps) = (refl, itself n ps)

pub begun : (vars : List Sym) (bs : List Binding) (ps ts : List Tree) → IsMatched vars (BecomeTo 0 ps ts) bs bs true
begun vars bs ps ts = settled vars (BecomeTo 0 ps ts) bs true (λ e f a. tt) (λ e. absurd (cc))

pub part_matched : (vars : List Sym) (ps ts : List Tree) (a b c : List Binding) (n : ℕ) (p t : Tree) → n < length ps → length ps ≡ length ts → p ≡ get_or ps n p → t ≡ get_or ts n t
    → IsMatched vars (BecomeTo n ps ts) a b true → IsMatched vars (Becomes p t) b c true → IsMatched vars (BecomeTo (n + 1) ps ts) a c true
part_matched vars ps ts a b c n p t h e x y m k =
    rw add-one (joined vars (BecomeTo n ps ts) (Becomes p t) (BecomeTo (suc n) ps ts)
    (λ f q. become_before n ps ts f q)
    (λ f q. subst (λ z. Becomes z t f) (sym x) (subst (λ z. Becomes (get_or ps n p) z f) (sym y) (become_here n ps ts f p t h (omega (arith, h, e)) q)))
    (λ f q r. become_more n ps ts f p t h (omega (arith, h, e)) q (subst (λ z. Becomes (get_or ps n p) z f) y (subst (λ z. Becomes z t f) x r)))
    a b c true m k)

module _ (vars : List Sym) (a b : List Binding) (pattern t : Tree) (l k : Label) (code d : Typecode) (ps ts : List Tree) (is : pattern ≡ Node l code ps) (too : t ≡ Node k d ts) where
  pub part_differs : (c : List Binding) (n : ℕ) (p u : Tree) → n < length ps → length ps ≡ length ts → p ≡ get_or ps n p → u ≡ get_or ts n u
      → IsMatched vars (BecomeTo n ps ts) a b true → IsMatched vars (Becomes p u) b c false → IsMatched vars (Becomes pattern t) a c false
  part_differs c n p u h e x y m q =
      refused vars (Becomes pattern t) a c (longer_twice a b c m.longer q.longer) (λ h. q.bound (m.bound h))
      (λ f o ag z.
      let same = (same_head vars b pattern t l code ps is k d ts too f z).children in
      q.none refl f o (m.agrees refl f o ag (become_of n ps ts f same))
      (subst (λ v. Becomes v u f) (sym x) (subst (λ v. Becomes (get_or ps n p) v f) (sym y) (become_here n ps ts f p u h (omega (arith, h, e)) (become_of (suc n) ps ts f same)))))

  pub parts_matched : (n : ℕ) → length ps ≤ n → length ps ≡ length ts → true ≡ (l.0 == k.0) → true ≡ same_code code d
      → IsMatched vars (BecomeTo n ps ts) a b true → IsMatched vars (Becomes pattern t) a b true
  parts_matched n h e x y m =
      renamed vars (BecomeTo n ps ts) (Becomes pattern t)
      (λ f q. node_value f pattern l code ps is ∙ ap (λ zs. Node l code zs) (become_all n ps ts f h e q) ∙ heads ∙ sym too)
      (λ f q. become_of n ps ts f (same_head vars b pattern t l code ps is k d ts too f q).children)
      a b true m
    where
      heads : Node l code ts ≡ Node k d ts
      heads = ap (λ (x : Label). Node x code ts) (same_label l k (sym x)) ∙ ap (λ (x : Typecode). Node k x ts) (codes_same code d (sym y))

-- ---- all trees of a list

pub list_differs : (vars : List Sym) (ps ts : List Tree) (a b c : List Binding) (n : ℕ) (p t : Tree) → n < length ps → length ps ≡ length ts → p ≡ get_or ps n p → t ≡ get_or ts n t
    → IsMatched vars (BecomeTo n ps ts) a b true → IsMatched vars (Becomes p t) b c false → IsMatched vars (AllBecome ps ts) a c false
list_differs vars ps ts a b c n p t h e x y m q =
    refused vars (AllBecome ps ts) a c (longer_twice a b c m.longer q.longer) (λ h. q.bound (m.bound h))
    (λ f o ag same. q.none refl f o (m.agrees refl f o ag (become_of n ps ts f same))
    (subst (λ v. Becomes v t f) (sym x) (subst (λ v. Becomes (get_or ps n p) v f) (sym y) (become_here n ps ts f p t h (omega (arith, h, e)) (become_of (suc n) ps ts f same)))))

pub list_matched : (vars : List Sym) (ps ts : List Tree) (a b : List Binding) (n : ℕ) → length ps ≤ n → length ps ≡ length ts → IsMatched vars (BecomeTo n ps ts) a b true
    → IsMatched vars (AllBecome ps ts) a b true
list_matched vars ps ts a b n h e m = renamed vars (BecomeTo n ps ts) (AllBecome ps ts) (λ f q. become_all n ps ts f h e q) (λ f q. become_of n ps ts f q) a b true m

-- ---- the parts of a tree without an open leaf

ground_parts : (ts : List Tree) → (length (flatten (map open_leaves ts)) == 0) ≡ true → AllByRecursion (λ t. is_ground t ≡ true) ts
ground_parts [] h = tt
ground_parts (t ∷ ts) h =
    let both : length (open_leaves t) + length (flatten (map open_leaves ts)) ≡ 0 =
    sym (length-append (open_leaves t) (flatten (map open_leaves ts)))
    ∙ same_number (length (open_leaves t ++ flatten (map open_leaves ts))) 0 h in
    let one : length (open_leaves t) ≡ 0 = omega (arith, both) in
    let rest : length (flatten (map open_leaves ts)) ≡ 0 = omega (arith, both) in
    (rw one refl, ground_parts ts (rw rest refl))

pub ground_part : (t : Tree) (l : Label) (c : Typecode) (ts : List Tree) (i : ℕ) (u : Tree) → t ≡ Node l c ts → is_ground t ≡ true → i < length ts → u ≡ get_or ts i u → is_ground u ≡ true
ground_part t l c ts i u e h k at =
    subst (λ x. is_ground x ≡ true) (sym at) (all_at (λ t. is_ground t ≡ true) ts i u
    (ground_parts ts (sym (ap (λ (xs : List Open). length xs == 0) (open_leaves-Node l c ts)) ∙ sym (ap is_ground e) ∙ h)) k)

-- ---- what a call answers, for another meaning

pub Ok-matched : (vars : List Sym) (old new : List Binding) (pattern t : Tree) (s : Sym) (c : Typecode) → pattern ≡ Var s c → (r : Result Bool Memory)
    → IfOk r (λ fits. is_ground t ≡ true → IsMatched vars (IsValue s t) old new fits) → IfOk r (λ fits. is_ground t ≡ true → IsMatched vars (Becomes pattern t) old new fits)
Ok-matched vars old new pattern t s c e (Ok b) h = λ closed. var_matched vars old new b pattern t s c e (h closed)
Ok-matched vars old new pattern t s c e (Err m) h = h
