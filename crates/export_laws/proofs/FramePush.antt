-- What the label of an assertion pushes: the text of a tree; and where it is provable, a step that fits over formulas given or pushed before.
use Rattle.std.specs.Prelude.{◌≡◌, ◌<◌, ◌≤◌, ◌==◌, ◌||◌, ℕ, Bool, true, false, List, [], ◌∷◌, length, map, reverse, take, drop, zip, slice_get, Contains, nat_lt}
use Rattle.std.specs.Prelude.{Option, Some, None, Ok, Err, refl}
use Rattle.std.specs.List.{AllZip, AllByRecursion, list_any}
use Rattle.std.proofs.Common.{sym, ap, subst, ◌∙◌, cond, arith, inl, inr}
use Rattle.std.proofs.lemmas.Bool.{ltb-false, and_parts, or_cases, or_left}
use Rattle.std.proofs.lemmas.List.{length-reverse, length-take-le}
use Rattle.std.proofs.lemmas.Slice.Eq.{bytes_eq-Decides}
use Rattle.mm_base.specs.declared.symbols.Sym.{Sym}
use Rattle.mm_base.specs.declared.symbols.Label.{Label}
use Rattle.mm_base.specs.declared.symbols.Typecode.{Typecode}
use Rattle.mm_base.specs.declared.tree.Tree.{Tree}
use Rattle.mm_base.specs.Trees.{code_of}
use Rattle.mm_model.specs.declared.frames.Hyp.{Hyp}
use Rattle.mm_model.specs.declared.frames.Frame.{Frame}
use Rattle.mm_model.specs.Names.{Name, typecode}
use Rattle.mm_model.specs.Productions.{TypedVariable, typed_variables, floats, essentials}
use Rattle.mm_model.specs.Book.{Database, Assertion, IsUsable, IsRead, label_of, symbol_of, symbol_name, position_of, logic_code}
use Rattle.mm_model.specs.BookFacts.{VariablesDiffer, float_formula}
use Rattle.model_laws.proofs.Listed.{all-reverse}
use Rattle.proof_model.specs.declared.theorem.Theorem.{Theorem}
use Rattle.proof_model.specs.Machine.{Formula, Entry, MachineFault, State, is_float_of, substituted, entries_fault, unless, and_then, underflow, apply_frame}
use Rattle.written_model.specs.declared.options.DvMode.TheVariants as dv
use Rattle.written_model.specs.WrittenSteps.{Use, value_of, no_tree}
use Rattle.written_model.specs.Found.{valued as valued_by}
use Rattle.written_model.specs.Pairs.{clash_of, lack_of}
use Rattle.export_model.specs.Exported.{Push, is_provable, taken_from}
use Rattle.again_laws.proofs.TokenLaws.{symbol_told}
use Rattle.push_laws.proofs.ActiveHyps.{all_taken}
use Rattle.push_laws.proofs.Entries.{IsTaken, same_symbol}
use Rattle.push_laws.proofs.Facts.{IsBook, IsOwnFormula, FrameIsApart, Begins}
use Rattle.push_laws.proofs.Lists.{zip_left, zip_weaker, any_contains, contains_get, filter_contains, map_get, get_mapped, get_contains}
use Rattle.push_laws.proofs.TreeProofs.{tree_symbols}
use Rattle.push_laws.proofs.Values.{beside}
use Rattle.call_answers.specs.Exportable.{has_no_provable_float}
use Rattle.export_laws.proofs.GoodTrees.{IsGood, IsGoodAs, valued}
use Rattle.export_laws.proofs.FrameTrees.{IsOwnTree, parsed_tree}
use Rattle.export_laws.proofs.FloatValues.{HasValues, has_values, value, taken, value_good, IsSubstituted, is_substituted}
use Rattle.export_laws.proofs.PushPairs.{HasNoFault, has_no_fault, no_clash, no_lack, given_of}
use Rattle.export_laws.proofs.Entries.{floats_have_two, same_start, IsEntry, of_tree, entries_are, no_type_differs, no_hyp_differs, taken_of, IsTakenFor, all_taken_for}

-- ---- an assertion applied

-- what a frame takes from the stack
abbrev pub taken_by : Frame → State → List Formula
taken_by frame st = reverse (take (length frame.hyps) st.stack)

abbrev after : Frame → State → Formula → State
after frame st f = record { stack = f ∷ drop (length frame.hyps) st.stack; kept = st.kept }

pub record IsApplied (thm : Theorem) (frame : Frame) (st next : State) : Type 0 where
  pub count : length frame.hyps ≡ length (taken_by frame st)
  pub none : entries_fault thm frame (zip frame.hyps (taken_by frame st)) ≡ None
  pub stack : next.stack ≡ substituted (zip frame.hyps (taken_by frame st)) frame.formula ∷ drop (length frame.hyps) st.stack
  pub kept : next.kept ≡ st.kept

pub is_applied : (thm : Theorem) (frame : Frame) (st next : State) → apply_frame thm frame st ≡ Ok next → IsApplied thm frame st next
is_applied thm frame st next e = go (nat_lt (length st.stack) (length frame.hyps)) (entries_fault thm frame (zip frame.hyps (taken_by frame st))) refl refl e
  where
    go : (b : Bool) (o : Option MachineFault) → nat_lt (length st.stack) (length frame.hyps) ≡ b → entries_fault thm frame (zip frame.hyps (taken_by frame st)) ≡ o
        → cond b (Err underflow) (and_then (λ f. Ok (after frame st f)) (unless o (substituted (zip frame.hyps (taken_by frame st)) frame.formula))) ≡ Ok next → IsApplied thm frame st next
    go true o i j k = absurd cc
    go false (Some x) i j k = absurd cc
    go false None i j k =
        let same : after frame st (substituted (zip frame.hyps (taken_by frame st)) frame.formula) ≡ next = cc in
        let less = ltb-false (length st.stack) (length frame.hyps) i in
        record {
          count = sym (length-reverse (take (length frame.hyps) st.stack) ∙ length-take-le (length frame.hyps) st.stack less);
          none = j;
          stack = sym (ap (λ (x : State). x.stack) same);
          kept = sym (ap (λ (x : State). x.kept) same);
        }

-- ---- what holds of a push

-- the push is by a usable assertion before the theorem, with values that make its conclusion the formula and its `$e` the formulas
-- that it takes, which are given or pushed before; nothing clashes, and the needed pairs are active
pub record IsPush (db : Database) (thm : Theorem) (seen : List Formula) (p : Push) : Type 0 where
  pub label : Label
  pub is_label : label_of db p.label ≡ Some label
  pub by : Use
  pub usable : db.usable label ≡ Some by.assertion
  pub before : position_of db label < thm.at
  pub typecodes : map code_of by.values ≡ map (λ (v : TypedVariable). v.code) by.assertion.vars
  pub provable : Sym
  pub provable_is : symbol_of db db.provable ≡ Some provable
  pub formula : p.formula ≡ provable ∷ tree_symbols db (valued_by by by.assertion.tree)
  pub good : IsGoodAs db thm.at (logic_code db) (valued_by by by.assertion.tree)
  pub hyps : AllZip (λ t g. (g ≡ provable ∷ tree_symbols db (valued_by by t)) × IsGoodAs db thm.at (logic_code db) (valued_by by t) × Contains seen g) by.assertion.hyps p.taken
  pub clash : clash_of by ≡ None
  pub lack : lack_of dv.Given (given_of db thm) by ≡ None

start_of : (g : Formula) (c : Sym) (ss : Formula) → g ≡ c ∷ ss → take 1 g ≡ c ∷ []
start_of g c ss e = ap (take 1) e

module _ (db : Database) (book : IsBook db) (thm : Theorem) (same_hyps : thm.hyps ≡ (db.active_at thm.at).hyps) (seen : List Formula) where
  module _ (l : Label) (frame : Frame) (is_frame : db.frame l ≡ Some frame) (no_float : has_no_provable_float db frame.hyps ≡ true) (st next : State)
      (entries_ok : AllByRecursion (IsEntry db thm.at seen) st.stack) (applied : IsApplied thm frame st next) where
    abbrev pub gs : List Formula
    gs = taken_by frame st

    abbrev pub entries : List Entry
    entries = zip frame.hyps gs

    abbrev pub apart : FrameIsApart db frame
    apart = book.frames_apart l frame is_frame

    abbrev pub differ : VariablesDiffer (typed_variables frame.hyps)
    differ = (book.facts.frames l frame is_frame).variables

    pub no_fault : HasNoFault thm frame entries
    no_fault = has_no_fault thm frame entries applied.none

    pub taken_ok : AllByRecursion (IsEntry db thm.at seen) gs
    taken_ok = all-reverse (IsEntry db thm.at seen) (take (length frame.hyps) st.stack) (all_taken (IsEntry db thm.at seen) (length frame.hyps) st.stack entries_ok)

    pub has : HasValues db thm.at frame.hyps gs
    has = has_values db thm.at frame.hyps gs
        (entries_are db thm.at seen frame.hyps gs applied.count (floats_have_two frame.hyps (book.facts.frames l frame is_frame).floats) no_float
        (no_type_differs db thm.at entries no_fault.types) taken_ok)

    abbrev pub the_value : Sym → Tree
    the_value = value db thm.at book frame apart differ gs has

    abbrev pub Is : Sym → Typecode → Tree → Formula → Type 0
    Is c d t g = IsSubstituted db thm.at book frame apart differ gs has c d t g

    pub is_of : (g : Formula) (c : Sym) (rest : Formula) (d : Typecode) (t : Tree) → g ≡ c ∷ rest → db.is_constant_at c frame.at ≡ true → IsOwnFormula db frame g → IsOwnTree db thm.at frame g d t
        → Is c d t g
    is_of g c rest d t = is_substituted db thm.at book frame apart differ gs has g c rest d t

    pub begins_by : (c : Sym) (rest : Formula) → frame.formula ≡ c ∷ rest → db.is_constant_at c frame.at ≡ true
    begins_by c rest e = subst (Begins db frame.at) e apart.begins

    -- one that is not provable leaves the text of a tree
    pub other_entry : (c : Sym) (rest : Formula) (t : Tree) → frame.formula ≡ c ∷ rest → is_provable db frame.formula ≡ false → IsOwnTree db thm.at frame frame.formula (typecode c) t
        → IsEntry db thm.at seen (substituted entries frame.formula)
    other_entry c rest t e n own =
        let s = is_of frame.formula c rest (typecode c) t e (begins_by c rest e) (book.own l frame is_frame).formula own in
        let u = valued the_value t in
        of_tree c u s.good s.formula
        (same_start db (substituted entries frame.formula) frame.formula (start_of (substituted entries frame.formula) c (tree_symbols db u) s.formula ∙ sym (start_of frame.formula c rest e)) ∙ n)

  -- ---- a usable assertion

  module _ (l : Label) (a : Assertion) (usable : db.usable l ≡ Some a) (less : a.frame.at < thm.at) (no_float : has_no_provable_float db a.frame.hyps ≡ true) (st next : State)
      (entries_ok : AllByRecursion (IsEntry db thm.at seen) st.stack) (applied : IsApplied thm a.frame st next) where
    is_usable : IsUsable db l a
    is_usable = book.facts.usable l a usable

    abbrev f : Frame
    f = a.frame

    abbrev values : HasValues db thm.at a.frame.hyps (taken_by a.frame st)
    values = has l a.frame is_usable.frame no_float st next entries_ok applied

    abbrev look : List TypedVariable → Sym → Tree
    look vs s = beside (λ t. t) no_tree (zip vs values.trees) s

    abbrev by : Use
    by = record { assertion = a; values = values.trees }

    abbrev provable : Sym
    provable = is_usable.conclusion.provable.begins.0

    provable_is : symbol_of db db.provable ≡ Some provable
    provable_is = is_usable.conclusion.provable.begins.3

    formula_is : a.frame.formula ≡ provable ∷ is_usable.conclusion.provable.begins.1
    formula_is = is_usable.conclusion.provable.begins.2

    constant : db.is_constant_at provable a.frame.at ≡ true
    constant = begins_by l a.frame is_usable.frame no_float st next entries_ok applied provable is_usable.conclusion.provable.begins.1 formula_is

    any_provable : (ss : Formula) → is_provable db (provable ∷ ss) ≡ true
    any_provable ss = or_left _ false ((bytes_eq-Decides (symbol_name db provable) db.provable).1 (symbol_told db db.provable provable provable_is).name)

    earlier : a.frame.at ≤ thm.at
    earlier = omega (arith, less)

    -- the formula of a tree that was read
    abbrev Says : (Sym → Tree) → Formula → Tree → Type 0
    Says v g t = (substituted (zip a.frame.hyps (taken_by a.frame st)) g ≡ provable ∷ tree_symbols db (valued v t)) × IsGoodAs db thm.at (logic_code db) (valued v t)

    said : (g : Formula) (t : Tree) → IsRead db a.frame.at g t → IsOwnFormula db a.frame g → Says (look a.vars) g t
    said g t r own =
        let b = r.provable.begins in
        let both : Some b.0 ≡ Some provable = sym b.3 ∙ provable_is in
        let same : b.0 ≡ provable = cc in
        let e : g ≡ provable ∷ b.1 = b.2 ∙ ap (λ (x : Sym). x ∷ b.1) same in
        let s = is_of l a.frame is_usable.frame no_float st next entries_ok applied g provable b.1 (logic_code db) t e constant own
        (parsed_tree db thm.at a.frame g (logic_code db) t earlier r.tree.parses own) in
        let said' : Says (look (typed_variables a.frame.hyps)) g t = (s.formula, s.good) in
        subst (λ vs. Says (look vs) g t) (sym is_usable.vars) said'

    all_said : AllZip (λ (h : Hyp) t. Says (look a.vars) h.formula t) (essentials a.frame.hyps) a.hyps
    all_said = zip_left (λ (h : Hyp) t. IsRead db a.frame.at h.formula t) (λ (h : Hyp) t. Says (look a.vars) h.formula t) (λ (h : Hyp). IsOwnFormula db a.frame h.formula)
        (λ h t own r. said h.formula t r own) (essentials a.frame.hyps) a.hyps (book.own l a.frame is_usable.frame).hyps is_usable.hyps

    taken_are : AllZip (λ t g. (g ≡ provable ∷ tree_symbols db (valued_by by t)) × IsGoodAs db thm.at (logic_code db) (valued_by by t) × Contains seen g) a.hyps
        (taken_of db thm.at a.frame.hyps (taken_by a.frame st))
    taken_are =
        let fault = no_fault l a.frame is_usable.frame no_float st next entries_ok applied in
        let entries' = zip a.frame.hyps (taken_by a.frame st) in
        let Good : Tree → Type 0 = λ t. IsGoodAs db thm.at (logic_code db) (valued_by by t) in
        let symbols : Tree → Formula = λ t. tree_symbols db (valued_by by t) in
        zip_weaker (IsTakenFor db thm.at seen entries' provable any_provable symbols Good)
        (λ t g. (g ≡ provable ∷ tree_symbols db (valued_by by t)) × IsGoodAs db thm.at (logic_code db) (valued_by by t) × Contains seen g)
        (λ t g x. (x.formula, x.good, x.stands)) a.hyps (taken_of db thm.at a.frame.hyps (taken_by a.frame st))
        (all_taken_for db thm.at seen entries' provable any_provable symbols Good a.frame.hyps (taken_by a.frame st) a.hyps applied.count (no_hyp_differs db thm.at entries' fault.hyps)
        (taken_ok l a.frame is_usable.frame no_float st next entries_ok applied) all_said)

    conclusion : Says (look a.vars) a.frame.formula a.tree
    conclusion = said a.frame.formula a.tree is_usable.conclusion (book.own l a.frame is_usable.frame).formula

    codes_of : (vs : List TypedVariable) (ts : List Tree) → AllZip (λ (v : TypedVariable) t. IsGoodAs db thm.at v.code t) vs ts → map code_of ts ≡ map (λ (v : TypedVariable). v.code) vs
    codes_of [] [] z = refl
    codes_of [] (t ∷ ts) z = absurd z
    codes_of (v ∷ vs) [] z = absurd z
    codes_of (v ∷ vs) (t ∷ ts) z = let one = z.0.code in let rest = codes_of vs ts z.1 in cc

    taken_values : AllZip (IsTaken (λ s. tree_symbols db (value_of by s))) a.frame.hyps (taken_by a.frame st)
    taken_values = subst (λ vs. AllZip (IsTaken (λ s. tree_symbols db (look vs s))) a.frame.hyps (taken_by a.frame st)) (sym is_usable.vars)
        (taken db thm.at book a.frame (book.frames_apart l a.frame is_usable.frame) (book.facts.frames l a.frame is_usable.frame).variables (taken_by a.frame st) values)

    good_value : (s : Sym) → list_any (is_float_of s) a.frame.hyps ≡ true → IsGood db thm.at (value_of by s)
    good_value s e =
        let h = any_contains (is_float_of s) a.frame.hyps e in
        let two = and_parts h.0.floating (list_any (λ (v : Sym). v.0 == s.0) (drop 1 h.0.formula)) h.2 in
        let at = contains_get (floats a.frame.hyps) h.0 (filter_contains (λ (x : Hyp). x.floating) a.frame.hyps h.0 h.1 two.0) in
        let formula : slice_get (map float_formula (typed_variables a.frame.hyps)) at.0 ≡ Some h.0.formula =
        ap (λ fs. slice_get fs at.0) (sym (book.facts.frames l a.frame is_usable.frame).floats) ∙ map_get (λ (x : Hyp). x.formula) (floats a.frame.hyps) at.0 h.0 at.1 in
        let v = get_mapped float_formula (typed_variables a.frame.hyps) at.0 h.0.formula formula in
        let it : ((v.0.sym.0 == s.0) || false) ≡ true = ap (λ (g : Formula). list_any (λ (x : Sym). x.0 == s.0) (drop 1 g)) v.2 ∙ two.1 in
        let good = value_good db thm.at book a.frame (book.frames_apart l a.frame is_usable.frame) (book.facts.frames l a.frame is_usable.frame).variables (taken_by a.frame st) values v.0
        (get_contains (typed_variables a.frame.hyps) at.0 v.0 v.1) in
        subst (λ vs. IsGood db thm.at (look vs s)) (sym is_usable.vars) (subst (λ x. IsGood db thm.at (look (typed_variables a.frame.hyps) x)) (the_symbol v.0.sym s it) good.good)
      where
        the_symbol : (v s : Sym) → ((v.0 == s.0) || false) ≡ true → v ≡ s
        the_symbol v s e = elim (or_cases (v.0 == s.0) false e) [ inl d ↦ same_symbol v s d | inr d ↦ let bad : false ≡ true = d in absurd cc ]

    -- what it pushes
    pub usable_push : (name : Name) → label_of db name ≡ Some l
        → IsPush db thm seen (record { label = name; taken = taken_from st.stack a.frame; formula = substituted (zip a.frame.hyps (taken_by a.frame st)) a.frame.formula })
    usable_push name named =
        let fault = no_fault l a.frame is_usable.frame no_float st next entries_ok applied in
        let pairs = (book.frames_apart l a.frame is_usable.frame).pairs in
        record {
          label = l;
          is_label = named;
          by = by;
          usable = usable;
          before = subst (λ (n : ℕ). n < thm.at) (book.facts.frames l a.frame is_usable.frame).at less;
          typecodes = codes_of (typed_variables a.frame.hyps) values.trees values.values ∙ ap (map (λ (v : TypedVariable). v.code)) (sym is_usable.vars);
          provable = provable;
          provable_is = provable_is;
          formula = conclusion.0;
          good = conclusion.1;
          hyps = taken_are;
          clash = no_clash db book thm same_hyps by (taken_by a.frame st) taken_values pairs good_value fault;
          lack = no_lack db book thm same_hyps by (taken_by a.frame st) taken_values pairs good_value fault;
        }
