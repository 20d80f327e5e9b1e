-- What is kept of a text is the database of the definitions.
use Rattle.std.specs.Prelude.{◌≡◌, ◌<◌, ◌≤◌, ◌+◌, ◌^◌, ◌-◌, ◌==◌, ℕ, true, nat_le, List, [], ◌∷◌, length, map, drop, find, slice_get, Option, Some}
use Rattle.std.specs.Prelude.{None, option_map, option_and_then, refl}
use Rattle.std.specs.List.{AllZip, AllByRecursion, filter_map, cons_option, range_with_len}
use Rattle.std.proofs.Common.{arith, sym, ap, ◌∙◌, subst, cond}
use Rattle.std.proofs.lemmas.Bool.{and_parts, and_from, eqb-true, eq-eqb, leb-true, le-leb}
use Rattle.std.proofs.lemmas.Option.{slice_get-get_or, slice_get_within}
use Rattle.std.proofs.lemmas.List.FromFn.{get_or-map-range_with_len, length-map-range_with_len}
use Rattle.mm_base.specs.declared.symbols.Sym.{Sym}
use Rattle.mm_base.specs.declared.symbols.Label.{Label}
use Rattle.mm_base.specs.declared.tree.Tree.{Tree}
use Rattle.mm_base.specs.declared.kinds.Kinds.{Kinds}
use Rattle.mm_model.specs.declared.frames.Hyp.{Hyp}
use Rattle.mm_model.specs.declared.frames.Frame.{Frame}
use Rattle.mm_model.specs.declared.rows.Leaf.TheVariants as leaf
use Rattle.mm_model.specs.declared.rows.Production.{Production}
use Rattle.mm_model.specs.Names.{label}
use Rattle.mm_model.specs.Statements.{Statement, statements, labels, database_fault}
use Rattle.mm_model.specs.Frames.{symbols, frame_of, is_constant_at}
use Rattle.mm_model.specs.Productions.{TypedVariable, typed_variables, essentials, kept_rows}
use Rattle.mm_model.specs.Book.{Database, Assertion, float_of, expression_at, IsRead, IsUsable, IsDatabaseOf, logic_code}
use Rattle.model_laws.specs.FrameLaws.{own_leaf, IsOwn, ShowsText, HasOwnExpressions, FramesHaveOwnExpressions}
use Rattle.mm_database.specs.declared.assertions.Parsed.{Parsed}
use Rattle.mm_database.specs.declared.variables.FrameVariable.{FrameVariable}
use Rattle.mm_database.specs.Variables.{frame_variables, code_of}
use Rattle.mm_database.specs.Formulas.{IsAnswer, IsReadBy, IsOneTree, is_assertion, leaf_of}
use Rattle.mm_database.specs.Assertions.{IsParsed, IsKept, AreParsed}
use Rattle.mm_database.specs.Books.{kinds_in, parsed_at, assertion_of, usable_with, database_of}
use Rattle.mm_database.specs.Opened.{IsKeptOf}
use Rattle.frame_lists.specs.Listings.{constant_places}
use Rattle.mm_database.proofs.Constants.{constants_same}
use Rattle.mm_database.proofs.Typed.{typed_as, typed_are, find_map, map_map}
use Rattle.mm_database.proofs.Zips.{Beside, zip_at, zip_back}

-- ---- a frame's variables

same_codes : (o : Option FrameVariable) → option_map (λ (v : TypedVariable). v.code) (option_map typed_as o) ≡ option_map (λ (v : FrameVariable). v.code) o
same_codes None = refl
same_codes (Some v) = refl

code_is : (hyps : List Hyp) (s : Sym) → code_of (frame_variables hyps) s ≡ float_of s hyps
code_is hyps s =
    sym (ap (λ vs. option_map (λ (v : TypedVariable). v.code) (find (λ (v : TypedVariable). v.sym.0 == s.0) vs)) (typed_are hyps)
    ∙ ap (option_map (λ (v : TypedVariable). v.code)) (find_map (λ (v : TypedVariable). v.sym.0 == s.0) typed_as (frame_variables hyps))
    ∙ same_codes (find (λ (v : FrameVariable). v.sym.0 == s.0) (frame_variables hyps)))

pub syms_are : (hyps : List Hyp) → map (λ (v : TypedVariable). v.sym) (typed_variables hyps) ≡ map (λ (v : FrameVariable). v.sym) (frame_variables hyps)
syms_are hyps = ap (map (λ (v : TypedVariable). v.sym)) (typed_are hyps) ∙ map_map (λ (v : TypedVariable). v.sym) typed_as (frame_variables hyps)

all_rest : (P : Sym → Type 0) (ss : List Sym) → AllByRecursion P ss → AllByRecursion P (drop 1 ss)
all_rest P [] h = tt
all_rest P (s ∷ ss) h = h.1

-- ---- a formula that begins with the provable typecode

record Begins (o : Option Sym) (formula : List Sym) : Type 0 where
  first : Sym
  rest : List Sym
  is : formula ≡ first ∷ rest
  named : o ≡ Some first
  short : length formula ≤ 4096

abbrev symbol : ℕ → Sym
symbol n = record { 0 = n }

begins : (o : Option Sym) (formula : List Sym) → is_assertion o formula ≡ true → Begins o formula
begins None formula e = absurd (cc)
begins (Some s) [] e = absurd (cc)
begins (Some s) (c ∷ rest) e =
    let parts = and_parts (c.0 == s.0) (nat_le (length (c ∷ rest)) 4096) e in
    let same : c ≡ s = ap symbol (eqb-true c.0 s.0 parts.0) in
    record { first = c; rest = rest; is = refl; named = ap (λ x. Some x) (sym same); short = leb-true (length (c ∷ rest)) 4096 parts.1 }

begins_from : (o : Option Sym) (s : Sym) (rest formula : List Sym) → formula ≡ s ∷ rest → o ≡ Some s → length formula ≤ 4096 → is_assertion o formula ≡ true
begins_from o s rest formula is named short =
    ap (λ f. is_assertion o f) is ∙ ap (λ p. is_assertion p (s ∷ rest)) named
    ∙ and_from (s.0 == s.0) (nat_le (length (s ∷ rest)) 4096) (eq-eqb s.0 s.0 refl) (le-leb (length (s ∷ rest)) 4096 (subst (λ f. length f ≤ 4096) is short))

-- ---- the database of a text

module _ (kinds : Kinds) (text : List ℕ) (ok : database_fault text ≡ None) (own : FramesHaveOwnExpressions) (small : length (statements text) ≤ 2 ^ 32 - 1)
    (rows : List Production) (parsed : List (Option Parsed)) (rows_are : rows ≡ kept_rows kinds.provable (statements text))
    (are : AreParsed (kinds_in (symbols (statements text)) kinds) rows (constant_places (statements text))
    (map (λ n. frame_of (statements text) (label n)) (range_with_len 0 (length (labels (statements text))))) parsed) where
  abbrev ss : List Statement
  ss = statements text

  abbrev pub db : Database
  db = database_of kinds text rows parsed

  shows : ShowsText text db
  shows = record { symbols = refl; frame = λ l. refl; active_at = λ place. refl; is_constant_at = λ s place. refl }

  abbrev frames : List (Option Frame)
  frames = map (λ n. frame_of ss (label n)) (range_with_len 0 (length (labels ss)))

  -- the frame of a label stands at its number
  frame_stands : (l : Label) → l.0 < length (labels ss) → slice_get frames l.0 ≡ Some (frame_of ss l)
  frame_stands l within =
      let n = length (labels ss) in
      let long = length-map-range_with_len (λ n. frame_of ss (label n)) 0 n in
      let same : 0 + l.0 ≡ l.0 = omega arith in
      slice_get-get_or frames l.0 None (omega (arith, within, long)) ∙ ap (λ f. Some f) (get_or-map-range_with_len (λ n. frame_of ss (label n)) 0 n l.0 l.0 None within same)

  module _ (l : Label) (f : Frame) (frame : frame_of ss l ≡ Some f) where
    facts : HasOwnExpressions text db l f
    facts = own text db shows ok l f frame

    leaf_is : (s : Sym) → s.0 < length (symbols ss) → leaf_of (constant_places ss) f.at (frame_variables f.hyps) s ≡ own_leaf db f s
    leaf_is s within =
        let place = facts.place in
        ap (λ b. cond b (Some (leaf.Const s)) (option_map (λ c. leaf.Var s c) (code_of (frame_variables f.hyps) s))) (constants_same ss s f.at within (omega (arith, place, small)))
        ∙ ap (λ o. cond (is_constant_at ss s f.at) (Some (leaf.Const s)) (option_map (λ c. leaf.Var s c) o)) (code_is f.hyps s)

    leaves_are : (syms : List Sym) → AllByRecursion (λ s. s.0 < length (symbols ss)) syms
        → filter_map (leaf_of (constant_places ss) f.at (frame_variables f.hyps)) syms ≡ filter_map (own_leaf db f) syms
    leaves_are [] h = refl
    leaves_are (s ∷ syms) h =
        ap (λ o. cons_option o (filter_map (leaf_of (constant_places ss) f.at (frame_variables f.hyps)) syms)) (leaf_is s h.0) ∙ ap (cons_option (own_leaf db f s)) (leaves_are syms h.1)

    expression_is : (formula : List Sym) → IsOwn db f formula → filter_map (leaf_of (constant_places ss) f.at (frame_variables f.hyps)) (drop 1 formula) ≡ expression_at db f.at formula
    expression_is formula h = leaves_are (drop 1 formula) (all_rest (λ s. s.0 < length (symbols ss)) formula h.symbols) ∙ h.expression

    abbrev ReadBy : List Sym → Tree → Type 0
    ReadBy formula t = IsReadBy (kinds_in (symbols ss) kinds) rows (constant_places ss) f.at (frame_variables f.hyps) formula t

    read_is : (formula : List Sym) (t : Tree) → IsOwn db f formula → ReadBy formula t → IsRead db f.at formula t
    read_is formula t h r =
        let same = expression_is formula h in
        let b = begins (kinds_in (symbols ss) kinds).provable formula r.assertion in
        let one = subst (λ e. IsOneTree rows f.at e (logic_code db) t) same r.tree in
        record {
          provable = record { begins = (b.first, b.rest, b.is, b.named); short = b.short };
          tree = record { parses = one.parses; only = one.only };
        }

    read_from : (formula : List Sym) (t : Tree) → IsOwn db f formula → IsRead db f.at formula t → ReadBy formula t
    read_from formula t h r =
        let same = expression_is formula h in
        let one : IsOneTree rows f.at (expression_at db f.at formula) (logic_code db) t = record { parses = r.tree.parses; only = r.tree.only } in
        let b = r.provable.begins in
        record {
          assertion = begins_from (kinds_in (symbols ss) kinds).provable b.0 b.1 formula b.2 b.3 r.provable.short;
          tree = subst (λ e. IsOneTree rows f.at e (logic_code db) t) (sym same) one;
        }

    all_read : (hs : List Hyp) (ts : List Tree) → AllByRecursion (λ (h : Hyp). IsOwn db f h.formula) hs → AllZip (λ (h : Hyp) (t : Tree). ReadBy h.formula t) hs ts
        → AllZip (λ (h : Hyp) (t : Tree). IsRead db f.at h.formula t) hs ts
    all_read [] [] o z = tt
    all_read [] (t ∷ ts) o z = absurd z
    all_read (h ∷ hs) [] o z = absurd z
    all_read (h ∷ hs) (t ∷ ts) o z = (read_is h.formula t o.0 z.0, all_read hs ts o.1 z.1)

    all_from : (hs : List Hyp) (ts : List Tree) → AllByRecursion (λ (h : Hyp). IsOwn db f h.formula) hs → AllZip (λ (h : Hyp) (t : Tree). IsRead db f.at h.formula t) hs ts
        → AllZip (λ (h : Hyp) (t : Tree). ReadBy h.formula t) hs ts
    all_from [] [] o z = tt
    all_from [] (t ∷ ts) o z = absurd z
    all_from (h ∷ hs) [] o z = absurd z
    all_from (h ∷ hs) (t ∷ ts) o z = (read_from h.formula t o.0 z.0, all_from hs ts o.1 z.1)

    abbrev Parses_as : Parsed → Type 0
    Parses_as p = IsParsed (kinds_in (symbols ss) kinds) rows (constant_places ss) f p

    kept : Beside (IsKept (kinds_in (symbols ss) kinds) rows (constant_places ss)) frames parsed l.0 (Some f)
    kept = zip_at (IsKept (kinds_in (symbols ss) kinds) rows (constant_places ss)) frames parsed are l.0 (Some f) (frame_stands l facts.label ∙ ap (λ o. Some o) frame)

    kept_at : parsed_at parsed l ≡ kept.other
    kept_at = ap (option_and_then (λ (o : Option Parsed). o)) kept.stands

    -- what is kept is usable
    usable_by : (p : Parsed) → Parses_as p → IsUsable db l (assertion_of l f p)
    usable_by p is = record {
      frame = frame;
      label = refl;
      conclusion = read_is f.formula p.tree facts.formula is.conclusion;
      hyps = all_read (essentials f.hyps) p.hyps facts.hyps is.hyps;
      vars = refl;
    }

    kept_is : (o : Option Parsed) → IsAnswer Parses_as o → (p : Parsed) → o ≡ Some p → Parses_as p
    kept_is None h p e = absurd (cc)
    kept_is (Some q) h p e = let same : q ≡ p = cc in subst Parses_as same h.0

    -- what is usable is kept
    abbrev parsed_of : Assertion → Parsed
    parsed_of a = record { tree = a.tree; hyps = a.hyps; vars = map (λ (v : FrameVariable). v.sym) (frame_variables f.hyps) }

    kept_all : (o : Option Parsed) → IsAnswer Parses_as o → (p : Parsed) → Parses_as p → o ≡ Some p
    kept_all None h p is = absurd (h p is)
    kept_all (Some q) h p is = ap (λ x. Some x) (sym (h.1 p is))

    abbrev built : Label → Frame → Tree → List Tree → List TypedVariable → Assertion
    built l' f' t ts vs = record { label = l'; frame = f'; tree = t; hyps = ts; vars = vs }

    usable_is_kept : (a : Assertion) → a.frame ≡ f → IsUsable db l a → option_map (assertion_of l f) (parsed_at parsed l) ≡ Some a
    usable_is_kept a own_frame u =
        let conclusion = subst (λ (g : Frame). IsRead db g.at g.formula a.tree) own_frame u.conclusion in
        let hyps = subst (λ (g : Frame). AllZip (λ (h : Hyp) (t : Tree). IsRead db g.at h.formula t) (essentials g.hyps) a.hyps) own_frame u.hyps in
        let vars = subst (λ (g : Frame). a.vars ≡ typed_variables g.hyps) own_frame u.vars in
        let p = parsed_of a in
        let is : Parses_as p = record {
          conclusion = read_from f.formula a.tree facts.formula conclusion;
          hyps = all_from (essentials f.hyps) a.hyps facts.hyps hyps;
          vars = refl;
        } in
        ap (option_map (assertion_of l f)) (kept_at ∙ kept_all kept.other kept.belongs p is)
        ∙ ap (λ x. Some x) (ap (λ x. built x f a.tree a.hyps (typed_variables f.hyps)) (sym u.label) ∙ ap (λ x. built a.label x a.tree a.hyps (typed_variables f.hyps)) (sym own_frame)
        ∙ ap (built a.label a.frame a.tree a.hyps) (sym vars))

    from_some : (o : Option Parsed) → parsed_at parsed l ≡ o → (a : Assertion) → option_map (assertion_of l f) (parsed_at parsed l) ≡ Some a → IsUsable db l a
    from_some None is a e = let bad : ◌≡◌ {A = Option Assertion} None (Some a) = ap (option_map (assertion_of l f)) (sym is) ∙ e in absurd (cc)
    from_some (Some p) is a e =
        let made : Some (assertion_of l f p) ≡ Some a = ap (option_map (assertion_of l f)) (sym is) ∙ e in
        let same : assertion_of l f p ≡ a = cc in
        subst (IsUsable db l) same (usable_by p (kept_is kept.other kept.belongs p (sym kept_at ∙ is)))

  usable_frame : (l : Label) (o : Option Frame) → frame_of ss l ≡ o → (a : Assertion) → usable_with parsed l o ≡ Some a → IsUsable db l a
  usable_frame l None is a e = absurd (cc)
  usable_frame l (Some f) is a e = from_some l f is (parsed_at parsed l) refl a e

  -- what is kept is kept of an assertion
  kept_of : (l : Label) (p : Parsed) (o : Option Frame) → frame_of ss l ≡ o → IsKept (kinds_in (symbols ss) kinds) rows (constant_places ss) o (Some p) → IsKeptOf text l p
  kept_of l p None is h = absurd (cc)
  kept_of l p (Some f) is h = record { frame = f; frame_is = is; vars = h.0.vars ∙ sym (syms_are f.hyps) }

  at_number : (o : Option (Option Parsed)) (p : Parsed) → option_and_then (λ (x : Option Parsed). x) o ≡ Some p → o ≡ Some (Some p)
  at_number None p e = absurd (cc)
  at_number (Some o) p e = ap (λ x. Some x) e

  pub is_kept : (l : Label) (p : Parsed) → parsed_at parsed l ≡ Some p → IsKeptOf text l p
  is_kept l p e =
      let z = zip_back (IsKept (kinds_in (symbols ss) kinds) rows (constant_places ss)) frames parsed are l.0 (Some p) (at_number (slice_get parsed l.0) p e) in
      let below = slice_get_within frames l.0 z.other z.stands in
      let long = length-map-range_with_len (λ n. frame_of ss (label n)) 0 (length (labels ss)) in
      let there = frame_stands l (omega (arith, below, long)) in
      let same : frame_of ss l ≡ z.other = cc in
      kept_of l p z.other same z.belongs

  pub is_database : IsDatabaseOf kinds text db
  is_database = record {
    provable = refl;
    logic = refl;
    symbols = refl;
    labels = refl;
    positions = refl;
    statement_count = refl;
    frame = λ l. refl;
    active_at = λ place. refl;
    is_constant_at = λ s place. refl;
    place_after = λ l. refl;
    float_codes = λ place. refl;
    rows = rows_are;
    usable_is = λ l a e. usable_frame l (frame_of ss l) refl a e;
    usable_all = λ l a u. ap (usable_with parsed l) u.frame ∙ usable_is_kept l a.frame u.frame a refl u;
  }
