-- The worksheet by what is kept is that of the definitions.
use Rattle.std.specs.Prelude.{◌≡◌, ℕ, List, [], ◌∷◌, map, Option, refl}
use Rattle.std.proofs.Common.{sym, ap, ◌∙◌}
use Rattle.mm_base.specs.declared.kinds.Kinds.{Kinds}
use Rattle.mm_base.specs.declared.symbols.Pair.{Pair}
use Rattle.mm_base.specs.declared.tree.Tree.{Tree}
use Rattle.mm_model.specs.declared.rows.Leaf.{Leaf}
use Rattle.mm_model.specs.declared.rows.Leaf.TheVariants as leaf
use Rattle.mm_model.specs.Names.{Name}
use Rattle.mm_model.specs.Texts.{text as text_of}
use Rattle.mm_model.specs.Book.{Database}
use Rattle.mm_frames.specs.Contents.{Contents}
use Rattle.mm_database.specs.Opened.{Opened, IsOpened}
use Rattle.sheet_text.specs.declared.sheet.Sheet.{Sheet}
use Rattle.sheet_text.specs.declared.sheet.SheetItem.{SheetItem}
use Rattle.sheet_text.specs.declared.sheet.SheetItem.TheVariants as item
use Rattle.sheet_text.specs.declared.sheet.PairLine.{PairLine}
use Rattle.written_model.specs.declared.options.Options.{Options}
use Rattle.written_model.specs.WrittenSteps.{WrittenItem}
use Rattle.written_model.specs.Written.{Writing, leaf_name, formula_tokens, written_item, written_pair, written_sheet, written_pairs}
use Rattle.written_steps.specs.declared.draft.DraftItem.{DraftItem}
use Rattle.written_steps.specs.declared.draft.DraftItem.TheVariants as draft
use Rattle.written_steps.specs.Drafts.{book, item_in, items_in}
use Rattle.sheet_writing.specs.Sheets.{leaf_in, tokens_in, step_with, sheet_item, pair_line, sheet_in, sheet_of}

module _ (kinds : Kinds) (text : List ℕ) (d : Opened) (opened : IsOpened kinds text d) where
  abbrev db : Database
  db = book kinds text d

  symbols_are : d.contents.symbols ≡ db.symbols
  symbols_are = ap (λ (c : Contents). c.symbols) opened.contents

  leaf_is : (x : Leaf) → leaf_in db.symbols x ≡ leaf_name db x
  leaf_is (leaf.Const s) = refl
  leaf_is (leaf.Var s c) = refl
  leaf_is (leaf.Work c n) = refl

  leaves_are : (xs : List Leaf) → map (leaf_in db.symbols) xs ≡ map (leaf_name db) xs
  leaves_are [] = refl
  leaves_are (x ∷ xs) = ap (λ n. n ∷ map (leaf_in db.symbols) xs) (leaf_is x) ∙ ap (λ ns. leaf_name db x ∷ ns) (leaves_are xs)

  tokens_are : (provable : Name) (t : Tree) → kinds.provable ≡ provable → tokens_in d provable t ≡ formula_tokens db t
  tokens_are provable t e =
      ap (λ (p : Name). p ∷ map (leaf_in d.contents.symbols) (text_of d.rows t)) (sym e)
      ∙ ap (λ (ns : List Name). kinds.provable ∷ map (leaf_in ns) (text_of d.rows t)) symbols_are ∙ ap (λ ns. kinds.provable ∷ ns) (leaves_are (text_of d.rows t))

  item_is : (provable : Name) (i : DraftItem) → kinds.provable ≡ provable → sheet_item d provable i ≡ written_item db (item_in d i)
  item_is provable (draft.Comment lines) e = refl
  item_is provable (draft.Step s) e = ap (λ (f : List Name). item.Step (step_with s f)) (tokens_are provable s.tree e)

  items_are : (provable : Name) (items : List DraftItem) → kinds.provable ≡ provable → map (sheet_item d provable) items ≡ map (written_item db) (items_in d items)
  items_are provable [] e = refl
  items_are provable (i ∷ items) e =
      ap (λ (x : SheetItem). x ∷ map (sheet_item d provable) items) (item_is provable i e) ∙ ap (λ xs. written_item db (item_in d i) ∷ xs) (items_are provable items e)

  pairs_are : (ps : List Pair) → map (pair_line db.symbols) ps ≡ map (written_pair db) ps
  pairs_are [] = refl
  pairs_are (p ∷ ps) = ap (λ xs. pair_line db.symbols p ∷ xs) (pairs_are ps)

  abbrev sheet_with : Name → Option Name → List SheetItem → List PairLine → Sheet
  sheet_with theorem loc xs ps = record { line = 0; theorem = theorem; loc = loc; items = xs; pairs = ps }

  pub sheet_is : (provable theorem : Name) (loc : Option Name) (items : List DraftItem) (pairs : List Pair) → kinds.provable ≡ provable
      → sheet_in d provable theorem loc items pairs ≡ sheet_of db theorem loc (items_in d items) pairs
  sheet_is provable theorem loc items pairs e =
      ap (λ (xs : List SheetItem). sheet_with theorem loc xs (map (pair_line d.contents.symbols) pairs)) (items_are provable items e)
      ∙ ap (λ (ps : List PairLine). sheet_with theorem loc (map (written_item db) (items_in d items)) ps) (ap (λ (ns : List Name). map (pair_line ns) pairs) symbols_are ∙ pairs_are pairs)

  -- for what a text becomes
  pub sheet_written : (options : Options) (w : Writing) (theorem : Name) (loc : Option Name) (items : List WrittenItem) (pairs : List Pair)
      → w.read.theorem ≡ theorem → w.read.loc ≡ loc → w.items ≡ items
      → written_pairs db options w ≡ pairs → sheet_of db theorem loc items pairs ≡ written_sheet db options w
  sheet_written options w theorem loc items pairs e f g h =
      ap (λ (n : Name). sheet_of db n loc items pairs) (sym e) ∙ ap (λ (o : Option Name). sheet_of db w.read.theorem o items pairs) (sym f)
      ∙ ap (λ (xs : List WrittenItem). sheet_of db w.read.theorem w.read.loc xs pairs) (sym g) ∙ ap (λ (ps : List Pair). sheet_of db w.read.theorem w.read.loc w.items ps) (sym h)
