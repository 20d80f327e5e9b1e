-- A chain that has judged all steps of a bound worksheet: what it is filled to is what the definitions fill it to, and its first formula that is too long is the answer.
use Rattle.std.specs.Prelude.{◌≡◌, ℕ, ◌<◌, ◌≤◌, List, [], ◌∷◌, ◌++◌, length, fold, filter_map, refl}
use Rattle.std.proofs.Common.{◌+◌, sym, ap, subst, ◌∙◌, arith}
use Rattle.std.proofs.lemmas.List.{length-append}
use Rattle.std.proofs.lemmas.List.Elements.{filter_map-append}
use Rattle.mm_base.specs.declared.kinds.Kinds.{Kinds}
use Rattle.mm_model.specs.Book.{Database, logic_code}
use Rattle.mm_model.specs.Names.{Name, typecode}
use Rattle.mm_model.specs.Frames.{symbol_in}
use Rattle.mm_database.specs.Opened.{Opened, IsOpened}
use Rattle.sheet_text.specs.declared.sheet.Sheet.{Sheet}
use Rattle.sheet_text.specs.declared.sheet.SheetItem.{SheetItem}
use Rattle.sheet_text.specs.declared.sheet.SheetItem.TheVariants as item
use Rattle.sheet_text.specs.declared.sheet.SheetStep.{SheetStep}
use Rattle.sheet_text.specs.Layout.{step_of_item, step_names}
use Rattle.solve_model.specs.declared.bound.Bound.{Bound}
use Rattle.solve_model.specs.Bound.{work_size}
use Rattle.solve_model.specs.Solutions.{Valuation}
use Rattle.solve_model.specs.Verdicts.{Judgement, AreJudged, accepted_in}
use Rattle.solve_model.specs.MostGeneral.{IsTheValuation}
use Rattle.fault_lines.specs.Refusals.{formula_too_long}
use Rattle.written_model.specs.declared.options.Options.{Options}
use Rattle.written_model.specs.Opened as written
use Rattle.written_model.specs.WrittenSteps.{WrittenItem, steps_in, trees}
use Rattle.written_model.specs.Filled.{Filling, fill_item, filled_items as filled_to}
use Rattle.written_model.specs.Written.{Answers, refused}
use Rattle.writing_laws.specs.HasLong as long
use Rattle.writing_laws.specs.HasWriting.{IsSolved}
use Rattle.written_steps.specs.declared.draft.DraftItem.{DraftItem}
use Rattle.written_steps.specs.Drafts.{book, items_in}
use Rattle.step_chain.specs.Held.{Held, judgements_of, OfEachBook}
use Rattle.step_chain.specs.Values.{value_of}
use Rattle.step_chain.specs.Answers.{constants_of}
use Rattle.step_chain.proofs.ChainLaws.{logic_told}
use Rattle.step_filling.specs.Answers.{AreFilled, IsLong, IsLongValueOf}
use Rattle.step_filling.specs.Defined.{AreCounted, IsFirstLongOf, LongIsFirst, ShortIsShort}
use Rattle.step_filling.specs.Filled.{IsLongNext}
use Rattle.step_filling.specs.Wanted as chain
use Rattle.step_naming.specs.Named.{AreSmallLeaves}
use Rattle.phase_laws.specs.Places.{IsCounted, BoundIsCounted, SoundIsShort}
use Rattle.filling_laws.specs.Counted.{IsJudgedChain, IsCountedFront, FrontsAreCounted}
use Rattle.filling_laws.specs.Leaves.{LeavesAreSmall}
use Rattle.filling_laws.specs.Values.{BoundComesBefore, ValuesAreShort}
use Rattle.sheet_unify.specs.Answered.{IsFaultOf}
use Rattle.sheet_unify.specs.declared.faults.UnifyFault.{UnifyFault}
use Rattle.sheet_unify.specs.declared.faults.UnifyFault.TheVariants as faults
use Rattle.sheet_unify.specs.Judged.{IsTold, IsChainOf, IsLogicOf, IsJudgedOver, IsFilledBy, IsRefusedBy}
use Rattle.sheet_unify.specs.Made.{IsBoundSheet, HasTexts, ForTexts, IsFilled, IsFilledSound}

-- ---- the numbers of a front

module _ (names : List Name) (bound : Bound) (g : Valuation) (judgements : List Judgement) where
  abbrev next : Filling → SheetItem → Filling
  next = fill_item names bound g judgements

  one_more : (f : Filling) (s : SheetStep) → length (next f (item.Step s)).numbers ≡ length f.numbers + 1
  one_more f s = length-append f.numbers (_ ∷ [])

  -- each step read has its number
  numbers_count : (front : List SheetItem) (f : Filling) → length (fold next f front).numbers ≡ length f.numbers + length (filter_map step_of_item front)
  numbers_count [] f = omega arith
  numbers_count (item.Comment lines ∷ front) f = numbers_count front (next f (item.Comment lines))
  numbers_count (item.Step s ∷ front) f =
      let rest = numbers_count front (next f (item.Step s)) in
      let one = one_more f s in
      omega (arith, rest, one)

-- a front with a step behind it has fewer steps than all
steps_behind : (front rest : List SheetItem) (s : SheetStep) → length (filter_map step_of_item front) < length (filter_map step_of_item (front ++ item.Step s ∷ rest))
steps_behind front rest s =
    let e = ap length (filter_map-append step_of_item front (item.Step s ∷ rest)) in
    let n = length-append (filter_map step_of_item front) (s ∷ filter_map step_of_item rest) in
    omega (arith, e, n)

-- ---- one text of the database, and one of the worksheet

module _ (h : Held) (sheet : Sheet) (told : IsTold h) (kinds : Kinds) (logic : IsLogicOf kinds h) (database text : List ℕ) (opened : IsOpened kinds database h.book)
    (bound_sheet : IsBoundSheet (book kinds database h.book) text sheet h.bound) (bound_counts : BoundIsCounted) (sound_short : SoundIsShort) where
  abbrev db : Database
  db = book kinds database h.book

  abbrev names : List Name
  names = step_names sheet

  code : logic_code db ≡ h.logic
  code = logic_told kinds database h.book opened h.logic logic

  -- what is said of each text, of this one
  of_text : (P : Database → Type 0) → OfEachBook h P → P db
  of_text P f = f kinds database sheet opened bound_sheet.binds code

  counted : IsCounted sheet h.bound
  counted = bound_counts db text sheet h.bound bound_sheet.says.reads (sound_short text bound_sheet.says.sound) bound_sheet.binds

  judged : AreJudged db h.bound (judgements_of h)
  judged = of_text (λ b. length (judgements_of h) ≡ length h.bound.steps → AreJudged b h.bound (judgements_of h)) told.judged told.count

  most_general : IsTheValuation db h.bound (accepted_in (judgements_of h)) (value_of h)
  most_general = of_text (λ b. IsTheValuation b h.bound (accepted_in (judgements_of h)) (value_of h)) told.valuation

  chain_judged : IsJudgedChain h db
  chain_judged = record { placed = told.held.placed; judged = judged; most_general = most_general }

  solved : IsSolved db text sheet h.bound (judgements_of h) (value_of h)
  solved = record {
    reads = record { read = sheet; reads = bound_sheet.says.reads; same = refl };
    binds = bound_sheet.binds;
    within_limit = bound_sheet.within_limit;
    judged = judged;
    most_general = most_general;
  }

  front_counted : FrontsAreCounted → (front : List SheetItem) → length (filter_map step_of_item front) ≤ length h.bound.steps → IsCountedFront h db names front
  front_counted law front few = law h kinds database sheet opened bound_sheet.binds code chain_judged names front few

  module _ (items : List DraftItem) (filled : AreFilled h sheet items) where
    filled_is : items_in h.book items ≡ filled_to names h.bound (value_of h) (judgements_of h) sheet.items
    filled_is = of_text (λ b. items_in h.book items ≡ filled_to names h.bound (value_of h) (judgements_of h) sheet.items) filled.filled

    pub is_filled : FrontsAreCounted → ShortIsShort → IsFilled db h.book text sheet h.bound items
    is_filled fronts short = record {
      judgements = judgements_of h;
      value = value_of h;
      solved = solved;
      items_are = filled_is;
      short = short db (constants_of h) (trees (steps_in (items_in h.book items)))
          (subst (λ (is : List WrittenItem). AreCounted db (constants_of h) (trees (steps_in is))) (sym filled_is)
          (front_counted fronts sheet.items (let all = counted.count in omega (arith, all))).filled)
          (of_text (λ b. chain.AreShort (constants_of h) (trees (steps_in (items_in h.book items)))) filled.short);
    }

    pub are_small : LeavesAreSmall → AreSmallLeaves (trees (steps_in (items_in h.book items)))
    are_small leaves =
        let few = of_text (λ b. length h.nodes ≤ work_size b h.bound) told.few in
        let limit = bound_sheet.within_limit in
        subst (λ (is : List WrittenItem). AreSmallLeaves (trees (steps_in is))) (sym filled_is)
        (leaves h told.held kinds database sheet opened bound_sheet.binds code chain_judged (omega (arith, few, limit)) names sheet.items)

  pub no_long_value : ValuesAreShort → BoundComesBefore → IsLongValueOf h sheet → ⊥
  no_long_value values earlier value = values h sheet kinds database sheet opened bound_sheet.binds code chain_judged (earlier db text sheet h.bound bound_sheet.says.reads bound_sheet.binds) value

  module _ (name : Name) (n : ℕ) (is_long : IsLong h sheet name n) (fronts : FrontsAreCounted) (first : LongIsFirst) (short : ShortIsShort) where
    abbrev front : List SheetItem
    front = is_long.front

    before : length (filter_map step_of_item front) < length h.bound.steps
    before =
        let fewer = steps_behind front is_long.rest is_long.step in
        let e = ap (λ (is : List SheetItem). length (filter_map step_of_item is)) is_long.items_are in
        let all = counted.count in
        omega (arith, fewer, e, all)

    counted_front : IsCountedFront h db names front
    counted_front = front_counted fronts front (let few = before in omega (arith, few))

    next_within : long.next_number db names h.bound (value_of h) (judgements_of h) front < length h.bound.steps
    next_within =
        let count = numbers_count names h.bound (value_of h) (judgements_of h) front (record { items = []; numbers = [] }) in
        let few = before in
        omega (arith, count, few)

    front_short : long.AreShort db (long.front_trees db names h.bound (value_of h) (judgements_of h) front)
    front_short = short db (constants_of h) (long.front_trees db names h.bound (value_of h) (judgements_of h) front) counted_front.filled
        (of_text (λ b. chain.AreShort (constants_of h) (trees (steps_in (long.filled_front b names h.bound (value_of h) (judgements_of h) front).items))) is_long.short)

    first_long : IsFirstLongOf h db names front is_long.step name n
    first_long = first h db names front is_long.step name n counted_front.wanted (counted_front.own next_within)
        (of_text (λ b. IsLongNext h (long.filled_front b names h.bound (value_of h) (judgements_of h) front) names is_long.step name n) is_long.long)

    pub is_answered : long.LongIsAnswered → (options : Options) → options.kinds ≡ kinds → IsFaultOf db text options (faults.FormulaTooLong name n)
    is_answered answered options same =
        subst (λ (m : ℕ). Answers db text options (refused (formula_too_long name m))) (sym first_long.count)
        (answered db text options sheet h.bound (judgements_of h) (value_of h) front is_long.rest is_long.step name first_long.tree
        (subst (λ (k : Kinds). written.IsOpened k db) (sym same) (record { text = database; sound = opened.no_fault; is_database = opened.database }))
        bound_sheet.says.sound solved is_long.items_are front_short first_long.first)

-- ---- a chain over some text of the database and some text of the worksheet

pub counted_over : BoundIsCounted → SoundIsShort → (kinds : Kinds) (d : Opened) (sheet : Sheet) (bound : Bound) → HasTexts kinds d sheet bound → IsCounted sheet bound
counted_over bound_counts sound_short kinds d sheet bound texts =
    let says = texts.bound_sheet.says in
    bound_counts (book kinds texts.database d) texts.text sheet bound says.reads (sound_short texts.text says.sound) texts.bound_sheet.binds

module _ (h : Held) (sheet : Sheet) (told : IsTold h) (bound_counts : BoundIsCounted) (sound_short : SoundIsShort) where
  pub filled_by : FrontsAreCounted → ShortIsShort → (items : List DraftItem) → AreFilled h sheet items → IsFilledBy h sheet items
  filled_by fronts short items filled kinds logic database text opened bound_sheet =
      is_filled h sheet told kinds logic database text opened bound_sheet bound_counts sound_short items filled fronts short

  pub refused_by : FrontsAreCounted → LongIsFirst → ShortIsShort → long.LongIsAnswered → (name : Name) (n : ℕ) → IsLong h sheet name n → IsRefusedBy h sheet (faults.FormulaTooLong name n)
  refused_by fronts first short answered name n is_long options logic database text opened bound_sheet =
      is_answered h sheet told options.kinds logic database text opened bound_sheet bound_counts sound_short name n is_long fronts first short answered options refl

  pub sound_by : LeavesAreSmall → IsJudgedOver sheet h → (items : List DraftItem) → AreFilled h sheet items → IsFilledSound h.book items
  sound_by leaves over items filled =
      let texts = over.texts in
      record { sound = filled.sound; small = are_small h sheet told over.kinds over.logic texts.database texts.text texts.opened texts.bound_sheet bound_counts sound_short items filled leaves }

  pub none_long : ValuesAreShort → BoundComesBefore → IsJudgedOver sheet h → IsLongValueOf h sheet → ⊥
  none_long values earlier over value =
      let texts = over.texts in
      no_long_value h sheet told over.kinds over.logic texts.database texts.text texts.opened texts.bound_sheet bound_counts sound_short values earlier value

-- ---- a chain of the bound worksheet

module _ (kinds : Kinds) (d : Opened) (sheet : Sheet) (bound : Bound) (h : Held) (is : IsChainOf kinds d bound h) where
  logic_is : IsLogicOf kinds h
  logic_is = is.logic ∙ ap (λ (o : Opened). typecode (symbol_in o.contents.symbols kinds.logic)) (sym is.book)

  pub judged_over : HasTexts kinds d sheet bound → IsJudgedOver sheet h
  judged_over texts = record {
    kinds = kinds;
    texts = subst (λ (o : Opened). HasTexts kinds o sheet h.bound) (sym is.book) (subst (λ (b : Bound). HasTexts kinds d sheet b) (sym is.bound_is) texts);
    logic = logic_is;
    count = is.count ∙ ap (λ (b : Bound). length b.steps) (sym is.bound_is);
  }

  pub sound_for : (items : List DraftItem) → IsFilledSound h.book items → IsFilledSound d items
  sound_for items = subst (λ (o : Opened). IsFilledSound o items) is.book

  pub filled_for : (items : List DraftItem) → IsFilledBy h sheet items → ForTexts kinds d sheet bound (λ db text. IsFilled db d text sheet bound items)
  filled_for items filled =
      subst (λ (b : Bound). ForTexts kinds d sheet b (λ db text. IsFilled db d text sheet b items)) is.bound_is
      (subst (λ (o : Opened). ForTexts kinds o sheet h.bound (λ db text. IsFilled db o text sheet h.bound items)) is.book (filled kinds logic_is))

pub refused_for : (options : Options) (d : Opened) (sheet : Sheet) (bound : Bound) (h : Held) → IsChainOf options.kinds d bound h → (f : UnifyFault) → IsRefusedBy h sheet f
    → ForTexts options.kinds d sheet bound (λ db text. IsFaultOf db text options f)
refused_for options d sheet bound h is f refused_by =
    subst (λ (b : Bound). ForTexts options.kinds d sheet b (λ db text. IsFaultOf db text options f)) is.bound_is
    (subst (λ (o : Opened). ForTexts options.kinds o sheet h.bound (λ db text. IsFaultOf db text options f)) is.book
    (refused_by options (logic_is options.kinds d sheet bound h is)))
