-- What is told of the steps of a draft is what is reported of the steps that are written.
use Rattle.std.specs.Prelude.{◌≡◌, ℕ, zero, suc, ◌+◌, ◌<◌, true, false, List, [], ◌∷◌, ◌++◌, map, take, get_or, length, Option, Some, None, is_some, find, not, refl}
use Rattle.std.specs.List.{AllByRecursion}
use Rattle.std.specs.Borrow.{Bor}
use Rattle.std.proofs.Common.{sym, ap, ◌∙◌, arith, add-one}
use Rattle.mm_base.specs.declared.symbols.Sym.{Sym}
use Rattle.mm_base.specs.declared.symbols.Pair.{Pair}
use Rattle.mm_database.specs.Opened.{Opened}
use Rattle.written_model.specs.declared.options.DvMode.{DvMode}
use Rattle.written_model.specs.declared.report.ReportLine.{ReportLine}
use Rattle.written_model.specs.WrittenSteps.{Use, steps_in}
use Rattle.written_model.specs.declared.options.DvMode.TheVariants as dv
use Rattle.solve_model.specs.PairSets.{is_pair_in}
use Rattle.written_model.specs.Pairs.{clash_of, needed_by}
use Rattle.written_model.specs.Report.{step_clash, report_of}
use Rattle.written_steps.specs.declared.draft.DraftStep.{DraftStep}
use Rattle.written_steps.specs.declared.draft.DraftItem.{DraftItem}
use Rattle.written_steps.specs.declared.draft.DraftItem.TheVariants as draft
use Rattle.written_steps.specs.Drafts.{drafts_in, items_in, refs, step_in}
use Rattle.written_steps.proofs.DraftLists.{steps_are}
use Rattle.step_report.specs.declared.report.Flaw.{Flaw}
use Rattle.step_report.specs.Flaws.{flaw_in, lack_in, line_in}

-- ---- the steps

-- what holds of each of the steps holds of the one of a number
pub all_refs : (P : DraftStep → Type 0) (steps : List (Bor DraftStep)) (k : ℕ) (r : Bor DraftStep) → AllByRecursion P (refs steps) → k < length steps → P (get_or steps k r).now
all_refs P [] k r h l = absurd (omega (arith, l))
all_refs P (s ∷ steps) zero r h l = h.0
all_refs P (s ∷ steps) (suc k) r h l = all_refs P steps k r h.1 (omega (arith, l))

-- ---- a flaw

abbrev pub make : Option Sym → Option Pair → Flaw
make clash lack = record { clash = clash; lack = lack }

pub flaw_clash : (mode : DvMode) (allowed : List Pair) (o : Option Use) (clash : Option Sym) → clash ≡ step_clash o → is_some clash ≡ true
    → make clash None ≡ flaw_in mode allowed o
flaw_clash mode allowed None clash e h = absurd (no_clash clash e h)
  where
    no_clash : (o : Option Sym) → o ≡ None → is_some o ≡ true → ⊥
    no_clash None e h = cc
    no_clash (Some v) e h = cc
flaw_clash mode allowed (Some u) clash e h = let there : is_some (clash_of u) ≡ true = ap is_some (sym e) ∙ h in rw there (ap (λ x. make x None) e)

pub flaw_lack : (mode : DvMode) (allowed : List Pair) (o : Option Use) (clash : Option Sym) (lack : Option Pair) → clash ≡ step_clash o → is_some clash ≡ false → lack ≡ lack_in mode allowed o
    → make None lack ≡ flaw_in mode allowed o
flaw_lack mode allowed None clash lack e h l = ap (λ x. make None x) l
flaw_lack mode allowed (Some u) clash lack e h l =
    let none : clash_of u ≡ None = sym e ∙ is_none_of clash h in
    let missing : is_some (clash_of u) ≡ false = ap is_some (sym e) ∙ h in
    ap (λ x. make None x) l ∙ ap (λ x. make x (lack_in mode allowed (Some u))) (sym none) ∙ rw missing refl
  where
    is_none_of : (o : Option Sym) → is_some o ≡ false → o ≡ None
    is_none_of None h = refl
    is_none_of (Some v) h = absurd (cc)

pub given_lack : (mode : DvMode) (allowed : List Pair) (o : Option Use) (u : Use) (ps : List Pair) (lack : Option Pair) → mode ≡ dv.Given → o ≡ Some u → ps ≡ needed_by o
    → lack ≡ find (λ p. not (is_pair_in allowed p)) ps → lack ≡ lack_in mode allowed o
given_lack mode allowed o u ps lack m e n l =
    l ∙ ap (find (λ p. not (is_pair_in allowed p))) (n ∙ ap needed_by e) ∙ ap (λ x. lack_in dv.Given allowed x) (sym e) ∙ ap (λ x. lack_in x allowed o) (sym m)

-- ---- lines

pub lines_are : (d : Opened) (mode : DvMode) (allowed : List Pair) (ds : List DraftStep) → map (line_in d mode allowed) ds ≡ map (report_of mode allowed) (map (step_in d) ds)
lines_are d mode allowed [] = refl
lines_are d mode allowed (s ∷ ds) = ap (λ ls. line_in d mode allowed s ∷ ls) (lines_are d mode allowed ds)

pub report_is : (d : Opened) (mode : DvMode) (allowed : List Pair) (items : List DraftItem) (steps : List (Bor DraftStep)) → refs steps ≡ drafts_in items
    → map (line_in d mode allowed) (refs steps) ≡ map (report_of mode allowed) (steps_in (items_in d items))
report_is d mode allowed items steps e =
    lines_are d mode allowed (refs steps) ∙ ap (λ ds. map (report_of mode allowed) (map (step_in d) ds)) e ∙ ap (map (report_of mode allowed)) (sym (steps_are d items))

map_more : (f : DraftStep → ReportLine) (steps : List (Bor DraftStep)) (k : ℕ) (r : Bor DraftStep) → k < length steps
    → map f (refs (take (suc k) steps)) ≡ map f (refs (take k steps)) ++ f (get_or steps k r).now ∷ []
map_more f [] k r l = absurd (omega (arith, l))
map_more f (s ∷ steps) zero r l = refl
map_more f (s ∷ steps) (suc k) r l = ap (λ ls. f s.now ∷ ls) (map_more f steps k r (omega (arith, l)))

pub line_more : (f : DraftStep → ReportLine) (steps : List (Bor DraftStep)) (k : ℕ) (r : Bor DraftStep) (lines new : List ReportLine) (x : ReportLine) → k < length steps → get_or steps k r ≡ r
    → lines ≡ map f (refs (take k steps)) → x ≡ f r.now → new ≡ lines ++ x ∷ [] → new ≡ map f (refs (take (k + 1) steps))
line_more f steps k r lines new x l g h e n =
    n ∙ ap (λ ls. ls ++ x ∷ []) h ∙ ap (λ y. map f (refs (take k steps)) ++ y ∷ []) (e ∙ ap (λ (s : Bor DraftStep). f s.now) (sym g)) ∙ sym (map_more f steps k r l)
    ∙ ap (λ n. map f (refs (take n steps))) (sym (add-one k))
