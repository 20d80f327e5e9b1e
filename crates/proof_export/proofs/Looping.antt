-- One more item of a list.
use Rattle.std.proofs.Common.{◌≡◌, ◌<◌, ℕ, suc, ◌+◌, Bool, true, false, List, [], ◌∷◌, ◌++◌, length, take, get_or, refl, sym, ap, ◌∙◌, arith, inl, inr}
use Rattle.std.specs.Prelude.{not}
use Rattle.std.proofs.lemmas.Bool.{cases_Bool}
use Rattle.std.proofs.lemmas.List.{append-nil, map-append}
use Rattle.std.proofs.lemmas.List.Elements.{filter-append}
use Rattle.std.proofs.Math.Seq.{take-suc}
use Rattle.stack_verify.proofs.Substitutes.{cond_then, cond_else}
use Rattle.mm_model.specs.declared.frames.Hyp.{Hyp}
use Rattle.mm_model.specs.Productions.{essentials}
use Rattle.mm_model.specs.Book.{Database}
use Rattle.proof_model.specs.Machine.{Formula}
use Rattle.sheet_text.specs.declared.sheet.SheetItem.{SheetItem}
use Rattle.sheet_text.specs.declared.sheet.SheetItem.TheVariants as item
use Rattle.sheet_text.specs.declared.sheet.SheetStep.{SheetStep}
use Rattle.export_model.specs.Exported.{hyp_steps}
use Rattle.proof_export.specs.Leads.{items_of, taken_for}

pub take_more : {X : Type 0} (xs : List X) (i : ℕ) (x : X) → i < length xs → x ≡ get_or xs i x → take (i + 1) xs ≡ take i xs ++ x ∷ []
take_more xs i x low is =
    let one : i + 1 ≡ suc i = omega arith in
    ap (λ (j : ℕ). take j xs) one ∙ take-suc xs i x low ∙ ap (λ y. take i xs ++ y ∷ []) (sym is)

-- ---- the `$e` among hypotheses

abbrev is_essential : Hyp → Bool
is_essential h = not h.floating

pub essentials_more : (hs : List Hyp) (h : Hyp) → h.floating ≡ false → essentials (hs ++ h ∷ []) ≡ essentials hs ++ h ∷ []
essentials_more hs h e = filter-append is_essential hs (h ∷ []) ∙ ap (λ (l : List Hyp). essentials hs ++ l) (cond_then (not h.floating) (h ∷ []) [] (ap (λ (b : Bool). not b) e))

pub essentials_same : (hs : List Hyp) (h : Hyp) → h.floating ≡ true → essentials (hs ++ h ∷ []) ≡ essentials hs
essentials_same hs h e =
    filter-append is_essential hs (h ∷ []) ∙ ap (λ (l : List Hyp). essentials hs ++ l) (cond_else (not h.floating) (h ∷ []) [] (ap (λ (b : Bool). not b) e))
    ∙ append-nil (essentials hs)

pub taken_more : (hs : List Hyp) (es : List Formula) (h : Hyp) (e : Formula) → length es ≡ length hs → h.floating ≡ false → taken_for (hs ++ h ∷ []) (es ++ e ∷ []) ≡ taken_for hs es ++ e ∷ []
taken_more [] [] h e n f = rw f refl
taken_more [] (y ∷ es) h e n f = absurd (omega arith)
taken_more (x ∷ hs) [] h e n f = absurd (omega arith)
taken_more (x ∷ hs) (y ∷ es) h e n f =
    let rest = taken_more hs es h e (omega arith) f in
    elim (cases_Bool x.floating) [ inl t ↦ rw t rest | inr t ↦ rw t (ap (λ (l : List Formula). y ∷ l) rest) ]

pub taken_same : (hs : List Hyp) (es : List Formula) (h : Hyp) (e : Formula) → length es ≡ length hs → h.floating ≡ true → taken_for (hs ++ h ∷ []) (es ++ e ∷ []) ≡ taken_for hs es
taken_same [] [] h e n f = rw f refl
taken_same [] (y ∷ es) h e n f = absurd (omega arith)
taken_same (x ∷ hs) [] h e n f = absurd (omega arith)
taken_same (x ∷ hs) (y ∷ es) h e n f =
    let rest = taken_same hs es h e (omega arith) f in
    elim (cases_Bool x.floating) [ inl t ↦ rw t rest | inr t ↦ rw t (ap (λ (l : List Formula). y ∷ l) rest) ]

-- ---- the steps of the `$e`

hyp_steps_more : (db : Database) (n : ℕ) (hs : List Hyp) (h : Hyp) → hyp_steps db n (hs ++ h ∷ []) ≡ hyp_steps db n hs ++ hyp_steps db (n + length hs) (h ∷ [])
hyp_steps_more db n [] h = let same : n ≡ n + 0 = omega arith in ap (λ (k : ℕ). hyp_steps db k (h ∷ [])) same
hyp_steps_more db n (x ∷ hs) h =
    let same : suc n + length hs ≡ n + suc (length hs) = omega arith in
    ap (λ (l : List SheetStep). hyp_steps db n (x ∷ []) ++ l) (hyp_steps_more db (suc n) hs h ∙ ap (λ (k : ℕ). hyp_steps db (suc n) hs ++ hyp_steps db k (h ∷ [])) same)

pub hyp_items_more : (db : Database) (hs : List Hyp) (h : Hyp) (n : ℕ) (old new : List SheetItem) → n ≡ length hs → old ≡ items_of (hyp_steps db 0 hs)
    → new ≡ old ++ items_of (hyp_steps db n (h ∷ []))
    → new ≡ items_of (hyp_steps db 0 (hs ++ h ∷ []))
hyp_items_more db hs h n old new e o w =
    let zero : 0 + length hs ≡ length hs = omega arith in
    w ∙ ap (λ (l : List SheetItem). l ++ items_of (hyp_steps db n (h ∷ []))) o ∙ ap (λ (k : ℕ). items_of (hyp_steps db 0 hs) ++ items_of (hyp_steps db k (h ∷ []))) e
    ∙ sym
    (ap items_of (hyp_steps_more db 0 hs h) ∙ ap (λ (k : ℕ). items_of (hyp_steps db 0 hs ++ hyp_steps db k (h ∷ []))) zero
    ∙ map-append (λ s. item.Step s) (hyp_steps db 0 hs) (hyp_steps db (length hs) (h ∷ [])))
