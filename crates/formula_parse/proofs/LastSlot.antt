-- A slot that is the last item takes the whole rest of the text.
use Rattle.std.specs.Prelude.{◌≡◌, ◌≤◌, ℕ, List, [], ◌∷◌, length, take, drop, Some, slice_get, refl}
use Rattle.std.proofs.Common.{arith, sym, ap, subst}
use Rattle.std.proofs.lemmas.List.{take_all, length-drop}
use Rattle.mm_base.specs.declared.symbols.Typecode.{Typecode}
use Rattle.mm_base.specs.declared.tree.Tree.{Tree}
use Rattle.mm_model.specs.declared.rows.Item.TheVariants.{Slot}
use Rattle.mm_model.specs.declared.rows.Leaf.{Leaf}
use Rattle.mm_model.specs.declared.rows.Production.{Production}
use Rattle.mm_model.specs.Typed.{Parses}
use Rattle.formula_parse.specs.declared.found.Found.{Found}
use Rattle.formula_parse.specs.declared.found.Found.TheVariants.{One}
use Rattle.formula_parse.specs.Finds.{Finds, paired}
use Rattle.formula_parse.specs.Fits.{Fits}
use Rattle.formula_parse.proofs.Searches.{IsPair, finds_same, paired_finds}

drop_past : {X : Type 0} (n : ℕ) (xs : List X) → drop n xs ≡ [] → length xs ≤ n
drop_past n xs e = omega (arith, ap length e, length-drop n xs)

drop_all : {X : Type 0} (xs : List X) → drop (length xs) xs ≡ []
drop_all [] = refl
drop_all (x ∷ xs) = drop_all xs

module _ (rows : List Production) (before : ℕ) (slots : List Typecode) (k : ℕ) (code : Typecode) (slot : slice_get slots k ≡ Some code) (e : List Leaf) where
  abbrev Lone : List Tree → Type 0
  Lone = IsPair (Parses rows before e code) (λ (us : List Tree). us ≡ [])

  from_lone : (us : List Tree) → Lone us → Fits rows before slots (Slot k ∷ []) e us
  from_lone us h = (
    length e,
    record {
      first = h.first;
      more = h.more;
      us_is = h.us_is;
      want = code;
      code_is = slot;
      within = omega arith;
      front = subst (λ xs. Parses rows before xs code h.first) (sym (take_all (length e) e (omega arith))) h.head;
      after = (drop_all e, h.tail);
    },
  )

  to_lone : (us : List Tree) → Fits rows before slots (Slot k ∷ []) e us → Lone us
  to_lone us (n, h) =
      let same : h.want ≡ code = (let a = h.code_is in let b = slot in cc) in
      let whole = take_all n e (drop_past n e h.after.0) in
      record {
        first = h.first;
        more = h.more;
        us_is = h.us_is;
        head = subst (λ xs. Parses rows before xs code h.first) whole (subst (λ c. Parses rows before (take n e) c h.first) same h.front);
        tail = h.after.1;
      }

  pub last_slot : (f : Found Tree) → Finds (Parses rows before e code) f → Finds (Fits rows before slots (Slot k ∷ []) e) (paired f (One []))
  last_slot f h = finds_same Lone (Fits rows before slots (Slot k ∷ []) e) from_lone to_lone (paired f (One []))
      (paired_finds (Parses rows before e code) (λ us. us ≡ []) f (One []) h (refl, λ us is. is))
