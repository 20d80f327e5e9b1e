-- Entries that grow, start by start.
use Rattle.std.specs.Prelude.{◌≡◌, ◌<◌, ◌+◌, ◌-◌, ℕ, List, [], ◌∷◌, length, take, drop, Some, slice_get}
use Rattle.std.proofs.Common.{arith, sym, ap, ◌∙◌, subst}
use Rattle.std.proofs.lemmas.List.{take_all}
use Rattle.mm_base.specs.declared.symbols.Typecode.{Typecode}
use Rattle.mm_model.specs.declared.rows.Item.{Item}
use Rattle.mm_model.specs.declared.rows.Leaf.{Leaf}
use Rattle.mm_model.specs.declared.rows.Production.{Production}
use Rattle.formula_parse.specs.declared.reach.Entry.{Entry}
use Rattle.formula_parse.specs.Charts.{IsIn, Stays, IsOnce, Enters, Follows, IsBegun, Reaches, entry_of}
use Rattle.formula_parse.proofs.Lists.{stays_then, stays_in, stays_back, at_turn}

-- what a loop over starts keeps
abbrev pub Grown : {S : Type 0} → List S → (S → Type 0) → (S → List Entry → Type 0) → List Entry → ℕ → List Entry → Type 0
Grown {S} starts Q E old n ys = Stays old ys × (IsOnce old → IsOnce ys) × ((j : ℕ) (s : S) → j < n → slice_get starts j ≡ Some s → Q s → E s ys)

pub grown_turn : {S : Type 0} (starts : List S) (Q : S → Type 0) (E : S → List Entry → Type 0) → ((s : S) (xs ys : List Entry) → Stays xs ys → E s xs → E s ys)
    → (old mid new : List Entry) (n : ℕ) (x : S) → slice_get starts n ≡ Some x → Stays mid new → (IsOnce mid → IsOnce new) → (Q x → E x new)
    → Grown starts Q E old n mid → Grown starts Q E old (n + 1) new
grown_turn starts Q E mono old mid new n x at stays once here h = (
  stays_then old mid new h.0 stays,
  (λ o. once (h.1 o)),
  at_turn (λ s. Q s → E s new) starts n x at (λ j s i is q. mono s mid new stays (h.2 j s i is q)) here,
)

module _ (leaves : List Leaf) (chart : List (List Entry)) (rows : List Production) where
  pub enters_grow : (row place : ℕ) (xs ys : List Entry) → Stays xs ys → Enters leaves chart rows row place xs → Enters leaves chart rows row place ys
  enters_grow row place xs ys s h r first rest e at is reach = stays_in xs ys s (entry_of e r.gives row) (h r first rest e at is reach)

  tail_of : (its rest : List Item) (first : Item) → its ≡ first ∷ rest → take (length its - 1) (drop 1 its) ≡ rest
  tail_of [] rest first is = absurd (omega (arith, ap length is))
  tail_of (i ∷ its) rest first is =
      let same : its ≡ rest = (let a = is in cc) in
      take_all (length (i ∷ its) - 1) its (omega arith) ∙ same

  pub enters_from : (row place : ℕ) (new : List Entry) (p : Production) (its : List Item) (slots : List Typecode) (Ends : ℕ → Type 0) → slice_get rows row ≡ Some p → its ≡ p.items → slots ≡ p.slots
      → ((e : ℕ) → Reaches leaves chart slots (take (length its - 1) (drop 1 its)) place e → Ends e) → ((e : ℕ) → Ends e → IsIn new (entry_of e p.gives row)) → Enters leaves chart rows row place new
  enters_from row place new p its slots Ends at items same reached entered r first rest e stands is reach =
      let one : r ≡ p = cc in
      let tail = tail_of its rest first (items ∙ ap (λ (x : Production). x.items) (sym one) ∙ is) in
      let own : Reaches leaves chart slots rest place e = subst (λ xs. Reaches leaves chart xs rest place e) (ap (λ (x : Production). x.slots) one ∙ sym same) reach in
      let found = entered e (reached e (subst (λ xs. Reaches leaves chart slots xs place e) (sym tail) own)) in
      subst (λ (x : Production). IsIn new (entry_of e x.gives row)) (sym one) found

  pub follows_grow : (before : ℕ) (entry : Entry) (xs ys : List Entry) → Stays xs ys → Follows leaves chart rows before entry xs → Follows leaves chart rows before entry ys
  follows_grow before entry xs ys s h i r k rest at below is code = enters_grow i entry.end xs ys s (h i r k rest at below is code)

  pub begun_grow : (before b : ℕ) (xs ys : List Entry) → Stays xs ys → (IsOnce xs → IsOnce ys) → IsBegun leaves chart rows before b xs → IsBegun leaves chart rows before b ys
  begun_grow before b xs ys s once h = record {
    leaf_in = λ x code at c. (let l = h.leaf_in x code at c in record { entry = l.entry; is_in = stays_in xs ys s l.entry l.is_in; ends = l.ends; has_code = l.has_code });
    by_const = λ c at i r rest stands below is. enters_grow i (b + 1) xs ys s (h.by_const c at i r rest stands below is);
    once = once h.once;
  }

  -- one more entry is followed
  pub followed_turn : (before n : ℕ) (x : Entry) (xs ys : List Entry) → Stays xs ys → n < length xs → slice_get xs n ≡ Some x → Follows leaves chart rows before x ys
      → ((j : ℕ) (entry : Entry) → j < n → slice_get xs j ≡ Some entry → Follows leaves chart rows before entry xs)
      → (j : ℕ) (entry : Entry) → j < n + 1 → slice_get ys j ≡ Some entry → Follows leaves chart rows before entry ys
  followed_turn before n x xs ys s l at here earlier =
      at_turn (λ entry. Follows leaves chart rows before entry ys) ys n x (s n x at)
      (λ j entry i is. follows_grow before entry xs ys s (earlier j entry i (stays_back xs ys s j (omega arith) entry is))) here
