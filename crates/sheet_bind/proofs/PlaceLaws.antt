-- The theorem's place is one of the database.
use Rattle.std.specs.Prelude.{◌≡◌, ◌<◌, ◌≤◌, ◌+◌, ◌-◌, ℕ, zero, suc, Bool, true, false, List, [], find, length, min, unwrap_or, Option, Some, None, option_and_then, refl}
use Rattle.std.specs.List.{range_with_len}
use Rattle.std.specs.Option.{option_map_or}
use Rattle.std.proofs.Common.{arith, sym, ap, subst, ◌∙◌, cond, inl, inr}
use Rattle.std.proofs.lemmas.Bool.{cases_lt}
use Rattle.std.proofs.lemmas.List.{length-map}
use Rattle.mm_base.specs.declared.kinds.Kinds.{Kinds}
use Rattle.mm_base.specs.declared.symbols.Label.{Label}
use Rattle.mm_model.specs.declared.frames.Frame.{Frame}
use Rattle.mm_model.specs.Frames.{frame_of, place_after}
use Rattle.mm_model.specs.Names.{Name, label_named}
use Rattle.mm_model.specs.Statements.{Statement, statements, database_fault}
use Rattle.mm_frames.specs.Contents.{Contents, contents_of, frame_at}
use Rattle.mm_frames.proofs.Queries.{frame-is}
use Rattle.mm_database.specs.Books.{database_of}
use Rattle.model_laws.specs.FrameLaws.{FramesHaveOwnExpressions, ShowsText}
use Rattle.sheet_bind.specs.Places.{place_number}
use Rattle.sheet_bind.specs.Seen.{existing_in}

some_is : (x y : ℕ) → Some x ≡ Some y → x ≡ y
some_is x y h = ap (λ (o : Option ℕ). unwrap_or o x) h

found_or : (b : Bool) (a n q : ℕ) (o : Option ℕ) → (o ≡ Some q → q < (a + 1) + n) → cond b (Some a) o ≡ Some q → q < a + suc n
found_or true a n q o rest h = let same = some_is a q h in omega (arith, same)
found_or false a n q o rest h = let less = rest h in omega (arith, less)

found_within : (p : ℕ → Bool) (a n q : ℕ) → find p (range_with_len a n) ≡ Some q → q < a + n
found_within p a zero q e = absurd (cc)
found_within p a (suc n) q e = found_or (p a) a n q (find p (range_with_len (a + 1) n)) (found_within p (a + 1) n q) e

else_within : (o : Option ℕ) (n : ℕ) → ((q : ℕ) → o ≡ Some q → q ≤ n) → unwrap_or o n ≤ n
else_within None n h = omega arith
else_within (Some q) n h = h q refl

behind_within : (p : ℕ → Bool) (at n : ℕ) → unwrap_or (find p (range_with_len (suc at) (n - at))) n ≤ n
behind_within p at n = elim (cases_lt n at) [
  | inl l ↦ let none : n - at ≡ 0 = omega arith in subst (λ (k : ℕ). unwrap_or (find p (range_with_len (suc at) k)) n ≤ n) (sym none) (omega arith)
  | inr l ↦ else_within (find p (range_with_len (suc at) (n - at))) n (λ q e. let less = found_within p (suc at) (n - at) q e in omega (arith, l, less))
]

after_within : (ss : List Statement) (l : Label) → place_after ss l ≤ length ss
after_within ss l = behind_within _ _ (length ss)

-- ---- existing theorems

proof_only : (g : Frame) (b : Bool) (f : Frame) → cond b None (Some g) ≡ Some f → Some g ≡ Some f
proof_only g true f e = absurd (cc)
proof_only g false f e = e

of_frame : (o : Option Frame) (f : Frame) → option_and_then (λ (g : Frame). cond g.is_axiom None (Some g)) o ≡ Some f → o ≡ Some f
of_frame None f e = absurd (cc)
of_frame (Some g) f e = proof_only g g.is_axiom f e

of_label : (c : Contents) (o : Option Label) (f : Frame) → option_and_then (frame_at c) o ≡ Some f → (l : Label) × (frame_at c l ≡ Some f)
of_label c None f e = absurd (cc)
of_label c (Some l) f e = (l, e)

module _ (kinds : Kinds) (text : List ℕ) (c : Contents) (is : c ≡ contents_of text) (ok : database_fault text ≡ None) (own : FramesHaveOwnExpressions) where
  count_is : length c.entries ≡ length (statements text)
  count_is = ap (λ (d : Contents). length d.entries) is ∙ length-map (statements text) _

  frame_within : (l : Label) (f : Frame) → frame_at c l ≡ Some f → f.at ≤ length c.entries
  frame_within l f e =
      let there : frame_of (statements text) l ≡ Some f = sym (frame-is c l text is) ∙ e in
      let shows : ShowsText text (database_of kinds text [] []) = record { symbols = refl; frame = λ l. refl; active_at = λ place. refl; is_constant_at = λ s place. refl } in
      let less : f.at < length (statements text) = (own text (database_of kinds text [] []) shows ok l f there).place in
      let count = count_is in
      omega (arith, less, count)

  existing_within : (theorem : Name) (f : Frame) → existing_in c theorem ≡ Some f → f.at ≤ length c.entries
  existing_within theorem f e =
      let r = of_label c (label_named c.labels theorem) f (of_frame (option_and_then (frame_at c) (label_named c.labels theorem)) f e) in
      frame_within r.0 f r.1

  new_within : (o : Option Label) → option_map_or (place_after (statements text)) o (length c.entries) ≤ length c.entries
  new_within None = omega arith
  new_within (Some l) = let most = after_within (statements text) l in let count = count_is in omega (arith, most, count)

  by_frame : (o : Option Frame) (loc : Option Name) → ((f : Frame) → o ≡ Some f → f.at ≤ length c.entries) → place_number text c o loc ≤ length c.entries
  by_frame None loc h = new_within (option_and_then (label_named c.labels) loc)
  by_frame (Some f) loc h = h f refl

  least_is : (n m : ℕ) → n ≤ m → min n m ≡ n
  least_is n m h = omega (arith, h)

  pub place_within : (theorem : Name) (loc : Option Name) → min (place_number text c (existing_in c theorem) loc) (length c.entries) ≡ place_number text c (existing_in c theorem) loc
  place_within theorem loc = least_is _ (length c.entries) (by_frame (existing_in c theorem) loc (existing_within theorem))
