-- The replies that name a sheet depend on what is asked of it alone.
use Rattle.std.specs.Prelude.{◌≡◌, ℕ, Bool, true, false, List, [], ◌∷◌, if◌then◌else◌, Option, Some, None, codes, refl}
use Rattle.std.specs.Option.{option_map_or}
use Rattle.std.specs.Str.{bytes_eq}
use Rattle.std.proofs.Common.{arith, ap, subst, ◌∙◌}
use Rattle.std.proofs.lemmas.Slice.Eq.{bytes_eq-Decides}
use Rattle.edit_model.specs.declared.request.Action.{Action}
use Rattle.edit_model.specs.Requests.{text_at}
use Rattle.edit_model.specs.Sessions.{IsReply, IsSuggested, AreReplies, Sheets, text_after, sheets_after, none_open}
use Rattle.edit_laws.specs.OtherSheets.{AreRepliesOn, actions_on, replies_on, is_on, EachSheetIsAlone, RepliesAreOne, OtherSheetsChangeNothing}
use Rattle.mm_model.specs.Book.{Database}
use Rattle.mm_model.specs.Names.{Name}
use Rattle.serde_json.specs.Data.{Data}
use Rattle.written_model.specs.declared.options.Options.{Options}
use Rattle.written_model.specs.Opened.{IsOpened}
use Rattle.written_model.specs.Written.{Writing}

module _ (db : Database) (options : Options) (name : Name) where
  suggestion_named : (w : Writing) (step : Name) (d : Data) → IsSuggested db options name w step d → text_at (codes "name") d ≡ Some name
  suggestion_named w step d (IsSuggested.no_such_step e) = refl
  suggestion_named w step d (IsSuggested.step_open e g) = refl
  suggestion_named w step d (IsSuggested.suggested None e k u a) = refl
  suggestion_named w step d (IsSuggested.suggested (Some c) e k u a) = refl

  -- a reply names its sheet
  reply_named : (sheet : Option (List ℕ)) (asked : Action) (d : Data) → IsReply db options name sheet asked d → text_at (codes "name") d ≡ Some name
  reply_named sheet asked d (IsReply.refuses e) = refl
  reply_named sheet asked d (IsReply.changes e c) = refl
  reply_named sheet asked d (IsReply.has_fault c a) = refl
  reply_named sheet asked d (IsReply.unifies a) = refl
  reply_named sheet asked d (IsReply.suggests {w = w} {step = step} a s) = suggestion_named w step d s

the_same : (a b : Name) → bytes_eq a b ≡ true → a ≡ b
the_same a b e = grind (arith, bytes_eq-Decides)

is_same : (a : Name) → bytes_eq a a ≡ true
is_same a = grind (arith, bytes_eq-Decides)

turned : (a b : Name) → bytes_eq a b ≡ false → bytes_eq b a ≡ false
turned a b e = grind (arith, bytes_eq-Decides)

on_by_name : (name other : Name) (d : Data) → text_at (codes "name") d ≡ Some other → is_on name d ≡ bytes_eq other name
on_by_name name other d e = ap (λ o. option_map_or (λ n. bytes_eq n name) o false) e

module _ (db : Database) (options : Options) (name : Name) where
  -- a request on the sheet itself
  own : (sheets : Sheets) (asked : Action) (d : Data) (actions : List Action) (ds : List Data) → IsReply db options name (sheets name) asked d
      → AreRepliesOn db options name (sheets_after sheets name asked name) actions (replies_on name ds) → AreRepliesOn db options name (sheets name) (asked ∷ actions) (replies_on name (d ∷ ds))
  own sheets asked d actions ds reply rest =
      let kept : is_on name d ≡ true = on_by_name name name d (reply_named db options name (sheets name) asked d reply) ∙ is_same name in
      let behind = subst (λ b. AreRepliesOn db options name (if b then text_after (sheets name) asked else sheets name) actions (replies_on name ds)) (is_same name) rest in
      rw kept (AreRepliesOn.next reply behind)

  abbrev With : Bool → List Action → Action → List Action
  With b actions asked = if b then asked ∷ actions else actions

  asked_of : (b : Bool) (sheets : Sheets) (other : Name) (asked : Action) (d : Data) (actions : List Action) (ds : List Data) → bytes_eq other name ≡ b
      → IsReply db options other (sheets other) asked d → AreRepliesOn db options name (sheets_after sheets other asked name) actions (replies_on name ds)
      → AreRepliesOn db options name (sheets name) (With b actions asked) (replies_on name (d ∷ ds))
  asked_of true sheets other asked d actions ds same reply rest =
      let one = the_same other name same in
      own sheets asked d actions ds (subst (λ n. IsReply db options n (sheets n) asked d) one reply)
      (subst (λ n. AreRepliesOn db options name (sheets_after sheets n asked name) actions (replies_on name ds)) one rest)
  asked_of false sheets other asked d actions ds differs reply rest =
      let left : is_on name d ≡ false = on_by_name name other d (reply_named db options other (sheets other) asked d reply) ∙ differs in
      rw left (subst (λ b. AreRepliesOn db options name (if b then text_after (sheets other) asked else sheets name) actions (replies_on name ds)) (turned other name differs) rest)

  alone : (sheets : Sheets) (ls : List (List ℕ)) (ds : List Data) → AreReplies db options sheets ls ds
      → AreRepliesOn db options name (sheets name) (actions_on name ls) (replies_on name ds)
  alone sheets ls ds AreReplies.ends = AreRepliesOn.none
  alone sheets (line ∷ more) ds (AreReplies.blank b rest) = rw b (alone sheets more ds rest)
  alone sheets (line ∷ more) (d ∷ ds) (AreReplies.no_request b none rest) = rw (b, none) (alone sheets more ds rest)
  alone sheets (line ∷ more) ds (AreReplies.quits b q) = rw (b, q) AreRepliesOn.none
  alone sheets (line ∷ more) (d ∷ ds) (AreReplies.asks {name = other} {asked = asked} b is reply rest) =
      rw (b, is) (asked_of (bytes_eq other name) sheets other asked d (actions_on name more) ds refl reply (alone (sheets_after sheets other asked) more ds rest))

pub each_alone : EachSheetIsAlone
each_alone db options name ls ds session = alone db options name none_open ls ds session

-- ---- two sessions

module _ (db : Database) (options : Options) (opened : IsOpened options.kinds db) (one_reply : RepliesAreOne) (name : Name) where
  same_replies : (sheet : Option (List ℕ)) (actions : List Action) (ds es : List Data) → AreRepliesOn db options name sheet actions ds → AreRepliesOn db options name sheet actions es → ds ≡ es
  same_replies sheet [] ds es AreRepliesOn.none AreRepliesOn.none = refl
  same_replies sheet (asked ∷ actions) [] es h k = elim h [ ]
  same_replies sheet (asked ∷ actions) (d ∷ ds) [] h k = elim k [ ]
  same_replies sheet (asked ∷ actions) (d ∷ ds) (e ∷ es) (AreRepliesOn.next r h) (AreRepliesOn.next q k) =
      ap (λ x. x ∷ ds) (one_reply db options name sheet asked d e opened r q) ∙ ap (λ xs. e ∷ xs) (same_replies (text_after sheet asked) actions ds es h k)

pub nothing_changes : RepliesAreOne → OtherSheetsChangeNothing
nothing_changes one_reply db options name ls ms ds es opened h k same =
    same_replies db options opened one_reply name None (actions_on name ms) (replies_on name ds) (replies_on name es)
    (subst (λ actions. AreRepliesOn db options name None actions (replies_on name ds)) same (each_alone db options name ls ds h)) (each_alone db options name ms es k)
