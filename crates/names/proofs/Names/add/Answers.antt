use Rattle.std.proofs.Common.{◌≡◌, ℕ, false, List, [], ◌∷◌, ◌++◌, ap, sym, ◌∙◌, map, length, subst}
use Rattle.std.specs.List.{list_any}
use Rattle.std.specs.Str.{bytes_eq}
use Rattle.std.proofs.lemmas.List.{map-append, length-map}
use Rattle.names.proofs.Mapped.{list_any_map, absent_len, cond_else}
use Rattle.names.proofs.Names.add.Goals as goal

pub returns-clause-added : goal.returns-clause-added
returns-clause-added c =
    let keys = c.self.inside.set.keys in
    let new = c.in_ok-from_slice.field-0 in
    let absent : list_any (λ y. bytes_eq c.args.name.now y.items) keys ≡ false =
    sym (list_any_map (bytes_eq c.args.name.now) (λ k. k.items) keys)
    ∙ ap (λ (l : List (List ℕ)). list_any (bytes_eq c.args.name.now) l) c.self.view_is ∙ c.requires.absent in
    let absent' : list_any (λ y. bytes_eq new.items y.items) keys ≡ false = subst (λ (n : List ℕ). list_any (λ y. bytes_eq n y.items) keys ≡ false) (sym c.in_ok-from_slice.ensures.items) absent in
    let put : c.insert_full.new.self.keys ≡ keys ++ new ∷ [] = c.in_ok-number.ensures.keys ∙ cond_else (list_any (λ y. bytes_eq new.items y.items) keys) keys (keys ++ new ∷ []) absent' in
    ap (λ ks. map (λ k. k.items) ks) put ∙ map-append (λ k. k.items) keys (new ∷ []) ∙ ap (λ (l : List (List ℕ)). l ++ new.items ∷ []) c.self.view_is
    ∙ ap (λ (n : List ℕ). c.args.self.now ++ n ∷ []) c.in_ok-from_slice.ensures.items

pub returns-clause-number : goal.returns-clause-number
returns-clause-number c =
    let keys = c.self.inside.set.keys in
    let new = c.in_ok-from_slice.field-0 in
    let absent : list_any (λ y. bytes_eq c.args.name.now y.items) keys ≡ false =
    sym (list_any_map (bytes_eq c.args.name.now) (λ k. k.items) keys)
    ∙ ap (λ (l : List (List ℕ)). list_any (bytes_eq c.args.name.now) l) c.self.view_is ∙ c.requires.absent in
    let absent' : list_any (λ y. bytes_eq new.items y.items) keys ≡ false = subst (λ (n : List ℕ). list_any (λ y. bytes_eq n y.items) keys ≡ false) (sym c.in_ok-from_slice.ensures.items) absent in
    c.in_ok-number.ensures.index ∙ absent_len (λ y. bytes_eq new.items y.items) keys absent' ∙ sym (length-map keys (λ k. k.items)) ∙ ap (λ (l : List (List ℕ)). length l) c.self.view_is
