-- Closed bindings, as far as the links have been gone through.
use Rattle.std.proofs.Common.{◌≡◌, ℕ, ◌+◌, ◌<◌, ◌≤◌, List, [], ◌∷◌, ◌++◌, length, take, get_or, map, refl, ap, sym, subst, ◌∙◌, inl, inr, arith}
use Rattle.std.proofs.lemmas.Bool.{cases_eq}
use Rattle.std.proofs.lemmas.List.{take_all, take-append-le, take_more}
use Rattle.mm_base.specs.declared.symbols.Label.{Label}
use Rattle.mm_base.specs.declared.symbols.Typecode.{Typecode}
use Rattle.term_model.specs.declared.shape.Id.{Id}
use Rattle.term_model.specs.Terms.{Term, Var, Free, Node, term_at}
use Rattle.term_model.specs.Links.{Link, end_of}
use Rattle.term_model.specs.Store.{ends_of, IsSameNode, Agrees, IsClosed, IsClosedUpTo}
use Rattle.term_model.proofs.LinkLaws.{hop, hop_at, hop_past, end_of_push}

pub ends_of_push : (links : List Link) (link : Link) (kids : List Id) → ends_of (links ++ link ∷ []) kids ≡ map (hop link) (ends_of links kids)
ends_of_push links link [] = refl
ends_of_push links link (id ∷ kids) = rw (end_of_push links link id.0, ends_of_push links link kids) refl

pub same_node_push : (links : List Link) (link : Link) (l : Label) (c : Typecode) (xs : List Id) (e : Term) → IsSameNode links l c xs e → IsSameNode (links ++ link ∷ []) l c xs e
same_node_push links link l c xs (Var s d) h = h
same_node_push links link l c xs (Free d) h = h
same_node_push links link l c xs (Node m d k ys) h =
    (h.0, h.1, ends_of_push links link xs ∙ ap (map (hop link)) h.2 ∙ sym (ends_of_push links link ys))

pub agrees_push : (links : List Link) (link : Link) (x e : Term) → Agrees links x e → Agrees (links ++ link ∷ []) x e
agrees_push links link (Var s c) e h = h
agrees_push links link (Free c) e h = tt
agrees_push links link (Node l c k xs) e h = same_node_push links link l c xs e h

same_node_trans : (links : List Link) (l : Label) (c : Typecode) (xs : List Id) (y z : Term) → IsSameNode links l c xs y → Agrees links y z → IsSameNode links l c xs z
same_node_trans links l c xs (Var s d) z h g = absurd h
same_node_trans links l c xs (Free d) z h g = absurd h
same_node_trans links l c xs (Node m d k ys) (Var s b) h g = absurd g
same_node_trans links l c xs (Node m d k ys) (Free b) h g = absurd g
same_node_trans links l c xs (Node m d k ys) (Node n b j zs) h g = (h.0 ∙ g.0, h.1 ∙ g.1, h.2 ∙ g.2)

pub agrees_trans : (links : List Link) (x y z : Term) → Agrees links x y → Agrees links y z → Agrees links x z
agrees_trans links (Var s c) y z h g = subst (λ (w : Term). Agrees links w z) h g
agrees_trans links (Free c) y z h g = tt
agrees_trans links (Node l c k xs) y z h g = same_node_trans links l c xs y z h g

pub agrees_refl : (links : List Link) (x : Term) → Agrees links x x
agrees_refl links (Var s c) = refl
agrees_refl links (Free c) = tt
agrees_refl links (Node l c k xs) = (refl, refl, refl)

pub closed_push : (k : ℕ) (nodes : List Term) (links : List Link) (link : Link) → k ≤ length links → IsClosedUpTo k nodes links → IsClosedUpTo k nodes (links ++ link ∷ [])
closed_push k nodes links link h c = record {
  agrees = λ i below.
      subst (λ (front : List Link). Agrees (links ++ link ∷ []) (term_at nodes i) (term_at nodes (end_of front i)))
      (sym (take-append-le k links (link ∷ []) h))
      (agrees_push links link (term_at nodes i) (term_at nodes (end_of (take k links) i)) (c.agrees i below));
}

-- one more link gone through: its two nodes agree
pub closed_step : (k : ℕ) (nodes : List Term) (links : List Link) (d : Link) → k < length links → IsClosedUpTo k nodes links
    → Agrees links (term_at nodes (get_or links k d).from) (term_at nodes (get_or links k d).to) → IsClosedUpTo (k + 1) nodes links
closed_step k nodes links d h c here = record {
  agrees = λ i below.
      let link : Link = get_or links k d in
      let e : end_of (take (k + 1) links) i ≡ hop link (end_of (take k links) i) = rw (take_more links k d h) (end_of_push (take k links) link i) in
      let old = c.agrees i below in
      elim (cases_eq (end_of (take k links) i) link.from) [
        | inl at ↦ rw (e, hop_at link (end_of (take k links) i) at)
            (agrees_trans links (term_at nodes i) (term_at nodes link.from) (term_at nodes link.to) (rw at at old) here)
        | inr past ↦ rw (e, hop_past link (end_of (take k links) i) past) old
      ];
}

pub closed_all : (k : ℕ) (nodes : List Term) (links : List Link) → length links ≤ k → IsClosedUpTo k nodes links → IsClosed nodes links
closed_all k nodes links h c = λ i below. rw (take_all k links h) at (c.agrees i below)

pub closed_start : (nodes : List Term) (links : List Link) → IsClosed nodes links → IsClosedUpTo (length links) nodes links
closed_start nodes links c = record { agrees = λ i below. rw (take_all (length links) links (omega arith)) (c i below) }
