-- How the fields of a store change.
use Rattle.std.proofs.Common.{◌≡◌, ◌≢◌, ℕ, ◌+◌, ◌^◌, ◌<◌, ◌≤◌, Bool, true, false, cond, Option, Some, None, List, zero, suc, [], ◌∷◌, ◌++◌, length}
use Rattle.std.proofs.Common.{take, drop, set, get_or, unwrap_or, is_some, refl, ap, sym, ◌∙◌, inl, inr, arith}
use Rattle.std.specs.Prelude.{count_by, slice_get}
use Rattle.std.proofs.lemmas.Bool.{cases_eq, cases_lt, eq-eqb, ne_eqb}
use Rattle.std.proofs.lemmas.List.{length-set, length_push, get_or-set_same, get_or-set_other, get_or_append_left, get_or_push, get_or_past, map_push}
use Rattle.std.proofs.lemmas.List.{get_or-take, get_or-drop, length-take-le, take_at}
use Rattle.std.proofs.lemmas.List.Sums.{sum_by_push, sum_by-set, sum_by-cons, sum_by-take-drop, count_by-le-length}
use Rattle.undo_trail.specs.Noted.{Noted}
use Rattle.term_model.specs.Terms.{Term, term_code, term_at, HasChildrenBelow}
use Rattle.term_model.specs.Links.{Link, link_at, target_of, InOrder, AreBelow}
use Rattle.term_model.specs.Store.{HaveSameCodes, IsStore}
use Rattle.term_model.specs.Marks.{bound_at}
use Rattle.term_arena.specs.Walks.{State}
use Rattle.term_arena.specs.Inside.{links_of, IsArena}
use Rattle.term_model.proofs.LinkLaws.{last_below, in_order_last, in_order_front, in_order_cut, unbound_past, link_at_below, target_of_link_at}
use Rattle.term_model.proofs.LinkLaws.{in_order_more, in_order_push, target_of_push_other, target_of_push_same}

-- a table with one more unbound node says the same
pub bound_at_push : (bound : List (Option ℕ)) (i : ℕ) → bound_at (bound ++ None ∷ []) i ≡ bound_at bound i
bound_at_push [] zero = refl
bound_at_push [] (suc i) = refl
bound_at_push (o ∷ bound) zero = refl
bound_at_push (o ∷ bound) (suc i) = bound_at_push bound i

pub links_of_same : (trail : List ℕ) (bound other : List (Option ℕ)) → ((i : ℕ) → bound_at other i ≡ bound_at bound i) → links_of trail other ≡ links_of trail bound
links_of_same [] bound other same = refl
links_of_same (i ∷ trail) bound other same = rw (same i, links_of_same trail bound other same) refl

pub length-links_of : (trail : List ℕ) (bound : List (Option ℕ)) → length (links_of trail bound) ≡ length trail
length-links_of [] bound = refl
length-links_of (i ∷ trail) bound = rw (length-links_of trail bound) refl

-- the codes along the links, in a longer list of nodes
codes_push : (nodes : List Term) (e : Term) (links : List Link) → InOrder (length nodes) links → HaveSameCodes nodes links → HaveSameCodes (nodes ++ e ∷ []) links
codes_push nodes e [] o codes = tt
codes_push nodes e (l ∷ links) o codes =
    (rw (get_or_append_left nodes (e ∷ []) _ l.from o.0, get_or_append_left nodes (e ∷ []) _ l.to o.1) codes.0, codes_push nodes e links o.4 codes.1)

pub store_push : (nodes : List Term) (e : Term) (links : List Link) → HasChildrenBelow (length nodes) e → IsStore nodes links → IsStore (nodes ++ e ∷ []) links
store_push nodes e links kids s =
    let n = length_push nodes e in
    record {
      children = λ i below. elim (cases_eq i (length nodes)) [
        | inl at ↦ rw (get_or_push nodes e _ i (sym at)) (rw at kids)
        | inr past ↦
            let old : i < length nodes = omega arith in
            rw (get_or_append_left nodes (e ∷ []) _ i old) (s.children i old)
      ];
      in_order = in_order_more (length nodes) _ links (omega (arith, n)) s.in_order;
      codes = codes_push nodes e links s.in_order s.codes;
    }

-- one more node
pub arena_push : (nodes : List Term) (bound : List (Option ℕ)) (trail : Noted) (states : List State) (ready : Bool) (e : Term)
    → HasChildrenBelow (length nodes) e → length nodes + 1 < 2 ^ 32 → IsArena nodes bound trail states ready
    → IsArena (nodes ++ e ∷ []) (bound ++ None ∷ []) trail states false
arena_push nodes bound trail states ready e kids short a =
    let links : links_of trail.entries (bound ++ None ∷ []) ≡ links_of trail.entries bound = links_of_same trail.entries bound (bound ++ None ∷ []) (bound_at_push bound) in
    record {
      same = omega (arith, length_push nodes e, length_push {X = Option ℕ} bound None, a.same);
      short = omega (arith, length_push nodes e);
      store = rw links (store_push nodes e (links_of trail.entries bound) kids a.store);
      table = record { each = λ i. rw (links, bound_at_push bound i) (a.table.each i) };
      counted = sum_by_push (λ (o : Option ℕ). cond (is_some o) 1 0) bound None ∙ omega (arith, a.counted);
      room = λ (e : false ≡ true). cc;
      walk_room = λ (e : false ≡ true). cc;
    }

-- what is bound stands in the trail
target_of_absent : (trail : List ℕ) (bound : List (Option ℕ)) (i : ℕ) (to : Option ℕ) → target_of (links_of trail bound) i ≡ None → links_of trail (set bound i to) ≡ links_of trail bound
target_of_absent [] bound i to u = refl
target_of_absent (k ∷ trail) bound i to u =
    elim (cases_eq i k) [
      | inl at ↦ let impossible : ◌≡◌ {A = Option ℕ} (Some (unwrap_or (bound_at bound k) 0)) None = rw (eq-eqb i k at) at u in cc
      | inr past ↦
          let rest : target_of (links_of trail bound) i ≡ None = rw (ne_eqb i k past) at u in
          rw (get_or-set_other bound i k to None (λ e. past (sym e)), target_of_absent trail bound i to rest) refl
    ]

pub links_of_bind : (trail : List ℕ) (bound : List (Option ℕ)) (from to : ℕ) → from < length bound → target_of (links_of trail bound) from ≡ None
    → links_of (trail ++ from ∷ []) (set bound from (Some to)) ≡ links_of trail bound ++ record { from = from; to = to } ∷ []
links_of_bind trail bound from to below u =
    map_push (λ (i : ℕ). record { from = i; to = unwrap_or (bound_at (set bound from (Some to)) i) 0 }) trail from
    ∙ ap (λ (o : Option ℕ). links_of trail (set bound from (Some to)) ++ record { from = from; to = unwrap_or o 0 } ∷ []) (get_or-set_same bound from (Some to) None below)
    ∙ ap (λ (links : List Link). links ++ record { from = from; to = to } ∷ []) (target_of_absent trail bound from (Some to) u)

codes_bind : (nodes : List Term) (links : List Link) (link : Link) → HaveSameCodes nodes links
    → term_code (term_at nodes link.from) ≡ term_code (term_at nodes link.to) → HaveSameCodes nodes (links ++ link ∷ [])
codes_bind nodes [] link codes e = (e, tt)
codes_bind nodes (l ∷ links) link codes e = (codes.0, codes_bind nodes links link codes.1 e)

-- one more binding
pub arena_bind : (nodes : List Term) (bound : List (Option ℕ)) (trail grown : Noted) (states : List State) (ready : Bool) (from to : ℕ) → IsArena nodes bound trail states ready
    → bound_at bound from ≡ None → bound_at bound to ≡ None → from < length nodes → to < length nodes → from ≢ to → term_code (term_at nodes from) ≡ term_code (term_at nodes to)
    → grown.entries ≡ trail.entries ++ from ∷ [] → grown.spare + 1 ≡ trail.spare
    → IsArena nodes (set bound from (Some to)) grown states ready
arena_bind nodes bound trail grown states ready from to a uf ut hf ht ne code entries spare =
    let links : List Link = links_of trail.entries bound in
    let link : Link = record { from = from; to = to } in
    let tf : target_of links from ≡ None = sym (a.table.each from) ∙ uf in
    let tt' : target_of links to ≡ None = sym (a.table.each to) ∙ ut in
    let hb : from < length bound = omega (arith, a.same) in
    let is : links_of grown.entries (set bound from (Some to)) ≡ links ++ link ∷ [] = rw entries (links_of_bind trail.entries bound from to hb tf) in
    let counted : count_by is_some (set bound from (Some to)) + cond (is_some (get_or bound from None)) 1 0 ≡ count_by is_some bound + 1 =
    sum_by-set (λ (o : Option ℕ). cond (is_some o) 1 0) bound from (Some to) None hb in
    let counted' : count_by is_some (set bound from (Some to)) + 0 ≡ count_by is_some bound + 1 = rw uf at counted in
    let longer : length grown.entries ≡ length trail.entries + 1 = rw entries (length_push trail.entries from) in
    record {
      same = length-set bound from (Some to) ∙ a.same;
      short = a.short;
      store = rw is (record {
        children = a.store.children;
        in_order = in_order_push (length nodes) links link a.store.in_order tf tt' hf ht ne;
        codes = codes_bind nodes links link a.store.codes code;
      });
      table = record {
        each = λ i. rw is (elim (cases_eq i from) [
          | inl at ↦ rw at (get_or-set_same bound from (Some to) None hb ∙ sym (target_of_push_same links link tf))
          | inr past ↦ get_or-set_other bound from i (Some to) None past ∙ a.table.each i ∙ sym (target_of_push_other links link i past)
        ]);
      };
      counted = omega (arith, counted', longer, a.counted);
      room = λ r. omega (arith, a.room r, longer, spare);
      walk_room = a.walk_room;
    }

-- where a node is unbound there are fewer bindings than nodes
pub count_below : (bound : List (Option ℕ)) (i : ℕ) → i < length bound → bound_at bound i ≡ None → count_by is_some bound < length bound
count_below bound i h u =
    let more : count_by is_some (set bound i (Some 0)) + cond (is_some (get_or bound i None)) 1 0 ≡ count_by is_some bound + 1 =
    sum_by-set (λ (o : Option ℕ). cond (is_some o) 1 0) bound i (Some 0) None h in
    let more' : count_by is_some (set bound i (Some 0)) + 0 ≡ count_by is_some bound + 1 = rw u at more in
    let within : count_by is_some (set bound i (Some 0)) ≤ length (set bound i (Some 0)) = count_by-le-length is_some (set bound i (Some 0)) in
    omega (arith, more', within, length-set bound i (Some 0))

-- more room for the trail and the states
pub arena_room : (nodes : List Term) (bound : List (Option ℕ)) (trail grown : Noted) (states more : List State) (ready now : Bool)
    → grown.entries ≡ trail.entries → (now ≡ true → (length nodes ≤ length trail.entries + grown.spare) × (length nodes ≤ length more))
    → IsArena nodes bound trail states ready → IsArena nodes bound grown more now
arena_room nodes bound trail grown states more ready now e r a =
    let links : links_of grown.entries bound ≡ links_of trail.entries bound = ap (λ (t : List ℕ). links_of t bound) e in
    record {
      same = a.same;
      short = a.short;
      store = rw links a.store;
      table = rw links a.table;
      counted = a.counted ∙ ap length (sym e);
      room = λ h. omega (arith, (r h).0, ap length e);
      walk_room = λ h. (r h).1;
    }

pub link_at_trail : (trail : List ℕ) (bound : List (Option ℕ)) (k i : ℕ) → slice_get trail k ≡ Some i → link_at (links_of trail bound) k ≡ record { from = i; to = unwrap_or (bound_at bound i) 0 }
link_at_trail [] bound k i e = let impossible : ◌≡◌ {A = Option ℕ} None (Some i) = e in cc
link_at_trail (j ∷ trail) bound zero i e = let same : j ≡ i = cc in rw same refl
link_at_trail (j ∷ trail) bound (suc k) i e = link_at_trail trail bound k i e

-- the k-th entry of the trail is bound
pub trail_bound : (nodes : List Term) (bound : List (Option ℕ)) (trail : Noted) (states : List State) (ready : Bool) (k i : ℕ)
    → IsArena nodes bound trail states ready → k < length trail.entries → slice_get trail.entries k ≡ Some i
    → (i < length bound) × (bound_at bound i ≡ Some (link_at (links_of trail.entries bound) k).to)
trail_bound nodes bound trail states ready k i a h e =
    let links = links_of trail.entries bound in
    let h' : k < length links = omega (arith, length-links_of trail.entries bound) in
    let from : (link_at links k).from ≡ i = ap (λ (l : Link). l.from) (link_at_trail trail.entries bound k i e) in
    let below = (link_at_below (length nodes) links k a.store.in_order h').0 in
    let target : target_of links (link_at links k).from ≡ Some (link_at links k).to = target_of_link_at (length nodes) links k a.store.in_order h' in
    (omega (arith, below, from, a.same), a.table.each i ∙ rw from at target)

codes_front : (nodes : List Term) (links : List Link) (link : Link) → HaveSameCodes nodes (links ++ link ∷ []) → HaveSameCodes nodes links
codes_front nodes [] link c = tt
codes_front nodes (l ∷ links) link c = (c.0, codes_front nodes links link c.1)

-- the last binding is taken back
pub arena_unbind : (nodes : List Term) (bound : List (Option ℕ)) (trail less : Noted) (states : List State) (ready : Bool) (last : ℕ)
    → IsArena nodes bound trail states ready → trail.entries ≡ less.entries ++ last ∷ [] → less.spare ≡ trail.spare + 1
    → IsArena nodes (set bound last None) less states ready × (links_of less.entries (set bound last None) ≡ take (length less.entries) (links_of trail.entries bound))
arena_unbind nodes bound trail less states ready last a e spare =
    let front : List Link = links_of less.entries bound in
    let link : Link = record { from = last; to = unwrap_or (bound_at bound last) 0 } in
    let whole : links_of trail.entries bound ≡ front ++ link ∷ [] =
    rw e (map_push (λ (i : ℕ). record { from = i; to = unwrap_or (bound_at bound i) 0 }) less.entries last) in
    let order : InOrder (length nodes) (front ++ link ∷ []) = rw whole at a.store.in_order in
    let free : target_of front last ≡ None = in_order_last (length nodes) front link order in
    let same : links_of less.entries (set bound last None) ≡ front = target_of_absent less.entries bound last None free in
    let was : bound_at bound last ≡ Some link.to = a.table.each last ∙ rw whole (target_of_push_same front link free) in
    let hb : last < length bound = elim (cases_lt last (length bound)) [
      | inl h ↦ h
      | inr h ↦ let past : bound_at bound last ≡ None = get_or_past bound last None h in let impossible : ◌≡◌ {A = Option ℕ} None (Some link.to) = sym past ∙ was in cc
    ] in
    let counted : count_by is_some (set bound last None) + cond (is_some (get_or bound last None)) 1 0 ≡ count_by is_some bound + 0 =
    sum_by-set (λ (o : Option ℕ). cond (is_some o) 1 0) bound last None None hb in
    let counted' : count_by is_some (set bound last None) + 1 ≡ count_by is_some bound + 0 = rw was at counted in
    let shorter : length trail.entries ≡ length less.entries + 1 = rw e (length_push less.entries last) in (
      record {
        same = length-set bound last None ∙ a.same;
        short = a.short;
        store = rw same (record {
          children = a.store.children;
          in_order = in_order_front (length nodes) front link order;
          codes = codes_front nodes front link (rw whole at a.store.codes);
        });
        table = record {
          each = λ i. rw same (elim (cases_eq i last) [
            | inl at ↦ rw at (get_or-set_same bound last None None hb ∙ sym free)
            | inr past ↦ get_or-set_other bound last i None None past ∙ a.table.each i ∙ rw whole (target_of_push_other front link i past)
          ]);
        };
        counted = omega (arith, counted', shorter, a.counted);
        room = λ r. omega (arith, a.room r, shorter, spare);
        walk_room = a.walk_room;
      },
      rw (same, whole) (sym (take_at front (link ∷ []) (length less.entries) (length-links_of less.entries bound))),
    )

codes_cut : (nodes : List Term) (m : ℕ) (links : List Link) → AreBelow m links → HaveSameCodes nodes links → HaveSameCodes (take m nodes) links
codes_cut nodes m [] b c = tt
codes_cut nodes m (l ∷ links) b c = (rw (get_or-take m nodes l.from _ b.0.0, get_or-take m nodes l.to _ b.0.1) c.0, codes_cut nodes m links b.1 c.1)

count_none : (xs : List (Option ℕ)) → ((i : ℕ) → bound_at xs i ≡ None) → count_by is_some xs ≡ 0
count_none [] none = refl
count_none (x ∷ xs) none =
    let head : x ≡ None = none 0 in
    let rest = count_none xs (λ i. none (suc i)) in
    let cons : count_by is_some (x ∷ xs) ≡ cond (is_some x) 1 0 + count_by is_some xs = sum_by-cons (λ (o : Option ℕ). cond (is_some o) 1 0) x xs in
    let cons' : count_by is_some (x ∷ xs) ≡ 0 + count_by is_some xs = cons ∙ ap (λ (o : Option ℕ). cond (is_some o) 1 0 + count_by is_some xs) head in
    omega (arith, cons', rest)

links_of_cut : (trail : List ℕ) (bound : List (Option ℕ)) (m : ℕ) → AreBelow m (links_of trail bound) → links_of trail (take m bound) ≡ links_of trail bound
links_of_cut [] bound m b = refl
links_of_cut (i ∷ trail) bound m b = rw (get_or-take m bound i None b.0.0, links_of_cut trail bound m b.1) refl

-- the nodes are cut, where no binding names a later one
pub arena_cut : (nodes : List Term) (bound : List (Option ℕ)) (trail : Noted) (states : List State) (ready : Bool) (m : ℕ) → m ≤ length nodes
    → AreBelow m (links_of trail.entries bound) → IsArena nodes bound trail states ready
    → IsArena (take m nodes) (take m bound) trail states ready × (links_of trail.entries (take m bound) ≡ links_of trail.entries bound)
arena_cut nodes bound trail states ready m h below a =
    let links : List Link = links_of trail.entries bound in
    let same : links_of trail.entries (take m bound) ≡ links = links_of_cut trail.entries bound m below in
    let short : length (take m nodes) ≡ m = length-take-le m nodes h in
    let dropped : count_by is_some (drop m bound) ≡ 0 = count_none (drop m bound) (λ i. get_or-drop m bound i None ∙ a.table.each (m + i) ∙ unbound_past m links (m + i) below (omega arith)) in
    let split : count_by is_some (take m bound) + count_by is_some (drop m bound) ≡ count_by is_some bound = sum_by-take-drop (λ (o : Option ℕ). cond (is_some o) 1 0) bound m in (
      record {
        same = length-take-le m bound (omega (arith, a.same)) ∙ sym short;
        short = omega (arith, short, a.short);
        store = rw same (record {
          children = λ i i_below. let lt : i < m = omega (arith, short) in rw (get_or-take m nodes i _ lt) (a.store.children i (omega arith));
          in_order = rw short (in_order_cut (length nodes) m links a.store.in_order below);
          codes = codes_cut nodes m links below a.store.codes;
        });
        table = record {
          each = λ i. rw same (elim (cases_lt i m) [
            | inl lt ↦ get_or-take m bound i None lt ∙ a.table.each i
            | inr ge ↦ get_or_past (take m bound) i None (omega (arith, length-take-le m bound (omega (arith, a.same)))) ∙ sym (unbound_past m links i below ge)
          ]);
        };
        counted = omega (arith, dropped, split, a.counted);
        room = λ r. omega (arith, short, a.room r);
        walk_room = λ r. omega (arith, short, a.walk_room r);
      },
      same,
    )

pub last_entry_below : (nodes : List Term) (bound : List (Option ℕ)) (trail less : Noted) (states : List State) (ready : Bool) (last : ℕ)
    → IsArena nodes bound trail states ready → trail.entries ≡ less.entries ++ last ∷ [] → last < length bound
last_entry_below nodes bound trail less states ready last a e =
    let link : Link = record { from = last; to = unwrap_or (bound_at bound last) 0 } in
    let whole : links_of trail.entries bound ≡ links_of less.entries bound ++ link ∷ [] =
    rw e (map_push (λ (i : ℕ). record { from = i; to = unwrap_or (bound_at bound i) 0 }) less.entries last) in
    omega (arith, last_below (length nodes) (links_of less.entries bound) link (rw whole at a.store.in_order), a.same)
