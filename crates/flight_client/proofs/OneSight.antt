-- What a path shows is one thing.
use Rattle.std.proofs.Common.{◌≡◌, ◌≢◌, ℕ, List, [], ◌∷◌, ◌++◌, refl, sym, ◌∙◌, ap, subst, Option, Some, None, inl, inr}
use Rattle.std.specs.Prelude.{false, slice_get, option_and_then, is_some, if◌then◌else◌}
use Rattle.flight_value.specs.Store as store
use Rattle.flight_value.specs.Store.{Label, Shape, Target}
use Rattle.flight_value.specs.declared.graph.Atom.{Atom}
use Rattle.flight_value.specs.declared.graph.Atom.TheVariants as atom
use Rattle.flight_text.specs.declared.mark.Ref.{Ref}
use Rattle.flight_meaning.specs.declared.place.Place.{Place}
use Rattle.flight_meaning.specs.declared.place.Place.TheVariants as place
use Rattle.flight_meaning.specs.declared.place.PlaceTree.{PlaceTree}
use Rattle.flight_meaning.specs.declared.place.PlacedRow.{PlacedRow}
use Rattle.flight_meaning.specs.Linked.{rows_of, Spot, place_at}
use Rattle.flight_meaning.specs.Resolve.{Path, to, found, not_yet, Found, Ends}
use Rattle.flight_meaning.specs.Meaning.{Written, value_of, Identity, made_at, promise_of, stream_of, action_of, Token, map_token, set_token, pending, stand_of, slots_found, HasSlots, FailsWith, TokenLeads, LeadsHere, IsTarget, Leads, HasShape, reference_of, reference_by}
use Rattle.flight_meaning.proofs.Walking.{one_end, not_endless}
use Rattle.flight_meaning.proofs.OneMeaning.{leads_once, stands_once}
use Rattle.flight_graph.specs.declared.label.Label.TheVariants as look
use Rattle.flight_link.specs.declared.found.Seen.{Seen}
use Rattle.flight_link.specs.declared.found.Seen.TheVariants as seen
use Rattle.flight_link.specs.Looking.{kind_of, AwaitsHere, Awaits, Sight, sees_atom, sees_node, awaits, no_place, SeesHere, SeesPast, InSlot, SeesBelow, Sees, Shows, IsMark, IsSeen}
use Rattle.flight_client.specs.AnyPrefix.{HasOneMark, IsSame, IsFinal}
use Rattle.flight_client.specs.Adding.{Grows}
use Rattle.flight_client.proofs.OneMark.{has_one_mark}
use Rattle.flight_client.proofs.Labels.{labels_stay}
use Rattle.flight_client.proofs.NoPlace.{no_place_stays}

-- ---- what is awaited

not_yet_id : (i j : ℕ) (p q : Path) → not_yet i p ≡ not_yet j q → i ≡ j
not_yet_id i j p q e = cc

found_spot : (s t : Spot) → found s ≡ found t → s ≡ t
found_spot s t e = cc

never : (s : Spot) (i : ℕ) (p : Path) → found s ≡ not_yet i p → ⊥
never s i p e = cc

some_place : (a b : Place) → Some a ≡ Some b → a ≡ b
some_place a b e = cc

here_once : (rows : List PlacedRow) (s : Spot) (at : Place) (i j : ℕ) → AwaitsHere rows s at i → AwaitsHere rows s at j → i ≡ j
here_once rows s (place.Map r) i j a b = not_yet_id i j a.0 b.0 (one_end rows (to r.id r.path) (not_yet i a.0) (not_yet j b.0) a.1 b.1)
here_once rows s (place.Set r) i j a b = not_yet_id i j a.0 b.0 (one_end rows (to r.id r.path) (not_yet i a.0) (not_yet j b.0) a.1 b.1)
here_once rows s (place.Action named) i j a b = sym a.0 ∙ b.0
here_once rows s at i j a b = absurd a

awaits_once : (rows : List PlacedRow) (w : Written) (i j : ℕ) → Awaits rows w i → Awaits rows w j → i ≡ j
awaits_once rows w i j (inl a) (inl b) = not_yet_id i j a.0 b.0 (one_end rows (stand_of w) (not_yet i a.0) (not_yet j b.0) a.1 b.1)
awaits_once rows w i j (inl a) (inr b) = absurd (never b.0 i a.0 (one_end rows (stand_of w) (found b.0) (not_yet i a.0) b.2 a.1))
awaits_once rows w i j (inr a) (inl b) = absurd (never a.0 j b.0 (one_end rows (stand_of w) (found a.0) (not_yet j b.0) a.2 b.1))
awaits_once rows w i j (inr a) (inr b) =
    let spot : a.0 ≡ b.0 = found_spot a.0 b.0 (one_end rows (stand_of w) (found a.0) (found b.0) a.2 b.2) in
    let same : a.1 ≡ b.1 = some_place a.1 b.1 (sym a.3 ∙ ap (place_at rows) spot ∙ b.3) in
    here_once rows b.0 b.1 i j (subst (λ p. AwaitsHere rows b.0 p i) same (subst (λ s. AwaitsHere rows s a.1 i) spot a.4)) b.4

-- ---- what is awaited pends

no_slots : (rows : List PlacedRow) (token : Token) (r : Ref) (i : ℕ) (p : Path) (slots : List Written) → Ends rows (to r.id r.path) (not_yet i p) → HasSlots rows token r slots → ⊥
no_slots rows token r i p slots e h =
    let same : h.0 ≡ not_yet i p = one_end rows (to r.id r.path) h.0 (not_yet i p) h.1 e in
    let none : None ≡ Some slots = ap (slots_found token rows) (sym same) ∙ h.2 in
    cc

no_failure : (rows : List PlacedRow) (r : Ref) (i : ℕ) (p : Path) (digest : List ℕ) → Ends rows (to r.id r.path) (not_yet i p) → FailsWith rows r digest → ⊥
no_failure rows r i p digest e h = never h.0 i p (one_end rows (to r.id r.path) (found h.0) (not_yet i p) h.1 e)

token_pends : (rows : List PlacedRow) (token : Token) (s : Spot) (r : Ref) (i : ℕ) (p : Path) (t : Target Identity) → Ends rows (to r.id r.path) (not_yet i p) → TokenLeads rows token s r t → t ≡ pending
token_pends rows token s r i p t e (inl h) = absurd (no_slots rows token r i p h.0 e h.1)
token_pends rows token s r i p t e (inr (inl h)) = absurd (no_failure rows r i p h.0 e h.1)
token_pends rows token s r i p t e (inr (inr h)) = h.2

no_reference : (rows : List PlacedRow) (id : ℕ) (ts : List PlaceTree) → ts ≡ [] → is_some (option_and_then (λ t. reference_by rows id t.kind) (slice_get ts 0)) ≡ false
no_reference rows id [] e = refl
no_reference rows id (t ∷ ts) e = absurd cc

action_pends : (rows : List PlacedRow) (id : ℕ) (t : Target Identity) → rows_of id rows ≡ [] → t ≡ (if is_some (reference_of rows id) then store.node_at (action_of id) else pending) → t ≡ pending
action_pends rows id t none e = e ∙ ap (λ b. if b then store.node_at (action_of id) else pending) (no_reference rows id (rows_of id rows) none)

here_pends : (rows : List PlacedRow) (s : Spot) (at : Place) (i : ℕ) (t : Target Identity) → AwaitsHere rows s at i → LeadsHere rows s (Some at) t → t ≡ pending
here_pends rows s (place.Map r) i t a h = token_pends rows map_token s r i a.0 t a.1 h
here_pends rows s (place.Set r) i t a h = token_pends rows set_token s r i a.0 t a.1 h
here_pends rows s (place.Action named) i t a h = action_pends rows named t (subst (λ n. rows_of n rows ≡ []) (sym a.0) a.1) h
here_pends rows s at i t a h = absurd a

awaited_pends : (rows : List PlacedRow) (w : Written) (i : ℕ) (t : Target Identity) → Awaits rows w i → Leads rows w t → t ≡ pending
awaited_pends rows w i t (inl a) (inl h) = subst (λ f. IsTarget rows f t) (one_end rows (stand_of w) h.0 (not_yet i a.0) h.1 a.1) h.2
awaited_pends rows w i t (inl a) (inr h) = h.1
awaited_pends rows w i t (inr a) (inr h) = h.1
awaited_pends rows w i t (inr a) (inl h) =
    let here : LeadsHere rows a.0 (place_at rows a.0) t = subst (λ f. IsTarget rows f t) (one_end rows (stand_of w) h.0 (found a.0) h.1 a.2) h.2 in
    here_pends rows a.0 a.1 i t a.4 (subst (λ o. LeadsHere rows a.0 o t) a.3 here)

-- ---- one sight at a slot

atom_value : (v w : Atom) → ◌≡◌ {A = Target Identity} (store.atom v) (store.atom w) → v ≡ w
atom_value v w e = cc

node_key : (k l : Identity) → store.node_at k ≡ store.node_at l → k ≡ l
node_key k l e = cc

atom_no_node : (v : Atom) (k : Identity) → store.atom v ≡ store.node_at k → ⊥
atom_no_node v k e = cc

same_atom : (v w : Atom) → v ≡ w → sees_atom v ≡ sees_atom w
same_atom v w e = ap sees_atom e

same_node : (a b : Label) (k l : Identity) → a ≡ b → k ≡ l → sees_node a k ≡ sees_node b l
same_node a b k l e f = cc

shapes : (rows : List PlacedRow) (k l : Identity) (x y : Shape Written) → k ≡ l → HasShape rows k x → HasShape rows l y → x ≡ y
shapes rows k l x y e a b = stands_once rows l x y (subst (λ n. HasShape rows n x) e a) b

here : (rows : List PlacedRow) (w : Written) (a b : Sight) → SeesHere rows w a → SeesHere rows w b → a ≡ b
here rows w (sees_atom v) (sees_atom u) a b = same_atom v u (atom_value v u (leads_once rows w (store.atom v) (store.atom u) a.0 b.0))
here rows w (sees_atom v) (sees_node l k) a b = absurd (atom_no_node v k (leads_once rows w (store.atom v) (store.node_at k) a.0 b.0))
here rows w (sees_atom v) (awaits i) a b = absurd (a.1 (atom_value v atom.Pending (awaited_pends rows w i (store.atom v) b a.0)))
here rows w (sees_atom v) no_place a b = absurd (a.1 (atom_value v atom.Pending (leads_once rows w (store.atom v) pending a.0 b.0)))
here rows w (sees_node l k) (sees_atom u) a b = absurd (atom_no_node u k (leads_once rows w (store.atom u) (store.node_at k) b.0 a.0))
here rows w (sees_node l k) (sees_node m n) a b =
    let key : k ≡ n = node_key k n (leads_once rows w (store.node_at k) (store.node_at n) a.0 b.0) in
    let shape : a.1.0 ≡ b.1.0 = shapes rows k n a.1.0 b.1.0 key a.1.1 b.1.1 in
    same_node l m k n (a.1.2 ∙ ap (λ x. x.label) shape ∙ sym b.1.2) key
here rows w (sees_node l k) (awaits i) a b = absurd (atom_no_node atom.Pending k (sym (awaited_pends rows w i (store.node_at k) b a.0)))
here rows w (sees_node l k) no_place a b = absurd (atom_no_node atom.Pending k (leads_once rows w pending (store.node_at k) b.0 a.0))
here rows w (awaits i) (sees_atom u) a b = absurd (b.1 (atom_value u atom.Pending (awaited_pends rows w i (store.atom u) a b.0)))
here rows w (awaits i) (sees_node m n) a b = absurd (atom_no_node atom.Pending n (sym (awaited_pends rows w i (store.node_at n) a b.0)))
here rows w (awaits i) (awaits j) a b = ap awaits (awaits_once rows w i j a b)
here rows w (awaits i) no_place a b = absurd (b.1 i a)
here rows w no_place (sees_atom u) a b = absurd (b.1 (atom_value u atom.Pending (leads_once rows w (store.atom u) pending b.0 a.0)))
here rows w no_place (sees_node m n) a b = absurd (atom_no_node atom.Pending n (leads_once rows w pending (store.node_at n) a.0 b.0))
here rows w no_place (awaits j) a b = absurd (a.1 j b)
here rows w no_place no_place a b = refl

-- ---- one sight along a path

past : (l : Label) (k : Identity) (a b : Sight) → SeesPast l k a → SeesPast l k b → a ≡ b
past (store.stream flow store.flowing) (stream_of id) a b p q = p ∙ sym q
past l k a b p q = p ∙ sym q

slot : (rows : List PlacedRow) (path : List ℕ) (l : Label) (k : Identity) (o : Option Written) (a b : Sight) → ((w : Written) → Sees rows w path a → Sees rows w path b → a ≡ b) → InSlot (λ v. Sees rows v path a) l k o a → InSlot (λ v. Sees rows v path b) l k o b → a ≡ b
slot rows path l k (Some w) a b more p q = more w p q
slot rows path l k None a b more p q = past l k a b p q

below : (rows : List PlacedRow) (path : List ℕ) (w : Written) (n : ℕ) (a b : Sight) → ((v : Written) → Sees rows v path a → Sees rows v path b → a ≡ b) → SeesBelow rows (λ v. Sees rows v path a) w n a → SeesBelow rows (λ v. Sees rows v path b) w n b → a ≡ b
below rows path w n a b more (inl p) (inl q) =
    let key : p.0 ≡ q.0 = node_key p.0 q.0 (leads_once rows w (store.node_at p.0) (store.node_at q.0) p.2 q.2) in
    let shape : p.1 ≡ q.1 = shapes rows p.0 q.0 p.1 q.1 key p.3 q.3 in
    slot rows path q.1.label q.0 (slice_get q.1.slots n) a b more
    (subst (λ (x : Shape Written). InSlot (λ v. Sees rows v path a) x.label q.0 (slice_get x.slots n) a) shape (subst (λ k. InSlot (λ v. Sees rows v path a) p.1.label k (slice_get p.1.slots n) a) key p.4)) q.4
below rows path w n a b more (inl p) (inr (inl q)) = absurd (atom_no_node q.0 p.0 (leads_once rows w (store.atom q.0) (store.node_at p.0) q.1 p.2))
below rows path w n a b more (inl p) (inr (inr (inl q))) = absurd (atom_no_node atom.Pending p.0 (sym (awaited_pends rows w q.0 (store.node_at p.0) q.1 p.2)))
below rows path w n a b more (inl p) (inr (inr (inr q))) = absurd (atom_no_node atom.Pending p.0 (leads_once rows w pending (store.node_at p.0) q.0 p.2))
below rows path w n a b more (inr (inl p)) (inl q) = absurd (atom_no_node p.0 q.0 (leads_once rows w (store.atom p.0) (store.node_at q.0) p.1 q.2))
below rows path w n a b more (inr (inl p)) (inr (inl q)) = p.3 ∙ sym q.3
below rows path w n a b more (inr (inl p)) (inr (inr (inl q))) = absurd (p.2 (atom_value p.0 atom.Pending (awaited_pends rows w q.0 (store.atom p.0) q.1 p.1)))
below rows path w n a b more (inr (inl p)) (inr (inr (inr q))) = p.3 ∙ sym q.2
below rows path w n a b more (inr (inr (inl p))) (inl q) = absurd (atom_no_node atom.Pending q.0 (sym (awaited_pends rows w p.0 (store.node_at q.0) p.1 q.2)))
below rows path w n a b more (inr (inr (inl p))) (inr (inl q)) = absurd (q.2 (atom_value q.0 atom.Pending (awaited_pends rows w p.0 (store.atom q.0) p.1 q.1)))
below rows path w n a b more (inr (inr (inl p))) (inr (inr (inl q))) = p.2 ∙ ap awaits (awaits_once rows w p.0 q.0 p.1 q.1) ∙ sym q.2
below rows path w n a b more (inr (inr (inl p))) (inr (inr (inr q))) = absurd (q.1 p.0 p.1)
below rows path w n a b more (inr (inr (inr p))) (inl q) = absurd (atom_no_node atom.Pending q.0 (leads_once rows w pending (store.node_at q.0) p.0 q.2))
below rows path w n a b more (inr (inr (inr p))) (inr (inl q)) = p.2 ∙ sym q.3
below rows path w n a b more (inr (inr (inr p))) (inr (inr (inl q))) = absurd (p.1 q.0 q.1)
below rows path w n a b more (inr (inr (inr p))) (inr (inr (inr q))) = p.2 ∙ sym q.2

pub one_sight : (rows : List PlacedRow) (path : List ℕ) (w : Written) (a b : Sight) → Sees rows w path a → Sees rows w path b → a ≡ b
one_sight rows [] w a b p q = here rows w a b p q
one_sight rows (n ∷ path) w a b p q = below rows path w n a b (λ v. one_sight rows path v a b) p q

-- ---- one answer of a look

atoms_seen : (v u : Atom) → sees_atom v ≡ sees_atom u → v ≡ u
atoms_seen v u e = cc

labels_seen : (l m : Label) (k n : Identity) → sees_node l k ≡ sees_node m n → l ≡ m
labels_seen l m k n e = cc

keys_seen : (l m : Label) (k n : Identity) → sees_node l k ≡ sees_node m n → k ≡ n
keys_seen l m k n e = cc

ids_seen : (i j : ℕ) → awaits i ≡ awaits j → i ≡ j
ids_seen i j e = cc

atom_or_node : (v : Atom) (l : Label) (k : Identity) → sees_atom v ≡ sees_node l k → ⊥
atom_or_node v l k e = cc

atom_or_id : (v : Atom) (i : ℕ) → sees_atom v ≡ awaits i → ⊥
atom_or_id v i e = cc

atom_or_none : (v : Atom) → sees_atom v ≡ no_place → ⊥
atom_or_none v e = cc

node_or_id : (l : Label) (k : Identity) (i : ℕ) → sees_node l k ≡ awaits i → ⊥
node_or_id l k i e = cc

node_or_none : (l : Label) (k : Identity) → sees_node l k ≡ no_place → ⊥
node_or_none l k e = cc

id_or_none : (i : ℕ) → awaits i ≡ no_place → ⊥
id_or_none i e = cc

module _ (rows : List PlacedRow) (path : List ℕ) (marks : HasOneMark rows) where
  one : (a b : Sight) → Shows rows path a → Shows rows path b → a ≡ b
  one a b p q = one_sight rows path (value_of 0) a b p q

  pub one_answer : (a b : Seen) → IsSeen rows path a → IsSeen rows path b → IsSame a b
  one_answer (seen.Label (look.Atom v)) (seen.Label (look.Atom u)) p q = atoms_seen v.now u.now (one (sees_atom v.now) (sees_atom u.now) p q)
  one_answer (seen.Label (look.Atom v)) (seen.Label (look.Node kind mark)) p q = absurd (atom_or_node v.now q.0 q.1 (one (sees_atom v.now) (sees_node q.0 q.1) p q.2))
  one_answer (seen.Label (look.Atom v)) (seen.NotYet id) p q = absurd (atom_or_id v.now id (one (sees_atom v.now) (awaits id) p q))
  one_answer (seen.Label (look.Atom v)) seen.NoPlace p q = absurd (atom_or_none v.now (one (sees_atom v.now) no_place p q))
  one_answer (seen.Label (look.Node kind mark)) (seen.Label (look.Atom u)) p q = absurd (atom_or_node u.now p.0 p.1 (one (sees_atom u.now) (sees_node p.0 p.1) q p.2))
  one_answer (seen.Label (look.Node kind mark)) (seen.Label (look.Node other number)) p q =
      let same : sees_node p.0 p.1 ≡ sees_node q.0 q.1 = one (sees_node p.0 p.1) (sees_node q.0 q.1) p.2 q.2 in
      let key : p.1 ≡ q.1 = keys_seen p.0 q.0 p.1 q.1 same in
      (p.3 ∙ ap kind_of (labels_seen p.0 q.0 p.1 q.1 same) ∙ sym q.3, marks.one_mark q.1 mark number (subst (λ k. IsMark rows k mark) key p.4) q.4)
  one_answer (seen.Label (look.Node kind mark)) (seen.NotYet id) p q = absurd (node_or_id p.0 p.1 id (one (sees_node p.0 p.1) (awaits id) p.2 q))
  one_answer (seen.Label (look.Node kind mark)) seen.NoPlace p q = absurd (node_or_none p.0 p.1 (one (sees_node p.0 p.1) no_place p.2 q))
  one_answer (seen.NotYet id) (seen.Label (look.Atom u)) p q = absurd (atom_or_id u.now id (one (sees_atom u.now) (awaits id) q p))
  one_answer (seen.NotYet id) (seen.Label (look.Node other number)) p q = absurd (node_or_id q.0 q.1 id (one (sees_node q.0 q.1) (awaits id) q.2 p))
  one_answer (seen.NotYet id) (seen.NotYet other) p q = ids_seen id other (one (awaits id) (awaits other) p q)
  one_answer (seen.NotYet id) seen.NoPlace p q = absurd (id_or_none id (one (awaits id) no_place p q))
  one_answer seen.NoPlace (seen.Label (look.Atom u)) p q = absurd (atom_or_none u.now (one (sees_atom u.now) no_place q p))
  one_answer seen.NoPlace (seen.Label (look.Node other number)) p q = absurd (node_or_none q.0 q.1 (one (sees_node q.0 q.1) no_place q.2 p))
  one_answer seen.NoPlace (seen.NotYet other) p q = absurd (id_or_none other (one (awaits other) no_place q p))
  one_answer seen.NoPlace seen.NoPlace p q = tt

-- an answer that more rows do not change
pub final_stays : (old more : List PlacedRow) (path : List ℕ) (a : Seen) → IsFinal a → IsSeen old path a → IsSeen (old ++ more) path a
final_stays old more path (seen.Label l) final is = labels_stay old more path l is
final_stays old more path (seen.NotYet id) final is = absurd final
final_stays old more path seen.NoPlace final is = no_place_stays old more path is

pub stays : (old new : List PlacedRow) (path : List ℕ) (a b : Seen) → Grows old new → IsFinal a → IsSeen old path a → IsSeen new path b → IsSame a b
stays old new path a b grows final p q =
    one_answer (old ++ grows.more) path (has_one_mark (old ++ grows.more)) a b (final_stays old grows.more path a final p) (subst (λ rows. IsSeen rows path b) grows.added q)

pub one_at_once : (rows : List PlacedRow) (path : List ℕ) (a b : Seen) → IsSeen rows path a → IsSeen rows path b → IsSame a b
one_at_once rows path a b p q = one_answer rows path (has_one_mark rows) a b p q
