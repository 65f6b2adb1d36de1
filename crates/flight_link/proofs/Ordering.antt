-- The walk over keys goes as the walk through the graph that is drawn under them.
use Rattle.std.proofs.Common.{◌≡◌, ℕ, suc, ◌+◌, ◌*◌, ◌-◌, ◌^◌, ◌<◌, ◌≤◌, List, [], ◌∷◌, ◌++◌, map, reverse, length, Bool, true, false, not, Option, Some, None, is_some, unwrap_or, slice_get, refl, sym, ◌∙◌, ap, ap₂, subst, arith, All, length-append}
use Rattle.std.specs.List.{AllZip, AllByRecursion}
use Rattle.std.proofs.Math.Nat.{suc-mul}
use Rattle.std.proofs.lemmas.List.{length-reverse, reverse-append, reverse-reverse}
use Rattle.std.proofs.lemmas.List.Elements.{All-pop, All-append, All-from_recursion}
use Rattle.std.proofs.lemmas.List.Sorted.{All-permutation, IsPermutation-reverse}
use Rattle.std.proofs.lemmas.Option.{same_Some, slice_get_within}
use Rattle.flight_value.specs.declared.graph.Atom.{Atom}
use Rattle.flight_value.specs.declared.graph.Atom.TheVariants as atom
use Rattle.flight_value.specs.declared.graph.Slot.{Slot}
use Rattle.flight_value.specs.declared.graph.Slot.TheVariants as slot
use Rattle.flight_value.specs.declared.graph.Node.{Node}
use Rattle.flight_value.specs.declared.graph.Node.TheVariants as node
use Rattle.flight_value.specs.declared.graph.Graph.{Graph}
use Rattle.flight_value.specs.Graph.{slots_of, IsValid}
use Rattle.flight_value.specs.Store as store
use Rattle.flight_value.specs.Store.{Shape, DrawOneGraph, of_graph}
use Rattle.flight_graph.specs.Canon.{place_in, slots_at, visited_of, walk}
use Rattle.flight_graph.specs.Ordered.{in_order}
use Rattle.flight_graph.specs.Text.{text_of}
use Rattle.flight_graph.specs.Walk.{named, named_by, slots_waiting}
use Rattle.flight_graph.proofs.Ordered.{order_at, order_past, ordered_text}
use Rattle.flight_graph.proofs.Walks.{passes, root_first, slots_more, visits}
use Rattle.flight_meaning.specs.declared.place.PlacedRow.{PlacedRow}
use Rattle.flight_meaning.specs.Meaning.{Written, value_of, Identity, HasShape, Leads, meaning}
use Rattle.flight_meaning.proofs.OneMeaning.{leads_once, stands_once}
use Rattle.flight_link.specs.declared.key.NodeKey.{NodeKey}
use Rattle.flight_link.specs.declared.key.NodeKey.TheVariants.{Made, Promise, Action}
use Rattle.flight_link.specs.declared.numbers.Numbers.{Numbers}
use Rattle.flight_link.specs.declared.table.Table.{Table}
use Rattle.flight_link.specs.declared.target.Target.{Target}
use Rattle.flight_link.specs.declared.target.Target.TheVariants as target
use Rattle.flight_link.specs.Drawing.{identity_of, numbered_from, Draws, AreDrawn, AreApart}
use Rattle.flight_link.specs.Laid.{IsTextUnder}
use Rattle.flight_link.specs.Nodes.{IsFine, IsPlain, IsTable}
use Rattle.flight_link.specs.Numbering.{IsKey, HasNumber, AreNumbered, number_of}
use Rattle.flight_link.specs.Ordering.{key_in, keys_in, AreNumbersOf, IsOnWay, IsOrdered, VisitsKey, turns_within, turns_left}
use Rattle.flight_link.specs.Targets.{IsTargetOf}
use Rattle.flight_link.proofs.Drawing.{grown_at, grows_none, grows_on, node_leads, zip_push}
use Rattle.flight_link.proofs.Drawn.{graph_fits, node_of_key}
use Rattle.flight_link.proofs.Growing.{push_at}
use Rattle.flight_link.proofs.Slots.{node_place}
use Rattle.flight_link.proofs.Valid.{graph_valid}

-- ---- the keys of targets are those of the nodes that slots name

atom_or_node : (a : Atom) (k : Identity) → store.atom a ≡ store.node_at k → ⊥
atom_or_node a k e = cc

same_node : (i j : Identity) → store.node_at i ≡ store.node_at j → i ≡ j
same_node i j e = cc

atom_named : (rows : List PlacedRow) (keys : List NodeKey) (w : Written) (s : Slot) (b : Atom) (ns : List ℕ) → Draws rows keys s w → Leads rows w (store.atom b) → AreNumbersOf keys ns [] → named_by s ≡ ns
atom_named rows keys w (slot.Atom a) b [] d l z = refl
atom_named rows keys w (slot.Atom a) b (n ∷ ns) d l z = absurd z
atom_named rows keys w (slot.Node n) b ns d l z = absurd (atom_or_node b (identity_of rows d.0) (leads_once rows w (store.atom b) (store.node_at (identity_of rows d.0)) l d.2))

key_named : (rows : List PlacedRow) (keys : List NodeKey) (w : Written) (s : Slot) (key : NodeKey) (ns : List ℕ) → AreApart rows keys → Draws rows keys s w → Leads rows w (store.node_at (identity_of rows key)) → AreNumbersOf keys ns (key ∷ []) → named_by s ≡ ns
key_named rows keys w (slot.Atom a) key ns apart d l z = absurd (atom_or_node a (identity_of rows key) (leads_once rows w (store.atom a) (store.node_at (identity_of rows key)) d l))
key_named rows keys w (slot.Node n) key [] apart d l z = absurd z
key_named rows keys w (slot.Node n) key (m ∷ []) apart d l z =
    ap (λ q. q ∷ []) (apart n m d.0 key d.1 z.0 (same_node (identity_of rows d.0) (identity_of rows key) (leads_once rows w (store.node_at (identity_of rows d.0)) (store.node_at (identity_of rows key)) d.2 l)))
key_named rows keys w (slot.Node n) key (m ∷ p ∷ ns) apart d l z = absurd z.1

target_named : (rows : List PlacedRow) (keys : List NodeKey) (w : Written) (s : Slot) (t : Target) (ns : List ℕ) → IsPlain rows → AreApart rows keys → Draws rows keys s w → IsTargetOf rows w t → AreNumbersOf keys ns (key_in t) → named_by s ≡ ns
target_named rows keys w s (target.Atom a) ns plain apart d h z = atom_named rows keys w s a.now ns d h.0 z
target_named rows keys w s (target.Node spot) ns plain apart d h z = key_named rows keys w s (Made spot) ns apart d (node_leads rows spot w plain h) z
target_named rows keys w s (target.Promise id) ns plain apart d h z = key_named rows keys w s (Promise id) ns apart d h z
target_named rows keys w s (target.Action id) ns plain apart d h z = key_named rows keys w s (Action id) ns apart d h z
target_named rows keys w s (target.Awaits id) ns plain apart d h z = atom_named rows keys w s atom.Pending ns d h.0 z
target_named rows keys w s target.Lost ns plain apart d h z = atom_named rows keys w s atom.Pending ns d h.0 z

-- numbers of keys and of more keys
pub record AreParts (keys : List NodeKey) (ns : List ℕ) (front rest : List NodeKey) : Type 0 where
  pub first : List ℕ
  pub others : List ℕ
  pub whole : ns ≡ first ++ others
  pub of_front : AreNumbersOf keys first front
  pub of_rest : AreNumbersOf keys others rest

parts : (keys : List NodeKey) (ns : List ℕ) (front rest : List NodeKey) → AreNumbersOf keys ns (front ++ rest) → AreParts keys ns front rest
parts keys ns [] rest z = record { first = []; others = ns; whole = refl; of_front = tt; of_rest = z }
parts keys [] (k ∷ front) rest z = absurd z
parts keys (n ∷ ns) (k ∷ front) rest z =
    let p = parts keys ns front rest z.1 in
    record { first = n ∷ p.first; others = p.others; whole = ap (λ xs. n ∷ xs) p.whole; of_front = (z.0, p.of_front); of_rest = p.of_rest }

targets_named : (rows : List PlacedRow) (keys : List NodeKey) (slots : List Slot) (ws : List Written) (ts : List Target) (ns : List ℕ) → IsPlain rows → AreApart rows keys → AllZip (Draws rows keys) slots ws → AllZip (IsTargetOf rows) ws ts → AreNumbersOf keys ns (keys_in ts) → named slots ≡ ns
targets_named rows keys [] [] [] [] plain apart d h z = refl
targets_named rows keys [] [] [] (n ∷ ns) plain apart d h z = absurd z
targets_named rows keys (s ∷ slots) (w ∷ ws) (t ∷ ts) ns plain apart d h z =
    let p = parts keys ns (key_in t) (keys_in ts) z in
    ap₂ (λ x y. x ++ y) (target_named rows keys w s t p.first plain apart d.0 h.0 p.of_front) (targets_named rows keys slots ws ts p.others plain apart d.1 h.1 p.of_rest)
    ∙ sym p.whole
targets_named rows keys [] [] (t ∷ ts) ns plain apart d h z = absurd h
targets_named rows keys [] (w ∷ ws) ts ns plain apart d h z = absurd d
targets_named rows keys (s ∷ slots) [] ts ns plain apart d h z = absurd d
targets_named rows keys (s ∷ slots) (w ∷ ws) [] ns plain apart d h z = absurd h

-- ---- they are keys

key_there : (t : Table) (w : Written) (x : Target) → IsTable t → IsTargetOf t.rows.items w x → AllByRecursion (IsKey t.rows.items) (key_in x)
key_there t w (target.Atom a) table h = tt
key_there t w (target.Node spot) table h = (node_place t spot w table h, tt)
key_there t w (target.Promise id) table h = (tt, tt)
key_there t w (target.Action id) table h = (tt, tt)
key_there t w (target.Awaits id) table h = tt
key_there t w target.Lost table h = tt

both_keys : (rows : List PlacedRow) (ks ls : List NodeKey) → AllByRecursion (IsKey rows) ks → AllByRecursion (IsKey rows) ls → AllByRecursion (IsKey rows) (ks ++ ls)
both_keys rows [] ls p q = q
both_keys rows (k ∷ ks) ls p q = (p.0, both_keys rows ks ls p.1 q)

keys_there : (t : Table) (ws : List Written) (xs : List Target) → IsTable t → AllZip (IsTargetOf t.rows.items) ws xs → AllByRecursion (IsKey t.rows.items) (keys_in xs)
keys_there t [] [] table h = tt
keys_there t [] (x ∷ xs) table h = absurd h
keys_there t (w ∷ ws) [] table h = absurd h
keys_there t (w ∷ ws) (x ∷ xs) table h = both_keys t.rows.items (key_in x) (keys_in xs) (key_there t w x table h.0) (keys_there t ws xs table h.1)

-- ---- the walk begins and ends

pub begins : (t : Table) (x : Target) → IsTable t → IsTargetOf t.rows.items (value_of 0) x → IsOnWay t.rows.items [] (key_in x)
unfolding visited_of
begins t x table h = record {
  are_keys = All-from_recursion (IsKey t.rows.items) (key_in x) (key_there t (value_of 0) x table h);
  comes = λ keys root nodes ns grows apart d drawn long z.
      let named = target_named t.rows.items keys (value_of 0) root x ns table.plain apart d h z in
      let count : length keys - 0 ≡ length nodes = omega (arith, long) in
      ap₂ (λ k r. walk (suc k) nodes [] (slots_waiting r)) count (sym named) ∙ root_first (length nodes) nodes root;
}

pub ends : (rows : List PlacedRow) (keys : List NodeKey) → AreApart rows keys → IsOnWay rows keys [] → IsOrdered rows keys
ends rows keys apart h = λ root nodes d drawn long. sym (h.comes keys root nodes [] (grows_none keys) apart d drawn long tt)

-- ---- a key is met

next_first : (ns : List ℕ) (n : ℕ) → slots_waiting (ns ++ n ∷ []) ≡ slot.Node n ∷ slots_waiting ns
next_first ns n = ap (map slot.Node) (reverse-append ns (n ∷ []))

-- it has its number
passed : (rows : List PlacedRow) (these waiting : List NodeKey) (key : NodeKey) (n : ℕ) → IsOnWay rows these (waiting ++ key ∷ []) → slice_get these n ≡ Some key → IsOnWay rows these waiting
passed rows these waiting key n h at = record {
  are_keys = (All-pop (IsKey rows) (waiting ++ key ∷ []) waiting (Some key) refl h.are_keys).0;
  comes = λ keys root nodes ns grows apart d drawn long z.
      let less : n < length these = slice_get_within these n key at in
      let met : is_some (place_in n (in_order (length these))) ≡ true = ap is_some (order_at (length these) n less) in
      let on = h.comes keys root nodes (ns ++ n ∷ []) grows apart d drawn long (zip_push (λ n key. slice_get keys n ≡ Some key) ns waiting n key z (grown_at these keys n key grows at)) in
      sym (passes nodes (in_order (length these)) (slots_waiting ns) (length keys - length these) n met)
      ∙ (ap (walk (suc (length keys - length these)) nodes (in_order (length these))) (sym (next_first ns n)) ∙ on);
}

-- a key whose number is found
has_passed : (rows : List PlacedRow) (these waiting : List NodeKey) (key : NodeKey) (o : Option ℕ) → IsOnWay rows these (waiting ++ key ∷ []) → HasNumber these key o → is_some o ≡ true → IsOnWay rows these waiting
has_passed rows these waiting key (Some n) h at t = passed rows these waiting key n h at
has_passed rows these waiting key None h at t = cc

pub passed_numbered : (rows : List PlacedRow) (n : Numbers) (waiting : List NodeKey) (key : NodeKey) (o : Option ℕ) (t : Bool) → IsOnWay rows n.keys.items (waiting ++ key ∷ []) → AreNumbered rows n → o ≡ number_of rows n key → is_some o ≡ not t → t ≡ false → IsOnWay rows n.keys.items waiting
passed_numbered rows n waiting key o t h numbered is some test =
    let is_key = (All-pop (IsKey rows) (waiting ++ key ∷ []) waiting (Some key) refl h.are_keys).1 in
    has_passed rows n.keys.items waiting key o h (subst (HasNumber n.keys.items key) (sym is) (numbered.each key is_key)) (some ∙ ap not test)

zip_reverse : {A B : Type 0} (P : A → B → Type 0) (xs : List A) (ys : List B) → AllZip P xs ys → AllZip P (reverse xs) (reverse ys)
zip_reverse P [] [] h = tt
zip_reverse P (x ∷ xs) (y ∷ ys) h =
    subst (λ a. AllZip P a (reverse (y ∷ ys))) (sym (reverse-append (x ∷ []) xs))
    (subst (λ b. AllZip P (reverse xs ++ x ∷ []) b) (sym (reverse-append (y ∷ []) ys)) (zip_push P (reverse xs) (reverse ys) x y (zip_reverse P xs ys h.1) h.0))
zip_reverse P [] (y ∷ ys) h = absurd h
zip_reverse P (x ∷ xs) [] h = absurd h

-- the node of a key: what its slots name has the numbers of the keys of the targets
slots_named : (rows : List PlacedRow) (keys : List NodeKey) (nodes : List Node) (n : ℕ) (key : NodeKey) (shape : Shape Written) (ts : List Target) (ns : List ℕ) → IsPlain rows → AreApart rows keys → AreDrawn rows keys nodes → slice_get keys n ≡ Some key → HasShape rows (identity_of rows key) shape → AllZip (IsTargetOf rows) shape.slots ts → AreNumbersOf keys ns (keys_in ts) → named (slots_at nodes n) ≡ ns
slots_named rows keys nodes n key shape ts ns plain apart drawn at stands targets z =
    let x = node_of_key keys nodes n key drawn.all at in
    let d = drawn.each n x.0 x.1 in
    let same : identity_of rows d.0 ≡ identity_of rows key = ap (identity_of rows) (same_Some d.0 key (sym d.1 ∙ at)) in
    let one : d.2.shape ≡ shape = stands_once rows (identity_of rows key) d.2.shape shape (subst (λ k. HasShape rows k d.2.shape) same d.2.stands) stands in
    let slots : AllZip (Draws rows keys) (slots_of x.0) shape.slots = subst (λ (s : Shape Written). AllZip (Draws rows keys) (slots_of x.0) s.slots) one d.2.slots in
    ap (λ o. named (slots_of (unwrap_or o (node.Array [])))) x.1 ∙ targets_named rows keys (slots_of x.0) shape.slots ts ns plain apart slots targets z

-- it gets the next number
pub visited : (t : Table) (these new waiting waiting' : List NodeKey) (key : NodeKey) → IsTable t → IsOnWay t.rows.items these (waiting ++ key ∷ []) → VisitsKey t.rows.items key these new waiting waiting' → IsOnWay t.rows.items new waiting'
visited t these new waiting waiting' key table h v = record {
  are_keys =
      let old = (All-pop (IsKey rows) (waiting ++ key ∷ []) waiting (Some key) refl h.are_keys).0 in
      let more = All-from_recursion (IsKey rows) (keys_in v.targets) (keys_there t v.is_laid.shape.slots v.targets table v.is_laid.slots) in
      subst (All (IsKey rows)) (sym v.next) (All-append (IsKey rows) waiting (reverse (keys_in v.targets)) old (All-permutation (IsKey rows) (keys_in v.targets) (reverse (keys_in v.targets)) (IsPermutation-reverse (keys_in v.targets)) more));
  comes = λ keys root nodes ns grows apart d drawn long z.
      let p = parts keys ns waiting (reverse (keys_in v.targets)) (subst (AreNumbersOf keys ns) v.next z) in
      let ms : List ℕ = reverse p.others in
      let of_targets : AreNumbersOf keys ms (keys_in v.targets) = subst (AreNumbersOf keys ms) (reverse-reverse (keys_in v.targets)) (zip_reverse (λ n key. slice_get keys n ≡ Some key) p.others (reverse (keys_in v.targets)) p.of_rest) in
      let i : ℕ = length these in
      let at : slice_get keys i ≡ Some key = grown_at new keys i key grows (ap (λ ks. slice_get ks i) v.keys ∙ push_at these key) in
      let names : named (slots_at nodes i) ≡ ms = slots_named rows keys nodes i key v.is_laid.shape v.targets ms table.plain apart drawn at v.is_laid.stands v.is_laid.slots of_targets in
      let on = h.comes keys root nodes (p.first ++ i ∷ []) (grows_on these new keys (key ∷ [], v.keys) grows) apart d drawn long (zip_push (λ n key. slice_get keys n ≡ Some key) p.first waiting i key p.of_front at) in
      let count : length new ≡ suc i = ap length v.keys ∙ (length-append these (key ∷ []) ∙ omega arith) in
      let within : i < length keys = slice_get_within keys i key at in
      let left : ℕ = length keys - length new in
      let turns : length keys - i ≡ suc left = omega (arith, count, within) in
      let ns_is : ns ≡ p.first ++ reverse (named (slots_at nodes i)) = p.whole ∙ ap (λ xs. p.first ++ xs) (sym (reverse-reverse p.others) ∙ ap reverse (sym names)) in
      ap₂ (λ k xs. walk (suc left) nodes (in_order k) (slots_waiting xs)) count ns_is
      ∙ (slots_more (suc left) nodes (in_order i ++ i ∷ []) p.first (slots_at nodes i)
      ∙ (sym (visits nodes (in_order i) (slots_waiting p.first) (suc left) i (order_past i i (omega arith)))
      ∙ (ap₂ (λ k xs. walk (suc k) nodes (in_order i) xs) (sym turns) (sym (next_first p.first i))
      ∙ on)));
}
  where
    rows : List PlacedRow
    rows = t.rows.items

-- ---- turns

keys_few : (ts : List Target) → length (keys_in ts) ≤ length ts
keys_few [] = omega arith
keys_few (t ∷ ts) =
    let one : length (key_in t) ≤ 1 = key_few t in
    let more = keys_few ts in
    let whole : length (keys_in (t ∷ ts)) ≡ length (key_in t) + length (keys_in ts) = length-append (key_in t) (keys_in ts) in
    omega (arith, one, more, whole)
  where
    key_few : (t : Target) → length (key_in t) ≤ 1
    key_few (target.Atom a) = omega arith
    key_few (target.Node spot) = omega arith
    key_few (target.Promise id) = omega arith
    key_few (target.Action id) = omega arith
    key_few (target.Awaits id) = omega arith
    key_few target.Lost = omega arith

fewer : (count k w p : ℕ) → k < count → p ≤ count → (count - suc k) * count + (w + p) ≤ (count - k) * count + w
fewer count k w p less most =
    let one : count - k ≡ suc (count - suc k) = omega (arith, less) in
    let times : (count - k) * count ≡ (count - suc k) * count + count = ap (λ q. q * count) one ∙ suc-mul (count - suc k) count in
    omega (arith, times, most)

turns_fewer : (count : ℕ) (these new waiting waiting' : List NodeKey) (key : NodeKey) (ts : List Target) → new ≡ these ++ key ∷ [] → length these < count → waiting' ≡ waiting ++ reverse (keys_in ts) → length ts < count → turns_within count new waiting' ≤ turns_within count these waiting
turns_fewer count these new waiting waiting' key ts keys room next few =
    let more : length new ≡ suc (length these) = ap length keys ∙ (length-append these (key ∷ []) ∙ omega arith) in
    let wait : length waiting' ≡ length waiting + length (keys_in ts) = ap length next ∙ (length-append waiting (reverse (keys_in ts)) ∙ ap (λ n. length waiting + n) (length-reverse (keys_in ts))) in
    let fewest = fewer count (length these) (length waiting) (length (keys_in ts)) room (omega (arith, keys_few ts, few)) in
    subst (λ n. n ≤ turns_within count these waiting) (sym (ap₂ (λ a b. (count - a) * count + b) more wait)) fewest

pub visited_turns : (rows : List PlacedRow) (these new waiting waiting' : List NodeKey) (key : NodeKey) → VisitsKey rows key these new waiting waiting' → turns_left new waiting' ≤ turns_left these waiting
unfolding turns_left
visited_turns rows these new waiting waiting' key v = turns_fewer (2 ^ 32) these new waiting waiting' key v.targets v.keys v.room v.next v.is_laid.few

turns_less : (count : ℕ) (these waiting rest : List NodeKey) (key : NodeKey) → waiting ≡ rest ++ key ∷ [] → turns_within count these rest < turns_within count these waiting
turns_less count these waiting rest key next =
    let wait : length waiting ≡ length rest + 1 = ap length next ∙ length-append rest (key ∷ []) in
    omega (arith, wait)

pub taken_turns : (these waiting rest : List NodeKey) (key : NodeKey) → waiting ≡ rest ++ key ∷ [] → turns_left these rest < turns_left these waiting
unfolding turns_left
taken_turns these waiting rest key next = turns_less (2 ^ 32) these waiting rest key next

-- ---- the text

-- the text under keys in order is that of the graph that the rows mean
pub text_right : (rows : List PlacedRow) (keys : List NodeKey) (text : List ℕ) → All IsFine rows → AreApart rows keys → IsOrdered rows keys → IsTextUnder rows keys text → (g : Graph) × IsValid g × DrawOneGraph (of_graph g) (meaning rows) × (text ≡ text_of g)
text_right rows keys text fine apart ordered h =
    let g : Graph = record { root = h.root; nodes = h.nodes } in
    let valid : IsValid g = graph_valid rows keys h.root h.nodes fine h.few h.leads h.drawn in (
      g,
      valid,
      (numbered_from rows 0 keys, graph_fits rows keys h.root h.nodes h.leads h.drawn apart),
      h.is_text ∙ sym (ordered_text g valid (ordered h.root h.nodes h.leads h.drawn h.long ∙ ap in_order (sym h.long))),
    )
