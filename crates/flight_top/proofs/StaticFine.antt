-- The JSON of a static tree is plain, shallow and without floats, and means the graph of the tree.
use Rattle.std.proofs.Common.{◌≡◌, ℕ, zero, suc, ◌+◌, ◌*◌, ◌^◌, ◌<◌, ◌≤◌, List, [], ◌∷◌, ◌++◌, length, map, refl, sym, ◌∙◌, ap, subst, append-nil, add-zero, arith, true, false, Bool, Option, Some, None, is_some, unwrap_or, nat_lt, ◌==◌, ◌&&◌, ◌||◌, codes, ◌⊎◌, inl, inr, if◌then◌else◌}
use Rattle.std.specs.Prelude.{ℤ, pos}
use Rattle.std.specs.declared.cmp.Ordering.{Ordering}
use Rattle.std.specs.declared.cmp.Ordering.TheVariants.{Less, Equal, Greater}
use Rattle.std.specs.Ordering.{match_ordering}
use Rattle.std.proofs.lemmas.Bool.{false≢true}
use Rattle.std.proofs.lemmas.Bool.Decides.{nat_tests}
use Rattle.serde_json.specs.Data as json
use Rattle.serde_json.specs.Data.{Data, Members, depth, items_depth, members_depth}
use Rattle.serde_json.specs.Written.{has_float, items_have_float, members_have_float}
use Rattle.flight_value.specs.declared.graph.Atom.TheVariants as atom
use Rattle.flight_value.specs.declared.graph.Slot.{Slot}
use Rattle.flight_value.specs.declared.graph.Slot.TheVariants as slot
use Rattle.flight_value.specs.declared.graph.Prop.{Prop}
use Rattle.flight_value.specs.declared.graph.Node.{Node}
use Rattle.flight_value.specs.declared.graph.Node.TheVariants as node
use Rattle.flight_syntax.specs.Words.{Word, ◌▸◌, mark}
use Rattle.flight_top.specs.Model as model
use Rattle.flight_top.specs.Model.{whole_of, text_of, is_dollar, is_mark, is_plain, are_plain, is_array_plain, are_members_plain, array_node, array_nodes}
use Rattle.flight_top.specs.Static.{Static, null, boolean, whole, text, array, object, element, Items, no_items, item_and, Props, no_props, prop_and, Spells, Listed, MoreListed, Properties, MoreProperties, Attributes, Bare}
use Rattle.flight_top.specs.Drawn.{put, ordered, ordered_items, ordered_among, slot_at, nodes_at, item_nodes, item_slots, prop_nodes, slots_named, graph_of}
use Rattle.flight_top.specs.StaticReader.{json_of, items_json, members_json, escaped, element_json}
use Rattle.flight_top.proofs.Fronts.{both}
use Rattle.flight_top.proofs.StaticNames.{members_json-put}

-- ---- texts

escaped-text : (s : List ℕ) → text_of (escaped s) ≡ Some s
escaped-text [] = refl
escaped-text (b ∷ []) = go (b == 36) refl
  where
    go : (t : Bool) → (b == 36) ≡ t → text_of (if t then 36 ∷ b ∷ [] else b ∷ []) ≡ Some (b ∷ [])
    go true k = rw k refl
    go false k = rw k refl
escaped-text (b ∷ c ∷ bs) = go (b == 36) refl
  where
    go : (t : Bool) → (b == 36) ≡ t → text_of (if t then 36 ∷ b ∷ c ∷ bs else b ∷ c ∷ bs) ≡ Some (b ∷ c ∷ bs)
    go true k = rw k refl
    go false k = rw k refl

escaped-dollar : (s : List ℕ) → is_dollar (escaped s) ≡ false
escaped-dollar [] = refl
escaped-dollar (b ∷ []) = go (b == 36) refl
  where
    go : (t : Bool) → (b == 36) ≡ t → is_dollar (if t then 36 ∷ b ∷ [] else b ∷ []) ≡ false
    go true k = refl
    go false k = k
escaped-dollar (b ∷ c ∷ bs) = go (b == 36)
  where
    go : (t : Bool) → is_dollar (if t then 36 ∷ b ∷ c ∷ bs else b ∷ c ∷ bs) ≡ false
    go true = refl
    go false = refl

unmarked : (t : Static) → is_mark (json_of t) ≡ false
unmarked null = refl
unmarked (boolean b) = refl
unmarked (whole n) = refl
unmarked (text s) = escaped-dollar s
unmarked (array items) = refl
unmarked (object props) = refl
unmarked (element tag props) = refl

-- ---- plain, shallow and without floats

pub record IsFineJson (limit : ℕ) (d : Data) : Type 0 where
  pub plain : is_plain d ≡ true
  pub shallow : depth d ≤ limit
  pub no_float : has_float d ≡ false

record AreFineItems (limit : ℕ) (ds : json.Items) : Type 0 where
  pub plain : are_plain ds ≡ true
  pub shallow : items_depth ds ≤ limit
  pub no_float : items_have_float ds ≡ false

record AreFineMembers (limit : ℕ) (ms : Members) : Type 0 where
  pub plain : are_members_plain ms ≡ true
  pub shallow : members_depth ms ≤ limit
  pub no_float : members_have_float ms ≡ false

fine_item : (limit : ℕ) (d : Data) (ds : json.Items) → IsFineJson limit d → AreFineItems limit ds → AreFineItems limit (json.item d ds)
fine_item limit d ds h k = let a = h.shallow in let b = k.shallow in record { plain = rw (h.plain, k.plain) refl; shallow = omega (arith, a, b); no_float = rw (h.no_float, k.no_float) refl }

fine_member : (limit : ℕ) (name : List ℕ) (d : Data) (ms : Members) → IsFineJson limit d → AreFineMembers limit ms → AreFineMembers limit (json.member name d ms)
fine_member limit name d ms h k = let a = h.shallow in let b = k.shallow in record { plain = rw (h.plain, k.plain) refl; shallow = omega (arith, a, b); no_float = rw (h.no_float, k.no_float) refl }

neither : (a b : Bool) → (a || b) ≡ false → (a ≡ false) × (b ≡ false)
neither false b h = (refl, h)
neither true b h = absurd (false≢true (sym h))

member_parts : (limit : ℕ) (name : List ℕ) (d : Data) (ms : Members) → AreFineMembers limit (json.member name d ms) → IsFineJson limit d × AreFineMembers limit ms
member_parts limit name d ms h =
    let p = both (is_plain d) (are_members_plain ms) h.plain in
    let f = neither (has_float d) (members_have_float ms) h.no_float in
    let s = h.shallow in
    (record { plain = p.0; shallow = omega (arith, s); no_float = f.0 }, record { plain = p.1; shallow = omega (arith, s); no_float = f.1 })

fine-match : (limit : ℕ) (o : Ordering) (a b c : Members) → AreFineMembers limit a → AreFineMembers limit b → AreFineMembers limit c → AreFineMembers limit (match_ordering o a b c)
fine-match limit Less a b c x y z = x
fine-match limit Equal a b c x y z = y
fine-match limit Greater a b c x y z = z

fine_put : (limit : ℕ) (k : List ℕ) (d : Data) (ms : Members) → IsFineJson limit d → AreFineMembers limit ms → AreFineMembers limit (json.put k d ms)
fine_put limit k d json.no_members h m = fine_member limit k d json.no_members h m
fine_put limit k d (json.member l e ms) h m =
    let p = member_parts limit l e ms m in
    fine-match limit _ (json.member k d (json.member l e ms)) (json.member l d ms) (json.member l e (json.put k d ms)) (fine_member limit k d (json.member l e ms) h m) (fine_member limit l d ms h p.1)
    (fine_member limit l e (json.put k d ms) p.0 (fine_put limit k d ms h p.1))

fine_put_json : (limit : ℕ) (k : List ℕ) (t : Static) (props : Props) → IsFineJson limit (json_of t) → AreFineMembers limit (members_json props) → AreFineMembers limit (members_json (put k t props))
fine_put_json limit k t props h m = subst (AreFineMembers limit) (sym (members_json-put k t props)) (fine_put limit k (json_of t) (members_json props) h m)

-- an array of items that are fine
fine_array : (limit : ℕ) (items : Items) → AreFineItems limit (items_json items) → IsFineJson (suc limit) (json.array (items_json items))
fine_array limit no_items h = record { plain = refl; shallow = omega arith; no_float = refl }
fine_array limit (item_and t items) h = let s = h.shallow in record { plain = rw (unmarked t) h.plain; shallow = omega (arith, s); no_float = h.no_float }

fine_object : (limit : ℕ) (ms : Members) → AreFineMembers limit ms → IsFineJson (suc limit) (json.object ms)
fine_object limit ms h = let s = h.shallow in record { plain = h.plain; shallow = omega (arith, s); no_float = h.no_float }

fine_text : (limit : ℕ) (s : List ℕ) → IsFineJson limit (json.string (escaped s))
fine_text limit s = record { plain = rw (escaped-text s) refl; shallow = omega arith; no_float = refl }

fine_element : (limit : ℕ) (tag : List ℕ) (ms : Members) → AreFineMembers limit ms → IsFineJson (suc (suc limit)) (element_json tag ms)
fine_element limit tag ms h = let s = h.shallow in record { plain = rw (escaped-text tag, h.plain) refl; shallow = omega (arith, s); no_float = rw h.no_float refl }

below-test : (n limit : ℕ) → n < limit → nat_lt n limit ≡ true
below-test n limit h = grind (arith, nat_tests)

within-some : (n : ℕ) (b : Bool) → b ≡ true → is_some (if b then Some (pos n) else None) ≡ true
within-some n true h = refl
within-some n false h = absurd (false≢true h)

fine_whole : (limit n : ℕ) → n < 2 ^ 53 → IsFineJson limit (json.number (json.unsigned n))
fine_whole limit n h = record { plain = within-some n (nat_lt n (2 ^ 53)) (below-test n (2 ^ 53) h); shallow = omega arith; no_float = refl }

deeper : (a b : ℕ) (d : Data) → a ≤ b → IsFineJson a d → IsFineJson b d
deeper a b d le h = let s = h.shallow in record { plain = h.plain; shallow = omega (arith, s); no_float = h.no_float }

bare_fine : (limit : ℕ) (t : Static) (x : List Word) → Bare t x → IsFineJson limit (json_of (ordered t))
bare_fine limit (text s) x h = fine_text limit s
bare_fine limit null x h = absurd h
bare_fine limit (boolean b) x h = absurd h
bare_fine limit (whole n) x h = absurd h
bare_fine limit (array items) x h = absurd h
bare_fine limit (object props) x h = absurd h
bare_fine limit (element tag props) x h = absurd h

either_fine : (limit d : ℕ) (t : Static) → ((x : List Word) → Spells t d x → IsFineJson limit (json_of (ordered t))) → (x : List Word) → (Bare t x ⊎ (mark (codes "{") ▸ Spells t d ▸ mark (codes "}")) x) → IsFineJson limit (json_of (ordered t))
either_fine limit d t h x b = elim b [ inl k ↦ bare_fine limit t x k | inr k ↦ h k.4.0 k.4.3 ]

no_fine_members : (limit : ℕ) → AreFineMembers limit json.no_members
no_fine_members limit = record { plain = refl; shallow = omega arith; no_float = refl }

mutual
  -- a tree that is spelled with so many levels nests at most twice as deep in JSON
  pub tree_fine : (t : Static) (d : ℕ) (x : List Word) → Spells t d x → IsFineJson (2 * d) (json_of (ordered t))
  tree_fine null zero x h = absurd h
  tree_fine (boolean b) zero x h = absurd h
  tree_fine (whole n) zero x h = absurd h
  tree_fine (text s) zero x h = absurd h
  tree_fine (array items) zero x h = absurd h
  tree_fine (object props) zero x h = absurd h
  tree_fine (element tag props) zero x h = absurd h
  tree_fine null (suc d) x h = record { plain = refl; shallow = omega arith; no_float = refl }
  tree_fine (boolean b) (suc d) x h = record { plain = refl; shallow = omega arith; no_float = refl }
  tree_fine (whole n) (suc d) x h = fine_whole (2 * suc d) n h.1.within
  tree_fine (text s) (suc d) x h = fine_text (2 * suc d) s
  tree_fine (array items) (suc d) x h = deeper (suc (2 * d)) (2 * suc d) (json_of (ordered (array items))) (omega arith) (fine_array (2 * d) (ordered_items items) (listed_fine items d h.4.0 h.4.3))
  tree_fine (object props) (suc d) x h =
      deeper (suc (2 * d)) (2 * suc d) (json_of (ordered (object props))) (omega arith) (fine_object (2 * d) (members_json (ordered_among props no_props)) (properties_fine props d h.4.0 h.4.3))
  tree_fine (element tag props) (suc d) x h =
      deeper (suc (suc (2 * d))) (2 * suc d) (json_of (ordered (element tag props))) (omega arith) (fine_element (2 * d) tag (members_json (ordered_among props no_props)) (attributes_fine props d no_props h.4.4.0 h.4.4.3 (no_fine_members (2 * d))))

  listed_fine : (items : Items) (d : ℕ) (x : List Word) → Listed items d x → AreFineItems (2 * d) (items_json (ordered_items items))
  listed_fine no_items d x h = record { plain = refl; shallow = omega arith; no_float = refl }
  listed_fine (item_and t items) d x h = fine_item (2 * d) (json_of (ordered t)) (items_json (ordered_items items)) (tree_fine t d h.0 h.3) (more_fine items d h.1 h.4)

  more_fine : (items : Items) (d : ℕ) (x : List Word) → MoreListed items d x → AreFineItems (2 * d) (items_json (ordered_items items))
  more_fine no_items d x h = record { plain = refl; shallow = omega arith; no_float = refl }
  more_fine (item_and t items) d x h = fine_item (2 * d) (json_of (ordered t)) (items_json (ordered_items items)) (tree_fine t d h.4.0 h.4.3) (more_fine items d h.4.1 h.4.4)

  properties_fine : (props : Props) (d : ℕ) (x : List Word) → Properties props d x → AreFineMembers (2 * d) (members_json (ordered_among props no_props))
  properties_fine no_props d x h = no_fine_members (2 * d)
  properties_fine (prop_and named t props) d x h =
      more_props_fine props d (put named (ordered t) no_props) h.4.4.1 h.4.4.4 (fine_put_json (2 * d) named (ordered t) no_props (tree_fine t d h.4.4.0 h.4.4.3) (no_fine_members (2 * d)))

  more_props_fine : (props : Props) (d : ℕ) (old : Props) (x : List Word) → MoreProperties props d x → AreFineMembers (2 * d) (members_json old) → AreFineMembers (2 * d) (members_json (ordered_among props old))
  more_props_fine no_props d old x h k = k
  more_props_fine (prop_and named t props) d old x h k =
      more_props_fine props d (put named (ordered t) old) h.4.4.4.1 h.4.4.4.4 (fine_put_json (2 * d) named (ordered t) old (tree_fine t d h.4.4.4.0 h.4.4.4.3) k)

  attributes_fine : (props : Props) (d : ℕ) (old : Props) (x : List Word) → Attributes props d x → AreFineMembers (2 * d) (members_json old) → AreFineMembers (2 * d) (members_json (ordered_among props old))
  attributes_fine no_props d old x h k = k
  attributes_fine (prop_and named t props) d old x h k =
      attributes_fine props d (put named (ordered t) old) h.4.4.1 h.4.4.4 (fine_put_json (2 * d) named (ordered t) old (either_fine (2 * d) d t (λ x. tree_fine t d x) h.4.4.0 h.4.4.3) k)

-- ---- the graph

unmarked_node : (n : ℕ) (d : Data) (ds : json.Items) → is_mark d ≡ false → array_node n (json.item d ds) ≡ node.Array (model.item_slots n (json.item d ds))
unmarked_node n d ds e = rw e refl

unmarked_nodes : (n : ℕ) (d : Data) (ds : json.Items) → is_mark d ≡ false → array_nodes n (json.item d ds) ≡ model.item_nodes n (json.item d ds)
unmarked_nodes n d ds e = rw e refl

array_is : (n : ℕ) (items : Items) → model.nodes_at n (json.array (items_json items)) ≡ node.Array (model.item_slots (n + 1) (items_json items)) ∷ model.item_nodes (n + 1) (items_json items)
array_is n no_items = refl
array_is n (item_and t items) = rw (unmarked_node (n + 1) (json_of t) (items_json items) (unmarked t), unmarked_nodes (n + 1) (json_of t) (items_json items) (unmarked t)) refl

element_is : (n : ℕ) (tag : List ℕ) (ms : Members) → model.nodes_at n (element_json tag ms)
    ≡ node.Element (model.slot_at (n + 1) (json.string (escaped tag))) (model.slot_at (n + 1) json.null) (model.slot_at (n + 1) (json.object ms)) ∷ model.nodes_at (n + 1) (json.object ms)
element_is n tag ms =
    simp add-zero
    (ap (λ (ns : List Node). node.Element (model.slot_at (n + 1) (json.string (escaped tag))) (model.slot_at (n + 1) json.null) (model.slot_at (n + 1) (json.object ms)) ∷ node.Object (model.member_props (n + 1 + 1) ms) ∷ ns)
    (append-nil (model.member_nodes (n + 1 + 1) ms)))

text_slot : (n : ℕ) (s : List ℕ) → model.slot_at n (json.string (escaped s)) ≡ slot_at n (text s)
text_slot n s = rw (escaped-text s) refl

whole-is : (n : ℕ) (b : Bool) → is_some (if b then Some (pos n) else None) ≡ true → unwrap_or (if b then Some (pos n) else None) (pos 0) ≡ pos n
whole-is n true h = refl
whole-is n false h = absurd (false≢true h)

abbrev named_slot : List ℕ → Slot → Prop
named_slot named x = record { name = named; slot = x }

-- an array is plain where its items are
items_plain : (items : Items) → is_array_plain (items_json items) ≡ true → are_plain (items_json items) ≡ true
items_plain no_items h = refl
items_plain (item_and t items) h = rw (unmarked t) at h

element_plain : (tag : List ℕ) (ms : Members) → is_plain (element_json tag ms) ≡ true → are_members_plain ms ≡ true
element_plain tag ms h = (both (are_members_plain ms) true (rw (escaped-text tag) at h)).0

mutual
  slot_same : (t : Static) (n : ℕ) → is_plain (json_of t) ≡ true → model.slot_at n (json_of t) ≡ slot_at n t
  slot_same null n h = refl
  slot_same (boolean b) n h = refl
  slot_same (whole m) n h = ap (λ z. slot.Atom (atom.Whole z)) (whole-is m (nat_lt m (2 ^ 53)) h)
  slot_same (text s) n h = text_slot n s
  slot_same (array items) n h = refl
  slot_same (object props) n h = refl
  slot_same (element tag props) n h = refl

  nodes_same : (t : Static) (n : ℕ) → is_plain (json_of t) ≡ true → model.nodes_at n (json_of t) ≡ nodes_at n t
  nodes_same null n h = refl
  nodes_same (boolean b) n h = refl
  nodes_same (whole m) n h = refl
  nodes_same (text s) n h = refl
  nodes_same (array items) n h = let e = items_same items (n + 1) (items_plain items h) in array_is n items ∙ rw (e.0, e.1) refl
  nodes_same (object props) n h = let e = props_same props (n + 1) h in rw (e.0, e.1) refl
  nodes_same (element tag props) n h =
      let e = props_same props (n + 1 + 1) (element_plain tag (members_json props) h) in
      element_is n tag (members_json props) ∙ rw (text_slot (n + 1) tag, e.0, e.1) refl

  items_same : (items : Items) (n : ℕ) → are_plain (items_json items) ≡ true → (model.item_slots n (items_json items) ≡ item_slots n items) × (model.item_nodes n (items_json items) ≡ item_nodes n items)
  items_same no_items n h = (refl, refl)
  items_same (item_and t items) n h =
      let p = both (is_plain (json_of t)) (are_plain (items_json items)) h in
      let s = slot_same t n p.0 in
      let e = nodes_same t n p.0 in
      let r = items_same items (n + length (nodes_at n t)) p.1 in (
        ap (λ x. x ∷ model.item_slots (n + length (model.nodes_at n (json_of t))) (items_json items)) s ∙ ap (λ (ns : List Node). slot_at n t ∷ model.item_slots (n + length ns) (items_json items)) e ∙ ap (λ xs. slot_at n t ∷ xs) r.0,
        ap (λ (ns : List Node). ns ++ model.item_nodes (n + length ns) (items_json items)) e ∙ ap (λ ns. nodes_at n t ++ ns) r.1,
      )

  props_same : (props : Props) (n : ℕ) → are_members_plain (members_json props) ≡ true → (model.member_props n (members_json props) ≡ slots_named n props) × (model.member_nodes n (members_json props) ≡ prop_nodes n props)
  props_same no_props n h = (refl, refl)
  props_same (prop_and named t props) n h =
      let p = both (is_plain (json_of t)) (are_members_plain (members_json props)) h in
      let s = slot_same t n p.0 in
      let e = nodes_same t n p.0 in
      let r = props_same props (n + length (nodes_at n t)) p.1 in (
        ap (λ x. named_slot named x ∷ model.member_props (n + length (model.nodes_at n (json_of t))) (members_json props)) s
            ∙ ap (λ (ns : List Node). named_slot named (slot_at n t) ∷ model.member_props (n + length ns) (members_json props)) e
            ∙ ap (λ xs. named_slot named (slot_at n t) ∷ xs) r.0,
        ap (λ (ns : List Node). ns ++ model.member_nodes (n + length ns) (members_json props)) e ∙ ap (λ ns. nodes_at n t ++ ns) r.1,
      )

-- the JSON of a tree means the graph of the tree
pub graph_same : (t : Static) → is_plain (json_of (ordered t)) ≡ true → model.graph_of (json_of (ordered t)) ≡ graph_of t
graph_same t h = let s = slot_same (ordered t) 0 h in let e = nodes_same (ordered t) 0 h in rw (s, e) refl
