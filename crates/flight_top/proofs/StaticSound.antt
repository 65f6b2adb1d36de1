-- What the reader reads is spelled.
use Rattle.std.proofs.Common.{◌≡◌, ◌≢◌, ℕ, zero, suc, List, [], ◌∷◌, ◌++◌, length, refl, sym, ◌∙◌, ap, subst, append_assoc, append-nil, true, false, Bool, Option, Some, None, is_some, codes, ◌⊎◌, inl, inr, if◌then◌else◌}
use Rattle.std.specs.Str.{bytes_eq}
use Rattle.std.proofs.lemmas.Bool.{false≢true}
use Rattle.std.proofs.lemmas.Slice.Eq.{bytes_eq-Decides}
use Rattle.serde_json.specs.Data as json
use Rattle.serde_json.specs.Data.{Data, Members, string, number, unsigned}
use Rattle.serde_json.specs.Find.{get_member}
use Rattle.serde_json.specs.Read.{read}
use Rattle.serde_json.specs.View.{items_of}
use Rattle.flight_syntax.specs.declared.token.TokenKind.{TokenKind}
use Rattle.flight_syntax.specs.declared.token.TokenKind.TheVariants.{Name, Number, Text, Mark}
use Rattle.flight_syntax.specs.Names.{is_lower}
use Rattle.flight_syntax.specs.Pieces.{SpellsToken, decimal}
use Rattle.flight_syntax.specs.Words.{Word, ◌▸◌, name, lower, mark, literal, nothing}
use Rattle.flight_top.specs.Static.{Static, null, boolean, whole, text, array, object, element, Items, no_items, item_and, Props, no_props, prop_and, Spells, Listed, MoreListed, Properties, MoreProperties, Attributes, Declares, IsLawful, AreLawful, HaveLawful, most_values, Bare}
use Rattle.flight_top.specs.Drawn.{put, ordered, ordered_items, ordered_among}
use Rattle.flight_top.specs.StaticReader.{json_of, items_json, members_json, escaped, element_json, AreSpelled, same_kind, Read, gives, Reader, ◌>>=◌, if_some, want, any_name, lower_name, string_in, a_text, a_number, atom, items_by, array_rest, added, property, members_by, object_rest, braced, attribute_value, attribute, attributes_by, element_rest, begun, value, ended, opening, program}
use Rattle.flight_top.proofs.Fronts.{Front, join, one_front, none_front, spelled_rest, same_kind-is, word_of_kind, then_some, if_some-cases, want-is}
use Rattle.flight_top.proofs.StaticNames.{members_json-put, Differs, Apart, AreNew, new_after, all_new, apart_pairs, differs_absent}

some_is : {A : Type 0} (x y : A) → Some x ≡ Some y → x ≡ y
some_is x y e = cc

pub record Found (d : ℕ) (ws : List Word) (v : Data) (rest : List Word) : Type 0 where
  pub tree : Static
  pub front : Front (Spells tree d) ws rest
  pub lawful : IsLawful tree
  pub is : v ≡ json_of (ordered tree)

abbrev pub Sound : ℕ → Reader → Type 0
Sound d p = (ws : List Word) → AreSpelled ws → (v : Data) (rest : List Word) → p ws ≡ Some (v, rest) → Found d ws v rest

-- ---- values of one word

record FoundText (ws : List Word) (v : Data) (rest : List Word) : Type 0 where
  pub bytes : List ℕ
  pub front : Front (literal bytes) ws rest
  pub is : v ≡ string (escaped bytes)

text_sound : (ws : List Word) → AreSpelled ws → (v : Data) (rest : List Word) → a_text ws ≡ Some (v, rest) → FoundText ws v rest
text_sound [] h v rest e = absurd cc
text_sound (w ∷ ws) h v rest e = go (same_kind Text w.kind) refl e
  where
    go : (b : Bool) → same_kind Text w.kind ≡ b → (if b then (string_in (read w.bytes) >>= λ s. gives (string (escaped s)) ws) else None) ≡ gives v rest → FoundText (w ∷ ws) v rest
    go false k e = absurd cc
    go true k e =
        let P : TokenKind → Type 0 = λ k. SpellsToken k w.bytes in
        let t = subst P (same_kind-is Text w.kind k) h.0 in
        subst (λ (y : Data × List Word). FoundText (w ∷ ws) y.0 y.1) (some_is (string (escaped t.0), ws) (v, rest) (rw t.1.is_string at e))
        (record { bytes = t.0; front = record { front = w ∷ []; whole = refl; spelled = (w.bytes, t.1, ap (λ x. x ∷ []) (word_of_kind w Text k)) }; is = refl })

number_sound : (d : ℕ) (ws : List Word) → AreSpelled ws → (v : Data) (rest : List Word) → a_number ws ≡ Some (v, rest) → Found (suc d) ws v rest
number_sound d [] h v rest e = absurd cc
number_sound d (w ∷ ws) h v rest e = go (same_kind Number w.kind) refl e
  where
    go : (b : Bool) → same_kind Number w.kind ≡ b → (if b then gives (number (unsigned (decimal w.bytes))) ws else None) ≡ gives v rest → Found (suc d) (w ∷ ws) v rest
    go false k e = absurd cc
    go true k e =
        let P : TokenKind → Type 0 = λ k. SpellsToken k w.bytes in
        let n = subst P (same_kind-is Number w.kind k) h.0 in
        subst (λ (y : Data × List Word). Found (suc d) (w ∷ ws) y.0 y.1) (some_is (number (unsigned (decimal w.bytes)), ws) (v, rest) e)
        (record {
          tree = whole n.0;
          front = record { front = w ∷ []; whole = refl; spelled = (w.bytes, n.1, ap (λ x. x ∷ []) (word_of_kind w Number k)) };
          lawful = tt;
          is = ap (λ m. number (unsigned m)) n.1.is_numeral.spelled;
        })

at_pair : (d : ℕ) (ws : List Word) (v : Data) (r : List Word) (w : Data) (rest : List Word) → gives v r ≡ gives w rest → Found d ws v r → Found d ws w rest
at_pair d ws v r w rest e f = subst (λ (y : Data × List Word). Found d ws y.0 y.1) (some_is (v, r) (w, rest) e) f

atom_sound : (d : ℕ) → Sound (suc d) atom
atom_sound d ws h v rest e =
    elim (if_some-cases (want Name (codes "null") ws) (λ r. Some (json.null, r)) _ (Some (v, rest)) e) [
      | inl x ↦ at_pair (suc d) ws json.null x.0 v rest x.2 (record { tree = null; front = want-is Name (codes "null") ws x.0 x.1; lawful = tt; is = refl })
      | inr y ↦ elim (if_some-cases (want Name (codes "true") ws) (λ r. Some (json.boolean true, r)) _ (Some (v, rest)) y.1) [
        | inl x ↦ at_pair (suc d) ws (json.boolean true) x.0 v rest x.2 (record { tree = boolean true; front = want-is Name (codes "true") ws x.0 x.1; lawful = tt; is = refl })
        | inr y ↦ elim (if_some-cases (want Name (codes "false") ws) (λ r. Some (json.boolean false, r)) _ (Some (v, rest)) y.1) [
          | inl x ↦ at_pair (suc d) ws (json.boolean false) x.0 v rest x.2 (record { tree = boolean false; front = want-is Name (codes "false") ws x.0 x.1; lawful = tt; is = refl })
          | inr y ↦ elim (if_some-cases (a_number ws) (λ x. Some x) _ (Some (v, rest)) y.1) [
            | inl x ↦ number_sound d ws h v rest (x.1 ∙ x.2)
            | inr y ↦ let t = text_sound ws h v rest y.1 in record { tree = text t.bytes; front = t.front; lawful = tt; is = t.is }
          ]
        ]
      ]
    ]

-- ---- arrays

abbrev pub listed : Items → List Data
listed no_items = []
listed (item_and tree items) = json_of (ordered tree) ∷ listed items

pub items_of-listed : (items : Items) → items_of (listed items) ≡ items_json (ordered_items items)
items_of-listed no_items = refl
items_of-listed (item_and tree items) = ap (json.item (json_of (ordered tree))) (items_of-listed items)

record FoundItems (d : ℕ) (done : List Data) (ws : List Word) (v : Data) (rest : List Word) : Type 0 where
  pub first : Static
  pub more : Items
  pub after_first : List Word
  pub after_more : List Word
  pub first_front : Front (Spells first d) ws after_first
  pub more_front : Front (MoreListed more d) after_first after_more
  pub close_front : Front (mark (codes "]")) after_more rest
  pub lawful : IsLawful first × AreLawful more
  pub is : v ≡ json.array (items_of (done ++ listed (item_and first more)))

items_sound : (d : ℕ) (p : Reader) → Sound d p → (n : ℕ) (done : List Data) (ws : List Word) → AreSpelled ws → (v : Data) (rest : List Word) → items_by n p done ws ≡ Some (v, rest) → FoundItems d done ws v rest
items_sound d p hp zero done ws h v rest e = absurd cc
items_sound d p hp (suc n) done ws h v rest e =
    let a = then_some (p ws) (λ x. if_some (want Mark (codes "]") x.1) (λ r. Some (json.array (items_of (done ++ x.0 ∷ [])), r)) (want Mark (codes ",") x.1 >>= λ r. items_by n p (done ++ x.0 ∷ []) r)) (v, rest) e in
    let f = hp ws h a.0.0 a.0.1 a.1 in
    let later = spelled_rest f.front h in
    elim (if_some-cases (want Mark (codes "]") a.0.1) (λ r. Some (json.array (items_of (done ++ a.0.0 ∷ [])), r)) _ (Some (v, rest)) a.2) [
      | inl x ↦
          subst (λ (y : Data × List Word). FoundItems d done ws y.0 y.1) (some_is (json.array (items_of (done ++ a.0.0 ∷ [])), x.0) (v, rest) x.2)
          (record {
            first = f.tree;
            more = no_items;
            after_first = a.0.1;
            after_more = a.0.1;
            first_front = f.front;
            more_front = none_front a.0.1;
            close_front = want-is Mark (codes "]") a.0.1 x.0 x.1;
            lawful = (f.lawful, tt);
            is = ap (λ z. json.array (items_of (done ++ z ∷ []))) f.is;
          })
      | inr y ↦
          let b = then_some (want Mark (codes ",") a.0.1) (λ r. items_by n p (done ++ a.0.0 ∷ []) r) (v, rest) y.1 in
          let comma = want-is Mark (codes ",") a.0.1 b.0 b.1 in
          let g = items_sound d p hp n (done ++ a.0.0 ∷ []) b.0 (spelled_rest comma later) v rest b.2 in
          record {
            first = f.tree;
            more = item_and g.first g.more;
            after_first = a.0.1;
            after_more = g.after_more;
            first_front = f.front;
            more_front = join comma (join g.first_front g.more_front);
            close_front = g.close_front;
            lawful = (f.lawful, g.lawful);
            is = g.is
                ∙ ap (λ z. json.array (items_of z)) (append_assoc done (a.0.0 ∷ []) (listed (item_and g.first g.more)))
                ∙ ap (λ z. json.array (items_of (done ++ z ∷ listed (item_and g.first g.more)))) f.is;
          }
    ]

-- what an opening mark, what stands within and a closing mark come to
array_sound : (d : ℕ) (p : Reader) → Sound d p → (ws after : List Word) → Front (mark (codes "[")) ws after → AreSpelled ws → (v : Data) (rest : List Word) → array_rest p after ≡ Some (v, rest) → Found (suc d) ws v rest
array_sound d p hp ws after opened h v rest e =
    elim (if_some-cases (want Mark (codes "]") after) (λ r. Some (json.array json.no_items, r)) _ (Some (v, rest)) e) [
      | inl x ↦ at_pair (suc d) ws (json.array json.no_items) x.0 v rest x.2 (record { tree = array no_items; front = join opened (join (none_front after) (want-is Mark (codes "]") after x.0 x.1)); lawful = tt; is = refl })
      | inr y ↦
          let g = items_sound d p hp (length after) [] after (spelled_rest opened h) v rest y.1 in
          record {
            tree = array (item_and g.first g.more);
            front = join opened (join (join g.first_front g.more_front) g.close_front);
            lawful = g.lawful;
            is = g.is ∙ ap json.array (items_of-listed (item_and g.first g.more));
          }
    ]

-- ---- properties

added-is : (named : List ℕ) (found : Members) (v : Data × List Word) (ms : Members) (rest : List Word) → added named found v ≡ Some (ms, rest) → (get_member named found ≡ None) × (ms ≡ json.put named v.0 found) × (v.1 ≡ rest)
added-is named found v ms rest e = go (get_member named found) refl e
  where
    go : (o : Option Data) → get_member named found ≡ o → (if is_some o then None else gives (json.put named v.0 found) v.1) ≡ gives ms rest → (get_member named found ≡ None) × (ms ≡ json.put named v.0 found) × (v.1 ≡ rest)
    go (Some x) k e = absurd cc
    go None k e = let same = some_is (json.put named v.0 found, v.1) (ms, rest) e in (k, ap (λ (y : Members × List Word). y.0) (sym same), ap (λ (y : Members × List Word). y.1) same)

record FoundName (ws : List Word) (named : List ℕ) (rest : List Word) : Type 0 where
  pub front : Front (name named) ws rest

name_sound : (ws : List Word) (named : List ℕ) (rest : List Word) → any_name ws ≡ Some (named, rest) → Front (name named) ws rest
name_sound [] named rest e = absurd cc
name_sound (w ∷ ws) named rest e = go (same_kind Name w.kind) refl e
  where
    go : (b : Bool) → same_kind Name w.kind ≡ b → (if b then gives w.bytes ws else None) ≡ gives named rest → Front (name named) (w ∷ ws) rest
    go false k e = absurd cc
    go true k e = subst (λ (y : List ℕ × List Word). Front (name y.0) (w ∷ ws) y.1) (some_is (w.bytes, ws) (named, rest) e) (one_front Name w.bytes (w ∷ ws) ws (ap (λ x. x ∷ ws) (word_of_kind w Name k)))

lower_sound : (ws : List Word) (named : List ℕ) (rest : List Word) → lower_name ws ≡ Some (named, rest) → Front (lower named) ws rest
lower_sound [] named rest e = absurd cc
lower_sound (w ∷ ws) named rest e = go (same_kind Name w.kind) (is_lower w.bytes) refl refl e
  where
    go : (b c : Bool) → same_kind Name w.kind ≡ b → is_lower w.bytes ≡ c → (if b then (if c then gives w.bytes ws else None) else None) ≡ gives named rest → Front (lower named) (w ∷ ws) rest
    go false c k l e = absurd cc
    go true false k l e = absurd cc
    go true true k l e =
        subst (λ (y : List ℕ × List Word). Front (lower y.0) (w ∷ ws) y.1) (some_is (w.bytes, ws) (named, rest) e) (record { front = w ∷ []; whole = refl; spelled = (l, ap (λ x. x ∷ []) (word_of_kind w Name k)) })

record FoundProp (d : ℕ) (found : Members) (ws : List Word) (ms : Members) (rest : List Word) : Type 0 where
  pub named : List ℕ
  pub tree : Static
  pub after_name : List Word
  pub after_colon : List Word
  pub name_front : Front (name named) ws after_name
  pub colon_front : Front (mark (codes ":")) after_name after_colon
  pub tree_front : Front (Spells tree d) after_colon rest
  pub lawful : IsLawful tree
  pub is_new : get_member named found ≡ None
  pub is : ms ≡ json.put named (json_of (ordered tree)) found

property_sound : (d : ℕ) (p : Reader) → Sound d p → (found : Members) (ws : List Word) → AreSpelled ws → (ms : Members) (rest : List Word) → property p found ws ≡ Some (ms, rest) → FoundProp d found ws ms rest
property_sound d p hp found ws h ms rest e =
    let n = then_some (any_name ws) (λ n. want Mark (codes ":") n.1 >>= λ r. p r >>= λ v. added n.0 found v) (ms, rest) e in
    let c = then_some (want Mark (codes ":") n.0.1) (λ r. p r >>= λ v. added n.0.0 found v) (ms, rest) n.2 in
    let v = then_some (p c.0) (λ v. added n.0.0 found v) (ms, rest) c.2 in
    let name_front = name_sound ws n.0.0 n.0.1 n.1 in
    let colon_front = want-is Mark (codes ":") n.0.1 c.0 c.1 in
    let f = hp c.0 (spelled_rest colon_front (spelled_rest name_front h)) v.0.0 v.0.1 v.1 in
    let a = added-is n.0.0 found v.0 ms rest v.2 in
    record {
      named = n.0.0;
      tree = f.tree;
      after_name = n.0.1;
      after_colon = c.0;
      name_front = name_front;
      colon_front = colon_front;
      tree_front = subst (λ (r : List Word). Front (Spells f.tree d) c.0 r) a.2 f.front;
      lawful = f.lawful;
      is_new = a.0;
      is = a.1 ∙ ap (λ x. json.put n.0.0 x found) f.is;
    }

record FoundProps (d : ℕ) (old : Props) (ws : List Word) (v : Data) (rest : List Word) : Type 0 where
  pub first : List ℕ
  pub tree : Static
  pub more : Props
  pub after_name : List Word
  pub after_colon : List Word
  pub after_tree : List Word
  pub after_more : List Word
  pub name_front : Front (name first) ws after_name
  pub colon_front : Front (mark (codes ":")) after_name after_colon
  pub tree_front : Front (Spells tree d) after_colon after_tree
  pub more_front : Front (MoreProperties more d) after_tree after_more
  pub close_front : Front (mark (codes "}")) after_more rest
  pub lawful : HaveLawful (prop_and first tree more)
  pub are_new : AreNew (members_json old) (prop_and first tree more)
  pub apart : Apart (prop_and first tree more)
  pub is : v ≡ json.object (members_json (ordered_among (prop_and first tree more) old))

members_sound : (d : ℕ) (p : Reader) → Sound d p → (n : ℕ) (found : Members) (old : Props) → found ≡ members_json old → (ws : List Word) → AreSpelled ws → (v : Data) (rest : List Word) → members_by n p found ws ≡ Some (v, rest) → FoundProps d old ws v rest
members_sound d p hp zero found old same ws h v rest e = absurd cc
members_sound d p hp (suc n) found old same ws h v rest e =
    let a = then_some (property p found ws) (λ x. if_some (want Mark (codes "}") x.1) (λ r. Some (json.object x.0, r)) (want Mark (codes ",") x.1 >>= λ r. members_by n p x.0 r)) (v, rest) e in
    let f = property_sound d p hp found ws h a.0.0 a.0.1 a.1 in
    let later = spelled_rest f.tree_front (spelled_rest f.colon_front (spelled_rest f.name_front h)) in
    let is_new : get_member f.named (members_json old) ≡ None = ap (λ ms. get_member f.named ms) (sym same) ∙ f.is_new in
    let now : a.0.0 ≡ members_json (put f.named (ordered f.tree) old) = f.is ∙ ap (json.put f.named (json_of (ordered f.tree))) same ∙ sym (members_json-put f.named (ordered f.tree) old) in
    elim (if_some-cases (want Mark (codes "}") a.0.1) (λ r. Some (json.object a.0.0, r)) _ (Some (v, rest)) a.2) [
      | inl x ↦
          subst (λ (y : Data × List Word). FoundProps d old ws y.0 y.1) (some_is (json.object a.0.0, x.0) (v, rest) x.2)
          (record {
            first = f.named;
            tree = f.tree;
            more = no_props;
            after_name = f.after_name;
            after_colon = f.after_colon;
            after_tree = a.0.1;
            after_more = a.0.1;
            name_front = f.name_front;
            colon_front = f.colon_front;
            tree_front = f.tree_front;
            more_front = none_front a.0.1;
            close_front = want-is Mark (codes "}") a.0.1 x.0 x.1;
            lawful = (f.lawful, tt);
            are_new = (is_new, tt);
            apart = (tt, tt);
            is = ap json.object now;
          })
      | inr y ↦
          let b = then_some (want Mark (codes ",") a.0.1) (λ r. members_by n p a.0.0 r) (v, rest) y.1 in
          let comma = want-is Mark (codes ",") a.0.1 b.0 b.1 in
          let g = members_sound d p hp n a.0.0 (put f.named (ordered f.tree) old) now b.0 (spelled_rest comma later) v rest b.2 in
          let names = new_after f.named (json_of (ordered f.tree)) (members_json old) (prop_and g.first g.tree g.more) (subst (λ (ms : Members). AreNew ms (prop_and g.first g.tree g.more)) (members_json-put f.named (ordered f.tree) old) g.are_new) in
          record {
            first = f.named;
            tree = f.tree;
            more = prop_and g.first g.tree g.more;
            after_name = f.after_name;
            after_colon = f.after_colon;
            after_tree = a.0.1;
            after_more = g.after_more;
            name_front = f.name_front;
            colon_front = f.colon_front;
            tree_front = f.tree_front;
            more_front = join comma (join g.name_front (join g.colon_front (join g.tree_front g.more_front)));
            close_front = g.close_front;
            lawful = (f.lawful, g.lawful);
            are_new = (is_new, names.1);
            apart = (names.0, g.apart);
            is = g.is;
          }
    ]

object_sound : (d : ℕ) (p : Reader) → Sound d p → (ws after : List Word) → Front (mark (codes "{")) ws after → AreSpelled ws → (v : Data) (rest : List Word) → object_rest p after ≡ Some (v, rest) → Found (suc d) ws v rest
object_sound d p hp ws after opened h v rest e =
    elim (if_some-cases (want Mark (codes "}") after) (λ r. Some (json.object json.no_members, r)) _ (Some (v, rest)) e) [
      | inl x ↦ at_pair (suc d) ws (json.object json.no_members) x.0 v rest x.2
          (record { tree = object no_props; front = join opened (join (none_front after) (want-is Mark (codes "}") after x.0 x.1)); lawful = (apart_pairs no_props tt, tt); is = refl })
      | inr y ↦
          let g = members_sound d p hp (length after) json.no_members no_props refl after (spelled_rest opened h) v rest y.1 in
          let props = prop_and g.first g.tree g.more in
          record {
            tree = object props;
            front = join opened (join (join g.name_front (join g.colon_front (join g.tree_front g.more_front))) g.close_front);
            lawful = (apart_pairs props g.apart, g.lawful);
            is = g.is;
          }
    ]

-- ---- elements

braced_sound : (d : ℕ) (p : Reader) → Sound d p → (ws : List Word) → AreSpelled ws → (v : Data) (rest : List Word) → braced p ws ≡ Some (v, rest)
    → (tree : Static) × Front (mark (codes "{") ▸ Spells tree d ▸ mark (codes "}")) ws rest × IsLawful tree × (v ≡ json_of (ordered tree))
braced_sound d p hp ws h v rest e =
    let a = then_some (want Mark (codes "{") ws) (λ r. p r >>= λ v. want Mark (codes "}") v.1 >>= λ e. Some (v.0, e)) (v, rest) e in
    let b = then_some (p a.0) (λ v. want Mark (codes "}") v.1 >>= λ e. Some (v.0, e)) (v, rest) a.2 in
    let c = then_some (want Mark (codes "}") b.0.1) (λ e. Some (b.0.0, e)) (v, rest) b.2 in
    let opened = want-is Mark (codes "{") ws a.0 a.1 in
    let f = hp a.0 (spelled_rest opened h) b.0.0 b.0.1 b.1 in
    let closed = want-is Mark (codes "}") b.0.1 c.0 c.1 in
    let same = some_is (b.0.0, c.0) (v, rest) c.2 in
    (f.tree, subst (λ (y : Data × List Word). Front (mark (codes "{") ▸ Spells f.tree d ▸ mark (codes "}")) ws y.1) same (join opened (join f.front closed)), f.lawful, ap (λ (y : Data × List Word). y.0) (sym same) ∙ f.is)

record FoundValue (d : ℕ) (ws : List Word) (v : Data) (rest : List Word) : Type 0 where
  pub tree : Static
  pub front : Front (λ x. Bare tree x ⊎ (mark (codes "{") ▸ Spells tree d ▸ mark (codes "}")) x) ws rest
  pub lawful : IsLawful tree
  pub is : v ≡ json_of (ordered tree)

value_sound : (d : ℕ) (p : Reader) → Sound d p → (ws : List Word) → AreSpelled ws → (v : Data) (rest : List Word) → attribute_value p ws ≡ Some (v, rest) → FoundValue d ws v rest
value_sound d p hp ws h v rest e =
    elim (if_some-cases (a_text ws) (λ x. Some x) (braced p ws) (Some (v, rest)) e) [
      | inl x ↦
          let t = text_sound ws h v rest (x.1 ∙ x.2) in
          record { tree = text t.bytes; front = record { front = t.front.front; whole = t.front.whole; spelled = inl t.front.spelled }; lawful = tt; is = t.is }
      | inr y ↦
          let b = braced_sound d p hp ws h v rest y.1 in
          record { tree = b.0; front = record { front = b.1.front; whole = b.1.whole; spelled = inr b.1.spelled }; lawful = b.2; is = b.3 }
    ]

record FoundAttribute (d : ℕ) (found : Members) (ws : List Word) (ms : Members) (rest : List Word) : Type 0 where
  pub named : List ℕ
  pub tree : Static
  pub after_name : List Word
  pub after_equals : List Word
  pub name_front : Front (name named) ws after_name
  pub equals_front : Front (mark (codes "=")) after_name after_equals
  pub tree_front : Front (λ x. Bare tree x ⊎ (mark (codes "{") ▸ Spells tree d ▸ mark (codes "}")) x) after_equals rest
  pub lawful : IsLawful tree
  pub no_key : codes "key" ≢ named
  pub is_new : get_member named found ≡ None
  pub is : ms ≡ json.put named (json_of (ordered tree)) found

unless_key : {A : Type 0} (named : List ℕ) (o : Option A) (y : A) → (if bytes_eq named (codes "key") then None else o) ≡ Some y → (codes "key" ≢ named) × (o ≡ Some y)
unless_key {A} named o y e = go (bytes_eq named (codes "key")) refl e
  where
    go : (b : Bool) → bytes_eq named (codes "key") ≡ b → (if b then None else o) ≡ Some y → (codes "key" ≢ named) × (o ≡ Some y)
    go true k e = absurd cc
    go false k e = (λ same. absurd (false≢true (sym k ∙ (bytes_eq-Decides named (codes "key")).1 (sym same))), e)

attribute_sound : (d : ℕ) (p : Reader) → Sound d p → (found : Members) (ws : List Word) → AreSpelled ws → (ms : Members) (rest : List Word) → attribute p found ws ≡ Some (ms, rest) → FoundAttribute d found ws ms rest
attribute_sound d p hp found ws h ms rest e =
    let n = then_some (any_name ws) (λ n. if bytes_eq n.0 (codes "key") then None else (want Mark (codes "=") n.1 >>= λ r. attribute_value p r >>= λ v. added n.0 found v)) (ms, rest) e in
    let k = unless_key n.0.0 (want Mark (codes "=") n.0.1 >>= λ r. attribute_value p r >>= λ v. added n.0.0 found v) (ms, rest) n.2 in
    let c = then_some (want Mark (codes "=") n.0.1) (λ r. attribute_value p r >>= λ v. added n.0.0 found v) (ms, rest) k.1 in
    let v = then_some (attribute_value p c.0) (λ v. added n.0.0 found v) (ms, rest) c.2 in
    let name_front = name_sound ws n.0.0 n.0.1 n.1 in
    let equals_front = want-is Mark (codes "=") n.0.1 c.0 c.1 in
    let f = value_sound d p hp c.0 (spelled_rest equals_front (spelled_rest name_front h)) v.0.0 v.0.1 v.1 in
    let a = added-is n.0.0 found v.0 ms rest v.2 in
    record {
      named = n.0.0;
      tree = f.tree;
      after_name = n.0.1;
      after_equals = c.0;
      name_front = name_front;
      equals_front = equals_front;
      tree_front = subst (λ (r : List Word). Front (λ x. Bare f.tree x ⊎ (mark (codes "{") ▸ Spells f.tree d ▸ mark (codes "}")) x) c.0 r) a.2 f.front;
      lawful = f.lawful;
      no_key = k.0;
      is_new = a.0;
      is = a.1 ∙ ap (λ x. json.put n.0.0 x found) f.is;
    }

record FoundAttributes (d : ℕ) (old : Props) (ws : List Word) (ms : Members) (rest : List Word) : Type 0 where
  pub props : Props
  pub after : List Word
  pub front : Front (Attributes props d) ws after
  pub close_front : Front (mark (codes "/>")) after rest
  pub lawful : HaveLawful props
  pub no_key : Differs (codes "key") props
  pub are_new : AreNew (members_json old) props
  pub apart : Apart props
  pub is : ms ≡ members_json (ordered_among props old)

attributes_sound : (d : ℕ) (p : Reader) → Sound d p → (n : ℕ) (found : Members) (old : Props) → found ≡ members_json old → (ws : List Word) → AreSpelled ws → (ms : Members) (rest : List Word) → attributes_by n p found ws ≡ Some (ms, rest) → FoundAttributes d old ws ms rest
attributes_sound d p hp zero found old same ws h ms rest e = absurd cc
attributes_sound d p hp (suc n) found old same ws h ms rest e =
    elim (if_some-cases (want Mark (codes "/>") ws) (λ r. Some (found, r)) (attribute p found ws >>= λ x. attributes_by n p x.0 x.1) (Some (ms, rest)) e) [
      | inl x ↦
          subst (λ (y : Members × List Word). FoundAttributes d old ws y.0 y.1) (some_is (found, x.0) (ms, rest) x.2)
          (record { props = no_props; after = ws; front = none_front ws; close_front = want-is Mark (codes "/>") ws x.0 x.1; lawful = tt; no_key = tt; are_new = tt; apart = tt; is = same })
      | inr y ↦
          let a = then_some (attribute p found ws) (λ x. attributes_by n p x.0 x.1) (ms, rest) y.1 in
          let f = attribute_sound d p hp found ws h a.0.0 a.0.1 a.1 in
          let later = spelled_rest f.tree_front (spelled_rest f.equals_front (spelled_rest f.name_front h)) in
          let now : a.0.0 ≡ members_json (put f.named (ordered f.tree) old) = f.is ∙ ap (json.put f.named (json_of (ordered f.tree))) same ∙ sym (members_json-put f.named (ordered f.tree) old) in
          let g = attributes_sound d p hp n a.0.0 (put f.named (ordered f.tree) old) now a.0.1 later ms rest a.2 in
          let names = new_after f.named (json_of (ordered f.tree)) (members_json old) g.props (subst (λ (ms : Members). AreNew ms g.props) (members_json-put f.named (ordered f.tree) old) g.are_new) in
          record {
            props = prop_and f.named f.tree g.props;
            after = g.after;
            front = join f.name_front (join f.equals_front (join f.tree_front g.front));
            close_front = g.close_front;
            lawful = (f.lawful, g.lawful);
            no_key = (f.no_key, g.no_key);
            are_new = (ap (λ ms. get_member f.named ms) (sym same) ∙ f.is_new, names.1);
            apart = (names.0, g.apart);
            is = g.is;
          }
    ]

element_sound : (d : ℕ) (p : Reader) → Sound d p → (ws after : List Word) → Front (mark (codes "<")) ws after → AreSpelled ws → (v : Data) (rest : List Word) → element_rest p after ≡ Some (v, rest) → Found (suc d) ws v rest
element_sound d p hp ws after opened h v rest e =
    let t = then_some (lower_name after) (λ t. attributes_by (length t.1) p json.no_members t.1 >>= λ x. Some (element_json t.0 x.0, x.1)) (v, rest) e in
    let x = then_some (attributes_by (length t.0.1) p json.no_members t.0.1) (λ x. Some (element_json t.0.0 x.0, x.1)) (v, rest) t.2 in
    let tag = lower_sound after t.0.0 t.0.1 t.1 in
    let g = attributes_sound d p hp (length t.0.1) json.no_members no_props refl t.0.1 (spelled_rest tag (spelled_rest opened h)) x.0.0 x.0.1 x.1 in
    at_pair (suc d) ws (element_json t.0.0 x.0.0) x.0.1 v rest x.2
    (record {
      tree = element t.0.0 g.props;
      front = join opened (join tag (join g.front g.close_front));
      lawful = (apart_pairs g.props g.apart, differs_absent (codes "key") g.props g.no_key, g.lawful);
      is = ap (element_json t.0.0) g.is;
    })

-- ---- values, and programs

begun_sound : (d : ℕ) (p : Reader) → Sound d p → Sound (suc d) (begun p)
begun_sound d p hp ws h v rest e =
    elim (if_some-cases (want Mark (codes "[") ws) (λ r. array_rest p r) _ (Some (v, rest)) e) [
      | inl x ↦ array_sound d p hp ws x.0 (want-is Mark (codes "[") ws x.0 x.1) h v rest x.2
      | inr y ↦ elim (if_some-cases (want Mark (codes "{") ws) (λ r. object_rest p r) _ (Some (v, rest)) y.1) [
        | inl x ↦ object_sound d p hp ws x.0 (want-is Mark (codes "{") ws x.0 x.1) h v rest x.2
        | inr y ↦ elim (if_some-cases (want Mark (codes "<") ws) (λ r. element_rest p r) _ (Some (v, rest)) y.1) [
          | inl x ↦ element_sound d p hp ws x.0 (want-is Mark (codes "<") ws x.0 x.1) h v rest x.2
          | inr y ↦ atom_sound d ws h v rest y.1
        ]
      ]
    ]

sound : (d : ℕ) → Sound d (value d)
unfolding value
sound zero ws h v rest e = absurd cc
sound (suc d) ws h v rest e = begun_sound d (value d) (sound d) ws h v rest e

ended-is : (v : Data) (rest : List Word) (w : Data) → ended (v, rest) ≡ Some w → (rest ≡ []) × (v ≡ w)
ended-is v [] w e = (refl, some_is v w e)
ended-is v (x ∷ xs) w e = absurd cc

-- a program that is read declares its tree
pub program_sound : (ws : List Word) → AreSpelled ws → (v : Data) → program ws ≡ Some v → (tree : Static) × Declares tree ws × IsLawful tree × (v ≡ json_of (ordered tree))
program_sound ws h v e =
    let o = then_some (opening ws) (λ r. value most_values r >>= λ v. want Mark (codes ";") v.1 >>= λ e. ended (v.0, e)) v e in
    let a = then_some (want Name (codes "server") ws) (λ a. want Name (codes "App") a >>= λ b. want Mark (codes "(") b >>= λ c. want Mark (codes ")") c >>= λ e. want Mark (codes "=") e) o.0 o.1 in
    let b = then_some (want Name (codes "App") a.0) (λ b. want Mark (codes "(") b >>= λ c. want Mark (codes ")") c >>= λ e. want Mark (codes "=") e) o.0 a.2 in
    let c = then_some (want Mark (codes "(") b.0) (λ c. want Mark (codes ")") c >>= λ e. want Mark (codes "=") e) o.0 b.2 in
    let d = then_some (want Mark (codes ")") c.0) (λ e. want Mark (codes "=") e) o.0 c.2 in
    let server = want-is Name (codes "server") ws a.0 a.1 in
    let app = want-is Name (codes "App") a.0 b.0 b.1 in
    let left = want-is Mark (codes "(") b.0 c.0 c.1 in
    let right = want-is Mark (codes ")") c.0 d.0 d.1 in
    let equals = want-is Mark (codes "=") d.0 o.0 d.2 in
    let x = then_some (value most_values o.0) (λ v. want Mark (codes ";") v.1 >>= λ e. ended (v.0, e)) v o.2 in
    let f = sound most_values o.0 (spelled_rest equals (spelled_rest right (spelled_rest left (spelled_rest app (spelled_rest server h))))) x.0.0 x.0.1 x.1 in
    let y = then_some (want Mark (codes ";") x.0.1) (λ e. ended (x.0.0, e)) v x.2 in
    let semicolon = want-is Mark (codes ";") x.0.1 y.0 y.1 in
    let z = ended-is x.0.0 y.0 v y.2 in
    let all = join server (join app (join left (join right (join equals (join f.front semicolon))))) in
    (f.tree, subst (Declares f.tree) (sym (all.whole ∙ ap (λ r. all.front ++ r) z.0 ∙ append-nil all.front)) all.spelled, f.lawful, sym z.1 ∙ f.is)
