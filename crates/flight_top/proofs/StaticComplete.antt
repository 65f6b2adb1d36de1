-- What is spelled by lawful names is read.
use Rattle.std.proofs.Common.{◌≡◌, ◌≢◌, ℕ, zero, suc, ◌+◌, ◌<◌, ◌≤◌, List, [], ◌∷◌, ◌++◌, length, refl, sym, ◌∙◌, ap, subst, append_assoc, append-nil, length-append, arith, true, false, Bool, Option, Some, None, is_some, codes, ◌⊎◌, inl, inr, if◌then◌else◌}
use Rattle.std.specs.Str.{bytes_eq}
use Rattle.std.proofs.lemmas.Slice.Eq.{bytes_eq-Decides}
use Rattle.serde_json.specs.Data as json
use Rattle.serde_json.specs.Data.{Data, Members, string, number, unsigned}
use Rattle.serde_json.specs.Find.{get_member}
use Rattle.serde_json.specs.Read.{read}
use Rattle.serde_json.specs.View.{items_of}
use Rattle.flight_syntax.specs.declared.token.TokenKind.{TokenKind}
use Rattle.flight_syntax.specs.declared.token.TokenKind.TheVariants.{Name, Number, Text, Mark}
use Rattle.flight_syntax.specs.Pieces.{decimal}
use Rattle.flight_syntax.specs.Words.{Word, Phrase, ◌▸◌, one, name, lower, mark, literal}
use Rattle.flight_syntax.specs.Words as words
use Rattle.flight_top.specs.Static.{Static, null, boolean, whole, text, array, object, element, Items, no_items, item_and, Props, no_props, prop_and, Spells, Listed, MoreListed, Properties, MoreProperties, Attributes, Bare, Declares, IsLawful, AreLawful, HaveLawful, most_values}
use Rattle.flight_top.specs.Drawn.{put, ordered, ordered_items, ordered_among}
use Rattle.flight_top.specs.StaticReader.{json_of, members_json, escaped, element_json, gives, Reader, ◌>>=◌, if_some, want, lower_name, string_in, a_text, items_by, array_rest, added, property, members_by, object_rest, braced, attribute_value, attribute, attributes_by, element_rest, begun, value, ended, program}
use Rattle.flight_top.proofs.Fronts.{Front, Both, split, the, front_one, front_none, want-is, want-one}
use Rattle.flight_top.proofs.StaticNames.{members_json-put, Differs, Apart, AreNew, new_before, all_new, pairs_apart, absent_differs}
use Rattle.flight_top.proofs.StaticSound.{listed, items_of-listed}

value_suc : (d : ℕ) (ws : List Word) → value (suc d) ws ≡ begun (value d) ws
unfolding value
value_suc d ws = refl

value_zero : (ws : List Word) → value zero ws ≡ None
unfolding value
value_zero ws = refl

-- ---- how many words

front_length : {P : Phrase} {ws rest : List Word} → (f : Front P ws rest) → length ws ≡ length f.front + length rest
front_length {P} {ws} {rest} f = ap length f.whole ∙ length-append f.front rest

one_then : (Q : Phrase) (kind : TokenKind) (bytes : List ℕ) (x : List Word) → (one kind bytes ▸ Q) x → 0 < length x
one_then Q kind bytes x h = let len = ap length (h.2 ∙ ap (λ y. y ++ h.1) h.3) in omega (arith, len)

just_one : (w : Word) (x : List Word) → x ≡ w ∷ [] → 0 < length x
just_one w x e = let len = ap length e in omega (arith, len)

-- a value has some words
some_words : (tree : Static) (d : ℕ) (x : List Word) → Spells tree d x → 0 < length x
some_words null zero x h = absurd h
some_words (boolean b) zero x h = absurd h
some_words (whole n) zero x h = absurd h
some_words (text t) zero x h = absurd h
some_words (array items) zero x h = absurd h
some_words (object props) zero x h = absurd h
some_words (element tag props) zero x h = absurd h
some_words null (suc d) x h = just_one (the Name (codes "null")) x h
some_words (boolean true) (suc d) x h = just_one (the Name (codes "true")) x h
some_words (boolean false) (suc d) x h = just_one (the Name (codes "false")) x h
some_words (whole n) (suc d) x h = just_one (the Number h.0) x h.2
some_words (text t) (suc d) x h = just_one (the Text h.0) x h.2
some_words (array items) (suc d) x h = one_then (Listed items d ▸ mark (codes "]")) Mark (codes "[") x h
some_words (object props) (suc d) x h = one_then (Properties props d ▸ mark (codes "}")) Mark (codes "{") x h
some_words (element tag props) (suc d) x h = one_then (lower tag ▸ Attributes props d ▸ mark (codes "/>")) Mark (codes "<") x h

-- no value begins with a closing bracket
no_close_value : (d : ℕ) (rest : List Word) → value d (the Mark (codes "]") ∷ rest) ≡ None
no_close_value zero rest = value_zero (the Mark (codes "]") ∷ rest)
no_close_value (suc d) rest = value_suc d (the Mark (codes "]") ∷ rest)

no_close : (d : ℕ) (ws : List Word) (v : Data) (rest : List Word) → value d ws ≡ gives v rest → want Mark (codes "]") ws ≡ None
no_close d ws v rest e = go (want Mark (codes "]") ws) refl
  where
    go : (o : Option (List Word)) → want Mark (codes "]") ws ≡ o → want Mark (codes "]") ws ≡ None
    go None k = k
    go (Some r) k =
        let none : gives v rest ≡ None = sym e ∙ ap (value d) (front_one (want-is Mark (codes "]") ws r k)) ∙ no_close_value d r in
        absurd cc

-- ---- texts

text_read : (bytes : List ℕ) (ws rest : List Word) → Front (literal bytes) ws rest → (spelled : List ℕ) × (ws ≡ the Text spelled ∷ rest) × ((string_in (read spelled) >>= λ s. gives (string (escaped s)) rest) ≡ gives (string (escaped bytes)) rest)
text_read bytes ws rest f = (f.spelled.0, f.whole ∙ ap (λ x. x ++ rest) f.spelled.2, ap (λ o. string_in o >>= λ s. gives (string (escaped s)) rest) f.spelled.1.is_string)

-- ---- parts of properties

property_read : (p : Reader) (named : List ℕ) (found : Members) (ws : List Word) (v : Data) (rest : List Word) → p ws ≡ gives v rest → get_member named found ≡ None
    → property p found (the Name named ∷ the Mark (codes ":") ∷ ws) ≡ gives (json.put named v found) rest
property_read p named found ws v rest e none = ap (λ o. o >>= λ v. added named found v) e ∙ ap (λ o. if is_some o then None else gives (json.put named v found) rest) none

attribute_read : (p : Reader) (named : List ℕ) (found : Members) (ws : List Word) (v : Data) (rest : List Word) → attribute_value p ws ≡ gives v rest → get_member named found ≡ None → codes "key" ≢ named
    → attribute p found (the Name named ∷ the Mark (codes "=") ∷ ws) ≡ gives (json.put named v found) rest
attribute_read p named found ws v rest e none other = go (bytes_eq named (codes "key")) refl
  where
    go : (b : Bool) → bytes_eq named (codes "key") ≡ b → attribute p found (the Name named ∷ the Mark (codes "=") ∷ ws) ≡ gives (json.put named v found) rest
    go true k = absurd (other (sym ((bytes_eq-Decides named (codes "key")).0 k)))
    go false k =
        ap (λ b. if b then None else (attribute_value p ws >>= λ v. added named found v)) k
        ∙ ap (λ o. o >>= λ v. added named found v) e
        ∙ ap (λ o. if is_some o then None else gives (json.put named v found) rest) none

braced_read : (p : Reader) (tree : Static) (d : ℕ) → ((ws rest : List Word) → Front (Spells tree d) ws rest → p ws ≡ gives (json_of (ordered tree)) rest)
    → (ws rest : List Word) → Front (mark (codes "{") ▸ Spells tree d ▸ mark (codes "}")) ws rest → attribute_value p ws ≡ gives (json_of (ordered tree)) rest
braced_read p tree d h ws rest f =
    let s = split f in
    let g = split s.second in
    ap (attribute_value p) (front_one s.first)
    ∙ ap (λ o. o >>= λ v. want Mark (codes "}") v.1 >>= λ e. gives v.0 e) (h s.middle g.middle g.first)
    ∙ ap (λ (r : List Word). want Mark (codes "}") r >>= λ e. gives (json_of (ordered tree)) e) (front_one g.second)

bare_read : (p : Reader) (tree : Static) (ws rest : List Word) → Front (Bare tree) ws rest → attribute_value p ws ≡ gives (json_of (ordered tree)) rest
bare_read p (text bytes) ws rest f =
    let t = text_read bytes ws rest f in
    ap (attribute_value p) t.1 ∙ ap (λ o. if_some o (λ x. Some x) (braced p (the Text t.0 ∷ rest))) t.2
bare_read p null ws rest f = absurd f.spelled
bare_read p (boolean b) ws rest f = absurd f.spelled
bare_read p (whole n) ws rest f = absurd f.spelled
bare_read p (array items) ws rest f = absurd f.spelled
bare_read p (object props) ws rest f = absurd f.spelled
bare_read p (element tag props) ws rest f = absurd f.spelled

value_read : (p : Reader) (tree : Static) (d : ℕ) → ((ws rest : List Word) → Front (Spells tree d) ws rest → p ws ≡ gives (json_of (ordered tree)) rest)
    → (ws rest : List Word) → Front (λ x. Bare tree x ⊎ (mark (codes "{") ▸ Spells tree d ▸ mark (codes "}")) x) ws rest → attribute_value p ws ≡ gives (json_of (ordered tree)) rest
value_read p tree d h ws rest f = elim f.spelled [
  | inl b ↦ bare_read p tree ws rest (record { front = f.front; whole = f.whole; spelled = b })
  | inr b ↦ braced_read p tree d h ws rest (record { front = f.front; whole = f.whole; spelled = b })
]

-- ---- lists behind some of them

abbrev after_item : ℕ → Reader → List Data → List Word → Option (Data × List Word)
after_item n p done ws = if_some (want Mark (codes "]") ws) (λ r. gives (json.array (items_of done)) r) (want Mark (codes ",") ws >>= λ r. items_by n p done r)

abbrev after_prop : ℕ → Reader → Members → List Word → Option (Data × List Word)
after_prop n p found ws = if_some (want Mark (codes "}") ws) (λ r. gives (json.object found) r) (want Mark (codes ",") ws >>= λ r. members_by n p found r)

-- the first item, where what follows it is read
first_read : (n d : ℕ) (tree : Static) (items : Items) (ws middle rest : List Word) → value d ws ≡ gives (json_of (ordered tree)) middle
    → ((k : ℕ) → length middle ≤ k → after_item k (value d) (json_of (ordered tree) ∷ []) middle ≡ gives (json.array (items_of (listed (item_and tree items)))) rest) → length middle < n
    → items_by n (value d) [] ws ≡ gives (json.array (items_of (listed (item_and tree items)))) rest
first_read zero d tree items ws middle rest e more le = absurd (omega arith)
first_read (suc n) d tree items ws middle rest e more le = ap (λ o. o >>= λ x. after_item n (value d) (x.0 ∷ []) x.1) e ∙ more n (omega arith)

-- the first property, likewise
first_prop : (n d : ℕ) (named : List ℕ) (tree : Static) (props : Props) (ws middle rest : List Word) → value d ws ≡ gives (json_of (ordered tree)) middle
    → ((k : ℕ) → length middle ≤ k → after_prop k (value d) (json.put named (json_of (ordered tree)) json.no_members) middle ≡ gives (json.object (members_json (ordered_among props (put named (ordered tree) no_props)))) rest) → length middle < n
    → members_by n (value d) json.no_members (the Name named ∷ the Mark (codes ":") ∷ ws) ≡ gives (json.object (members_json (ordered_among props (put named (ordered tree) no_props)))) rest
first_prop zero d named tree props ws middle rest e more le = absurd (omega arith)
first_prop (suc n) d named tree props ws middle rest e more le =
    ap (λ o. o >>= λ x. after_prop n (value d) x.0 x.1) (property_read (value d) named json.no_members ws (json_of (ordered tree)) middle e refl) ∙ more n (omega arith)

-- one property more
put_one : (named : List ℕ) (tree : Static) (found : Members) (old : Props) → found ≡ members_json old → json.put named (json_of (ordered tree)) found ≡ members_json (put named (ordered tree) old)
put_one named tree found old same = ap (json.put named (json_of (ordered tree))) same ∙ sym (members_json-put named (ordered tree) old)

mutual
  tree_read : (tree : Static) (d : ℕ) (ws rest : List Word) → Front (Spells tree d) ws rest → IsLawful tree → value d ws ≡ gives (json_of (ordered tree)) rest
  tree_read null zero ws rest f l = absurd f.spelled
  tree_read (boolean b) zero ws rest f l = absurd f.spelled
  tree_read (whole n) zero ws rest f l = absurd f.spelled
  tree_read (text t) zero ws rest f l = absurd f.spelled
  tree_read (array items) zero ws rest f l = absurd f.spelled
  tree_read (object props) zero ws rest f l = absurd f.spelled
  tree_read (element tag props) zero ws rest f l = absurd f.spelled
  tree_read null (suc d) ws rest f l = value_suc d ws ∙ ap (begun (value d)) (front_one f)
  tree_read (boolean true) (suc d) ws rest f l = value_suc d ws ∙ ap (begun (value d)) (front_one f)
  tree_read (boolean false) (suc d) ws rest f l = value_suc d ws ∙ ap (begun (value d)) (front_one f)
  tree_read (whole n) (suc d) ws rest f l =
      value_suc d ws ∙ ap (begun (value d)) (f.whole ∙ ap (λ x. x ++ rest) f.spelled.2) ∙ ap (λ m. gives (number (unsigned m)) rest) f.spelled.1.is_numeral.spelled
  tree_read (text bytes) (suc d) ws rest f l = let t = text_read bytes ws rest f in value_suc d ws ∙ ap (begun (value d)) t.1 ∙ t.2
  tree_read (array no_items) (suc d) ws rest f l =
      let s = split f in
      let g = split s.second in
      value_suc d ws ∙ ap (begun (value d)) (front_one s.first ∙ ap (λ r. the Mark (codes "[") ∷ r) (front_none g.first ∙ front_one g.second))
  tree_read (array (item_and tree items)) (suc d) ws rest f l =
      let s = split f in
      let g = split s.second in
      let h = split g.first in
      let first = tree_read tree d s.middle h.middle h.first l.0 in
      let lens = front_length h.first in
      let some = some_words tree d h.first.front h.first.spelled in
      value_suc d ws
      ∙ ap (begun (value d)) (front_one s.first)
      ∙ ap (λ o. if_some o (λ r. gives (json.array json.no_items) r) (items_by (length s.middle) (value d) [] s.middle)) (no_close d s.middle (json_of (ordered tree)) h.middle first)
      ∙ first_read (length s.middle) d tree items s.middle h.middle rest first (λ n le. more_read items d n (json_of (ordered tree) ∷ []) h.middle g.middle rest h.second g.second l.1 le) (omega (arith, lens, some))
      ∙ ap (λ xs. gives (json.array xs) rest) (items_of-listed (item_and tree items))
  tree_read (object no_props) (suc d) ws rest f l =
      let s = split f in
      let g = split s.second in
      value_suc d ws ∙ ap (begun (value d)) (front_one s.first ∙ ap (λ r. the Mark (codes "{") ∷ r) (front_none g.first ∙ front_one g.second))
  tree_read (object (prop_and named tree props)) (suc d) ws rest f l =
      let s = split f in
      let g = split s.second in
      let n = split g.first in
      let c = split n.second in
      let t = split c.second in
      let is : s.middle ≡ the Name named ∷ the Mark (codes ":") ∷ c.middle = front_one n.first ∙ ap (λ r. the Name named ∷ r) (front_one c.first) in
      let apart = pairs_apart (prop_and named tree props) l.0 in
      let len = ap length is in
      let lens = front_length t.first in
      value_suc d ws
      ∙ ap (begun (value d)) (front_one s.first ∙ ap (λ r. the Mark (codes "{") ∷ r) is)
      ∙ first_prop (length (the Name named ∷ the Mark (codes ":") ∷ c.middle)) d named tree props c.middle t.middle rest (tree_read tree d c.middle t.middle t.first l.1.0)
      (λ n le.
      more_props_read props d n (json.put named (json_of (ordered tree)) json.no_members) (put named (ordered tree) no_props) (put_one named tree json.no_members no_props refl) t.middle g.middle rest t.second g.second l.1.1 apart.1
      (new_before named (json_of (ordered tree)) json.no_members props apart.0 (all_new props)) le)
      (omega (arith, lens))
  tree_read (element tag props) (suc d) ws rest f l =
      let s = split f in
      let t = split s.second in
      let g = split t.second in
      let is_tag : s.middle ≡ the Name tag ∷ t.middle = t.first.whole ∙ ap (λ x. x ++ t.middle) t.first.spelled.1 in
      value_suc d ws
      ∙ ap (begun (value d)) (front_one s.first ∙ ap (λ r. the Mark (codes "<") ∷ r) is_tag)
      ∙ ap (λ (b : Bool). (if b then gives tag t.middle else None) >>= λ t. attributes_by (length t.1) (value d) json.no_members t.1 >>= λ x. gives (element_json t.0 x.0) x.1) t.first.spelled.0
      ∙ ap (λ o. o >>= λ x. gives (element_json tag x.0) x.1)
      (attributes_read props d (length t.middle) json.no_members no_props refl t.middle g.middle rest g.first g.second l.2 (pairs_apart props l.0) (absent_differs (codes "key") props l.1) (all_new props) (omega arith))

  more_read : (items : Items) (d n : ℕ) (done : List Data) (ws middle rest : List Word) → Front (MoreListed items d) ws middle → Front (mark (codes "]")) middle rest → AreLawful items → length ws ≤ n
      → after_item n (value d) done ws ≡ gives (json.array (items_of (done ++ listed items))) rest
  more_read no_items d n done ws middle rest f c l le = ap (after_item n (value d) done) (front_none f ∙ front_one c) ∙ ap (λ xs. gives (json.array (items_of xs)) rest) (sym (append-nil done))
  more_read (item_and tree items) d zero done ws middle rest f c l le = let s = split f in let len = ap length (front_one s.first) in absurd (omega (arith, len))
  more_read (item_and tree items) d (suc n) done ws middle rest f c l le =
      let s = split f in
      let g = split s.second in
      let len = ap length (front_one s.first) in
      let lens = front_length g.first in
      ap (after_item (suc n) (value d) done) (front_one s.first)
      ∙ ap (λ o. o >>= λ x. after_item n (value d) (done ++ x.0 ∷ []) x.1) (tree_read tree d s.middle g.middle g.first l.0)
      ∙ more_read items d n (done ++ json_of (ordered tree) ∷ []) g.middle middle rest g.second c l.1 (omega (arith, len, lens))
      ∙ ap (λ xs. gives (json.array (items_of xs)) rest) (append_assoc done (json_of (ordered tree) ∷ []) (listed items))

  more_props_read : (props : Props) (d n : ℕ) (found : Members) (old : Props) → found ≡ members_json old → (ws middle rest : List Word) → Front (MoreProperties props d) ws middle → Front (mark (codes "}")) middle rest → HaveLawful props
      → Apart props → AreNew found props → length ws ≤ n → after_prop n (value d) found ws ≡ gives (json.object (members_json (ordered_among props old))) rest
  more_props_read no_props d n found old same ws middle rest f c l apart are_new le = ap (after_prop n (value d) found) (front_none f ∙ front_one c) ∙ ap (λ ms. gives (json.object ms) rest) same
  more_props_read (prop_and named tree props) d zero found old same ws middle rest f c l apart are_new le = let s = split f in let len = ap length (front_one s.first) in absurd (omega (arith, len))
  more_props_read (prop_and named tree props) d (suc n) found old same ws middle rest f c l apart are_new le =
      let s = split f in
      let m = split s.second in
      let k = split m.second in
      let t = split k.second in
      let is : ws ≡ the Mark (codes ",") ∷ the Name named ∷ the Mark (codes ":") ∷ k.middle =
      front_one s.first ∙ ap (λ r. the Mark (codes ",") ∷ r) (front_one m.first ∙ ap (λ r. the Name named ∷ r) (front_one k.first)) in
      let len = ap length is in
      let lens = front_length t.first in
      ap (after_prop (suc n) (value d) found) is
      ∙ ap (λ o. o >>= λ x. after_prop n (value d) x.0 x.1) (property_read (value d) named found k.middle (json_of (ordered tree)) t.middle (tree_read tree d k.middle t.middle t.first l.0) are_new.0)
      ∙ more_props_read props d n (json.put named (json_of (ordered tree)) found) (put named (ordered tree) old) (put_one named tree found old same) t.middle middle rest t.second c l.1 apart.1
      (new_before named (json_of (ordered tree)) found props apart.0 are_new.1) (omega (arith, len, lens))

  attributes_read : (props : Props) (d n : ℕ) (found : Members) (old : Props) → found ≡ members_json old → (ws middle rest : List Word) → Front (Attributes props d) ws middle → Front (mark (codes "/>")) middle rest → HaveLawful props
      → Apart props → Differs (codes "key") props → AreNew found props → length ws ≤ n → attributes_by n (value d) found ws ≡ gives (members_json (ordered_among props old)) rest
  attributes_read no_props d zero found old same ws middle rest f c l apart no_key are_new le = let len = ap length (front_none f ∙ front_one c) in absurd (omega (arith, len))
  attributes_read no_props d (suc n) found old same ws middle rest f c l apart no_key are_new le = ap (attributes_by (suc n) (value d) found) (front_none f ∙ front_one c) ∙ ap (λ ms. gives ms rest) same
  attributes_read (prop_and named tree props) d zero found old same ws middle rest f c l apart no_key are_new le = let s = split f in let len = ap length (front_one s.first) in absurd (omega (arith, len))
  attributes_read (prop_and named tree props) d (suc n) found old same ws middle rest f c l apart no_key are_new le =
      let m = split f in
      let k = split m.second in
      let t = split k.second in
      let is : ws ≡ the Name named ∷ the Mark (codes "=") ∷ k.middle = front_one m.first ∙ ap (λ r. the Name named ∷ r) (front_one k.first) in
      let len = ap length is in
      let lens = front_length t.first in
      ap (attributes_by (suc n) (value d) found) is
      ∙ ap (λ o. o >>= λ x. attributes_by n (value d) x.0 x.1)
      (attribute_read (value d) named found k.middle (json_of (ordered tree)) t.middle (value_read (value d) tree d (λ ws rest f. tree_read tree d ws rest f l.0) k.middle t.middle t.first) are_new.0 no_key.0)
      ∙ attributes_read props d n (json.put named (json_of (ordered tree)) found) (put named (ordered tree) old) (put_one named tree found old same) t.middle middle rest t.second c l.1 apart.1 no_key.1
      (new_before named (json_of (ordered tree)) found props apart.0 are_new.1) (omega (arith, len, lens))

-- a lawful tree that is declared is read
pub program_complete : (tree : Static) (ws : List Word) → Declares tree ws → IsLawful tree → program ws ≡ Some (json_of (ordered tree))
program_complete tree ws declares l =
    let a = split (record { front = ws; whole = sym (append-nil ws); spelled = declares }) in
    let b = split a.second in
    let c = split b.second in
    let d = split c.second in
    let e = split d.second in
    let f = split e.second in
    let is : ws ≡ the Name (codes "server") ∷ the Name (codes "App") ∷ the Mark (codes "(") ∷ the Mark (codes ")") ∷ the Mark (codes "=") ∷ e.middle =
    front_one a.first
    ∙ ap (λ r. the Name (codes "server") ∷ r) (front_one b.first
    ∙ ap (λ r. the Name (codes "App") ∷ r) (front_one c.first
    ∙ ap (λ r. the Mark (codes "(") ∷ r) (front_one d.first
    ∙ ap (λ r. the Mark (codes ")") ∷ r) (front_one e.first)))) in
    ap program is
    ∙ ap (λ o. o >>= λ v. want Mark (codes ";") v.1 >>= λ r. ended (v.0, r)) (tree_read tree most_values e.middle f.middle f.first l)
    ∙ ap (λ (r : List Word). want Mark (codes ";") r >>= λ r. ended (json_of (ordered tree), r)) (front_one f.second)
