-- One byte more: a row goes on, is whole, or has a fault. So every text has a reading.
use Rattle.std.proofs.Common.{◌≡◌, ◌≢◌, ℕ, suc, zero, ◌+◌, ◌*◌, ◌^◌, ◌<◌, ◌≤◌, ◌⊎◌, inl, inr, not, Bool, true, false, nat_eq, List, [], ◌∷◌, ◌++◌, length, refl, sym, ◌∙◌, ap, subst, arith, append_assoc, append-nil, length-append}
use Rattle.std.specs.List.{list_all}
use Rattle.std.specs.Str.{is_utf8}
use Rattle.std.proofs.lemmas.Str.{is_utf8-from_IsUtf8, IsUtf8-from_is_utf8}
use Rattle.std.proofs.lemmas.Bool.Decides.{nat_tests}
use Rattle.std.proofs.lemmas.Bool.{cases_lt}
use Rattle.std.proofs.lemmas.List.Folds.{list_all-append}
use Rattle.std.proofs.lemmas.Grind.{fold-append}
use Rattle.std.specs.Cmp.Derive.{both_true}
use Rattle.flight_row.specs.declared.row.RowKind.TheVariants.{Model, Text}
use Rattle.flight_row.specs.declared.tag.Tag.{Tag}
use Rattle.flight_row.specs.declared.tag.Tag.TheVariants as tag
use Rattle.flight_row.specs.Rows.{tag_of, is_hex, hex_value, is_newline, longest, AreDigits, IsHead, IsTextHead, IsLine, Item, hint, SpellsItem}
use Rattle.flight_feed.specs.declared.fault.FeedKind.{FeedKind}
use Rattle.flight_feed.specs.declared.fault.FeedKind.TheVariants.{BadId, BadTag, DevRow, BadLength, RowTooLong, BadText}
use Rattle.flight_feed.specs.declared.begun.Coming.{Coming}
use Rattle.flight_feed.specs.declared.begun.Coming.TheVariants.{Row as ARow, Hint as AHint}
use Rattle.flight_feed.specs.Parts.{InId, InLength, InText, IsPart, in_id, behind_id, behind_colon, in_length, in_text, in_line, in_hint}
use Rattle.flight_feed.specs.Faults.{IsBad}
use Rattle.flight_feed.specs.Stream.{Splits, Refuses}
use Rattle.flight_feed.specs.Begun.{IsBefore, MayBegin, item_of}
use Rattle.flight_feed.proofs.Heads.{tagged, begins_line, begins_length, begins_hint, no_line}
use Rattle.flight_feed.proofs.Forms.{HasForm}
use Rattle.flight_feed.proofs.Parts.{no_part}
use Rattle.flight_feed.proofs.Lines.{has_form, too_long_at, may_begin-take, may_go_on}
use Rattle.flight_feed.proofs.Texts.{whole_text, empty_text}

pub data Next : List ℕ → Type 0 where
  goes_on : (bytes : List ℕ) → IsPart bytes → Next bytes
  is_whole : (bytes : List ℕ) (item : Item) → SpellsItem bytes item → Next bytes
  is_bad : (bytes : List ℕ) (kind : FeedKind) → IsBad kind bytes → Next bytes

bool_cases : (b : Bool) → (b ≡ true) ⊎ (b ≡ false)
bool_cases true = inl refl
bool_cases false = inr refl

lt_cases : (a b : ℕ) → (a < b) ⊎ (b ≤ a)
lt_cases a b = elim (cases_lt a b) [ inl x ↦ inl x | inr x ↦ inr (omega (arith, x)) ]

settles : (c : Coming) (bytes p : List ℕ) → HasForm c bytes p → Next bytes
settles (ARow i k) bytes p form =
    elim (bool_cases (is_utf8 p)) [
      | inl is_text ↦ is_whole bytes (item_of (ARow i k) p) (form, IsUtf8-from_is_utf8 p is_text)
      | inr not_utf8 ↦
          is_bad bytes BadText (record {
            id = i;
            kind = k;
            payload = p;
            is_row = form;
            not_text = λ u. let both : true ≡ false = sym (is_utf8-from_IsUtf8 p u) ∙ not_utf8 in cc;
          })
    ]
settles AHint bytes p form = is_whole bytes hint form

line_part : (c : Coming) (h p : List ℕ) (b : ℕ) → IsBefore c h → IsLine (p ++ b ∷ []) → MayBegin c (p ++ b ∷ []) → IsPart (h ++ (p ++ b ∷ []))
line_part (ARow i k) h p b is line may =
    in_line h (p ++ b ∷ []) i k (record { is_head = is; is_line = line; is_model = λ e. record { some = simp length-append (omega arith); first = may e } })
line_part AHint h p b is line may = in_hint h (p ++ b ∷ []) (record { is_head = is; is_line = line })

line_next : (c : Coming) (h p : List ℕ) (b : ℕ) → IsBefore c h → IsLine p → MayBegin c (p ++ b ∷ []) → Next ((h ++ p) ++ b ∷ [])
line_next c h p b is line may =
    elim (bool_cases (nat_eq b 10)) [
      | inl newline ↦
          let e : b ≡ 10 = grind (arith, nat_tests) in
          let before : MayBegin c p = rw append-nil at (may_begin-take c p (b ∷ []) 0 may) in
          settles c ((h ++ p) ++ b ∷ []) p (has_form c h p ((h ++ p) ++ b ∷ []) is before line (ap (λ x. (h ++ p) ++ x ∷ []) e))
      | inr plain ↦
          let one : list_all (λ x. not (is_newline x)) (p ++ b ∷ []) ≡ true = rw list_all-append (both_true line.one_line (both_true (rw plain refl) refl)) in
          elim (lt_cases (length p) longest) [
            | inl less ↦
                goes_on ((h ++ p) ++ b ∷ []) (rw append_assoc (line_part c h p b is (record { one_line = one; within = simp length-append (omega arith) }) may))
            | inr full ↦
                let fits = line.within in
                is_bad ((h ++ p) ++ b ∷ []) RowTooLong (rw append_assoc (too_long_at c h (p ++ b ∷ []) is may (record { one_line = one; past = simp length-append (omega (arith, fits)) })))
          ]
    ]

text_next : (h p : List ℕ) (id left b : ℕ) → InText h id left p → 0 < left → Next ((h ++ p) ++ b ∷ [])
text_next h p id zero b t some = absurd (omega (arith, some))
text_next h p id (suc zero) b t some =
    settles (ARow id Text) ((h ++ p) ++ b ∷ []) (p ++ b ∷ []) (whole_text h p (b ∷ []) id 1 t (omega arith))
text_next h p id (suc (suc left)) b t some =
    let count : length (p ++ b ∷ []) + suc left ≡ length p + suc (suc left) = simp length-append (omega arith) in
    goes_on ((h ++ p) ++ b ∷ []) (rw append_assoc (in_text h (p ++ b ∷ []) id (suc left) (record { is_head = rw count t.is_head; within = rw count t.within }) (omega arith)))

more_digits : (ds : List ℕ) (n b : ℕ) → AreDigits ds n → is_hex b ≡ true → length ds < 8 → AreDigits (ds ++ b ∷ []) (16 * n + hex_value b)
more_digits ds n b are hex less =
    record {
      digits = rw list_all-append (both_true are.digits (both_true hex refl));
      short = simp length-append (omega (arith, less));
      value = fold-append (λ m d. 16 * m + hex_value d) 0 ds (b ∷ []) ∙ ap (λ m. 16 * m + hex_value b) are.value;
    }

colon_next : (ds : List ℕ) (id : ℕ) → InId ds id → IsPart (ds ++ 58 ∷ [])
colon_next [] id p = behind_colon
colon_next (d ∷ ds) id p =
    behind_id (d ∷ ds ++ 58 ∷ []) id (record { digits = d ∷ ds; is_id = record { are_digits = p.are_digits; some = omega arith }; small = p.small; spelled = refl })

id_next : (ds : List ℕ) (id b : ℕ) → InId ds id → Next (ds ++ b ∷ [])
id_next ds id b p =
    elim (bool_cases (nat_eq b 58)) [
      | inl colon ↦ let e : b ≡ 58 = grind (arith, nat_tests) in goes_on (ds ++ b ∷ []) (rw e (colon_next ds id p))
      | inr plain ↦
          let other : b ≢ 58 = grind (arith, nat_tests) in
          let bad : (is_hex b ≡ true → (length ds ≡ 8) ⊎ (2 ^ 31 ≤ 16 * id + hex_value b)) → Next (ds ++ b ∷ []) =
          λ why. is_bad (ds ++ b ∷ []) BadId (inl (record { digits = ds; id = id; byte = b; are_digits = p.are_digits; small = p.small; no_colon = other; no_digit = why; spelled = refl })) in
          elim (bool_cases (is_hex b)) [
            | inr no_hex ↦ bad (λ hex. let both : true ≡ false = sym hex ∙ no_hex in cc)
            | inl hex ↦
                elim (lt_cases (length ds) 8) [
                  | inr full ↦ let short = p.are_digits.short in bad (λ h. inl (omega (arith, full, short)))
                  | inl less ↦
                      elim (lt_cases (16 * id + hex_value b) (2 ^ 31)) [
                        | inr large ↦ bad (λ h. inr large)
                        | inl small ↦ goes_on (ds ++ b ∷ []) (in_id (ds ++ b ∷ []) (16 * id + hex_value b) (record { are_digits = more_digits ds id b p.are_digits hex less; small = small }))
                      ]
                ]
          ]
    ]

tag_next : (h : List ℕ) (id b : ℕ) (t : Tag) → IsHead h id → tag_of b ≡ t → Next (h ++ b ∷ [])
tag_next h id b tag.Plain is says = rw append-nil at (line_next (ARow id Model) h [] b is no_line (λ e. says))
tag_next h id b tag.Sized is says = goes_on (h ++ b ∷ []) (in_length (h ++ b ∷ []) id 0 0 (begins_length h id b is says))
tag_next h id b (tag.Line k) is says = goes_on (h ++ b ∷ []) (rw append-nil at (in_line (h ++ b ∷ []) [] id k (begins_line k h id b is says)))
tag_next h id b tag.Hint is says = goes_on (h ++ b ∷ []) (rw append-nil at (in_hint (h ++ b ∷ []) [] (record {
  is_head = record { digits = is.digits; id = id; byte = b; are_digits = is.is_id.are_digits; small = is.small; says = says; spelled = rw is.spelled (append_assoc is.digits (58 ∷ []) (b ∷ [])) };
  is_line = no_line;
})))
tag_next h id b tag.Dev is says = is_bad (h ++ b ∷ []) DevRow (id, tagged h id b tag.Dev is says)
tag_next h id b tag.Unknown is says = is_bad (h ++ b ∷ []) BadTag (id, tagged h id b tag.Unknown is says)

no_id : (b : ℕ) → tag_of b ≢ tag.Hint → Next (58 ∷ b ∷ [])
no_id b other = is_bad (58 ∷ b ∷ []) BadId (inr (record { byte = b; no_hint = other; spelled = refl }))

bare_next : (b : ℕ) (t : Tag) → tag_of b ≡ t → Next (58 ∷ b ∷ [])
bare_next b tag.Plain says = no_id b (λ e. let both : tag.Plain ≡ tag.Hint = sym says ∙ e in cc)
bare_next b tag.Sized says = no_id b (λ e. let both : tag.Sized ≡ tag.Hint = sym says ∙ e in cc)
bare_next b (tag.Line k) says = no_id b (λ e. let both : tag.Line k ≡ tag.Hint = sym says ∙ e in cc)
bare_next b tag.Hint says = goes_on (58 ∷ b ∷ []) (in_hint (58 ∷ b ∷ []) [] (begins_hint (58 ∷ []) b refl says))
bare_next b tag.Dev says = no_id b (λ e. let both : tag.Dev ≡ tag.Hint = sym says ∙ e in cc)
bare_next b tag.Unknown says = no_id b (λ e. let both : tag.Unknown ≡ tag.Hint = sym says ∙ e in cc)

-- behind the comma of a length
comma_next : (bytes : List ℕ) (id v : ℕ) → IsTextHead bytes id v → Next bytes
comma_next bytes id zero is =
    settles (ARow id Text) bytes [] (empty_text bytes id (record { is_head = is; within = omega arith }))
comma_next bytes id (suc v) is =
    elim (lt_cases longest (suc v)) [
      | inl past ↦ is_bad bytes RowTooLong (inl (record { id = id; len = suc v; is_head = is; past = past }))
      | inr fits ↦
          let count : 0 + suc v ≡ suc v = omega arith in
          goes_on bytes (rw append-nil at (in_text bytes [] id (suc v) (record { is_head = rw count is; within = rw count fits }) (omega arith)))
    ]

length_next : (bytes : List ℕ) (id count value b : ℕ) → InLength bytes id count value → Next (bytes ++ b ∷ [])
length_next bytes id count value b p =
    let regrouped : bytes ++ b ∷ [] ≡ p.head ++ (p.digits ++ b ∷ []) = rw p.spelled (append_assoc p.head p.digits (b ∷ [])) in
    let bad : (b ≡ 44 → p.digits ≡ []) → (is_hex b ≡ true → length p.digits ≡ 8) → Next (bytes ++ b ∷ []) =
    λ comma hex. is_bad (bytes ++ b ∷ []) BadLength (record { head = p.head; id = id; digits = p.digits; value = value; byte = b; is_head = p.is_head; are_digits = p.are_digits; no_comma = comma; no_digit = hex; spelled = regrouped ∙ sym (append_assoc p.head p.digits (b ∷ [])) }) in
    elim (bool_cases (is_hex b)) [
      | inl hex ↦
          let other : b ≡ 44 → p.digits ≡ [] = λ e. absurd (no_comma b hex e) in
          elim (lt_cases (length p.digits) 8) [
            | inr full ↦ let short = p.are_digits.short in bad other (λ h. omega (arith, full, short))
            | inl less ↦
                goes_on (bytes ++ b ∷ []) (in_length (bytes ++ b ∷ []) id (length (p.digits ++ b ∷ [])) (16 * value + hex_value b) (record {
                  head = p.head;
                  digits = p.digits ++ b ∷ [];
                  is_head = p.is_head;
                  are_digits = more_digits p.digits value b p.are_digits hex less;
                  counted = refl;
                  spelled = regrouped;
                }))
          ]
      | inr no_hex ↦
          let never : is_hex b ≡ true → length p.digits ≡ 8 = λ hex. let both : true ≡ false = sym hex ∙ no_hex in cc in
          elim (lt_cases 0 (length p.digits)) [
            | inr none ↦ bad (λ e. nil p.digits none) never
            | inl some ↦
                elim (bool_cases (nat_eq b 44)) [
                  | inr plain ↦ bad (λ e. let both : true ≡ false = sym (rw e refl) ∙ plain in cc) never
                  | inl comma ↦
                      let e : b ≡ 44 = grind (arith, nat_tests) in
                      comma_next (bytes ++ b ∷ []) id value (record {
                        head = p.head;
                        digits = p.digits;
                        is_head = p.is_head;
                        is_length = record { are_digits = p.are_digits; some = some };
                        is_text_head = rw (p.spelled, e) refl;
                      })
                ]
          ]
    ]
  where
    no_comma : (x : ℕ) → is_hex x ≡ true → x ≡ 44 → ⊥
    no_comma x hex e = let w : is_hex 44 ≡ true = rw e at hex in cc

    nil : (xs : List ℕ) → length xs ≤ 0 → xs ≡ []
    nil [] h = refl
    nil (x ∷ xs) h = absurd (omega (arith, h))

pub grow : (now : List ℕ) (b : ℕ) → IsPart now → Next (now ++ b ∷ [])
grow _ b (in_id bytes id p) = id_next bytes id b p
grow _ b (behind_id bytes id p) = tag_next bytes id b (tag_of b) p refl
grow _ b behind_colon = bare_next b (tag_of b) refl
grow _ b (in_length bytes id count value p) = length_next bytes id count value b p
grow _ b (in_text head payload id left p some) = text_next head payload id left b p some
grow _ b (in_line head payload id kind p) = line_next (ARow id kind) head payload b p.is_head p.is_line (may_go_on (ARow id kind) head payload (b ∷ []) p)
grow _ b (in_hint head payload p) = line_next AHint head payload b p.is_head p.is_line tt

abbrev pub HasReading : List ℕ → Type 0
HasReading text =
    ((items : List Item) × (rest : List ℕ) × Splits text items rest) ⊎ ((kind : FeedKind) × (items : List Item) × Refuses kind text items)

prepend : (item : Item) (a text : List ℕ) → SpellsItem a item → HasReading text → HasReading (a ++ text)
prepend item a text h (inl (items, rest, s)) =
    inl (
      item ∷ items,
      rest,
      record {
        front = a ++ s.front;
        spelled = (a, s.front, refl, h, s.spelled);
        whole = ap (λ xs. a ++ xs) s.whole ∙ sym (append_assoc a s.front rest);
        is_part = s.is_part;
      },
    )
prepend item a text h (inr (kind, items, r)) =
    inr (
      kind,
      item ∷ items,
      record {
        front = a ++ r.front;
        bad = r.bad;
        more = r.more;
        spelled = (a, r.front, refl, h, r.spelled);
        whole = ap (λ xs. a ++ xs) r.whole ∙ sym (append_assoc a r.front (r.bad ++ r.more));
        is_bad = r.is_bad;
      },
    )

reads_on : (bytes text : List ℕ) → Next bytes → (IsPart bytes → HasReading (bytes ++ text)) → HasReading text → HasReading (bytes ++ text)
reads_on _ text (goes_on bytes p) part rest = part p
reads_on _ text (is_whole bytes item s) part rest = prepend item bytes text s rest
reads_on _ text (is_bad bytes kind b) part rest =
    inr (kind, [], record { front = []; bad = bytes; more = text; spelled = refl; whole = refl; is_bad = b })

pub reads : (text now : List ℕ) → IsPart now → HasReading (now ++ text)
reads [] now p = inl ([], now, record { front = []; spelled = refl; whole = append-nil now; is_part = p })
reads (b ∷ bs) now p =
    subst HasReading (append_assoc now (b ∷ []) bs)
    (reads_on (now ++ b ∷ []) bs (grow now b p) (λ q. reads bs (now ++ b ∷ []) q) (reads bs [] no_part))
