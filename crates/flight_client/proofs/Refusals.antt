-- A row is refused for one reason, and never where it may follow.
use Rattle.std.proofs.Common.{◌≡◌, ℕ, List, [], ◌∷◌, ◌++◌, refl, sym, ◌∙◌, ap, subst, append_assoc, Some, None, true, false}
use Rattle.std.specs.Prelude.{All}
use Rattle.std.proofs.Common.{suc, arith, eq-eqb}
use Rattle.flight_row.specs.declared.row.RowKind.{RowKind}
use Rattle.flight_meaning.specs.declared.place.PlacedRow.{PlacedRow}
use Rattle.flight_meaning.specs.Linked.{Standing, Refusal, Verdict, goes, refused, twice, not_open, after_end, next, after, rows_of, standing_of, FollowOn}
use Rattle.flight_meaning.proofs.MoreRows.{rows_of-same, standing-append, follow_front}
use Rattle.flight_link.specs.Adding.{is_of_stream, HasVerdict, IsRefused}
use Rattle.flight_link.specs.declared.fault.LinkKind.{LinkKind}
use Rattle.flight_link.specs.declared.fault.LinkKind.TheVariants as kind
use Rattle.flight_client.specs.Rows.{AreLinked}

one_verdict : (rows : List PlacedRow) (id : ℕ) (k : RowKind) (v w : Verdict) → HasVerdict rows id k v → HasVerdict rows id k w → v ≡ w
one_verdict rows id k v w a b =
    let some : Some a.0 ≡ Some b.0 = sym a.1 ∙ b.1 in
    let s : a.0 ≡ b.0 = cc in
    sym a.2 ∙ (ap (λ z. next z k) s ∙ b.2)

-- ---- one reason

pub one_reason : (rows : List PlacedRow) (id : ℕ) (k : RowKind) (i j : LinkKind) → IsRefused rows id k i → IsRefused rows id k j → i ≡ j
one_reason rows id k (kind.NotBuilt x) (kind.NotBuilt y) a b = ap kind.NotBuilt (a.0 ∙ sym b.0)
one_reason rows id k (kind.NotBuilt x) (kind.Twice y) a b = let e : true ≡ false = sym a.1 ∙ b.1 in cc
one_reason rows id k (kind.NotBuilt x) (kind.NotOpen y) a b = let e : true ≡ false = sym a.1 ∙ b.1 in cc
one_reason rows id k (kind.NotBuilt x) (kind.Closed y) a b = let e : true ≡ false = sym a.1 ∙ b.1 in cc
one_reason rows id k (kind.Twice x) (kind.NotBuilt y) a b = let e : true ≡ false = sym b.1 ∙ a.1 in cc
one_reason rows id k (kind.Twice x) (kind.Twice y) a b = ap kind.Twice (a.0 ∙ sym b.0)
one_reason rows id k (kind.Twice x) (kind.NotOpen y) a b = let e = one_verdict rows id k (refused twice) (refused not_open) a.2 b.2 in cc
one_reason rows id k (kind.Twice x) (kind.Closed y) a b = let e = one_verdict rows id k (refused twice) (refused after_end) a.2 b.2 in cc
one_reason rows id k (kind.NotOpen x) (kind.NotBuilt y) a b = let e : true ≡ false = sym b.1 ∙ a.1 in cc
one_reason rows id k (kind.NotOpen x) (kind.Twice y) a b = let e = one_verdict rows id k (refused not_open) (refused twice) a.2 b.2 in cc
one_reason rows id k (kind.NotOpen x) (kind.NotOpen y) a b = ap kind.NotOpen (a.0 ∙ sym b.0)
one_reason rows id k (kind.NotOpen x) (kind.Closed y) a b = let e = one_verdict rows id k (refused not_open) (refused after_end) a.2 b.2 in cc
one_reason rows id k (kind.Closed x) (kind.NotBuilt y) a b = let e : true ≡ false = sym b.1 ∙ a.1 in cc
one_reason rows id k (kind.Closed x) (kind.Twice y) a b = let e = one_verdict rows id k (refused after_end) (refused twice) a.2 b.2 in cc
one_reason rows id k (kind.Closed x) (kind.NotOpen y) a b = let e = one_verdict rows id k (refused after_end) (refused not_open) a.2 b.2 in cc
one_reason rows id k (kind.Closed x) (kind.Closed y) a b = ap kind.Closed (a.0 ∙ sym b.0)

-- ---- rows that are linked have no refused one among them

no_standing : (v : Verdict) (why : Refusal) (s : Standing) → v ≡ refused why → after v [] ≡ Some s → ⊥
no_standing v why s e h = let none : None ≡ Some s = sym (ap (λ z. after z []) e) ∙ h in cc

stands_refused : (rows : List PlacedRow) (x : PlacedRow) (more : List PlacedRow) (why : Refusal) → FollowOn (rows ++ x ∷ more) → HasVerdict rows x.id x.tree.kind (refused why) → ⊥
stands_refused rows x more why f v =
    let one : FollowOn (rows ++ x ∷ []) = follow_front (rows ++ x ∷ []) more (subst FollowOn (sym (append_assoc rows (x ∷ []) more)) f) in
    let stands = one x.id in
    let last : rows_of x.id (x ∷ []) ≡ x.tree ∷ [] = rows_of-same x.id [] x (eq-eqb x.id x.id refl) in
    let e : standing_of x.id (rows ++ x ∷ []) ≡ after (next v.0 x.tree.kind) [] = standing-append x.id rows (x ∷ []) v.0 v.1 ∙ ap (after (goes v.0)) last in
    no_standing (next v.0 x.tree.kind) why stands.0 v.2 (sym e ∙ stands.1)

at_middle : (P : PlacedRow → Type 0) (rows : List PlacedRow) (x : PlacedRow) (more : List PlacedRow) → All P (rows ++ x ∷ more) → P x
at_middle P [] x more h = h 0 x (omega arith)
at_middle P (r ∷ rows) x more h = at_middle P rows x more (λ k d l. h (suc k) d (omega arith))

pub linked_not_refused : (rows : List PlacedRow) (x : PlacedRow) (more : List PlacedRow) (j : LinkKind) → AreLinked (rows ++ x ∷ more) → IsRefused rows x.id x.tree.kind j → ⊥
linked_not_refused rows x more (kind.NotBuilt i) l r =
    let no_stream = at_middle (λ p. is_of_stream p.tree.kind ≡ false) rows x more l.of_no_stream in
    let e : true ≡ false = sym r.1 ∙ no_stream in
    cc
linked_not_refused rows x more (kind.Twice i) l r = stands_refused rows x more twice l.follow_on r.2
linked_not_refused rows x more (kind.NotOpen i) l r = stands_refused rows x more not_open l.follow_on r.2
linked_not_refused rows x more (kind.Closed i) l r = stands_refused rows x more after_end l.follow_on r.2
