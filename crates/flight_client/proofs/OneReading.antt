-- A text has one reading.
use Rattle.std.proofs.Common.{◌≡◌, ℕ, ◌+◌, List, [], ◌∷◌, ◌++◌, length, refl, sym, ◌∙◌, ap, subst, append_assoc, None, Some, Option}
use Rattle.flight_row.specs.declared.row.Row.{Row}
use Rattle.flight_row.specs.Rows.{Item, handed, SpellAll}
use Rattle.flight_feed.specs.declared.fault.FeedKind.{FeedKind}
use Rattle.flight_feed.specs.Faults.{IsBad}
use Rattle.flight_feed.specs.Parts.{IsPart}
use Rattle.flight_feed.specs.Stream.{Refuses}
use Rattle.flight_feed.proofs.Readings.{IsTail, part_tail, bad_tail, has_one_reading}
use Rattle.flight_place.specs.declared.fault.PlaceKind.{PlaceKind}
use Rattle.flight_place.specs.declared.manner.Manner.TheVariants.{Wire}
use Rattle.flight_meaning.specs.declared.place.PlaceTree.{PlaceTree}
use Rattle.flight_meaning.specs.declared.place.PlacedRow.{PlacedRow}
use Rattle.flight_place.specs.Rows.{IsTree, IsRowFault}
use Rattle.flight_place.proofs.Trees.{tree-one, first-one, have-no_fault}
use Rattle.flight_link.specs.declared.fault.LinkKind.{LinkKind}
use Rattle.flight_link.specs.Adding.{IsRefused}
use Rattle.flight_client.specs.declared.fault.ClientFault.{ClientFault}
use Rattle.flight_client.specs.declared.fault.ClientFault.TheVariants as fault
use Rattle.flight_client.specs.Rows.{ArePlaced, AreLinked, HaveRows, HasSoFar, StartsWith}
use Rattle.flight_client.specs.Faults.{HasFault}
use Rattle.flight_client.specs.OneReading.{HasOneReading}
use Rattle.flight_client.proofs.Items.{spell_split}
use Rattle.flight_client.proofs.Compared.{GoesOn, no_tail, one_next, same, longer, shorter, compare, one_placed, among}
use Rattle.flight_client.proofs.Refusals.{one_reason, linked_not_refused}

-- ---- where a reading stops

-- at a row that has begun or at nothing; at bytes that go on as no row does; at a row without places; at a row that
-- may not follow
pub data Stop : Type 0 where
  opened : Stop
  bad : FeedKind → Stop
  unplaced : PlaceKind → Stop
  unlinked : LinkKind → Stop

pub record HasBad (tail : List ℕ) (kind : FeedKind) : Type 0 where
  pub front : List ℕ
  pub more : List ℕ
  pub split : tail ≡ front ++ more
  pub is_bad : IsBad kind front

pub record HasUnplaced (tail : List ℕ) (kind : PlaceKind) : Type 0 where
  pub next : Row
  pub goes_on : GoesOn tail (handed next)
  pub is_fault : IsRowFault Wire next kind

pub record HasUnlinked (tail : List ℕ) (placed : List PlacedRow) (kind : LinkKind) : Type 0 where
  pub next : Row
  pub goes_on : GoesOn tail (handed next)
  pub tree : PlaceTree
  pub is_tree : IsTree Wire next tree
  pub is_refused : IsRefused placed next.id tree.kind kind

abbrev pub StopsHere : List ℕ → List PlacedRow → Stop → Type 0
StopsHere tail placed opened = IsPart tail
StopsHere tail placed (bad kind) = HasBad tail kind
StopsHere tail placed (unplaced kind) = HasUnplaced tail kind
StopsHere tail placed (unlinked kind) = HasUnlinked tail placed kind

pub record IsReading (text : List ℕ) (items : List Item) (placed : List PlacedRow) (stop : Stop) : Type 0 where
  pub front : List ℕ
  pub tail : List ℕ
  pub spelled : SpellAll front items
  pub split : text ≡ front ++ tail
  pub have : HaveRows items placed
  pub stops : StopsHere tail placed stop

-- ---- at one place it stops in one way

bad_is_tail : (tail : List ℕ) (kind : FeedKind) → HasBad tail kind → IsTail tail
bad_is_tail tail kind h = subst IsTail (sym h.split) (bad_tail kind h.front h.more h.is_bad)

refuses_here : (tail : List ℕ) (kind : FeedKind) → HasBad tail kind → Refuses kind tail []
refuses_here tail kind h = record { front = []; bad = h.front; more = h.more; spelled = refl; whole = h.split; is_bad = h.is_bad }

same_row : (tail : List ℕ) (r s : Row) → GoesOn tail (handed r) → GoesOn tail (handed s) → r ≡ s
same_row tail r s g h = let e = one_next tail (handed r) (handed s) g h in cc

no_tree : (r : Row) (t : PlaceTree) (kind : PlaceKind) → IsTree Wire r t → IsRowFault Wire r kind → ⊥
no_tree r t kind h f = have-no_fault Wire _ t.places kind h.have f

one_stop : (tail : List ℕ) (placed : List PlacedRow) (s t : Stop) → StopsHere tail placed s → StopsHere tail placed t → s ≡ t
one_stop tail placed opened opened a b = refl
one_stop tail placed opened (bad k) a b =
    absurd ((has_one_reading tail).not_both k [] [] tail (record { front = []; spelled = refl; whole = refl; is_part = a }) (refuses_here tail k b))
one_stop tail placed opened (unplaced k) a b = absurd (no_tail tail (handed b.next) (part_tail tail a) b.goes_on)
one_stop tail placed opened (unlinked k) a b = absurd (no_tail tail (handed b.next) (part_tail tail a) b.goes_on)
one_stop tail placed (bad j) opened a b =
    absurd ((has_one_reading tail).not_both j [] [] tail (record { front = []; spelled = refl; whole = refl; is_part = b }) (refuses_here tail j a))
one_stop tail placed (bad j) (bad k) a b = ap bad ((has_one_reading tail).one_fault j k [] [] (refuses_here tail j a) (refuses_here tail k b)).0
one_stop tail placed (bad j) (unplaced k) a b = absurd (no_tail tail (handed b.next) (bad_is_tail tail j a) b.goes_on)
one_stop tail placed (bad j) (unlinked k) a b = absurd (no_tail tail (handed b.next) (bad_is_tail tail j a) b.goes_on)
one_stop tail placed (unplaced j) opened a b = absurd (no_tail tail (handed a.next) (part_tail tail b) a.goes_on)
one_stop tail placed (unplaced j) (bad k) a b = absurd (no_tail tail (handed a.next) (bad_is_tail tail k b) a.goes_on)
one_stop tail placed (unplaced j) (unplaced k) a b =
    let e = same_row tail a.next b.next a.goes_on b.goes_on in
    ap unplaced (first-one Wire _ j k (subst (λ r. IsRowFault Wire r j) e a.is_fault) b.is_fault)
one_stop tail placed (unplaced j) (unlinked k) a b =
    let e = same_row tail a.next b.next a.goes_on b.goes_on in
    absurd (no_tree b.next b.tree j b.is_tree (subst (λ r. IsRowFault Wire r j) e a.is_fault))
one_stop tail placed (unlinked j) opened a b = absurd (no_tail tail (handed a.next) (part_tail tail b) a.goes_on)
one_stop tail placed (unlinked j) (bad k) a b = absurd (no_tail tail (handed a.next) (bad_is_tail tail k b) a.goes_on)
one_stop tail placed (unlinked j) (unplaced k) a b =
    let e = same_row tail b.next a.next b.goes_on a.goes_on in
    absurd (no_tree a.next a.tree k a.is_tree (subst (λ r. IsRowFault Wire r k) e b.is_fault))
one_stop tail placed (unlinked j) (unlinked k) a b =
    let e = same_row tail a.next b.next a.goes_on b.goes_on in
    let trees = tree-one Wire b.next a.tree b.tree (subst (λ r. IsTree Wire r a.tree) e a.is_tree) b.is_tree in
    ap unlinked (one_reason placed b.next.id b.tree.kind j k (subst (λ t. IsRefused placed b.next.id t.kind j) trees (subst (λ r. IsRefused placed r.id a.tree.kind j) e a.is_refused)) b.is_refused)

-- ---- none stops before another

no_more : (is : List Item) (p q : List PlacedRow) (s : Stop) (t : List ℕ) (i : Item) (more : List Item) → HaveRows is p → HaveRows (is ++ i ∷ more) q → StopsHere t p s → GoesOn t i → ⊥
no_more is p q opened t i more h k stops g = no_tail t i (part_tail t stops) g
no_more is p q (bad kind) t i more h k stops g = no_tail t i (bad_is_tail t kind stops) g
no_more is p q (unplaced kind) t i more h k stops g =
    let e = one_next t i (handed stops.next) g stops.goes_on in
    let a = among is stops.next more q (subst (λ x. ArePlaced (is ++ x ∷ more) q) e k.are_placed) in
    no_tree stops.next a.here.tree kind a.is_here.is_tree stops.is_fault
no_more is p q (unlinked kind) t i more h k stops g =
    let e = one_next t i (handed stops.next) g stops.goes_on in
    let a = among is stops.next more q (subst (λ x. ArePlaced (is ++ x ∷ more) q) e k.are_placed) in
    let rows = one_placed is p a.before h.are_placed a.placed in
    let tree = tree-one Wire stops.next stops.tree a.here.tree stops.is_tree a.is_here.is_tree in
    let refused = subst (λ rs. IsRefused rs a.here.id a.here.tree.kind kind) rows
    (subst (λ x. IsRefused p x a.here.tree.kind kind) (sym a.is_here.same_id) (subst (λ z. IsRefused p stops.next.id z.kind kind) tree stops.is_refused)) in
    linked_not_refused a.before a.here a.after kind (subst AreLinked a.split k.are_linked) refused

pub record AreSame (is js : List Item) (p q : List PlacedRow) (s t : Stop) : Type 0 where
  pub items : is ≡ js
  pub rows : p ≡ q
  pub stops : s ≡ t

pub one_reading : (text : List ℕ) (is js : List Item) (p q : List PlacedRow) (s t : Stop) → IsReading text is p s → IsReading text js q t → AreSame is js p q s t
one_reading text is js p q s t a b =
    elim (compare is js a.front b.front a.tail b.tail a.spelled b.spelled (sym a.split ∙ b.split)) [
      | same e tails ↦
          let rows = one_placed js p q (subst (λ x. ArePlaced x p) e a.have.are_placed) b.have.are_placed in
          record { items = e; rows = rows; stops = one_stop b.tail q s t (subst (λ x. StopsHere x q s) tails (subst (λ x. StopsHere a.tail x s) rows a.stops)) b.stops }
      | longer i more e g ↦ absurd (no_more is p q s a.tail i more a.have (subst (λ x. HaveRows x q) e b.have) a.stops g)
      | shorter i more e g ↦ absurd (no_more js q p t b.tail i more b.have (subst (λ x. HaveRows x p) e a.have) b.stops g)
    ]

-- ---- rows so far, and faults

pub so_far : (text : List ℕ) (p : List PlacedRow) (h : HasSoFar text p) → IsReading text h.items p opened
so_far text p h = record { front = h.splits.front; tail = h.rest; spelled = h.splits.spelled; split = h.splits.whole; have = h.have; stops = h.splits.is_part }

-- the fault of the row behind so many items
abbrev pub fault_at : ℕ → Stop → Option ClientFault
fault_at n opened = None
fault_at n (bad kind) = Some (fault.Feed (n + 1) kind)
fault_at n (unplaced kind) = Some (fault.Place (n + 1) kind)
fault_at n (unlinked kind) = Some (fault.Link (n + 1) kind)

pub record IsFaulty (text : List ℕ) (p : List PlacedRow) (f : ClientFault) : Type 0 where
  pub items : List Item
  pub stop : Stop
  pub reading : IsReading text items p stop
  pub tells : fault_at (length items) stop ≡ Some f

-- a next row goes on where the items before it end
record HasTail (text : List ℕ) (items : List Item) (next : Row) : Type 0 where
  front : List ℕ
  tail : List ℕ
  spelled : SpellAll front items
  split : text ≡ front ++ tail
  goes_on : GoesOn tail (handed next)

next_tail : (text : List ℕ) (items : List Item) (next : Row) → StartsWith text (items ++ handed next ∷ []) → HasTail text items next
next_tail text items next s =
    let parts = spell_split items (handed next ∷ []) s.front s.spelled in
    let last = parts.4 in
    record {
      front = parts.0;
      tail = parts.1 ++ s.rest;
      spelled = parts.3;
      split = s.whole ∙ (ap (λ xs. xs ++ s.rest) parts.2 ∙ append_assoc parts.0 parts.1 s.rest);
      goes_on = record {
        first = last.0;
        others = last.1 ++ s.rest;
        split = ap (λ xs. xs ++ s.rest) last.2 ∙ append_assoc last.0 last.1 s.rest;
        spells = last.3;
      };
    }

pub faulty : (text : List ℕ) (p : List PlacedRow) (f : ClientFault) → HasFault text p f → IsFaulty text p f
faulty text p (fault.Feed number kind) h =
    let r = h.refuses in
    record {
      items = h.items;
      stop = bad kind;
      reading = record { front = r.front; tail = r.bad ++ r.more; spelled = r.spelled; split = r.whole; have = h.have; stops = record { front = r.bad; more = r.more; split = refl; is_bad = r.is_bad } };
      tells = ap (λ n. Some (fault.Feed n kind)) (sym h.is_number);
    }
faulty text p (fault.Place number kind) h =
    let n = h.has_next in
    let t = next_tail text n.items h.next n.starts in
    record {
      items = n.items;
      stop = unplaced kind;
      reading = record { front = t.front; tail = t.tail; spelled = t.spelled; split = t.split; have = n.have; stops = record { next = h.next; goes_on = t.goes_on; is_fault = h.is_fault } };
      tells = ap (λ m. Some (fault.Place m kind)) (sym n.is_number);
    }
faulty text p (fault.Link number kind) h =
    let n = h.has_next in
    let t = next_tail text n.items h.next n.starts in
    record {
      items = n.items;
      stop = unlinked kind;
      reading = record { front = t.front; tail = t.tail; spelled = t.spelled; split = t.split; have = n.have; stops = record { next = h.next; goes_on = t.goes_on; tree = h.tree; is_tree = h.is_tree; is_refused = h.is_refused } };
      tells = ap (λ m. Some (fault.Link m kind)) (sym n.is_number);
    }
faulty text p fault.NoRoot h = absurd h
faulty text p (fault.Undefined id) h = absurd h
faulty text p fault.Memory h = absurd h

pub client_one_reading : (text : List ℕ) → HasOneReading text
client_one_reading text =
    record {
      rows = λ p q a b. (one_reading text a.items b.items p q opened opened (so_far text p a) (so_far text q b)).rows;
      not_both = λ p q f a b.
          let x = faulty text q f b in
          let s = (one_reading text a.items x.items p q opened x.stop (so_far text p a) x.reading).stops in
          let e : None ≡ Some f = ap (fault_at (length x.items)) s ∙ x.tells in
          cc;
      one_fault = λ p q f g a b.
          let x = faulty text p f a in
          let y = faulty text q g b in
          let e = one_reading text x.items y.items p q x.stop y.stop x.reading y.reading in
          let some : Some f ≡ Some g = sym x.tells ∙ (ap (λ is. fault_at (length is) x.stop) e.items ∙ (ap (fault_at (length y.items)) e.stops ∙ y.tells)) in
          (e.rows, (cc));
    }
