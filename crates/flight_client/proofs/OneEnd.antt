-- A text that ends has one reading, and good rows mean one graph.
use Rattle.std.proofs.Common.{◌≡◌, ◌≢◌, ℕ, ◌+◌, ◌⊎◌, inl, inr, List, [], length, refl, sym, ◌∙◌, ap, subst, arith, Some}
use Rattle.flight_row.specs.Rows.{Item}
use Rattle.flight_feed.specs.declared.fault.FeedKind.{FeedKind}
use Rattle.flight_feed.specs.declared.fault.FeedKind.TheVariants.{Cut}
use Rattle.flight_feed.specs.Stream.{Refuses, IsCut}
use Rattle.flight_feed.proofs.Ends.{splits_whole, fails_cases}
use Rattle.flight_feed.proofs.Readings.{has_one_reading}
use Rattle.flight_value.specs.Graph.{IsValid}
use Rattle.flight_value.specs.Store.{DrawOneGraph, of_graph}
use Rattle.flight_value.specs.declared.graph.Graph.{Graph}
use Rattle.flight_graph.specs.Canon.{canon_of}
use Rattle.flight_graph.proofs.Drawn.{drawn_one_canon}
use Rattle.flight_meaning.specs.declared.place.PlacedRow.{PlacedRow}
use Rattle.flight_meaning.specs.Linked as linked
use Rattle.flight_meaning.specs.Meaning.{meaning}
use Rattle.flight_meaning.specs.Good.{IsGood, IsLeastUndefined}
use Rattle.flight_meaning.proofs.OneMeaning.{leads_once, stands_once}
use Rattle.flight_client.specs.declared.fault.ClientFault.{ClientFault}
use Rattle.flight_client.specs.declared.fault.ClientFault.TheVariants as fault
use Rattle.flight_client.specs.Rows.{HaveRows, HasSoFar, IsWhole}
use Rattle.flight_client.specs.Faults.{HasFault, EndsWithFault}
use Rattle.flight_client.specs.Meant.{IsMeant}
use Rattle.flight_client.specs.OneReading.{HasOneEnd}
use Rattle.flight_client.proofs.OneReading.{client_one_reading}

-- ---- how a text ends with a fault

record HasCut (text : List ℕ) (p : List PlacedRow) (f : ClientFault) : Type 0 where
  so_far : HasSoFar text p
  some : so_far.rest ≢ []
  tells : f ≡ fault.Feed (length so_far.items + 1) Cut

abbrev IsLacking : List PlacedRow → ClientFault → Type 0
IsLacking p fault.NoRoot = linked.rows_of 0 p ≡ []
IsLacking p (fault.Undefined id) = (linked.rows_of 0 p ≢ []) × IsLeastUndefined p (Some id)
IsLacking p f = ⊥

data EndsSo (text : List ℕ) (p : List PlacedRow) (f : ClientFault) : Type 0 where
  in_row : HasFault text p f → EndsSo text p f
  cut : HasCut text p f → EndsSo text p f
  lacking : IsWhole text p → IsLacking p f → EndsSo text p f

ends_feed : (text : List ℕ) (p : List PlacedRow) (number : ℕ) (kind : FeedKind) (items : List Item) → HaveRows items p → number ≡ length items + 1 → (IsCut text items × (kind ≡ Cut)) ⊎ Refuses kind text items → EndsSo text p (fault.Feed number kind)
ends_feed text p number kind items have n (inl c) =
    cut (record {
      so_far = record { items = items; rest = c.0.rest; splits = c.0.splits; have = have };
      some = c.0.some;
      tells = ap (λ m. fault.Feed m kind) n ∙ ap (λ k. fault.Feed (length items + 1) k) c.1;
    })
ends_feed text p number kind items have n (inr r) = in_row (record { items = items; refuses = r; have = have; is_number = n })

ends_so : (text : List ℕ) (f : ClientFault) → EndsWithFault text f → (p : List PlacedRow) × EndsSo text p f
ends_so text (fault.Feed number kind) h = (h.0, ends_feed text h.0 number kind h.1.items h.1.have h.1.is_number (fails_cases kind text h.1.items h.1.fails))
ends_so text (fault.Place number kind) h = (h.0, in_row h.1)
ends_so text (fault.Link number kind) h = (h.0, in_row h.1)
ends_so text fault.NoRoot h = (h.0, lacking h.1 h.2)
ends_so text (fault.Undefined id) h = (h.0, lacking h.1 (h.2, h.3))
ends_so text fault.Memory h = absurd h

-- ---- one end

whole_so_far : (text : List ℕ) (p : List PlacedRow) → IsWhole text p → HasSoFar text p
whole_so_far text p w = record { items = w.items; rest = []; splits = splits_whole text w.items w.spelled; have = w.have }

one_whole : (text : List ℕ) (p q : List PlacedRow) → IsWhole text p → IsWhole text q → p ≡ q
one_whole text p q a b = (client_one_reading text).rows p q (whole_so_far text p a) (whole_so_far text q b)

cut_not_whole : (text : List ℕ) (p q : List PlacedRow) (f : ClientFault) → HasCut text p f → IsWhole text q → ⊥
cut_not_whole text p q f c w =
    c.some ((has_one_reading text).rows c.so_far.items w.items c.so_far.rest [] c.so_far.splits (splits_whole text w.items w.spelled)).1

least_once : (rows : List PlacedRow) (a b : ℕ) → IsLeastUndefined rows (Some a) → IsLeastUndefined rows (Some b) → a ≡ b
least_once rows a b h k = let x = h.1 b k.0 in let y = k.1 a h.0 in omega arith

one_lack : (p : List PlacedRow) (f g : ClientFault) → IsLacking p f → IsLacking p g → f ≡ g
one_lack p fault.NoRoot fault.NoRoot a b = refl
one_lack p fault.NoRoot (fault.Undefined j) a b = absurd (b.0 a)
one_lack p (fault.Undefined i) fault.NoRoot a b = absurd (a.0 b)
one_lack p (fault.Undefined i) (fault.Undefined j) a b = ap fault.Undefined (least_once p i j a.1 b.1)
one_lack p f (fault.Feed n k) a b = absurd b
one_lack p f (fault.Place n k) a b = absurd b
one_lack p f (fault.Link n k) a b = absurd b
one_lack p f fault.Memory a b = absurd b
one_lack p (fault.Feed n k) fault.NoRoot a b = absurd a
one_lack p (fault.Place n k) fault.NoRoot a b = absurd a
one_lack p (fault.Link n k) fault.NoRoot a b = absurd a
one_lack p fault.Memory fault.NoRoot a b = absurd a
one_lack p (fault.Feed n k) (fault.Undefined j) a b = absurd a
one_lack p (fault.Place n k) (fault.Undefined j) a b = absurd a
one_lack p (fault.Link n k) (fault.Undefined j) a b = absurd a
one_lack p fault.Memory (fault.Undefined j) a b = absurd a

one_end_fault : (text : List ℕ) (p q : List PlacedRow) (f g : ClientFault) → EndsSo text p f → EndsSo text q g → f ≡ g
one_end_fault text p q f g (in_row a) (in_row b) = ((client_one_reading text).one_fault p q f g a b).1
one_end_fault text p q f g (in_row a) (cut b) = absurd ((client_one_reading text).not_both q p f b.so_far a)
one_end_fault text p q f g (in_row a) (lacking w l) = absurd ((client_one_reading text).not_both q p f (whole_so_far text q w) a)
one_end_fault text p q f g (cut a) (in_row b) = absurd ((client_one_reading text).not_both p q g a.so_far b)
one_end_fault text p q f g (cut a) (cut b) =
    let items = ((has_one_reading text).rows a.so_far.items b.so_far.items a.so_far.rest b.so_far.rest a.so_far.splits b.so_far.splits).0 in
    a.tells ∙ (ap (λ is. fault.Feed (length is + 1) Cut) items ∙ sym b.tells)
one_end_fault text p q f g (cut a) (lacking w l) = absurd (cut_not_whole text p q f a w)
one_end_fault text p q f g (lacking w l) (in_row b) = absurd ((client_one_reading text).not_both p q g (whole_so_far text p w) b)
one_end_fault text p q f g (lacking w l) (cut b) = absurd (cut_not_whole text q p g b w)
one_end_fault text p q f g (lacking w l) (lacking x m) = one_lack q f g (subst (λ r. IsLacking r f) (one_whole text p q w x) l) m

good_not_lacking : (p : List PlacedRow) (f : ClientFault) → IsGood p → IsLacking p f → ⊥
good_not_lacking p (fault.Feed n k) g l = l
good_not_lacking p (fault.Place n k) g l = l
good_not_lacking p (fault.Link n k) g l = l
good_not_lacking p fault.NoRoot g l = g.root l
good_not_lacking p (fault.Undefined id) g l = let u = l.1.0 in u.3 (g.defined u.0 u.1)
good_not_lacking p fault.Memory g l = l

good_not_faulty : (text : List ℕ) (p q : List PlacedRow) (f : ClientFault) → IsWhole text p → IsGood p → EndsSo text q f → ⊥
good_not_faulty text p q f w g (in_row b) = (client_one_reading text).not_both p q f (whole_so_far text p w) b
good_not_faulty text p q f w g (cut b) = cut_not_whole text q p f b w
good_not_faulty text p q f w g (lacking x l) = good_not_lacking p f g (subst (λ r. IsLacking r f) (one_whole text q p x w) l)

one_graph : (text : List ℕ) (g h : Graph) → IsValid g → IsValid h → IsMeant text g → IsMeant text h → canon_of g ≡ canon_of h
one_graph text g h valid valid' a b =
    let rows = one_whole text a.placed b.placed a.whole b.whole in
    drawn_one_canon (meaning b.placed) (record { leads_once = leads_once b.placed; stands_once = stands_once b.placed }) g h valid valid'
    (subst (λ r. DrawOneGraph (of_graph g) (meaning r)) rows a.drawn) b.drawn

pub client_one_end : (text : List ℕ) → HasOneEnd text
client_one_end text =
    record {
      rows = one_whole text;
      not_both = λ p f w g e. let s = ends_so text f e in good_not_faulty text p s.0 f w g s.1;
      one_fault = λ f g a b. let x = ends_so text f a in let y = ends_so text g b in one_end_fault text x.0 y.0 f g x.1 y.1;
      one_graph = one_graph text;
    }
