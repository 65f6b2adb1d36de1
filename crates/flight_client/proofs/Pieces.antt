-- What a piece brings to a client.
use Rattle.std.proofs.Common.{◌≡◌, ℕ, All, List, [], ◌∷◌, ◌++◌, refl, sym, ◌∙◌, ap, subst, arith, append_assoc, length-append, Some, false}
use Rattle.std.specs.Prelude.{Result, Ok, Err, OnOk, IfErr}
use Rattle.std.specs.List.{AllZip}
use Rattle.std.proofs.lemmas.List.Elements.{All-nil}
use Rattle.flight_row.specs.declared.row.Row.{Row}
use Rattle.flight_row.specs.Rows.{Item, handed, rows_of, SpellAll}
use Rattle.flight_feed.specs.declared.arrived.Arrived.{Arrived}
use Rattle.flight_feed.specs.declared.fault.FeedKind.{FeedKind}
use Rattle.flight_feed.specs.Fed.{Fed}
use Rattle.flight_feed.specs.Parts.{IsPart}
use Rattle.flight_feed.specs.Stream.{Advances, IsRefused, IsLeft, numbered}
use Rattle.flight_feed.proofs.Parts.{no_part}
use Rattle.flight_feed.proofs.Runs.{SpellAll-append}
use Rattle.flight_meaning.specs.declared.place.PlacedRow.{PlacedRow}
use Rattle.flight_meaning.specs.Linked.{absent}
use Rattle.flight_link.specs.Adding.{is_of_stream}
use Rattle.flight_client.specs.declared.fault.ClientFault.{ClientFault}
use Rattle.flight_client.specs.declared.fault.ClientFault.TheVariants as fault
use Rattle.flight_client.specs.Rows.{IsPlacedRow, ArePlaced, HaveRows, StartsWith}
use Rattle.flight_client.specs.Faults.{HasNext, HasFeedFault}
use Rattle.flight_client.specs.Held.{IsOn, IsShort, Stands, fault_in}
use Rattle.flight_client.specs.Adding.{IsReadable, IsFailure, Adds, StopsAt}
use Rattle.flight_client.proofs.Adding.{AllZip-append}
use Rattle.flight_client.proofs.Items.{rows_of-append, placed_numbered, all_readable, spell_split, numbered_split}

pub came_readable : (bytes : List ℕ) (n : ℕ) (arrived : List Arrived) (rest : List ℕ) (m : ℕ) → Advances bytes n [] arrived rest m → All IsReadable arrived
came_readable bytes n arrived rest m a = subst (All IsReadable) (sym a.added) (all_readable n a.front a.items a.spelled)

pub have_more : (n : ℕ) (items more : List Item) (arrived : List Arrived) (old new : List PlacedRow) → HaveRows items old → arrived ≡ numbered n more → Adds arrived old new → HaveRows (items ++ more) new
have_more n items more arrived old new h e a =
    let of_more : AllZip (λ (x : Arrived) (p : PlacedRow). IsPlacedRow x.row p) (numbered n more) a.more = subst (λ xs. AllZip (λ (x : Arrived) (p : PlacedRow). IsPlacedRow x.row p) xs a.more) e a.are_placed in
    let both = AllZip-append IsPlacedRow (rows_of items) (rows_of more) old a.more h.are_placed (placed_numbered n more a.more of_more) in
    record {
      are_placed = subst (λ p. ArePlaced (items ++ more) p) (sym a.added) (subst (λ rs. AllZip IsPlacedRow rs (old ++ a.more)) (sym (rows_of-append items more)) both);
      are_linked = a.are_linked h.are_linked;
    }

-- what was left goes on by a piece
whole_more : (text piece front bytes more rest : List ℕ) → text ≡ front ++ bytes → bytes ++ piece ≡ more ++ rest → text ++ piece ≡ (front ++ more) ++ rest
whole_more text piece front bytes more rest e k =
    ap (λ xs. xs ++ piece) e ∙ (append_assoc front bytes piece ∙ (ap (λ xs. front ++ xs) k ∙ sym (append_assoc front more rest)))

pub on_more : (text piece : List ℕ) (feed feed' : Fed) (old new : List PlacedRow) (arrived : List Arrived) → IsOn text feed old → Advances (feed.bytes ++ piece) feed.number [] arrived feed'.bytes feed'.number → IsPart feed'.bytes → Adds arrived old new → IsOn (text ++ piece) feed' new
on_more text piece feed feed' old new arrived on a part adds =
    record {
      items = on.items ++ a.items;
      splits = record {
        front = on.splits.front ++ a.front;
        spelled = SpellAll-append on.splits.front a.front on.items a.items on.splits.spelled a.spelled;
        whole = whole_more text piece on.splits.front feed.bytes a.front feed'.bytes on.splits.whole a.whole;
        is_part = part;
      };
      have = have_more feed.number on.items a.items arrived old new on.have a.added adds;
      is_number = let here = on.is_number in let there = a.counted in simp length-append (omega (arith, here, there));
    }

pub refused_more : (text piece : List ℕ) (feed : Fed) (old new : List PlacedRow) (arrived : List Arrived) (number : ℕ) (kind : FeedKind) → IsOn text feed old → IsRefused number kind (feed.bytes ++ piece) feed.number [] arrived → Adds arrived old new → HasFeedFault (text ++ piece) new number kind
refused_more text piece feed old new arrived number kind on r adds =
    let a = r.rows in
    record {
      items = on.items ++ a.items;
      refuses = record {
        front = on.splits.front ++ a.front;
        bad = r.bad;
        more = r.more;
        spelled = SpellAll-append on.splits.front a.front on.items a.items on.splits.spelled a.spelled;
        whole = whole_more text piece on.splits.front feed.bytes a.front (r.bad ++ r.more) on.splits.whole a.whole;
        is_bad = r.is_bad;
      };
      have = have_more feed.number on.items a.items arrived old new on.have a.added adds;
      is_number = let here = on.is_number in let there = a.counted in simp length-append (omega (arith, here, there));
    }

pub left_more : (text piece : List ℕ) (feed : Fed) (old new : List PlacedRow) (arrived : List Arrived) → IsOn text feed old → IsLeft (feed.bytes ++ piece) feed.number [] arrived → Adds arrived old new → IsShort (text ++ piece) new
left_more text piece feed old new arrived on l adds =
    let a = l.rows in
    record {
      items = on.items ++ a.items;
      starts = record {
        front = on.splits.front ++ a.front;
        rest = l.more;
        spelled = SpellAll-append on.splits.front a.front on.items a.items on.splits.spelled a.spelled;
        whole = whole_more text piece on.splits.front feed.bytes a.front l.more on.splits.whole a.whole;
      };
      have = have_more feed.number on.items a.items arrived old new on.have a.added adds;
    }

-- ---- a row that fails

-- a front of the items
starts_front : (text : List ℕ) (items is js : List Item) → items ≡ is ++ js → StartsWith text items → StartsWith text is
starts_front text items is js e s =
    let parts = spell_split is js s.front (subst (λ xs. SpellAll s.front xs) e s.spelled) in
    record {
      front = parts.0;
      rest = parts.1 ++ s.rest;
      spelled = parts.3;
      whole = s.whole ∙ (ap (λ xs. xs ++ s.rest) parts.2 ∙ append_assoc parts.0 parts.1 s.rest);
    }

-- behind these rows the text has the next one
pub record HasFailed (text : List ℕ) (placed : List PlacedRow) (a : Arrived) : Type 0 where
  pub next : HasNext text placed a.number a.row
  pub short : IsShort text placed

pub failed_more : (text piece : List ℕ) (feed : Fed) (old new : List PlacedRow) (arrived : List Arrived) (rest : List ℕ) (m : ℕ) (f : ClientFault) → IsOn text feed old → Advances (feed.bytes ++ piece) feed.number [] arrived rest m → (s : StopsAt arrived old new f) → HasFailed (text ++ piece) new s.failed
failed_more text piece feed old new arrived rest m f on a s =
    let at = numbered_split feed.number a.items s.done s.failed s.rest (sym a.added ∙ s.split) in
    let all : StartsWith (text ++ piece) (on.items ++ a.items) = record {
      front = on.splits.front ++ a.front;
      rest = rest;
      spelled = SpellAll-append on.splits.front a.front on.items a.items on.splits.spelled a.spelled;
      whole = whole_more text piece on.splits.front feed.bytes a.front rest on.splits.whole a.whole;
    } in
    let have = have_more feed.number on.items at.before s.done old new on.have (sym at.is_done) s.adds in
    let before : on.items ++ a.items ≡ (on.items ++ at.before) ++ handed s.failed.row ∷ at.after =
    ap (λ xs. on.items ++ xs) at.split ∙ sym (append_assoc on.items at.before (handed s.failed.row ∷ at.after)) in
    let one : on.items ++ a.items ≡ ((on.items ++ at.before) ++ handed s.failed.row ∷ []) ++ at.after =
    before ∙ sym (append_assoc (on.items ++ at.before) (handed s.failed.row ∷ []) at.after) in
    record {
      next = record {
        items = on.items ++ at.before;
        starts = starts_front (text ++ piece) (on.items ++ a.items) ((on.items ++ at.before) ++ handed s.failed.row ∷ []) at.after one all;
        have = have;
        is_number = let here = on.is_number in let there = at.is_number in simp length-append (omega (arith, here, there));
      };
      short = record {
        items = on.items ++ at.before;
        starts = starts_front (text ++ piece) (on.items ++ a.items) (on.items ++ at.before) (handed s.failed.row ∷ at.after) before all;
        have = have;
      };
    }

failure_stands : (text : List ℕ) (placed : List PlacedRow) (a : Arrived) (feed : Fed) (f : ClientFault) → HasFailed text placed a → IsFailure placed a f → Stands text (Some f) feed placed
failure_stands text placed a feed (fault.Feed n kind) h i = absurd i
failure_stands text placed a feed (fault.Place n kind) h i =
    record { next = a.row; has_next = subst (λ k. HasNext text placed k a.row) (sym i.0) h.next; is_fault = i.1 }
failure_stands text placed a feed (fault.Link n kind) h i =
    record { next = a.row; has_next = subst (λ k. HasNext text placed k a.row) (sym i.0) h.next; tree = i.1.0; is_tree = i.1.1; is_refused = i.1.2 }
failure_stands text placed a feed fault.NoRoot h i = absurd i
failure_stands text placed a feed (fault.Undefined id) h i = absurd i
failure_stands text placed a feed fault.Memory h i = h.short

pub stops_more : (text piece : List ℕ) (feed feed' : Fed) (old new : List PlacedRow) (arrived : List Arrived) (rest : List ℕ) (m : ℕ) (f : ClientFault) → IsOn text feed old → Advances (feed.bytes ++ piece) feed.number [] arrived rest m → StopsAt arrived old new f → Stands (text ++ piece) (Some f) feed' new
stops_more text piece feed feed' old new arrived rest m f on a s =
    failure_stands (text ++ piece) new s.failed feed' f (failed_more text piece feed old new arrived rest m f on a s) s.is_failure

-- the rows of a piece without a fault of its own
pub piece_stands : (r : Result (Unit {0}) ClientFault) (text piece : List ℕ) (feed feed' : Fed) (old new : List PlacedRow) (arrived : List Arrived) → IsOn text feed old → Advances (feed.bytes ++ piece) feed.number [] arrived feed'.bytes feed'.number → IsPart feed'.bytes → OnOk r (Adds arrived old new) → IfErr r (StopsAt arrived old new) → Stands (text ++ piece) (fault_in r) feed' new
piece_stands (Ok x) text piece feed feed' old new arrived on a part ok stops = on_more text piece feed feed' old new arrived on a part ok
piece_stands (Err f) text piece feed feed' old new arrived on a part ok stops = stops_more text piece feed feed' old new arrived feed'.bytes feed'.number f on a stops

-- ---- a fault stays, whatever follows

starts_more : (text piece : List ℕ) (items : List Item) → StartsWith text items → StartsWith (text ++ piece) items
starts_more text piece items s =
    record {
      front = s.front;
      rest = s.rest ++ piece;
      spelled = s.spelled;
      whole = ap (λ xs. xs ++ piece) s.whole ∙ append_assoc s.front s.rest piece;
    }

next_more : (text piece : List ℕ) (placed : List PlacedRow) (number : ℕ) (r : Row) → HasNext text placed number r → HasNext (text ++ piece) placed number r
next_more text piece placed number r n =
    record {
      items = n.items;
      starts = starts_more text piece (n.items ++ handed r ∷ []) n.starts;
      have = n.have;
      is_number = n.is_number;
    }

pub fault_more : (text piece : List ℕ) (feed : Fed) (placed : List PlacedRow) (f : ClientFault) → Stands text (Some f) feed placed → Stands (text ++ piece) (Some f) feed placed
fault_more text piece feed placed (fault.Feed number kind) h =
    record {
      items = h.items;
      refuses = record {
        front = h.refuses.front;
        bad = h.refuses.bad;
        more = h.refuses.more ++ piece;
        spelled = h.refuses.spelled;
        whole = rw h.refuses.whole (simp append_assoc);
        is_bad = h.refuses.is_bad;
      };
      have = h.have;
      is_number = h.is_number;
    }
fault_more text piece feed placed (fault.Place number kind) h =
    record { next = h.next; has_next = next_more text piece placed number h.next h.has_next; is_fault = h.is_fault }
fault_more text piece feed placed (fault.Link number kind) h =
    record { next = h.next; has_next = next_more text piece placed number h.next h.has_next; tree = h.tree; is_tree = h.is_tree; is_refused = h.is_refused }
fault_more text piece feed placed fault.NoRoot h = absurd h
fault_more text piece feed placed (fault.Undefined id) h = absurd h
fault_more text piece feed placed fault.Memory h = record { items = h.items; starts = starts_more text piece h.items h.starts; have = h.have }

-- ---- before the first byte

pub nothing_taken : (feed : Fed) (placed : List PlacedRow) → feed.bytes ≡ [] → feed.number ≡ 1 → placed ≡ [] → IsOn [] feed placed
nothing_taken feed placed e n p =
    record {
      items = [];
      splits = record { front = []; spelled = refl; whole = sym e; is_part = subst IsPart (sym e) no_part };
      have = subst (HaveRows []) (sym p) (record { are_placed = tt; are_linked = record { follow_on = λ id. (absent, refl); of_no_stream = All-nil (λ r. is_of_stream r.tree.kind ≡ false) } });
      is_number = n;
    }
