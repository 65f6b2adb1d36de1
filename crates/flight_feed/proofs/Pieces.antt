-- Piece after piece.
use Rattle.std.proofs.Common.{◌≡◌, ◌≢◌, ℕ, ◌+◌, ◌<◌, List, [], ◌∷◌, ◌++◌, length, take, drop, get_or, refl, sym, ◌∙◌, ap, append_assoc, append-nil, arith}
use Rattle.std.proofs.lemmas.List.{take_more, take-append-drop}
use Rattle.std.proofs.lemmas.Grind.{flat_map-append}
use Rattle.std.specs.Prelude.{Vec, map}
use Rattle.std.specs.declared.alloc.Global.{Global}
use Rattle.flight_row.specs.Rows.{Item, handed, hint, SpellAll, rows_of, HasRows}
use Rattle.flight_feed.specs.declared.arrived.Arrived.{Arrived}
use Rattle.flight_feed.specs.declared.fault.FeedKind.{FeedKind}
use Rattle.flight_feed.specs.declared.fault.FeedKind.TheVariants.{Cut}
use Rattle.flight_feed.specs.Parts.{IsPart}
use Rattle.flight_feed.specs.Stream.{Advances, IsRefused, HasFault, numbered, text_of}
use Rattle.flight_feed.proofs.Runs.{advances_more}
use Rattle.flight_feed.proofs.Ends.{refused_fails, has_one_end}

pub text_more : (pieces : List (Vec ℕ Global)) (i : ℕ) (p : Vec ℕ Global) → i < length pieces → p ≡ get_or pieces i p → text_of (take (i + 1) pieces) ≡ text_of (take i pieces) ++ p.items
text_more pieces i p below is =
    rw (take_more pieces i p below, flat_map-append, ← is, append-nil) refl

pub text_rest : (pieces : List (Vec ℕ Global)) (i : ℕ) → text_of pieces ≡ text_of (take i pieces) ++ text_of (drop i pieces)
text_rest pieces i = ap text_of (sym (take-append-drop i pieces)) ∙ flat_map-append (λ (piece : Vec ℕ Global). piece.items) (take i pieces) (drop i pieces)

-- the fault of the last piece is the fault of all of them, whatever comes behind
pub refused_all : (text piece more : List ℕ) (m number : ℕ) (rows rows' : List Arrived) (rest : List ℕ) (kind : FeedKind) → Advances text 1 [] rows rest m → IsRefused number kind (rest ++ piece) m rows rows' → HasFault number kind ((text ++ piece) ++ more)
refused_all text piece more m number rows rows' rest kind a r =
    let all = advances_more text piece 1 m number [] rows rows' rest (r.bad ++ r.more) a r.rows in
    record {
      items = all.items;
      fails =
          refused_fails kind ((text ++ piece) ++ more) all.items (record {
            front = all.front;
            bad = r.bad;
            more = r.more ++ more;
            spelled = all.spelled;
            whole = rw all.whole (simp append_assoc);
            is_bad = r.is_bad;
          });
      is_number = let count = all.counted in omega (arith, count);
    }

-- a row that has begun is cut where the text ends
pub cut_all : (text : List ℕ) (m : ℕ) (rows : List Arrived) (rest : List ℕ) → Advances text 1 [] rows rest m → IsPart rest → rest ≢ [] → HasFault m Cut text
cut_all text m rows rest a part some =
    record {
      items = a.items;
      fails = record { rest = rest; some = some; splits = record { front = a.front; spelled = a.spelled; whole = a.whole; is_part = part } };
      is_number = let count = a.counted in omega (arith, count);
    }

pub whole_all : (text : List ℕ) (m : ℕ) (rows : List Arrived) (rest : List ℕ) → Advances text 1 [] rows rest m → rest ≡ [] → (items : List Item) × SpellAll text items × (rows ≡ numbered 1 items)
whole_all text m rows rest a none =
    let same : text ≡ a.front = a.whole ∙ rw none (append-nil a.front) in
    (a.items, rw same a.spelled, a.added)

pub only_whole : (text : List ℕ) (rows : List Arrived) → (items : List Item) × SpellAll text items × (rows ≡ numbered 1 items) → (others : List Item) → SpellAll text others → rows ≡ numbered 1 others
only_whole text rows here others there = here.2 ∙ ap (numbered 1) ((has_one_end text).rows here.0 others here.1 there)

pub nothing_came : Advances [] 1 [] [] [] 1
nothing_came = record { items = []; front = []; added = refl; counted = refl; spelled = refl; whole = refl }

-- without their numbers they are the rows of the stream
map-numbered : (n : ℕ) (items : List Item) → map (λ (a : Arrived). a.row) (numbered n items) ≡ rows_of items
map-numbered n [] = refl
map-numbered n (handed r ∷ items) = ap (λ xs. r ∷ xs) (map-numbered (n + 1) items)
map-numbered n (hint ∷ items) = map-numbered (n + 1) items

pub has_rows : (text : List ℕ) (rows : List Arrived) → (items : List Item) × SpellAll text items × (rows ≡ numbered 1 items) → HasRows text (map (λ (a : Arrived). a.row) rows)
has_rows text rows here =
    record { items = here.0; spelled = here.1; is_rows = ap (map (λ (a : Arrived). a.row)) here.2 ∙ map-numbered 1 here.0 }
