-- Walks on from places and from nodes.
use Rattle.std.proofs.Common.{◌≡◌, ℕ, suc, ◌+◌, ◌-◌, ◌<◌, ◌≤◌, true, false, List, [], ◌∷◌, ◌++◌, length, drop, Some, slice_get, refl, sym, ◌∙◌, ap, subst, arith, inl, inr, ◌⊎◌, length-append, length-drop, append_assoc, take}
use Rattle.std.proofs.lemmas.List.{drop_at, drop-drop, take-append-drop}
use Rattle.std.proofs.lemmas.Bool.{false≢true}
use Rattle.std.proofs.lemmas.Option.{same_Some, slice_get_within}
use Rattle.flight_meaning.specs.declared.place.PlacedRow.{PlacedRow}
use Rattle.flight_meaning.specs.Resolve.{Path, Stand, here, nowhere, Turn, on, ends, turn}
use Rattle.flight_link.specs.declared.found.Spot.{Spot}
use Rattle.flight_link.specs.declared.node.Start.{Start}
use Rattle.flight_link.specs.declared.node.Start.TheVariants.{Place as AtPlace}
use Rattle.flight_link.specs.declared.node.State.{State}
use Rattle.flight_link.specs.declared.node.State.TheVariants.{Absent, Ended, Lost, Behind}
use Rattle.flight_link.specs.declared.table.Table.{Table}
use Rattle.flight_link.specs.declared.table.Step.TheVariants.{Stops, Leaves, To, Meets}
use Rattle.flight_link.specs.Nodes.{IsPlain, spot_of, IsTable, IsStop, IsStep, IsNodeAt, Come, IsThere, Reaches, with_path, last_names, stand, Gets, IsSound, Descends, Advances, HasNode, AreStates, TakesStep, IsQuiet, is_done, is_ended, steps_left}
use Rattle.flight_link.proofs.Turns.{come_here, come_by_turn, reaches_from, reaches_come, reaches_lost, reaches_ended}
use Rattle.flight_link.proofs.PlainRows.{place_there}
use Rattle.flight_link.proofs.Stepping.{stop_ends}

-- ---- names at the end of others

-- these names are the last of those
pub record IsEndOf (rest names : Path) : Type 0 where
  pub front : Path
  pub whole : names ≡ front ++ rest

pub end_itself : (names : Path) → IsEndOf names names
end_itself names = record { front = []; whole = refl }

pub end_less : (name : List ℕ) (rest names : Path) → IsEndOf (name ∷ rest) names → IsEndOf rest names
end_less name rest names e = record { front = e.front ++ name ∷ []; whole = e.whole ∙ sym (append_assoc e.front (name ∷ []) rest) }

pub end_of_end : (last rest names : Path) → IsEndOf last rest → IsEndOf rest names → IsEndOf last names
end_of_end last rest names e f = record { front = f.front ++ e.front; whole = f.whole ∙ (ap (λ x. f.front ++ x) e.whole ∙ sym (append_assoc f.front e.front last)) }

pub end_few : (rest names : Path) → IsEndOf rest names → length rest ≤ length names
end_few rest names e =
    let l : length names ≡ length e.front + length rest = ap length e.whole ∙ length-append e.front rest in
    omega (arith, l)

pub end_last : (rest names : Path) → IsEndOf rest names → last_names (length rest) names ≡ rest
end_last rest names e =
    let l : length names ≡ length e.front + length rest = ap length e.whole ∙ length-append e.front rest in
    let k : length names - length rest ≡ length e.front = omega (arith, l) in
    ap (λ n. drop n names) k ∙ (ap (drop (length e.front)) e.whole ∙ drop_at e.front rest (length e.front) refl)

-- ---- on from a place

pub reaches_next : (rows : List PlacedRow) (s u : Stand) → Reaches rows s (on u) → IsThere rows u → Reaches rows s (turn rows u)
reaches_next rows s u r there = record { by = u; come = reaches_come rows s u r; there = there; is_turn = refl }

pub reaches_same : (rows : List PlacedRow) (s : Stand) (last next : Turn) → last ≡ next → Reaches rows s last → Reaches rows s next
reaches_same rows s last next e r = subst (Reaches rows s) e r

pub stop_there : (rows : List PlacedRow) (s : Spot) (path : Path) → IsPlain rows → IsStop rows s → IsThere rows (here (spot_of rows s) path)
stop_there rows s path plain stop = (stop.0, place_there rows s stop.0 plain stop.1)

-- what is so while names are taken one after another
pub record IsOnWay (t : Table) (spot : Spot) (names : Path) (at : Spot) (rest : Path) : Type 0 where
  pub stop : IsStop t.rows.items at
  pub is_end : IsEndOf rest names
  pub from : (s : Stand) → Reaches t.rows.items s (turn t.rows.items (here (spot_of t.rows.items spot) names)) → Reaches t.rows.items s (turn t.rows.items (here (spot_of t.rows.items at) rest))

pub way_begins : (t : Table) (spot : Spot) (names : Path) → IsStop t.rows.items spot → IsOnWay t spot names spot names
way_begins t spot names stop = record { stop = stop; is_end = end_itself names; from = λ s r. r }

pub way_goes : (t : Table) (spot : Spot) (names : Path) (at next : Spot) (name : List ℕ) (rest : Path) → IsTable t → IsOnWay t spot names at (name ∷ rest) → IsStep t.rows.items t.starts.items at name (To next) → IsOnWay t spot names next rest
way_goes t spot names at next name rest table way is = record {
  stop = is.0;
  is_end = end_less name rest names way.is_end;
  from = λ s r. reaches_next t.rows.items s (here (spot_of t.rows.items next) rest) (reaches_same t.rows.items s _ _ (is.1 rest) (way.from s r)) (stop_there t.rows.items next rest table.plain is.0);
}

pub way_ends : (t : Table) (spot : Spot) (names : Path) (at : Spot) → IsTable t → IsOnWay t spot names at [] → Descends t spot names (Ended at)
way_ends t spot names at table way = λ s r. (reaches_same t.rows.items s _ _ (stop_ends t.rows.items at table.plain way.stop) (way.from s r), way.stop)

pub way_stops : (t : Table) (spot : Spot) (names : Path) (at : Spot) (name : List ℕ) (rest : Path) → IsOnWay t spot names at (name ∷ rest) → IsStep t.rows.items t.starts.items at name Stops → Descends t spot names (Ended at)
way_stops t spot names at name rest way is = λ s r. (reaches_same t.rows.items s _ _ (is rest) (way.from s r), way.stop)

pub way_leaves : (t : Table) (spot : Spot) (names : Path) (at : Spot) (name : List ℕ) (rest : Path) → IsOnWay t spot names at (name ∷ rest) → IsStep t.rows.items t.starts.items at name Leaves → Descends t spot names Lost
way_leaves t spot names at name rest way is = λ s r. reaches_same t.rows.items s _ _ (is rest) (way.from s r)

pub way_meets : (t : Table) (spot : Spot) (names : Path) (at : Spot) (name : List ℕ) (rest : Path) (node : ℕ) → IsOnWay t spot names at (name ∷ rest) → IsStep t.rows.items t.starts.items at name (Meets node) → Descends t spot names (Behind node (length rest))
way_meets t spot names at name rest node way is = λ s r.
    let e = end_less name rest names way.is_end in
    record {
      other = AtPlace is.0;
      is_other = is.1;
      few = end_few rest names e;
      come = subst (λ x. Come t.rows.items s (here (spot_of t.rows.items is.0) x)) (sym (end_last rest names e)) (reaches_come t.rows.items s _ (reaches_same t.rows.items s _ _ (is.2 rest) (way.from s r)));
    }

pub way_fewer : (t : Table) (spot : Spot) (names : Path) (at : Spot) (name : List ℕ) (rest : Path) → IsOnWay t spot names at (name ∷ rest) → suc (length rest) ≤ length names
way_fewer t spot names at name rest way = end_few (name ∷ rest) names way.is_end

-- ---- on from behind a node

same_start : (starts : List Start) (n : ℕ) (x y : Start) → IsNodeAt starts n x → IsNodeAt starts n y → x ≡ y
same_start starts n x y e f = same_Some x y (sym e ∙ f)

-- turns that lead behind a node whose walk has ended go on from its end
pub through_end : (t : Table) (start : Start) (e : Spot) (rest : Path) (s : Stand) → IsSound t.rows.items t.starts.items start (Ended e) → Come t.rows.items s (with_path (stand t.rows.items start) rest) → Reaches t.rows.items s (turn t.rows.items (here (spot_of t.rows.items e) rest))
through_end t start e rest s sound come =
    let whole = reaches_from t.rows.items (stand t.rows.items start) sound.next _ (come_by_turn t.rows.items (stand t.rows.items start) sound.next sound.is_next) sound.gets.0 in
    reaches_from t.rows.items s _ _ come (reaches_ended t.rows.items (stand t.rows.items start) (spot_of t.rows.items e) rest whole)

pub through_lost : (t : Table) (start : Start) (rest : Path) (s : Stand) → IsSound t.rows.items t.starts.items start Lost → Come t.rows.items s (with_path (stand t.rows.items start) rest) → Reaches t.rows.items s (ends nowhere)
through_lost t start rest s sound come =
    let whole = reaches_from t.rows.items (stand t.rows.items start) sound.next _ (come_by_turn t.rows.items (stand t.rows.items start) sound.next sound.is_next) sound.gets in
    reaches_from t.rows.items s _ _ come (reaches_lost t.rows.items (stand t.rows.items start) rest whole)

-- what is so while walks are passed one after another
pub record IsBehind (t : Table) (node : ℕ) (names : Path) (behind : ℕ) (rest : Path) : Type 0 where
  pub has : HasNode t.starts.items behind
  pub is_end : IsEndOf rest names
  pub from : (start : Start) → IsNodeAt t.starts.items node start → (s : Stand) → Come t.rows.items s (with_path (stand t.rows.items start) names) → Come t.rows.items s (with_path (stand t.rows.items has.0) rest)
  pub fewer : ((rest ≡ names) × (behind ≡ node)) ⊎ (length rest < length names)

pub behind_begins : (t : Table) (node : ℕ) (names : Path) → HasNode t.starts.items node → IsBehind t node names node names
behind_begins t node names has = record {
  has = has;
  is_end = end_itself names;
  from = λ start is s come. subst (λ x. Come t.rows.items s (with_path (stand t.rows.items x) names)) (same_start t.starts.items node start has.0 is has.1) come;
  fewer = inl (refl, refl);
}

pub behind_within : (t : Table) (states : List State) (node : ℕ) (names : Path) (behind : ℕ) (rest : Path) → AreStates t states → IsBehind t node names behind rest → behind < length states
behind_within t states node names behind rest are b =
    let w = slice_get_within t.starts.items behind b.has.0 b.has.1 in
    omega (arith, w, are.one_each)

-- the state of a node is sound
pub sound_at : (t : Table) (states : List State) (n : ℕ) (start : Start) (state : State) → AreStates t states → IsNodeAt t.starts.items n start → slice_get states n ≡ Some state → IsSound t.rows.items t.starts.items start state
sound_at t states n start state are is e = are.sound n start state is e

-- where walks lead that come behind a node whose walk has ended
pub descent : (t : Table) (states : List State) (behind : ℕ) (start : Start) (rest : Path) (spot : Spot) (state : State) → AreStates t states → IsNodeAt t.starts.items behind start → slice_get states behind ≡ Some (Ended spot) → Descends t spot rest state → (s : Stand) → Come t.rows.items s (with_path (stand t.rows.items start) rest) → Gets t.rows.items t.starts.items rest s state
descent t states behind start rest spot state are is e leads = λ s come. leads s (through_end t start spot rest s (sound_at t states behind start (Ended spot) are is e) come)

pub gets_more : (rows : List PlacedRow) (starts : List Start) (rest names : Path) (s : Stand) (state : State) → IsEndOf rest names → Gets rows starts rest s state → Gets rows starts names s state
gets_more rows starts rest names s Absent is g = g
gets_more rows starts rest names s (Ended e) is g = g
gets_more rows starts rest names s Lost is g = g
gets_more rows starts rest names s (Behind node left) is g =
    let l : length names ≡ length is.front + length rest = ap length is.whole ∙ length-append is.front rest in
    let few : left ≤ length names = omega (arith, l, g.few) in
    let k : length names - left ≡ length is.front + (length rest - left) = omega (arith, l, g.few) in
    let e : last_names left names ≡ last_names left rest =
    ap (λ n. drop n names) k ∙ (ap (drop (length is.front + (length rest - left))) is.whole ∙ (sym (drop-drop (length rest - left) (length is.front) (is.front ++ rest)) ∙ ap (drop (length rest - left)) (drop_at is.front rest (length is.front) refl))) in
    record { other = g.other; is_other = g.is_other; few = few; come = subst (λ x. Come rows s (with_path (stand rows g.other) x)) (sym e) g.come }

-- the last names are the end of all
pub is_last : (left : ℕ) (rest : Path) → IsEndOf (last_names left rest) rest
is_last left rest = record { front = take (length rest - left) rest; whole = sym (take-append-drop (length rest - left) rest) }

pub last_length : (left : ℕ) (rest : Path) → left ≤ length rest → length (last_names left rest) ≡ left
last_length left rest few = length-drop (length rest - left) rest ∙ omega arith

pub behind_goes : (t : Table) (states : List State) (node : ℕ) (names : Path) (behind : ℕ) (rest : Path) (spot : Spot) (next left : ℕ) → AreStates t states → IsBehind t node names behind rest → slice_get states behind ≡ Some (Ended spot) → Descends t spot rest (Behind next left) → steps_left (Behind next left) ≤ length rest → IsBehind t node names next (last_names left rest)
behind_goes t states node names behind rest spot next left are b e leads fewer =
    let here_g = descent t states behind b.has.0 rest spot (Behind next left) are b.has.1 e leads (with_path (stand t.rows.items b.has.0) rest) (come_here t.rows.items (with_path (stand t.rows.items b.has.0) rest)) in
    let len : length (last_names left rest) ≡ left = last_length left rest here_g.few in
    let all = end_few rest names b.is_end in
    record {
      has = (here_g.other, here_g.is_other);
      is_end = end_of_end (last_names left rest) rest names (is_last left rest) b.is_end;
      from = λ start is s come.
          let g = descent t states behind b.has.0 rest spot (Behind next left) are b.has.1 e leads s (b.from start is s come) in
          subst (λ x. Come t.rows.items s (with_path (stand t.rows.items x) (last_names left rest))) (same_start t.starts.items next g.other here_g.other g.is_other here_g.is_other) g.come;
      fewer = inr (omega (arith, len, all, fewer));
    }

pub behind_ends : (t : Table) (states : List State) (node : ℕ) (names : Path) (behind : ℕ) (rest : Path) (spot : Spot) (state : State) → AreStates t states → IsBehind t node names behind rest → slice_get states behind ≡ Some (Ended spot) → Descends t spot rest state → Advances t node names state
behind_ends t states node names behind rest spot state are b e leads = λ start is s come.
    gets_more t.rows.items t.starts.items rest names s state b.is_end (descent t states behind b.has.0 rest spot state are b.has.1 e leads s (b.from start is s come))

-- no walk comes behind a node that has no row, from a place
pub behind_absent : (t : Table) (states : List State) (node : ℕ) (names : Path) (behind : ℕ) (rest : Path) (spot : Spot) → AreStates t states → IsBehind t node names behind rest → slice_get states behind ≡ Some (Ended spot) → Descends t spot rest Absent → Advances t node names Lost
behind_absent t states node names behind rest spot are b e leads = λ start is s come. absurd (behind_ends t states node names behind rest spot Absent are b e leads start is s come)

pub behind_lost : (t : Table) (states : List State) (node : ℕ) (names : Path) (behind : ℕ) (rest : Path) → AreStates t states → IsBehind t node names behind rest → slice_get states behind ≡ Some Lost → Advances t node names Lost
behind_lost t states node names behind rest are b e = λ start is s come.
    through_lost t b.has.0 rest s (sound_at t states behind b.has.0 Lost are b.has.1 e) (b.from start is s come)

pub behind_waits : (t : Table) (node : ℕ) (names : Path) (behind : ℕ) (rest : Path) → IsBehind t node names behind rest → Advances t node names (Behind behind (length rest))
behind_waits t node names behind rest b = λ start is s come. record {
  other = b.has.0;
  is_other = b.has.1;
  few = end_few rest names b.is_end;
  come = subst (λ x. Come t.rows.items s (with_path (stand t.rows.items b.has.0) x)) (sym (end_last rest names b.is_end)) (b.from start is s come);
}

-- a walk that is behind one that has not ended is quiet
pub waits_quiet : (states : List State) (behind left : ℕ) (state : State) → slice_get states behind ≡ Some state → is_done state ≡ false → IsQuiet states (Behind behind left)
waits_quiet states behind left state e not_done = ap is_ended e ∙ not_done

pub waits_fewer : (t : Table) (states : List State) (node : ℕ) (names : Path) (behind : ℕ) (rest : Path) (state : State) → IsBehind t node names behind rest → slice_get states behind ≡ Some state → is_done state ≡ false → TakesStep states node names (Behind behind (length rest))
waits_fewer t states node names behind rest state b e not_done = λ old is done. go b.fewer old is done
  where
    go : ((rest ≡ names) × (behind ≡ node)) ⊎ (length rest < length names) → (old : State) → slice_get states node ≡ Some old → is_done old ≡ true → suc (length rest) ≤ length names
    go (inl p) old is done =
        let same : state ≡ old = same_Some state old (sym e ∙ (ap (slice_get states) p.1 ∙ is)) in
        absurd (false≢true (sym not_done ∙ (ap is_done same ∙ done)))
    go (inr less) old is done = less

pub way_at : (t : Table) (spot : Spot) (names : Path) (at : Spot) (rest other : Path) → rest ≡ other → IsOnWay t spot names at rest → IsOnWay t spot names at other
way_at t spot names at rest other e w = subst (IsOnWay t spot names at) e w
