-- How far a stream comes.
use Rattle.std.proofs.Common.{◌≡◌, ℕ, suc, ◌+◌, ◌<◌, Bool, List, [], ◌∷◌, ◌++◌, map, length, get_or, drop, drop-cons, Option, Some, None, refl, sym, ◌∙◌, ap, append_assoc, append-nil, arith, Result, Ok, Err, IfOk}
use Rattle.std.proofs.lemmas.List.{map-append}
use Rattle.flight_value.specs.declared.graph.Flow.{Flow}
use Rattle.flight_value.specs.Store as store
use Rattle.flight_render.specs.declared.root.Ground.{Ground}
use Rattle.flight_render.specs.Run.{gave, threw, waits, End}
use Rattle.flight_render.specs.Values.{source_end, undefined}
use Rattle.flight_render.specs.Jobs.{comes, outcome, blank, of_job, Value}
use Rattle.flight_render.specs.Plain.{Flowed, closed, broken, going, flow, flow_last, flow_item, last_job}
use Rattle.flight_seq.specs.declared.held.Held.{Held}
use Rattle.flight_seq.specs.declared.held.Label.TheVariants as label
use Rattle.flight_seq.specs.declared.held.FlowState.{FlowState}
use Rattle.flight_seq.specs.declared.held.FlowState.TheVariants as state
use Rattle.flight_seq.specs.declared.held.Shape.{Shape}
use Rattle.flight_value.specs.declared.memory.Memory.{Memory}
use Rattle.flight_seq.specs.Held.{value_held, shape_for}
use Rattle.flight_seq.specs.Sources.{behind, stream_shape, StopsAt}

pub comes_source : (g : Ground) (s : List Bool) (i : ℕ) → comes g s (outcome i) ≡ Some (source_end g s i)
unfolding comes
comes_source g s i = refl

pub comes_blank : (g : Ground) (s : List Bool) → comes g s blank ≡ Some (gave undefined)
unfolding comes
comes_blank g s = refl

-- ---- ends

pub closed_shape : (f : Flow) (hs : List Held) (h : Held) (rest : Flowed Value) → rest ≡ record { items = []; end = closed (value_held h) } → shape_for (record { label = label.Stream f state.Closed; held = hs ++ h ∷ [] }) ≡ stream_shape f (behind (map value_held hs) rest)
closed_shape f hs h rest e =
    ap (λ (vs : List Value). record { label = store.stream f store.closed; slots = vs }) (map-append value_held hs (h ∷ []) ∙ ap (λ (vs : List Value). vs ++ value_held h ∷ []) (sym (append-nil (map value_held hs))))
    ∙ ap (λ r. stream_shape f (behind (map value_held hs) r)) (sym e)

pub broken_shape : (f : Flow) (hs : List Held) (copy digest : List ℕ) (rest : Flowed Value) → copy ≡ digest → rest ≡ record { items = []; end = broken digest } → shape_for (record { label = label.Stream f (state.Broken copy); held = hs }) ≡ stream_shape f (behind (map value_held hs) rest)
broken_shape f hs copy digest rest c e =
    ap (λ (d : List ℕ). shape_for (record { label = label.Stream f (state.Broken d); held = hs })) c
    ∙ (ap (λ (vs : List Value). record { label = store.stream f (store.broken digest); slots = vs }) (sym (append-nil (map value_held hs ++ []) ∙ append-nil (map value_held hs)))
    ∙ ap (λ r. stream_shape f (behind (map value_held hs) r)) (sym e))

pub going_shape : (f : Flow) (hs : List Held) (rest : Flowed Value) → rest ≡ record { items = []; end = going } → shape_for (record { label = label.Stream f state.Flowing; held = hs }) ≡ stream_shape f (behind (map value_held hs) rest)
going_shape f hs rest e =
    ap (λ (vs : List Value). record { label = store.stream f store.flowing; slots = vs }) (sym (append-nil (map value_held hs ++ []) ∙ append-nil (map value_held hs)))
    ∙ ap (λ r. stream_shape f (behind (map value_held hs) r)) (sym e)

-- ---- the final value

pub last_by : (g : Ground) (s : List Bool) (i : ℕ) (h : End) → source_end g s i ≡ h → flow_last (last_job (Some i)) (comes g s (last_job (Some i))) ≡ flow_last (outcome i) (Some h)
last_by g s i h e = ap (flow_last (outcome i)) (comes_source g s i ∙ ap Some e)

pub last_none : (g : Ground) (s : List Bool) → flow_last (last_job None) (comes g s (last_job None)) ≡ record { items = []; end = closed (of_job blank) }
last_none g s = ap (flow_last blank) (comes_blank g s)

-- ---- items

front_of : (xs : List ℕ) (i : ℕ) → i < length xs → drop i xs ≡ get_or xs i 0 ∷ drop (i + 1) xs
front_of xs i lt =
    let e : suc i ≡ i + 1 = omega arith in
    drop-cons xs i 0 lt ∙ ap (λ n. get_or xs i 0 ∷ drop n xs) e

pub flow_at : (g : Ground) (s : List Bool) (items xs : List ℕ) (last : Option ℕ) (i : ℕ) (h : End) → xs ≡ items → i < length xs → source_end g s (get_or xs i 0) ≡ h → flow g s (drop i items) last ≡ flow_item (outcome (get_or xs i 0)) (Some h) (flow g s (drop (i + 1) items) last)
flow_at g s items xs last i h same lt e =
    ap (λ ys. flow g s (drop i ys) last) (sym same)
    ∙ (ap (λ ys. flow g s ys last) (front_of xs i lt)
    ∙ (ap (λ o. flow_item (outcome (get_or xs i 0)) o (flow g s (drop (i + 1) xs) last)) (comes_source g s (get_or xs i 0) ∙ ap Some e)
    ∙ ap (λ ys. flow_item (outcome (get_or xs i 0)) (Some h) (flow g s (drop (i + 1) ys) last)) same))

pub behind_push : (hs new : List Held) (h : Held) (f : Flowed Value) → new ≡ hs ++ h ∷ [] → behind (map value_held hs) (record { items = value_held h ∷ f.items; end = f.end }) ≡ behind (map value_held new) f
behind_push hs new h f e =
    ap (λ (vs : List Value). record { items = vs; end = f.end }) (sym (append_assoc (map value_held hs) (value_held h ∷ []) f.items) ∙ ap (λ (vs : List Value). vs ++ f.items) (sym (map-append value_held hs (h ∷ []))))
    ∙ ap (λ ks. behind (map value_held ks) f) (sym e)

pub if_made : (r : Result Shape Memory) (made : Shape) (wanted : store.Shape Value) → shape_for made ≡ wanted → IfOk r (λ s. s ≡ made) → IfOk r (λ s. shape_for s ≡ wanted)
if_made (Ok s) made wanted e h = ap shape_for h ∙ e
if_made (Err m) made wanted e h = h

-- ---- where a stream stops

pub stops_last : (g : Ground) (s : List Bool) (i : ℕ) (f : Flow) (hs : List Held) (st : FlowState) → StopsAt g s i (Some st) → shape_for (record { label = label.Stream f st; held = hs }) ≡ stream_shape f (behind (map value_held hs) (flow_last (last_job (Some i)) (comes g s (last_job (Some i)))))
stops_last g s i f hs state.Flowing h = going_shape f hs _ (last_by g s i (waits i) h)
stops_last g s i f hs (state.Broken digest) h = broken_shape f hs digest digest _ refl (last_by g s i (threw digest) h)
stops_last g s i f hs state.Closed h = absurd h

pub stops_item : (g : Ground) (s : List Bool) (items xs : List ℕ) (last : Option ℕ) (i : ℕ) (f : Flow) (hs : List Held) (st : FlowState) → xs ≡ items → i < length xs → StopsAt g s (get_or xs i 0) (Some st) → shape_for (record { label = label.Stream f st; held = hs }) ≡ stream_shape f (behind (map value_held hs) (flow g s (drop i items) last))
stops_item g s items xs last i f hs state.Flowing same lt h = going_shape f hs _ (flow_at g s items xs last i (waits (get_or xs i 0)) same lt h)
stops_item g s items xs last i f hs (state.Broken digest) same lt h = broken_shape f hs digest digest _ refl (flow_at g s items xs last i (threw digest) same lt h)
stops_item g s items xs last i f hs state.Closed same lt h = absurd h
