-- Pairs for the meaning of rows stay pairs for it when rows are added, where they speak of what was resolved.
use Rattle.std.proofs.Common.{◌≡◌, ◌≢◌, List, [], ◌∷◌, ◌++◌, ap, subst, All}
use Rattle.std.proofs.lemmas.List.Elements.{All-nil, All-cons, All-head, All-tail}
use Rattle.std.specs.List.{AllZip}
use Rattle.flight_value.specs.declared.graph.Atom.TheVariants as atom
use Rattle.flight_value.specs.Store as store
use Rattle.flight_value.specs.Store.{Shape, Target, Store, TargetsFit, SlotsFit, NodesFit, Fits}
use Rattle.flight_meaning.specs.declared.place.PlacedRow.{PlacedRow}
use Rattle.flight_meaning.specs.Meaning.{Written, Identity, pending, Leads, meaning}
use Rattle.flight_meaning.specs.Lasting.{HasEnded, IsResolved, IsResolvedUnder, IsComplete}
use Rattle.flight_meaning.proofs.OneMeaning.{leads_once, stands_once}
use Rattle.flight_meaning.proofs.MoreMeaning.{leads-more, shape-more}

resolved_target : (rows : List PlacedRow) (w : Written) (x : Target Identity) → IsResolved rows w → Leads rows w x → x ≢ pending
resolved_target rows w x resolved h e = resolved (subst (Leads rows w) e h)

slot-more : {K V : Type 0} (R : K → Identity → Type 0) (h : Store K V) (rows more : List PlacedRow) (v : V) (w : Written) → IsResolved rows w → SlotsFit R h (meaning rows) v w → SlotsFit R h (meaning (rows ++ more)) v w
slot-more R h rows more v w resolved f =
    record {
      here = f.here;
      there = f.there;
      leads_here = f.leads_here;
      leads_there = leads-more rows more w f.there (resolved_target rows w f.there resolved f.leads_there) f.leads_there;
      targets_fit = f.targets_fit;
    }

slots-more : {K V : Type 0} (R : K → Identity → Type 0) (h : Store K V) (rows more : List PlacedRow) (vs : List V) (ws : List Written) → All (IsResolved rows) ws → AllZip (SlotsFit R h (meaning rows)) vs ws → AllZip (SlotsFit R h (meaning (rows ++ more))) vs ws
slots-more R h rows more [] [] resolved f = tt
slots-more R h rows more (v ∷ vs) (w ∷ ws) resolved f =
    (slot-more R h rows more v w (All-head (IsResolved rows) w ws resolved) f.0, slots-more R h rows more vs ws (All-tail (IsResolved rows) w ws resolved) f.1)
slots-more R h rows more [] (w ∷ ws) resolved f = absurd f
slots-more R h rows more (v ∷ vs) [] resolved f = absurd f

node-more : {K V : Type 0} (R : K → Identity → Type 0) (h : Store K V) (rows more : List PlacedRow) → IsResolvedUnder R rows → (k : K) (l : Identity) → R k l → NodesFit R h (meaning rows) k l → NodesFit R h (meaning (rows ++ more)) k l
node-more R h rows more resolved k l pair f =
    let p = resolved.each k l f.there pair f.is_there in
    record {
      here = f.here;
      there = f.there;
      is_here = f.is_here;
      is_there = shape-more rows more l f.there p.0 f.is_there;
      labels = f.labels;
      slots_fit = slots-more R h rows more f.here.slots f.there.slots p.1 f.slots_fit;
    }

pub fits-more : {K V : Type 0} (R : K → Identity → Type 0) (h : Store K V) (rows more : List PlacedRow) → IsResolvedUnder R rows → Fits R h (meaning rows) → Fits R h (meaning (rows ++ more))
fits-more R h rows more resolved f =
    record {
      one_there = f.one_there;
      one_here = f.one_here;
      roots = slot-more R h rows more h.root (meaning rows).root resolved.root f.roots;
      each = λ k l pair. node-more R h rows more resolved k l pair (f.each k l pair);
    }

-- ---- what is resolved, by the other side of the pairs

sure_target : {K L : Type 0} (R : K → L → Type 0) (x : Target K) (y : Target L) → TargetsFit R x y → y ≡ store.atom atom.Pending → x ≡ store.atom atom.Pending
sure_target R (store.atom a) y f e = ap (λ b. store.atom b) (subst (TargetsFit R (store.atom a)) e f)
sure_target R (store.node_at k) y f e = absurd (subst (TargetsFit R (store.node_at k)) e f)

sure_slot : {K V : Type 0} (R : K → Identity → Type 0) (h : Store K V) (rows : List PlacedRow) (v : V) (w : Written) → ¬ (h.leads v (store.atom atom.Pending)) → SlotsFit R h (meaning rows) v w → IsResolved rows w
sure_slot R h rows v w sure f bad =
    sure (subst (h.leads v) (sure_target R f.here f.there f.targets_fit (leads_once rows w f.there pending f.leads_there bad)) f.leads_here)

sure_slots : {K V : Type 0} (R : K → Identity → Type 0) (h : Store K V) (rows : List PlacedRow) (vs : List V) (ws : List Written) → All (λ v. ¬ (h.leads v (store.atom atom.Pending))) vs → AllZip (SlotsFit R h (meaning rows)) vs ws → All (IsResolved rows) ws
sure_slots R h rows [] [] sure f = All-nil (IsResolved rows)
sure_slots R h rows (v ∷ vs) (w ∷ ws) sure f =
    All-cons (IsResolved rows) w ws (sure_slot R h rows v w (All-head (λ v. ¬ (h.leads v (store.atom atom.Pending))) v vs sure) f.0)
    (sure_slots R h rows vs ws (All-tail (λ v. ¬ (h.leads v (store.atom atom.Pending))) v vs sure) f.1)
sure_slots R h rows [] (w ∷ ws) sure f = absurd f
sure_slots R h rows (v ∷ vs) [] sure f = absurd f

-- where nothing pends in the store that the pairs fit, what they speak of is resolved
pub resolved_by_partner : {K V : Type 0} (R : K → Identity → Type 0) (h : Store K V) (rows : List PlacedRow) → IsComplete h → Fits R h (meaning rows) → IsResolvedUnder R rows
resolved_by_partner R h rows complete f =
    record {
      root = sure_slot R h rows h.root (meaning rows).root complete.root f.roots;
      each = λ k l shape pair stands.
          let n = f.each k l pair in
          let same = stands_once rows l n.there shape n.is_there stands in
          let c = complete.each k n.here n.is_here in
          let label : HasEnded n.there.label = subst HasEnded n.labels c.0 in
          let slots : All (IsResolved rows) n.there.slots = sure_slots R h rows n.here.slots n.there.slots c.1 n.slots_fit in
          subst (λ z. HasEnded z.label × All (IsResolved rows) z.slots) same (label, slots);
    }
