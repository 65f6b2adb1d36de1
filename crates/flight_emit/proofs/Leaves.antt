-- Values that are written as an atom or a reference.
use Rattle.std.proofs.Common.{◌≡◌, ℕ, suc, ◌<◌, ◌^◌, inl, inr, List, [], ◌∷◌, ◌++◌, None, refl, sym, ap, ◌∙◌, subst, arith, append-nil}
use Rattle.std.proofs.lemmas.List.Elements.{All-nil}
use Rattle.std.specs.Prelude.{Result, Ok, Err, IfOk, OnOk}
use Rattle.flight_value.specs.Graph.{IsValidAtom}
use Rattle.json.specs.Token.{Token}
use Rattle.flight_value.specs.declared.memory.Memory.{Memory}
use Rattle.flight_value.specs.Store as store
use Rattle.flight_value.specs.declared.graph.Atom.{Atom}
use Rattle.flight_value.specs.declared.graph.Atom.TheVariants as atom
use Rattle.flight_value.specs.declared.made.Tree.TheVariants as tree
use Rattle.flight_text.specs.Reference.{IsName}
use Rattle.flight_row.specs.declared.row.Row.{Row}
use Rattle.flight_row.specs.declared.row.RowKind.{RowKind}
use Rattle.flight_row.specs.declared.row.RowKind.TheVariants as row
use Rattle.flight_home.specs.Homes.{Homes}
use Rattle.flight_render.specs.declared.root.Ground.{Ground}
use Rattle.flight_render.specs.Jobs.{Value, shown, failed, target_of}
use Rattle.flight_place.specs.declared.manner.Manner.TheVariants.{Wire}
use Rattle.flight_place.specs.Rows.{IsTree}
use Rattle.flight_meaning.specs.declared.place.Place.{Place}
use Rattle.flight_meaning.specs.declared.place.Place.TheVariants as place
use Rattle.flight_payload.specs.Written.{token_of, HasToken, IsWritablePlace, IsWritableAtom}
use Rattle.flight_payload.specs.Tree.{single}
use Rattle.flight_payload.specs.Rows.{IsRow, HasAtom, HasWritten}
use Rattle.flight_state.specs.Steps.{RefersTo}
use Rattle.flight_state.specs.Local.{Seen}
use Rattle.flight_emit.specs.Sheet.{root}
use Rattle.flight_emit.specs.Good as good
use Rattle.flight_emit.specs.Good.{Gives, itself, IsLeaf, IsPlainKind}
use Rattle.flight_emit.specs.Log.{Taken, atom_row, Act, take, places_by, sheets_by, home_for, AreNew, Stage, Grows, Took, Put, FitsTaken}
use Rattle.flight_emit.specs.Wrote.{WroteLeaf}
use Rattle.flight_emit.proofs.Growing.{grows_none, grows_took, grows_out}

-- an atom in place
pub atom_in_place : (g : Ground) (seen : Seen) (v : Value) (a : Atom) (s u : Stage) → target_of v ≡ store.atom a → (a ≡ atom.Pending → ⊥) → IsWritableAtom a → Put (token_of (place.Atom a) ∷ []) s u → WroteLeaf g seen v s u
atom_in_place g seen v a s u target certain writable e =
    record {
      acts = [];
      place = place.Atom a;
      grows = grows_none g seen v s u (ap (λ z. z.homes) e) (ap (λ z. z.next) e) (ap (λ z. z.rows) e) (ap (λ z. z.births) e) (ap (λ z. z.dues) e);
      tokens = ap (λ z. z.out) e;
      leaf = (v, itself, good.an_atom a refl target certain);
      writable = writable;
      no_places = refl;
    }

-- a row of one atom, which is no home
pub took_atom : (kind : RowKind) (a : Atom) (r : Row) (s u : Stage) → s.next < 2 ^ 31 → u ≡ record s { next = suc s.next; rows = s.rows ++ r ∷ [] } → IsRow s.next kind r → HasAtom a r → r.kind ≡ kind → Took (atom_row None kind a) s u
took_atom kind a r s u low e is_row has same =
    record {
      homes = ap (λ z. z.homes) e ∙ sym (append-nil s.homes);
      next = ap (λ z. z.next) e;
      added = r ∷ [];
      rows = ap (λ z. z.rows) e;
      sheets = ((is_row, subst (λ k. IsTree Wire r (record { kind = k; places = place.Atom a ∷ [] })) same has), tt);
      births = ap (λ z. z.births) e ∙ sym (append-nil s.births);
      dues = ap (λ z. z.dues) e ∙ sym (append-nil s.dues);
      below = let f = ap (λ z. z.next) e in omega (arith, f, low);
      out = ap (λ z. z.out) e;
    }

-- and a reference to it
pub atom_by_row : (g : Ground) (seen : Seen) (v : Value) (a : Atom) (kind : RowKind) (at : Place) (s t u : Stage) → IsPlainKind kind → target_of v ≡ store.atom a → (a ≡ atom.Pending → ⊥) → Took (atom_row None kind a) s t → Put (token_of at ∷ []) t u
    → RefersTo s.next at → IsWritablePlace at → WroteLeaf g seen v s u
atom_by_row g seen v a kind at s t u plain target certain took e refers writable =
    record {
      acts = take (atom_row None kind a) ∷ [];
      place = at;
      grows = grows_out g seen v (take (atom_row None kind a) ∷ []) s t u (grows_took g seen v (atom_row None kind a) s t took tt (plain, tt)) (e ∙ ap (λ z. record t { out = z }) (sym (ap (λ z. z.out) e)));
      tokens = ap (λ z. z.out) e ∙ ap (λ z. z ++ token_of at ∷ []) took.out;
      leaf = (v, itself, good.an_atom_row a s.next refers (kind, inl refl) target certain);
      writable = writable;
      no_places = refl;
    }

-- ---- texts

text_certain : (text : List ℕ) → atom.Text text ≡ atom.Pending → ⊥
text_certain text e = cc

pub text_in_place : (g : Ground) (seen : Seen) (text other : List ℕ) → other ≡ text → (s u : Stage) → Put (token_of (place.Atom (atom.Text other)) ∷ []) s u → WroteLeaf g seen (shown (tree.Atom (atom.Text text))) s u
text_in_place g seen text other same s u put =
    atom_in_place g seen (shown (tree.Atom (atom.Text text))) (atom.Text text) s u refl (text_certain text) tt (subst (λ z. Put (token_of (place.Atom (atom.Text z)) ∷ []) s u) same put)

pub text_by_row : (g : Ground) (seen : Seen) (text other : List ℕ) (id : ℕ) → other ≡ text → (s t u : Stage) → id ≡ s.next → id < 2 ^ 31 → Took (atom_row None row.Text (atom.Text other)) s t → Put (token_of (place.Value (root id)) ∷ []) t u → WroteLeaf g seen (shown (tree.Atom (atom.Text text))) s u
text_by_row g seen text other id same s t u is_id below took put =
    atom_by_row g seen (shown (tree.Atom (atom.Text text))) (atom.Text text) row.Text (place.Value (root id)) s t u tt refl (text_certain text) (subst (λ z. Took (atom_row None row.Text (atom.Text z)) s t) same took) put
    (inr (ap (λ z. place.Value (root z)) is_id)) (record { small = below; names = All-nil IsName })

-- ---- a row of one atom

pub atom_written : (r : Result Row Memory) (a : Atom) (tokens : List Token) → tokens ≡ token_of (place.Atom a) ∷ [] → IsWritableAtom a → IfOk r (HasWritten tokens) → IfOk r (HasAtom a)
atom_written (Ok row) a tokens e writable h = h (single (place.Atom a)) e (record { writable = writable; shallow = omega arith })
atom_written (Err refused) a tokens e writable h = tt

-- ---- a leaf, by what was done before it

pub leaf_after : (g : Ground) (seen : Seen) (v : Value) (acts : List Act) (at : Place) (s t u : Stage) → Grows g seen v acts s t → places_by acts ≡ [] → Put (token_of at ∷ []) t u → t.out ≡ s.out → IsLeaf g seen t.homes (sheets_by s.next acts) at v → IsWritablePlace at → WroteLeaf g seen v s u
leaf_after g seen v acts at s t u grown none e same is_leaf writable =
    record {
      acts = acts;
      place = at;
      grows = grows_out g seen v acts s t u grown (e ∙ ap (λ z. record t { out = z }) (sym (ap (λ z. z.out) e)));
      tokens = ap (λ z. z.out) e ∙ ap (λ z. z ++ token_of at ∷ []) same;
      leaf = (v, itself, subst (λ z. IsLeaf g seen z (sheets_by s.next acts) at v) (sym (ap (λ z. z.homes) e)) is_leaf);
      writable = writable;
      no_places = none;
    }

pub leaf_found : (g : Ground) (seen : Seen) (v : Value) (at : Place) (s u : Stage) → Put (token_of at ∷ []) s u → IsLeaf g seen s.homes [] at v → IsWritablePlace at → WroteLeaf g seen v s u
leaf_found g seen v at s u e is_leaf writable = leaf_after g seen v [] at s s u (grows_none g seen v s s refl refl refl refl refl) refl e refl is_leaf writable

pub leaf_taken : (g : Ground) (seen : Seen) (v : Value) (taken : Taken) (at : Place) (s t u : Stage) → Took taken s t → AreNew s.homes (home_for s.next taken) → FitsTaken g seen v t.homes taken → Put (token_of at ∷ []) t u
    → IsLeaf g seen t.homes (sheets_by s.next (take taken ∷ [])) at v → IsWritablePlace at → WroteLeaf g seen v s u
leaf_taken g seen v taken at s t u took new fit e is_leaf writable =
    leaf_after g seen v (take taken ∷ []) at s t u (grows_took g seen v taken s t took new fit) refl e took.out is_leaf writable

-- ---- an atom with a token

has_certain : (a : Atom) → HasToken a → a ≡ atom.Pending → ⊥
has_certain a h e = subst HasToken e h

pub token_in_place : (r : Result (Unit {0}) Memory) (a : Atom) (s u : Homes → Stage) → HasToken a → IsValidAtom a → OnOk r ((homes : Homes) → Put (token_of (place.Atom a) ∷ []) (s homes) (u homes)) → OnOk r (IsValidAtom a → IsWritableAtom a)
    → OnOk r ((g : Ground) (seen : Seen) (homes : Homes) → WroteLeaf g seen (shown (tree.Atom a)) (s homes) (u homes))
token_in_place (Ok done) a s u token valid put writable = λ g seen homes. atom_in_place g seen (shown (tree.Atom a)) a (s homes) (u homes) refl (has_certain a token) (writable valid) (put homes)
token_in_place (Err refused) a s u token valid put writable = tt

pub failure_by_row : (g : Ground) (seen : Seen) (digest other : List ℕ) (id : ℕ) → other ≡ digest → (s t u : Stage) → id ≡ s.next → id < 2 ^ 31 → Took (atom_row None row.Error (atom.Failed other)) s t → Put (token_of (place.Lazy id) ∷ []) t u → WroteLeaf g seen (failed digest) s u
failure_by_row g seen digest other id same s t u is_id below took put =
    atom_by_row g seen (failed digest) (atom.Failed digest) row.Error (place.Lazy id) s t u tt refl (failure_certain digest) (subst (λ z. Took (atom_row None row.Error (atom.Failed z)) s t) same took) put
    (inl (ap place.Lazy is_id)) below
  where
    failure_certain : (text : List ℕ) → atom.Failed text ≡ atom.Pending → ⊥
    failure_certain text e = cc
