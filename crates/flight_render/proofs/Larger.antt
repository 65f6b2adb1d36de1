-- What is rendered with few sources settled is rendered alike with more.
use Rattle.std.proofs.Common.{◌≡◌, ℕ, Bool, true, false, cond, nat_lt, length, inl, inr, List, [], ◌∷◌, ◌++◌, Option, Some, None, slice_get, refl, sym, ap, ap₂, ◌∙◌, subst}
use Rattle.std.specs.Prelude.{option_map, option_and_then}
use Rattle.std.proofs.lemmas.Option.{none-some}
use Rattle.std.proofs.lemmas.Bool.{false≢true}
use Rattle.flight_value.specs.Store as target
use Rattle.flight_value.specs.Store.{Target, Shape, Label}
use Rattle.flight_value.specs.declared.key.Key.{Key}
use Rattle.flight_value.specs.declared.key.Key.TheVariants as key
use Rattle.flight_value.specs.declared.made.Made.{Made}
use Rattle.flight_value.specs.declared.made.Tree.{Tree}
use Rattle.flight_value.specs.declared.made.Tree.TheVariants as tree
use Rattle.flight_value.specs.declared.name.Name.{Name}
use Rattle.flight_syntax.specs.declared.script.Flowing.{Flowing}
use Rattle.flight_render.specs.declared.root.Ground.{Ground}
use Rattle.flight_render.specs.Run.{gave, threw, waits, Run, End, fail}
use Rattle.flight_render.specs.Values.{is_settled, source_end, outcomes}
use Rattle.flight_render.specs.Operators.{depth_digest}
use Rattle.flight_render.specs.Eval.{Context}
use Rattle.flight_render.specs.Body.{Start, started, run_start, component_start, root_start, body, root_body, fresh}
use Rattle.flight_render.specs.Bodies.{inner, element_of, Finishes, is_finished, finished, made_by, tables_with, next_body, body_below, body_at, node_at, tables_below, tables_at, tables_for, TabledFor}
use Rattle.flight_render.specs.Jobs.{Job, the_root, element, outcome, known, blank, Value, shown, of_job, failed, stopped, IsFinal, is_server, job_of, comes, value_of, Leads, target_of}
use Rattle.flight_render.specs.Plain.{flow_slots, last_job, flow_last, flow_item, flow, made_shape, flow_shape, shape_at, NodeIs}
use Rattle.flight_value.specs.Listed.{In}
use Rattle.flight_render.specs.Costs.{Reached, at_root, through, in_slot, waits_at, flow_stop, Stops, Rendered}
use Rattle.flight_render.specs.Laws.{Grows, Stays, IsLasting, IsThere}
use Rattle.flight_render.proofs.Grows.{keeps, with_settled, eval-keeps, source-keeps}
use Rattle.flight_render.proofs.Names.{some-injective}

-- ---- bodies

start-keeps : (cx : Context) (many : List Bool) → Grows cx.settled many → (o : Option Start) → Stays many (run_start cx o).step → run_start (with_settled cx many) o ≡ run_start cx o
start-keeps cx many g None w = refl
start-keeps cx many g (Some x) w = go (nat_lt (length cx.address) 200) w
  where
    go : (b : Bool) → Stays many (cond b (started cx x) (fail depth_digest fresh)).step → cond b (started (with_settled cx many) x) (fail depth_digest fresh) ≡ cond b (started cx x) (fail depth_digest fresh)
    go true q = keeps many _ _ _ _ (eval-keeps cx many g x.expression x.env fresh) (λ t m z. refl) q
    go false q = refl

pub body-keeps : (g : Ground) (few many : List Bool) → Grows few many → (tables : List (List Made)) (c : ℕ) (props : Tree) (at : List ℕ) → Stays many (body g few tables c props at).step → body g many tables c props at ≡ body g few tables c props at
unfolding body
body-keeps g few many gr tables c props at w =
    start-keeps (record { over = g; settled = few; address = at; tables = tables }) many gr (component_start g tables (slice_get g.program.declared c) props) w

pub root-keeps : (g : Ground) (few many : List Bool) → Grows few many → Stays many (root_body g few).step → root_body g many ≡ root_body g few
unfolding root_body
root-keeps g few many gr w = start-keeps (record { over = g; settled = few; address = []; tables = [] }) many gr (root_start g g.root) w

-- ---- the body at an address

pub no_body_below : (g : Ground) (s : List Bool) (tables : List (List Made)) (at a : List ℕ) (b : Run Tree) → body_below g s tables at None a ≡ Some b → ⊥
no_body_below g s tables at [] b h = none-some b h
no_body_below g s tables at (i ∷ a) b h = no_body_below g s tables (at ++ i ∷ []) a b h

abbrev pub Keeps : List Bool → Option (Run Tree) → Option (Run Tree) → Type 0
Keeps many x y = (b : Run Tree) → x ≡ Some b → Stays many b.step → y ≡ Some b

pub finished-is : (b : Run Tree) → is_finished b.step ≡ true → finished (Some b) ≡ Some b
finished-is b h = ap (λ z. cond z (Some b) None) h

pub finished-stays : (many : List Bool) (e : End) → is_finished e ≡ true → Stays many e
finished-stays many (gave t) h = tt
finished-stays many (threw d) h = tt
finished-stays many (waits s) h = absurd (false≢true h)

pub next-keeps : (g : Ground) (few many : List Bool) → Grows few many → (tables : List (List Made)) (at : List ℕ) (o : Option (ℕ × Tree)) → Keeps many (next_body g few tables at o) (next_body g many tables at o)
next-keeps g few many gr tables at None b h w = absurd (none-some b h)
next-keeps g few many gr tables at (Some k) b h w =
    let same = some-injective _ b h in
    ap Some (body-keeps g few many gr tables k.0 k.1 at (subst (λ z. Stays many z.step) (sym same) w)) ∙ h

below-keeps : (g : Ground) (few many : List Bool) → Grows few many → (a : List ℕ) (tables : List (List Made)) (at : List ℕ) (x y : Option (Run Tree)) → Keeps many x y → Keeps many (body_below g few tables at x a) (body_below g many tables at y a)
below-keeps g few many gr [] tables at x y k b h w = k b h w
below-keeps g few many gr (i ∷ a) tables at None y k b h w = absurd (no_body_below g few tables (at ++ i ∷ []) a b h)
below-keeps g few many gr (i ∷ a) tables at (Some x) y k b h w = go (is_finished x.step) refl
    (λ t o. below-keeps g few many gr a t (at ++ i ∷ []) (next_body g few t (at ++ i ∷ []) o) (next_body g many t (at ++ i ∷ []) o) (next-keeps g few many gr t (at ++ i ∷ []) o) b)
  where
    go : (c : Bool) → is_finished x.step ≡ c
        → ((t : List (List Made)) (o : Option (ℕ × Tree)) → body_below g few t (at ++ i ∷ []) (next_body g few t (at ++ i ∷ []) o) a ≡ Some b → Stays many b.step → body_below g many t (at ++ i ∷ []) (next_body g many t (at ++ i ∷ []) o) a ≡ Some b)
        → body_below g many tables at y (i ∷ a) ≡ Some b
    go true e rest =
        let same : y ≡ Some x = k x refl (finished-stays many x.step e) in
        let is : finished (Some x) ≡ Some x = finished-is x e in
        subst (λ z. body_below g many tables at z (i ∷ a) ≡ Some b) (sym same)
        (subst (λ z. body_below g many (tables_with tables z) (at ++ i ∷ []) (next_body g many (tables_with tables z) (at ++ i ∷ []) (element_of (made_by z i))) a ≡ Some b) (sym is)
        (rest (tables_with tables (Some x)) (element_of (made_by (Some x) i))
        (subst (λ z. body_below g few (tables_with tables z) (at ++ i ∷ []) (next_body g few (tables_with tables z) (at ++ i ∷ []) (element_of (made_by z i))) a ≡ Some b) is h) w))
    go false e rest =
        let is : finished (Some x) ≡ None = ap (λ z. cond z (Some x) None) e in
        absurd (no_body_below g few (tables_with tables None) (at ++ i ∷ []) a b
        (subst (λ z. body_below g few (tables_with tables z) (at ++ i ∷ []) (next_body g few (tables_with tables z) (at ++ i ∷ []) (element_of (made_by z i))) a ≡ Some b) is h))

root-Keeps : (g : Ground) (few many : List Bool) → Grows few many → Keeps many (Some (root_body g few)) (Some (root_body g many))
root-Keeps g few many gr b is w =
    let same = some-injective _ b is in
    ap Some (root-keeps g few many gr (subst (λ z. Stays many z.step) (sym same) w)) ∙ is

pub body_at-keeps : (g : Ground) (few many : List Bool) → Grows few many → (a : List ℕ) (b : Run Tree) → body_at g few a ≡ Some b → Stays many b.step → body_at g many a ≡ Some b
unfolding body_at
body_at-keeps g few many gr a b h w = below-keeps g few many gr a [] [] (Some (root_body g few)) (Some (root_body g many)) (root-Keeps g few many gr) b h w

-- a node that is there was made by a body that finishes
pub node_body : (g : Ground) (s : List Bool) (n : Name) (m : Made) → node_at g s n ≡ Some m → (b : Run Tree) × (body_at g s n.render ≡ Some b) × (is_finished b.step ≡ true) × (slice_get b.after.made n.serial ≡ Some m)
unfolding node_at
node_body g s n m h = go (body_at g s n.render) refl h
  where
    finish : (b : Run Tree) → body_at g s n.render ≡ Some b → (c : Bool) → is_finished b.step ≡ c → made_by (cond c (Some b) None) n.serial ≡ Some m → (b : Run Tree) × (body_at g s n.render ≡ Some b) × (is_finished b.step ≡ true) × (slice_get b.after.made n.serial ≡ Some m)
    finish b is true e w = (b, is, e, w)
    finish b is false e w = absurd (none-some m w)

    go : (o : Option (Run Tree)) → body_at g s n.render ≡ o → made_by (finished o) n.serial ≡ Some m → (b : Run Tree) × (body_at g s n.render ≡ Some b) × (is_finished b.step ≡ true) × (slice_get b.after.made n.serial ≡ Some m)
    go None is w = absurd (none-some m w)
    go (Some b) is w = finish b is (is_finished b.step) refl w

pub node_at-keeps : (g : Ground) (few many : List Bool) → Grows few many → (n : Name) (m : Made) → node_at g few n ≡ Some m → node_at g many n ≡ Some m
unfolding node_at
node_at-keeps g few many gr n m h =
    let b = node_body g few n m h in
    ap (λ z. made_by (finished z) n.serial) (body_at-keeps g few many gr n.render b.0 b.1 (finished-stays many b.0.step b.2)) ∙ ap (λ z. made_by z n.serial) (finished-is b.0 b.2) ∙ b.3

-- ---- the tables on the way to a body

below-tables : (g : Ground) (few many : List Bool) → Grows few many → (a : List ℕ) (tables : List (List Made)) (at : List ℕ) (x y : Option (Run Tree)) → Keeps many x y → (b : Run Tree) → body_below g few tables at x a ≡ Some b → tables_below g few tables at x a ≡ tables_below g many tables at y a
below-tables g few many gr [] tables at x y k b h = refl
below-tables g few many gr (i ∷ a) tables at None y k b h = absurd (no_body_below g few tables (at ++ i ∷ []) a b h)
below-tables g few many gr (i ∷ a) tables at (Some x) y k b h = go (is_finished x.step) refl
    (λ t o. below-tables g few many gr a t (at ++ i ∷ []) (next_body g few t (at ++ i ∷ []) o) (next_body g many t (at ++ i ∷ []) o) (next-keeps g few many gr t (at ++ i ∷ []) o) b)
  where
    go : (c : Bool) → is_finished x.step ≡ c
        → ((t : List (List Made)) (o : Option (ℕ × Tree)) → body_below g few t (at ++ i ∷ []) (next_body g few t (at ++ i ∷ []) o) a ≡ Some b
        → tables_below g few t (at ++ i ∷ []) (next_body g few t (at ++ i ∷ []) o) a ≡ tables_below g many t (at ++ i ∷ []) (next_body g many t (at ++ i ∷ []) o) a)
        → tables_below g few tables at (Some x) (i ∷ a) ≡ tables_below g many tables at y (i ∷ a)
    go true e rest =
        let same : y ≡ Some x = k x refl (finished-stays many x.step e) in
        let is : finished (Some x) ≡ Some x = finished-is x e in
        subst (λ z. tables_below g few tables at (Some x) (i ∷ a) ≡ tables_below g many tables at z (i ∷ a)) (sym same)
        (subst (λ z. tables_below g few (tables_with tables z) (at ++ i ∷ []) (next_body g few (tables_with tables z) (at ++ i ∷ []) (element_of (made_by z i))) a
        ≡ tables_below g many (tables_with tables z) (at ++ i ∷ []) (next_body g many (tables_with tables z) (at ++ i ∷ []) (element_of (made_by z i))) a) (sym is)
        (rest (tables_with tables (Some x)) (element_of (made_by (Some x) i))
        (subst (λ z. body_below g few (tables_with tables z) (at ++ i ∷ []) (next_body g few (tables_with tables z) (at ++ i ∷ []) (element_of (made_by z i))) a ≡ Some b) is h)))
    go false e rest =
        let is : finished (Some x) ≡ None = ap (λ z. cond z (Some x) None) e in
        absurd (no_body_below g few (tables_with tables None) (at ++ i ∷ []) a b
        (subst (λ z. body_below g few (tables_with tables z) (at ++ i ∷ []) (next_body g few (tables_with tables z) (at ++ i ∷ []) (element_of (made_by z i))) a ≡ Some b) is h))

tables_at-keeps : (g : Ground) (few many : List Bool) → Grows few many → (a : List ℕ) (b : Run Tree) → body_at g few a ≡ Some b → tables_at g few a ≡ tables_at g many a
unfolding body_at tables_at
tables_at-keeps g few many gr a b h = below-tables g few many gr a [] [] (Some (root_body g few)) (Some (root_body g many)) (root-Keeps g few many gr) b h

pub tables_for-keeps : (g : Ground) (few many : List Bool) → Grows few many → (n : Name) (m : Made) → node_at g few n ≡ Some m → tables_for g few n ≡ tables_for g many n
tables_for-keeps g few many gr n m h =
    let b = node_body g few n m h in
    ap₂ tables_with (tables_at-keeps g few many gr n.render b.0 b.1) (ap finished (b.1 ∙ sym (body_at-keeps g few many gr n.render b.0 b.1 (finished-stays many b.0.step b.2))))

pub tabled-keeps : (g : Ground) (few many : List Bool) → Grows few many → (n : Name) (ts : List (List Made)) → TabledFor g few n ts → TabledFor g many n ts
tabled-keeps g few many gr n ts x = ((x.0.0, node_at-keeps g few many gr n x.0.0 x.0.1), x.1 ∙ tables_for-keeps g few many gr n x.0.0 x.0.1)

-- ---- jobs and chains

pub job_of-keeps : (g : Ground) (few many : List Bool) → Grows few many → (x : Value) (j : Job) → job_of g few x ≡ Some j → job_of g many x ≡ Some j
job_of-keeps g few many gr (of_job k) j h = h
job_of-keeps g few many gr (shown (tree.Atom a)) j h = absurd (none-some j h)
job_of-keeps g few many gr (shown (tree.FromSource s q)) j h = absurd (none-some j h)
job_of-keeps g few many gr (shown (tree.Promise s)) j h = absurd (none-some j h)
job_of-keeps g few many gr (shown (tree.Stream s)) j h = absurd (none-some j h)
job_of-keeps g few many gr (shown (tree.Action s)) j h = absurd (none-some j h)
job_of-keeps g few many gr (failed d) j h = absurd (none-some j h)
job_of-keeps g few many gr (stopped s) j h = absurd (none-some j h)
job_of-keeps g few many gr (shown (tree.Made n)) j h = go (node_at g few n) refl h
  where
    go : (o : Option Made) → node_at g few n ≡ o → cond (is_server o) (Some (element n)) None ≡ Some j → job_of g many (shown (tree.Made n)) ≡ Some j
    go None is w = absurd (none-some j w)
    go (Some m) is w = ap (λ z. cond (is_server z) (Some (element n)) None) (node_at-keeps g few many gr n m is) ∙ w

pub job_of-none : (g : Ground) (few many : List Bool) → Grows few many → (x : Value) → IsThere g few x → job_of g few x ≡ None → job_of g many x ≡ None
job_of-none g few many gr (of_job k) t h = h
job_of-none g few many gr (shown (tree.Atom a)) t h = refl
job_of-none g few many gr (shown (tree.FromSource s q)) t h = refl
job_of-none g few many gr (shown (tree.Promise s)) t h = refl
job_of-none g few many gr (shown (tree.Stream s)) t h = refl
job_of-none g few many gr (shown (tree.Action s)) t h = refl
job_of-none g few many gr (failed d) t h = refl
job_of-none g few many gr (stopped s) t h = refl
job_of-none g few many gr (shown (tree.Made n)) t h =
    ap (λ z. cond (is_server z) (Some (element n)) None) (node_at-keeps g few many gr n t.0 t.1) ∙ ap (λ z. cond (is_server z) (Some (element n)) None) (sym t.1) ∙ h

mapped : (o : Option (Run Tree)) (h : End) → option_map (λ b. b.step) o ≡ Some h → (b : Run Tree) × (o ≡ Some b) × (b.step ≡ h)
mapped None h w = absurd (none-some h w)
mapped (Some b) h w = (b, refl, some-injective b.step h w)

-- what comes of a body comes of it with more sources settled
body-comes : (g : Ground) (few many : List Bool) → Grows few many → (a : List ℕ) (h : End) → option_map (λ b. b.step) (body_at g few a) ≡ Some h → Stays many h → option_map (λ b. b.step) (body_at g many a) ≡ Some h
body-comes g few many gr a h c w =
    let b = mapped (body_at g few a) h c in
    ap (λ z. option_map (λ x. x.step) z) (body_at-keeps g few many gr a b.0 b.1 (subst (Stays many) (sym b.2) w)) ∙ ap Some b.2

pub comes-keeps : (g : Ground) (few many : List Bool) → Grows few many → (j : Job) (h : End) → comes g few j ≡ Some h → Stays many h → comes g many j ≡ Some h
unfolding comes
comes-keeps g few many gr (outcome i) h c w =
    ap Some (source-keeps few many gr i (slice_get (outcomes g) i) (subst (Stays many) (sym (some-injective (source_end g few i) h c)) w)) ∙ c
comes-keeps g few many gr (known s) h c w = c
comes-keeps g few many gr blank h c w = c
comes-keeps g few many gr the_root h c w = body-comes g few many gr [] h c w
comes-keeps g few many gr (element n) h c w = body-comes g few many gr (inner n) h c w

-- what goes on does not wait
goes_on : (g : Ground) (s many : List Bool) (k : Job) (h : End) (js : List Job) (f : Value) → Leads g s (value_of g s k h) js f → IsFinal f → Stays many h
goes_on g s many k (gave t) js f l w = tt
goes_on g s many k (threw d) js f l w = tt
goes_on g s many k (waits i) [] f l w = absurd (elim (subst IsFinal (sym l) w) [ ])
goes_on g s many k (waits i) (j ∷ js) f l w = absurd (none-some j l.0)

-- what a job comes to by an end is the same with more sources settled
value-keeps : (g : Ground) (few many : List Bool) (j : Job) (h : End) → value_of g many j h ≡ value_of g few j h
value-keeps g few many j (gave t) = refl
value-keeps g few many j (threw d) = refl
value-keeps g few many j (waits s) = refl

pub leads-keeps : (g : Ground) (few many : List Bool) → Grows few many → (x : Value) (js : List Job) (f : Value) → Leads g few x js f → IsFinal f → Leads g many x js f
leads-keeps g few many gr x [] f l w = l
leads-keeps g few many gr x (j ∷ js) f l w = (
  job_of-keeps g few many gr x j l.0,
  (
    l.1.0,
    comes-keeps g few many gr j l.1.0 l.1.1 (goes_on g few many j l.1.0 js f l.1.2 w),
    subst (λ z. Leads g many z js f) (sym (value-keeps g few many j l.1.0)) (leads-keeps g few many gr (value_of g few j l.1.0) js f l.1.2 w),
  ),
)

pub has_job-final : (g : Ground) (s : List Bool) (x : Value) (j : Job) → job_of g s x ≡ Some j → IsFinal x
has_job-final g s (of_job k) j h = tt
has_job-final g s (shown t) j h = tt
has_job-final g s (failed d) j h = tt
has_job-final g s (stopped i) j h = absurd (none-some j h)

-- ---- nodes

shape_there : (g : Ground) (o : Option Made) (shape : Shape Value) → option_and_then (made_shape g) o ≡ Some shape → (m : Made) × (o ≡ Some m)
shape_there g None shape h = absurd (none-some shape h)
shape_there g (Some m) shape h = (m, refl)

pub node-keeps : (g : Ground) (few many : List Bool) → Grows few many → (k : Key) (shape : Shape Value) → IsLasting k → NodeIs g few k shape → NodeIs g many k shape
node-keeps g few many gr (key.Stream i) shape lasting h = elim lasting [ ]
node-keeps g few many gr (key.Source i q) shape lasting h = h
node-keeps g few many gr (key.Settled i) shape lasting h = h
node-keeps g few many gr (key.Action i) shape lasting h = h
node-keeps g few many gr (key.Client i) shape lasting h = h
node-keeps g few many gr (key.Symbol i) shape lasting h = h
node-keeps g few many gr (key.Server i) shape lasting h = h
node-keeps g few many gr (key.Made n) shape lasting h =
    let m = shape_there g (node_at g few n) shape h in
    ap (option_and_then (made_shape g)) (node_at-keeps g few many gr n m.0 m.1) ∙ ap (option_and_then (made_shape g)) (sym m.1) ∙ h

key_or : Target Key → Key → Key
key_or (target.node_at i) d = i
key_or (target.atom a) d = d

IsAtom : Target Key → Type 0
IsAtom (target.atom a) = Unit {0}
IsAtom (target.node_at i) = ⊥

pub there_by-shape : (g : Ground) (s : List Bool) (x : Value) (k : Key) (shape : Shape Value) → target.node_at k ≡ target_of x → NodeIs g s k shape → IsThere g s x
unfolding key_or
there_by-shape g s (shown (tree.Made n)) k shape is at =
    shape_there g (node_at g s n) shape (ap (shape_at g s) (sym (ap (λ z. key_or z k) is)) ∙ at)
there_by-shape g s (shown (tree.Atom a)) k shape is at = tt
there_by-shape g s (shown (tree.FromSource i q)) k shape is at = tt
there_by-shape g s (shown (tree.Promise i)) k shape is at = tt
there_by-shape g s (shown (tree.Stream i)) k shape is at = tt
there_by-shape g s (shown (tree.Action i)) k shape is at = tt
there_by-shape g s (of_job j) k shape is at = tt
there_by-shape g s (failed d) k shape is at = tt
there_by-shape g s (stopped i) k shape is at = tt

pub node-final : (x : Value) (k : Key) → target.node_at k ≡ target_of x → IsFinal x
unfolding IsAtom
node-final (shown t) k is = tt
node-final (of_job j) k is = tt
node-final (failed d) k is = tt
node-final (stopped i) k is = elim (subst IsAtom (sym is) tt) [ ]

-- ---- streams: the slots that there are with few sources are there with more

last-keeps : (g : Ground) (few many : List Bool) → Grows few many → (j : Job) (x : Value) → In x (flow_slots (flow_last j (comes g few j))) → In x (flow_slots (flow_last j (comes g many j)))
last-keeps g few many gr j x i = go (comes g few j) refl i
  where
    go : (o : Option End) → comes g few j ≡ o → In x (flow_slots (flow_last j o)) → In x (flow_slots (flow_last j (comes g many j)))
    go None e k = elim k [ ]
    go (Some (threw d)) e k = elim k [ ]
    go (Some (waits s)) e k = elim k [ ]
    go (Some (gave t)) e k = subst (λ z. In x (flow_slots (flow_last j z))) (sym (comes-keeps g few many gr j (gave t) e tt)) k

flow-keeps : (g : Ground) (few many : List Bool) → Grows few many → (is : List ℕ) (last : Option ℕ) (x : Value) → In x (flow_slots (flow g few is last)) → In x (flow_slots (flow g many is last))
flow-keeps g few many gr [] last x i = last-keeps g few many gr (last_job last) x i
flow-keeps g few many gr (s ∷ rest) last x i = go (comes g few (outcome s)) refl i (flow-keeps g few many gr rest last x)
  where
    go : (o : Option End) → comes g few (outcome s) ≡ o → In x (flow_slots (flow_item (outcome s) o (flow g few rest last)))
        → (In x (flow_slots (flow g few rest last)) → In x (flow_slots (flow g many rest last)))
        → In x (flow_slots (flow_item (outcome s) (comes g many (outcome s)) (flow g many rest last)))
    go None e k later = elim k [ ]
    go (Some (threw d)) e k later = elim k [ ]
    go (Some (waits n)) e k later = elim k [ ]
    go (Some (gave t)) e (inl q) later = subst (λ z. In x (flow_slots (flow_item (outcome s) z (flow g many rest last)))) (sym (comes-keeps g few many gr (outcome s) (gave t) e tt)) (inl q)
    go (Some (gave t)) e (inr k) later = subst (λ z. In x (flow_slots (flow_item (outcome s) z (flow g many rest last)))) (sym (comes-keeps g few many gr (outcome s) (gave t) e tt)) (inr (later k))

-- a slot of a node is a slot of that node with more sources settled
pub slot-keeps : (g : Ground) (few many : List Bool) → Grows few many → (k : Key) (shape : Shape Value) (x : Value) → NodeIs g few k shape → In x shape.slots → (after : Shape Value) × (NodeIs g many k after) × In x after.slots
slot-keeps g few many gr (key.Made n) shape x h i = (shape, node-keeps g few many gr (key.Made n) shape tt h, i)
slot-keeps g few many gr (key.Source n q) shape x h i = (shape, h, i)
slot-keeps g few many gr (key.Settled n) shape x h i = (shape, h, i)
slot-keeps g few many gr (key.Action n) shape x h i = (shape, h, i)
slot-keeps g few many gr (key.Client n) shape x h i = (shape, h, i)
slot-keeps g few many gr (key.Symbol n) shape x h i = (shape, h, i)
slot-keeps g few many gr (key.Server n) shape x h i = (shape, h, i)
slot-keeps g few many gr (key.Stream f) shape x h i = go (slice_get g.script.streams f) h
  where
    go : (o : Option Flowing) → option_map (flow_shape g few) o ≡ Some shape → (after : Shape Value) × (option_map (flow_shape g many) o ≡ Some after) × In x after.slots
    go None e = absurd (none-some shape e)
    go (Some fl) e = (_, refl, flow-keeps g few many gr fl.items fl.last x (subst (λ z. In x z.slots) (sym (some-injective _ shape e)) i))

-- ---- what is reached, rendered and counted

-- a value that more settled sources do not change
abbrev pub StaysValue : List Bool → Value → Type 0
StaysValue many (stopped i) = is_settled many i ≡ false
StaysValue many x = Unit {0}

value-stays : (g : Ground) (s many : List Bool) (j : Job) (h : End) → StaysValue many (value_of g s j h) → Stays many h
value-stays g s many j (gave t) w = tt
value-stays g s many j (threw d) w = tt
value-stays g s many j (waits i) w = w

final-stays : (many : List Bool) (x : Value) → IsFinal x → StaysValue many x
final-stays many (of_job k) w = tt
final-stays many (shown t) w = tt
final-stays many (failed d) w = tt
final-stays many (stopped i) w = elim w [ ]

pub reached-stays : (g : Ground) (few many : List Bool) → Grows few many → (x : Value) → Reached g few x → StaysValue many x → Reached g many x
reached-stays g few many gr x at_root w = at_root
reached-stays g few many gr x (through {v = d} {j = j} {end = h} y is by) w =
    subst (Reached g many) (value-keeps g few many j h)
    (through (reached-stays g few many gr d y (final-stays many d (has_job-final g few d j is))) (job_of-keeps g few many gr d j is) (comes-keeps g few many gr j h by (value-stays g few many j h w)))
reached-stays g few many gr x (in_slot {v = d} {k = k} {shape = shape} y stops is at among) w =
    let after = slot-keeps g few many gr k shape x at among in
    in_slot (reached-stays g few many gr d y (final-stays many d (node-final d k is))) (job_of-none g few many gr d (there_by-shape g few d k shape is at) stops) is after.1 after.2

pub reached-keeps : (g : Ground) (few many : List Bool) → Grows few many → (x : Value) → Reached g few x → IsFinal x → Reached g many x
reached-keeps g few many gr x r w = reached-stays g few many gr x r (final-stays many x w)

-- ---- what is waited for

waits_at-keeps : (g : Ground) (few many : List Bool) → Grows few many → (j : Job) (later after : Option ℕ) (i : ℕ) → is_settled many i ≡ false → (later ≡ Some i → after ≡ Some i) → waits_at (comes g few j) later ≡ Some i → waits_at (comes g many j) after ≡ Some i
waits_at-keeps g few many gr j later after i not same is = go (comes g few j) refl is
  where
    go : (o : Option End) → comes g few j ≡ o → waits_at o later ≡ Some i → waits_at (comes g many j) after ≡ Some i
    go None e w = absurd (none-some i w)
    go (Some (threw d)) e w = absurd (none-some i w)
    go (Some (gave t)) e w = ap (λ z. waits_at z after) (comes-keeps g few many gr j (gave t) e tt) ∙ same w
    go (Some (waits s)) e w = ap (λ z. waits_at z after) (comes-keeps g few many gr j (waits s) e (subst (λ z. is_settled many z ≡ false) (sym (some-injective s i w)) not)) ∙ w

flow_stop-keeps : (g : Ground) (few many : List Bool) → Grows few many → (is : List ℕ) (last : Option ℕ) (i : ℕ) → is_settled many i ≡ false → flow_stop g few is last ≡ Some i → flow_stop g many is last ≡ Some i
flow_stop-keeps g few many gr [] last i not is = waits_at-keeps g few many gr (last_job last) None None i not (λ e. e) is
flow_stop-keeps g few many gr (s ∷ rest) last i not is =
    waits_at-keeps g few many gr (outcome s) (flow_stop g few rest last) (flow_stop g many rest last) i not (λ e. flow_stop-keeps g few many gr rest last i not e) is

-- what waits for a source goes on waiting until it is settled
pub stops-keeps : (g : Ground) (few many : List Bool) → Grows few many → (i : ℕ) → is_settled many i ≡ false → Stops g few i → Stops g many i
stops-keeps g few many gr i not (inl r) = inl (reached-stays g few many gr (stopped i) r not)
stops-keeps g few many gr i not (inr x) =
    inr (record {
      number = x.number;
      flows = x.flows;
      is_stream = x.is_stream;
      value = x.value;
      met = reached-stays g few many gr x.value x.met (final-stays many x.value (node-final x.value (key.Stream x.number) x.leads));
      no_job = job_of-none g few many gr x.value (there_by-shape g few x.value (key.Stream x.number) (flow_shape g few x.flows) x.leads (ap (option_map (flow_shape g few)) x.is_stream)) x.no_job;
      leads = x.leads;
      stop = flow_stop-keeps g few many gr x.flows.items x.flows.last i not x.stop;
    })

pub finishes-stays : (many : List Bool) (h : End) → Finishes h → Stays many h
finishes-stays many (gave t) w = tt
finishes-stays many (threw d) w = tt
finishes-stays many (waits i) w = absurd (elim w [ ])

pub rendered-keeps : (g : Ground) (few many : List Bool) → Grows few many → (a : List ℕ) (c : ℕ) → Rendered g few a c → Rendered g many a c
rendered-keeps g few many gr a c x =
    record {
      here = x.here;
      is_body = body_at-keeps g few many gr a x.here x.is_body (finishes-stays many x.here.step x.finishes);
      finishes = x.finishes;
      costs = x.costs;
      job = x.job;
      addressed = x.addressed;
      value = x.value;
      met = reached-keeps g few many gr x.value x.met (has_job-final g few x.value x.job x.is_job);
      is_job = job_of-keeps g few many gr x.value x.job x.is_job;
    }
