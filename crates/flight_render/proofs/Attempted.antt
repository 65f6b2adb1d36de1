-- What an attempt finds under the sources that it sees, its job comes to under more.
use Rattle.std.proofs.Common.{◌≡◌, ℕ, Bool, List, Option, Some, None, slice_get, unwrap_or, refl, sym, ap, ◌∙◌, subst}
use Rattle.std.specs.Prelude.{is_some}
use Rattle.std.proofs.lemmas.Bool.{false≢true}
use Rattle.flight_value.specs.declared.made.Tree.{Tree}
use Rattle.flight_syntax.specs.declared.script.Flowing.{Flowing}
use Rattle.flight_render.specs.declared.root.Ground.{Ground}
use Rattle.flight_render.specs.declared.job.What.{What}
use Rattle.flight_render.specs.declared.job.What.TheVariants as what
use Rattle.flight_render.specs.Run.{Run, fail}
use Rattle.flight_render.specs.Values.{made_in, outcomes}
use Rattle.flight_render.specs.Operators.{type_digest}
use Rattle.flight_render.specs.Body.{fresh}
use Rattle.flight_render.specs.Bodies.{inner, element_of, next_body, body_at, node_at}
use Rattle.flight_render.specs.Jobs.{Job, the_root, element, outcome, known, blank, comes}
use Rattle.flight_render.specs.Plain.{last_job}
use Rattle.flight_render.specs.Attempt.{source_job, item_job, end_job, job_for, alone_end, run_for, IsTabled}
use Rattle.flight_render.specs.Laws.{Grows, Stays}
use Rattle.flight_render.specs.Valid.{IsValidGround}
use Rattle.flight_render.proofs.Grows.{source-keeps}
use Rattle.flight_render.proofs.Larger.{root-keeps}
use Rattle.flight_render.proofs.Falling.{attempt_gives}
use Rattle.flight_render.proofs.There.{tables_belong}

-- a job that is no component's body
abbrev IsAlone : Job → Type 0
IsAlone the_root = ⊥
IsAlone (element n) = ⊥
IsAlone j = Unit {0}

alone-comes : (g : Ground) (s : List Bool) (j : Job) → IsAlone j → comes g s j ≡ Some (alone_end g s j)
unfolding comes
alone-comes g s the_root a = elim a [ ]
alone-comes g s (element n) a = elim a [ ]
alone-comes g s (outcome i) a = refl
alone-comes g s (known x) a = refl
alone-comes g s blank a = refl

alone-keeps : (g : Ground) (few many : List Bool) → Grows few many → (j : Job) → Stays many (alone_end g few j) → alone_end g many j ≡ alone_end g few j
alone-keeps g few many gr the_root w = refl
alone-keeps g few many gr (element n) w = refl
alone-keeps g few many gr (outcome i) w = source-keeps few many gr i (slice_get (outcomes g) i) w
alone-keeps g few many gr (known x) w = refl
alone-keeps g few many gr blank w = refl

source_alone : (o : Option ℕ) → IsAlone (source_job o)
source_alone None = tt
source_alone (Some i) = tt

item_alone : (o : Option Flowing) (index : ℕ) → IsAlone (item_job o index)
item_alone None index = tt
item_alone (Some f) index = source_alone (slice_get f.items index)

last_alone : (o : Option ℕ) → IsAlone (last_job o)
last_alone None = tt
last_alone (Some i) = tt

end_alone : (o : Option Flowing) → IsAlone (end_job o)
end_alone None = tt
end_alone (Some f) = last_alone f.last

alone_gives : (g : Ground) (few many : List Bool) → Grows few many → (j : Job) → IsAlone j → Stays many (alone_end g few j) → comes g many j ≡ Some (alone_end g few j)
alone_gives g few many gr j a w = alone-comes g many j a ∙ ap Some (alone-keeps g few many gr j w)

pub run_gives : (g : Ground) → IsValidGround g → (few many : List Bool) → Grows few many → (w : What) → IsTabled g many w → Stays many (run_for g few w).step → comes g many (job_for g w) ≡ Some (run_for g few w).step
unfolding comes body_at
run_gives g v few many gr what.Root t stays = ap (λ z. Some z.step) (root-keeps g few many gr stays)
run_gives g v few many gr (what.Promise i) t stays = alone_gives g few many gr (outcome i) tt stays
run_gives g v few many gr (what.Known x) t stays = alone_gives g few many gr (known x) tt stays
run_gives g v few many gr (what.Item stream index) t stays = alone_gives g few many gr (item_job (slice_get g.script.streams stream) index) (item_alone (slice_get g.script.streams stream) index) stays
run_gives g v few many gr (what.Last stream) t stays = alone_gives g few many gr (end_job (slice_get g.script.streams stream)) (end_alone (slice_get g.script.streams stream)) stays
run_gives g v few many gr (what.Element n tables) t stays = go (element_of (node_at g many n)) refl
  where
    same : made_in tables.made n ≡ node_at g many n
    same = (tables_belong g v many n tables.made t.0).1

    run : Option (ℕ × Tree) → Run Tree
    run o = unwrap_or (next_body g few tables.made (inner n) o) (fail type_digest fresh)

    whole : (o : Option (ℕ × Tree)) → element_of (node_at g many n) ≡ o → run_for g few (what.Element n tables) ≡ run o
    whole o e = ap run (ap element_of same ∙ e)

    go : (o : Option (ℕ × Tree)) → element_of (node_at g many n) ≡ o → comes g many (element n) ≡ Some (run_for g few (what.Element n tables)).step
    go None e = absurd (false≢true (ap is_some (sym e) ∙ t.1))
    go (Some x) e =
        attempt_gives g few many gr n tables.made (run (Some x)) t.0 (ap (next_body g few tables.made (inner n)) e)
        (subst (λ z. Stays many z.step) (whole (Some x) e) stays)
        ∙ ap (λ z. Some z.step) (sym (whole (Some x) e))
