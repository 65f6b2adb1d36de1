-- Bytes have one first fault, and a bundle has none.
use Rattle.std.proofs.Common.{◌≡◌, ◌≢◌, ◌⊎◌, ◌++◌, ◌≤◌, ◌<◌, ◌∷◌, [], ℕ, List, map, length, Bool, true, false, Option, Some, None, refl, sym, ◌∙◌, ap, subst, inl, inr, arith}
use Rattle.std.specs.Prelude.{is_some}
use Rattle.std.specs.List.{flat_map}
use Rattle.std.specs.Str.{IsUtf8}
use Rattle.std.specs.Str.Lossy.{utf8_valid_len}
use Rattle.serde_json.specs.Data.{Data}
use Rattle.serde_json.specs.Read.{read}
use Rattle.flight_syntax.specs.declared.program.Declared.{Declared}
use Rattle.flight_syntax.specs.declared.program.Declared.TheVariants as declares
use Rattle.flight_syntax.specs.declared.script.Script.{Script}
use Rattle.flight_syntax.specs.Faults as names
use Rattle.flight_syntax.specs.Derives.{Said, said, Derives}
use Rattle.flight_syntax.specs.Derives as says
use Rattle.flight_grammar.specs.Outcome as outcome
use Rattle.flight_grammar.specs.Outcome.{Outcome, ComesTo, HasOneOutcome}
use Rattle.flight_resolve.specs.declared.fault.ParseFault.{ParseFault}
use Rattle.flight_resolve.specs.declared.fault.ParseFault.TheVariants as parse
use Rattle.flight_resolve.specs.Reports.{IsParseFault}
use Rattle.flight_script.specs.declared.fault.ScriptFault.{ScriptFault}
use Rattle.flight_script.specs.Program.{Named, names_in, names_of, program_tests, named_tests}
use Rattle.flight_script.specs.Script.{tests, IsScriptOf, IsFaultOf}
use Rattle.flight_script.specs.Tests.{IsFirstFault}
use Rattle.flight_render.specs.declared.root.Ground.{Ground}
use Rattle.flight_bundle.specs.declared.fault.BundleFault.{BundleFault}
use Rattle.flight_bundle.specs.declared.fault.BundleFault.TheVariants as fault
use Rattle.flight_bundle.specs.Parts.{HasParts}
use Rattle.flight_bundle.specs.Bundle.{most_bytes, IsParted, IsBundle, IsGroundFault, HasPartFault, HasFault}
use Rattle.flight_bundle.proofs.OneParts.{one_parts}

some_is : {A : Type 0} (a b : A) → Some a ≡ Some b → a ≡ b
some_is a b e = cc

-- ---- programs

-- what a fault of a program tells
abbrev told : Outcome → Option ParseFault
told (outcome.lexed f) = Some (parse.Lex f)
told (outcome.unexpected place) = Some (parse.Unexpected place)
told (outcome.too_deep place) = Some (parse.TooDeep place)
told (outcome.misnamed (names.unknown name)) = Some (parse.Unknown name.bytes name.at)
told (outcome.misnamed (names.twice name)) = Some (parse.Twice name.bytes name.at)
told (outcome.misnamed (names.key_on_server key)) = Some (parse.KeyOnServer key.at)
told outcome.no_app = Some parse.NoApp
told (outcome.program declared) = None

tells : (text : List ℕ) (f : ParseFault) → f ≢ parse.Memory → IsParseFault text f → (o : Outcome) × (ComesTo text o × (told o ≡ Some f))
tells text (parse.Lex f) n h = (outcome.lexed f, (h, refl))
tells text (parse.Unexpected place) n h = (outcome.unexpected place, (h, refl))
tells text (parse.TooDeep place) n h = (outcome.too_deep place, (h, refl))
tells text (parse.Unknown name place) n h = (outcome.misnamed (names.unknown (record { bytes = name; at = place })), (h, refl))
tells text (parse.Twice name place) n h = (outcome.misnamed (names.twice (record { bytes = name; at = place })), (h, refl))
tells text (parse.KeyOnServer place) n h = (outcome.misnamed (names.key_on_server (record { bytes = h.0; at = place })), (h.1, refl))
tells text parse.NoApp n h = (outcome.no_app, (h, refl))
tells text parse.Memory n h = absurd (n refl)

one_program_fault : ((text : List ℕ) → HasOneOutcome text) → (text : List ℕ) (f g : ParseFault) → f ≢ parse.Memory → g ≢ parse.Memory → IsParseFault text f → IsParseFault text g → f ≡ g
one_program_fault one text f g n m h k =
    let a = tells text f n h in
    let b = tells text g m k in
    some_is f g (sym a.1.1 ∙ ap told (one text a.0 b.0 a.1.0 b.1.0) ∙ b.1.1)

no_program_fault : ((text : List ℕ) → HasOneOutcome text) → (text : List ℕ) (ds : List Declared) (f : ParseFault) → f ≢ parse.Memory → Derives text ds → IsParseFault text f → ⊥
no_program_fault one text ds f n d h =
    let a = tells text f n h in
    let e : None ≡ Some f = ap told (one text (outcome.program (map said ds)) a.0 d a.1.0) ∙ a.1.1 in
    cc

-- ---- scripts, which ask no more of a program than what it says

abbrev said_names : Said → List Named
said_names (says.server name params body) = names_in body
said_names (says.client name import) = []
said_names (says.action name params body) = names_in body

names_said : (d : Declared) → names_of d ≡ said_names (said d)
names_said (declares.Server name params body) = refl
names_said (declares.Client name import) = refl
names_said (declares.Action name params body) = refl

all_names : (ds : List Declared) → flat_map names_of ds ≡ flat_map said_names (map said ds)
all_names [] = refl
all_names (d ∷ ds) = rw (names_said d, all_names ds) refl

same_names : (ds es : List Declared) → map said ds ≡ map said es → flat_map names_of ds ≡ flat_map names_of es
same_names ds es e = all_names ds ∙ ap (flat_map said_names) e ∙ sym (all_names es)

same_tests : (o : Option Data) (ds es : List Declared) → map said ds ≡ map said es → tests o ds ≡ tests o es
same_tests None ds es e = refl
same_tests (Some d) ds es e = rw (same_names ds es e) refl

-- ---- what comes behind the parts

-- with a reply where none is wanted, or the other way, or the fault of the parts
data IsLate (wanted : Bool) (p s : List ℕ) (r : Option (List ℕ)) : BundleFault → Type 0 where
  missing : wanted ≡ true → is_some r ≡ false → IsLate wanted p s r fault.ReplyWanted
  strange : wanted ≡ false → is_some r ≡ true → IsLate wanted p s r fault.ReplyNotWanted
  of_program : (f : ParseFault) → is_some r ≡ wanted → f ≢ parse.Memory → IsParseFault p f → IsLate wanted p s r (fault.Program f)
  of_script : (f : ScriptFault) (ds : List Declared) → is_some r ≡ wanted → Derives p ds → IsFaultOf s ds f → IsLate wanted p s r (fault.Script f)

record Late (bytes : List ℕ) (wanted : Bool) (f : BundleFault) : Type 0 where
  part : List ℕ
  script : List ℕ
  reply : Option (List ℕ)
  parted : IsParted bytes part script reply
  late : IsLate wanted part script reply f

-- one of the first two faults
data Early (bytes : List ℕ) : BundleFault → Type 0 where
  long : most_bytes < length bytes → Early bytes fault.TooLong
  broken : (place : ℕ) → length bytes ≤ most_bytes → (IsUtf8 bytes → ⊥) → place ≡ utf8_valid_len bytes → Early bytes (fault.NotUtf8 place)

sorted : (bytes : List ℕ) (wanted : Bool) (f : BundleFault) → f ≢ fault.Memory → HasFault bytes wanted f → Early bytes f ⊎ Late bytes wanted f
sorted bytes wanted fault.TooLong n h = inl (long h)
sorted bytes wanted (fault.NotUtf8 place) n h = inl (broken place h.0 h.1 h.2)
sorted bytes wanted fault.ReplyWanted n h = inr (record { part = h.1.0; script = h.1.1.0; reply = None; parted = h.1.1.1; late = missing h.0 refl })
sorted bytes wanted fault.ReplyNotWanted n h = inr (record { part = h.1.0; script = h.1.1.0; reply = Some h.1.1.1.0; parted = h.1.1.1.1; late = strange h.0 refl })
sorted bytes wanted (fault.Program f) n h = inr (record { part = h.program; script = h.script; reply = h.reply; parted = h.parted; late = of_program f h.fits h.is_fault.1 h.is_fault.0 })
sorted bytes wanted (fault.Script f) n h = inr (record { part = h.program; script = h.script; reply = h.reply; parted = h.parted; late = of_script f h.is_fault.0 h.fits h.is_fault.1 h.is_fault.2 })
sorted bytes wanted fault.Memory n h = absurd (n refl)

one_early : (bytes : List ℕ) (f g : BundleFault) → Early bytes f → Early bytes g → f ≡ g
one_early bytes _ _ (long h) (long k) = refl
one_early bytes _ _ (long h) (broken place k u e) = absurd (omega (arith, h, k))
one_early bytes _ _ (broken place h u e) (long k) = absurd (omega (arith, h, k))
one_early bytes _ _ (broken place h u e) (broken other k v d) = ap fault.NotUtf8 (e ∙ sym d)

early_late : (bytes p s : List ℕ) (r : Option (List ℕ)) (f : BundleFault) → Early bytes f → IsParted bytes p s r → ⊥
early_late bytes p s r _ (long h) is = let w = is.within in omega (arith, h, w)
early_late bytes p s r _ (broken place h u e) is = u is.utf8

-- the laws below
pub record Laws : Type 0 where
  pub one_outcome : (text : List ℕ) → HasOneOutcome text
  pub one_fault : (text : List ℕ) (ds : List Declared) (e f : ScriptFault) → IsFaultOf text ds e → IsFaultOf text ds f → e ≡ f

wants : (b : Bool) → b ≡ true → b ≡ false → ⊥
wants b e f = let d : true ≡ false = sym e ∙ f in cc

some_program : (ds es : List Said) → outcome.program ds ≡ outcome.program es → ds ≡ es
some_program ds es e = cc

same_program : Laws → (text : List ℕ) (ds es : List Declared) → Derives text ds → Derives text es → map said ds ≡ map said es
same_program laws text ds es h k = some_program (map said ds) (map said es) (laws.one_outcome text (outcome.program (map said ds)) (outcome.program (map said es)) h k)

one_late : Laws → (wanted : Bool) (p s : List ℕ) (r : Option (List ℕ)) (f g : BundleFault) → IsLate wanted p s r f → IsLate wanted p s r g → f ≡ g
one_late laws wanted p s r _ _ (missing a b) (missing c d) = refl
one_late laws wanted p s r _ _ (missing a b) (strange c d) = absurd (wants wanted a c)
one_late laws wanted p s r _ _ (missing a b) (of_program g d n k) = absurd (wants wanted a (sym d ∙ b))
one_late laws wanted p s r _ _ (missing a b) (of_script g es d e k) = absurd (wants wanted a (sym d ∙ b))
one_late laws wanted p s r _ _ (strange a b) (missing c d) = absurd (wants wanted c a)
one_late laws wanted p s r _ _ (strange a b) (strange c d) = refl
one_late laws wanted p s r _ _ (strange a b) (of_program g d n k) = absurd (wants wanted (sym d ∙ b) a)
one_late laws wanted p s r _ _ (strange a b) (of_script g es d e k) = absurd (wants wanted (sym d ∙ b) a)
one_late laws wanted p s r _ _ (of_program f a n h) (missing c d) = absurd (wants wanted c (sym a ∙ d))
one_late laws wanted p s r _ _ (of_program f a n h) (strange c d) = absurd (wants wanted (sym a ∙ d) c)
one_late laws wanted p s r _ _ (of_program f a n h) (of_program g c m k) = ap fault.Program (one_program_fault laws.one_outcome p f g n m h k)
one_late laws wanted p s r _ _ (of_program f a n h) (of_script g es c e k) = absurd (no_program_fault laws.one_outcome p es f n e h)
one_late laws wanted p s r _ _ (of_script f ds a d h) (missing c e) = absurd (wants wanted c (sym a ∙ e))
one_late laws wanted p s r _ _ (of_script f ds a d h) (strange c e) = absurd (wants wanted (sym a ∙ e) c)
one_late laws wanted p s r _ _ (of_script f ds a d h) (of_program g c m k) = absurd (no_program_fault laws.one_outcome p ds g m d k)
one_late laws wanted p s r _ _ (of_script f ds a d h) (of_script g es c e k) =
    ap fault.Script (laws.one_fault s ds f g h (subst (λ ts. IsFirstFault ts g) (sym (same_tests (read s) ds es (same_program laws p ds es d e))) k))

at_same : (wanted : Bool) (p s q t : List ℕ) (r u : Option (List ℕ)) (f : BundleFault) → (p ≡ q) × (s ≡ t) × (r ≡ u) → IsLate wanted p s r f → IsLate wanted q t u f
at_same wanted p s q t r u f (d, e, o) h = subst (λ x. IsLate wanted x t u f) d (subst (λ x. IsLate wanted p x u f) e (subst (λ x. IsLate wanted p s x f) o h))

pub one_fault : Laws → (bytes : List ℕ) (wanted : Bool) (f g : BundleFault) → f ≢ fault.Memory → g ≢ fault.Memory → HasFault bytes wanted f → HasFault bytes wanted g → f ≡ g
one_fault laws bytes wanted f g n m h k = by (sorted bytes wanted f n h) (sorted bytes wanted g m k)
  where
    by : Early bytes f ⊎ Late bytes wanted f → Early bytes g ⊎ Late bytes wanted g → f ≡ g
    by (inl a) (inl b) = one_early bytes f g a b
    by (inl a) (inr b) = absurd (early_late bytes b.part b.script b.reply f a b.parted)
    by (inr a) (inl b) = absurd (early_late bytes a.part a.script a.reply g b a.parted)
    by (inr a) (inr b) =
        let same = one_parts bytes a.part a.script b.part b.script a.reply b.reply a.parted.parts b.parted.parts in
        one_late laws wanted b.part b.script b.reply f g (at_same wanted a.part a.script b.part b.script a.reply b.reply f same a.late) b.late

no_late : Laws → ((text : List ℕ) (ds : List Declared) (s : Script) (e : ScriptFault) → IsScriptOf text ds s → IsFaultOf text ds e → ⊥) → (bytes : List ℕ) (wanted : Bool) (g : Ground) (r : Option (List ℕ)) (b : IsBundle bytes wanted g r) (f : BundleFault) → IsLate wanted b.program b.script r f → ⊥
no_late laws none bytes wanted g r b _ (missing c d) = wants wanted c (sym b.fits ∙ d)
no_late laws none bytes wanted g r b _ (strange c d) = wants wanted (sym b.fits ∙ d) c
no_late laws none bytes wanted g r b _ (of_program f c n h) = no_program_fault laws.one_outcome b.program g.program.declared f n b.derives h
no_late laws none bytes wanted g r b _ (of_script f ds c d h) =
    none b.script g.program.declared g.script f b.is_script (subst (λ ts. IsFirstFault ts f) (sym (same_tests (read b.script) g.program.declared ds (same_program laws b.program g.program.declared ds b.derives d))) h)

pub apart : Laws → ((text : List ℕ) (ds : List Declared) (s : Script) (e : ScriptFault) → IsScriptOf text ds s → IsFaultOf text ds e → ⊥) → (bytes : List ℕ) (wanted : Bool) (g : Ground) (r : Option (List ℕ)) (f : BundleFault) → f ≢ fault.Memory → IsBundle bytes wanted g r → HasFault bytes wanted f → ⊥
apart laws none bytes wanted g r f n b h = by (sorted bytes wanted f n h)
  where
    by : Early bytes f ⊎ Late bytes wanted f → ⊥
    by (inl a) = early_late bytes b.program b.script r f a b.parted
    by (inr a) =
        let same = one_parts bytes a.part a.script b.program b.script a.reply r a.parted.parts b.parted.parts in
        no_late laws none bytes wanted g r b f (at_same wanted a.part a.script b.program b.script a.reply r f same a.late)
