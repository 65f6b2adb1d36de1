-- Lists as the productions give them, and as they are read.
use Rattle.std.proofs.Common.{◌≡◌, ℕ, List, [], ◌∷◌, ◌++◌, refl, sym, ap, ◌∙◌, append_assoc}
use Rattle.json.specs.Json as json
use Rattle.json.specs.Json.{Json}
use Rattle.flight_syntax.specs.declared.word.Punctuator.TheVariants.{OpenBracket, CloseBracket, Comma, Colon, Minus}
use Rattle.flight_syntax.specs.Lexicon.{Word, Placed, Phrase, ◌▸◌, one, is_mark, name_of, lower_of, text_of, property_of}
use Rattle.flight_syntax.specs.Tree.{Tree, Trees, TreeProps, TreePairs, Declaration, no_trees, tree_and, no_props, prop_and, no_pairs, pair_and, trees_of, props_of, pairs_of, json_items_of, json_members_of}
use Rattle.flight_syntax.specs.Grammar.{Spells, Listed, MoreListed, Properties, MoreProperties, Entries, MoreEntries, SpellsJson, JsonItems, MoreJsonItems, JsonMembers, MoreJsonMembers, Parameters, MoreParameters, MoreParts, DeclaresTo, DeclaresAllTo}
use Rattle.flight_grammar.proofs.Parts.{Seq}
use Rattle.flight_grammar.proofs.Choices.{Lead, Trail}
use Rattle.flight_grammar.proofs.Many.{Many}
use Rattle.flight_grammar.proofs.Lists.{Commaed, CommaList}

pub regroup : (P Q R : Phrase) (x : List Word) → ((P ▸ Q) ▸ R) x → (P ▸ Q ▸ R) x
regroup P Q R x m = (m.3.0, m.3.1 ++ m.1, m.2 ∙ ap (λ w. w ++ m.1) m.3.2 ∙ append_assoc m.3.0 m.3.1 m.1, m.3.3, (m.3.1, m.1, refl, m.3.4, m.4))

pub ungroup : (P Q R : Phrase) (x : List Word) → (P ▸ Q ▸ R) x → ((P ▸ Q) ▸ R) x
ungroup P Q R x m = (m.0 ++ m.4.0, m.4.1, m.2 ∙ ap (λ w. m.0 ++ w) m.4.2 ∙ sym (append_assoc m.0 m.4.0 m.4.1), (m.0, m.4.0, refl, m.3, m.4.3), m.4.4)

-- an expression, a property, an entry, a JSON value and a member of so many levels
abbrev pub E : ℕ → Tree → Phrase
E d tree = Spells tree d

abbrev pub Property : ℕ → Placed × Tree → Phrase
Property d = Seq (one property_of) (λ n. Lead (is_mark Colon) (E d))

abbrev pub Entry : ℕ → Tree × Tree → Phrase
Entry d = Lead (is_mark OpenBracket) (Seq (E d) (λ k. Lead (is_mark Comma) (Trail (E d) (is_mark CloseBracket))))

abbrev pub J : ℕ → Json → Phrase
J d j = SpellsJson j d

abbrev pub Member : ℕ → Placed × Json → Phrase
Member d = Seq (one text_of) (λ n. Lead (is_mark Colon) (J d))

-- expressions
trees_of_more : (d : ℕ) (found : List Tree) (x : List Word) → Many (Commaed (E d)) found x → MoreListed (trees_of found) d x
trees_of_more d [] x m = m
trees_of_more d (a ∷ rest) x m = (m.0, m.1, m.2, m.3, trees_of_more d rest m.1 m.4)

pub trees_of_spell : (d : ℕ) (found : List Tree) (x : List Word) → CommaList (E d) found x → Listed (trees_of found) d x
trees_of_spell d [] x m = m
trees_of_spell d (a ∷ rest) x m = (m.0, m.1, m.2, m.3, trees_of_more d rest m.1 m.4)

trees_of_more_back : (d : ℕ) (l : Trees) (x : List Word) → MoreListed l d x → (found : List Tree) × (trees_of found ≡ l) × Many (Commaed (E d)) found x
trees_of_more_back d no_trees x m = ([], refl, m)
trees_of_more_back d (tree_and t rest) x m = let b = trees_of_more_back d rest m.1 m.4 in (t ∷ b.0, ap (λ z. tree_and t z) b.1, (m.0, m.1, m.2, m.3, b.2))

pub trees_of_back : (d : ℕ) (l : Trees) (x : List Word) → Listed l d x → (found : List Tree) × (trees_of found ≡ l) × CommaList (E d) found x
trees_of_back d no_trees x m = ([], refl, m)
trees_of_back d (tree_and t rest) x m = let b = trees_of_more_back d rest m.1 m.4 in (t ∷ b.0, ap (λ z. tree_and t z) b.1, (m.0, m.1, m.2, m.3, b.2))

-- properties
props_of_more : (d : ℕ) (found : List (Placed × Tree)) (x : List Word) → Many (Commaed (Property d)) found x → MoreProperties (props_of found) d x
props_of_more d [] x m = m
props_of_more d (a ∷ rest) x m = (m.0, m.1, m.2, m.3, props_of_more d rest m.1 m.4)

pub props_of_spell : (d : ℕ) (found : List (Placed × Tree)) (x : List Word) → CommaList (Property d) found x → Properties (props_of found) d x
props_of_spell d [] x m = m
props_of_spell d (a ∷ rest) x m = (m.0, m.1, m.2, m.3, props_of_more d rest m.1 m.4)

props_of_more_back : (d : ℕ) (l : TreeProps) (x : List Word) → MoreProperties l d x → (found : List (Placed × Tree)) × (props_of found ≡ l) × Many (Commaed (Property d)) found x
props_of_more_back d no_props x m = ([], refl, m)
props_of_more_back d (prop_and n t rest) x m = let b = props_of_more_back d rest m.1 m.4 in ((n, t) ∷ b.0, ap (λ z. prop_and n t z) b.1, (m.0, m.1, m.2, m.3, b.2))

pub props_of_back : (d : ℕ) (l : TreeProps) (x : List Word) → Properties l d x → (found : List (Placed × Tree)) × (props_of found ≡ l) × CommaList (Property d) found x
props_of_back d no_props x m = ([], refl, m)
props_of_back d (prop_and n t rest) x m = let b = props_of_more_back d rest m.1 m.4 in ((n, t) ∷ b.0, ap (λ z. prop_and n t z) b.1, (m.0, m.1, m.2, m.3, b.2))

-- entries
pairs_of_more : (d : ℕ) (found : List (Tree × Tree)) (x : List Word) → Many (Commaed (Entry d)) found x → MoreEntries (pairs_of found) d x
pairs_of_more d [] x m = m
pairs_of_more d (a ∷ rest) x m = (m.0, m.1, m.2, m.3, pairs_of_more d rest m.1 m.4)

pub pairs_of_spell : (d : ℕ) (found : List (Tree × Tree)) (x : List Word) → CommaList (Entry d) found x → Entries (pairs_of found) d x
pairs_of_spell d [] x m = m
pairs_of_spell d (a ∷ rest) x m = (m.0, m.1, m.2, m.3, pairs_of_more d rest m.1 m.4)

pairs_of_more_back : (d : ℕ) (l : TreePairs) (x : List Word) → MoreEntries l d x → (found : List (Tree × Tree)) × (pairs_of found ≡ l) × Many (Commaed (Entry d)) found x
pairs_of_more_back d no_pairs x m = ([], refl, m)
pairs_of_more_back d (pair_and k t rest) x m = let b = pairs_of_more_back d rest m.1 m.4 in ((k, t) ∷ b.0, ap (λ z. pair_and k t z) b.1, (m.0, m.1, m.2, m.3, b.2))

pub pairs_of_back : (d : ℕ) (l : TreePairs) (x : List Word) → Entries l d x → (found : List (Tree × Tree)) × (pairs_of found ≡ l) × CommaList (Entry d) found x
pairs_of_back d no_pairs x m = ([], refl, m)
pairs_of_back d (pair_and k t rest) x m = let b = pairs_of_more_back d rest m.1 m.4 in ((k, t) ∷ b.0, ap (λ z. pair_and k t z) b.1, (m.0, m.1, m.2, m.3, b.2))

-- JSON values
json_items_of_more : (d : ℕ) (found : List Json) (x : List Word) → Many (Commaed (J d)) found x → MoreJsonItems (json_items_of found) d x
json_items_of_more d [] x m = m
json_items_of_more d (a ∷ rest) x m = (m.0, m.1, m.2, m.3, json_items_of_more d rest m.1 m.4)

pub json_items_of_spell : (d : ℕ) (found : List Json) (x : List Word) → CommaList (J d) found x → JsonItems (json_items_of found) d x
json_items_of_spell d [] x m = m
json_items_of_spell d (a ∷ rest) x m = (m.0, m.1, m.2, m.3, json_items_of_more d rest m.1 m.4)

json_items_of_more_back : (d : ℕ) (l : json.Items) (x : List Word) → MoreJsonItems l d x → (found : List Json) × (json_items_of found ≡ l) × Many (Commaed (J d)) found x
json_items_of_more_back d json.no_items x m = ([], refl, m)
json_items_of_more_back d (json.item j rest) x m = let b = json_items_of_more_back d rest m.1 m.4 in (j ∷ b.0, ap (λ z. json.item j z) b.1, (m.0, m.1, m.2, m.3, b.2))

pub json_items_of_back : (d : ℕ) (l : json.Items) (x : List Word) → JsonItems l d x → (found : List Json) × (json_items_of found ≡ l) × CommaList (J d) found x
json_items_of_back d json.no_items x m = ([], refl, m)
json_items_of_back d (json.item j rest) x m = let b = json_items_of_more_back d rest m.1 m.4 in (j ∷ b.0, ap (λ z. json.item j z) b.1, (m.0, m.1, m.2, m.3, b.2))

-- members
members_more : (d : ℕ) (found : List (Placed × Json)) (x : List Word) → Many (Commaed (Member d)) found x → MoreJsonMembers (json_members_of found) d x
members_more d [] x m = m
members_more d (a ∷ rest) x m = let c = m.3.4 in (m.0, m.1, m.2, (m.3.0, m.3.1, m.3.2, m.3.3, (c.0, c.1, c.2, (a.0.at, c.3), c.4)), members_more d rest m.1 m.4)

pub members_spell : (d : ℕ) (found : List (Placed × Json)) (x : List Word) → CommaList (Member d) found x → JsonMembers (json_members_of found) d x
members_spell d [] x m = m
members_spell d (a ∷ rest) x m = let c = m.3 in (m.0, m.1, m.2, (c.0, c.1, c.2, (a.0.at, c.3), c.4), members_more d rest m.1 m.4)

members_more_back : (d : ℕ) (l : json.Members) (x : List Word) → MoreJsonMembers l d x → (found : List (Placed × Json)) × (json_members_of found ≡ l) × Many (Commaed (Member d)) found x
members_more_back d json.no_members x m = ([], refl, m)
members_more_back d (json.member k j rest) x m =
    let b = members_more_back d rest m.1 m.4 in
    let c = m.3.4 in
    ((record { bytes = k; at = c.3.0 }, j) ∷ b.0, ap (λ z. json.member k j z) b.1, (m.0, m.1, m.2, (m.3.0, m.3.1, m.3.2, m.3.3, (c.0, c.1, c.2, c.3.1, c.4)), b.2))

pub members_back : (d : ℕ) (l : json.Members) (x : List Word) → JsonMembers l d x → (found : List (Placed × Json)) × (json_members_of found ≡ l) × CommaList (Member d) found x
members_back d json.no_members x m = ([], refl, m)
members_back d (json.member k j rest) x m =
    let b = members_more_back d rest m.1 m.4 in
    let c = m.3 in
    ((record { bytes = k; at = c.3.0 }, j) ∷ b.0, ap (λ z. json.member k j z) b.1, (m.0, m.1, m.2, (c.0, c.1, c.2, c.3.1, c.4), b.2))

-- parameters
params_more : (found : List Placed) (x : List Word) → Many (Commaed (one lower_of)) found x → MoreParameters found x
params_more [] x m = m
params_more (a ∷ rest) x m = (m.0, m.1, m.2, m.3, params_more rest m.1 m.4)

pub params_spell : (found : List Placed) (x : List Word) → CommaList (one lower_of) found x → Parameters found x
params_spell [] x m = m
params_spell (a ∷ rest) x m = (m.0, m.1, m.2, m.3, params_more rest m.1 m.4)

params_more_back : (found : List Placed) (x : List Word) → MoreParameters found x → Many (Commaed (one lower_of)) found x
params_more_back [] x m = m
params_more_back (a ∷ rest) x m = (m.0, m.1, m.2, m.3, params_more_back rest m.1 m.4)

pub params_back : (found : List Placed) (x : List Word) → Parameters found x → CommaList (one lower_of) found x
params_back [] x m = m
params_back (a ∷ rest) x m = (m.0, m.1, m.2, m.3, params_more_back rest m.1 m.4)

-- parts of an attribute's name
abbrev pub Part : Placed → Phrase
Part = Lead (is_mark Minus) (one name_of)

pub parts_spell : (found : List Placed) (x : List Word) → Many Part found x → MoreParts found x
parts_spell [] x m = m
parts_spell (a ∷ rest) x m = (m.0, m.1, m.2, m.3, parts_spell rest m.1 m.4)

pub parts_back : (found : List Placed) (x : List Word) → MoreParts found x → Many Part found x
parts_back [] x m = m
parts_back (a ∷ rest) x m = (m.0, m.1, m.2, m.3, parts_back rest m.1 m.4)

-- declarations
pub declared_spell : (d : ℕ) (all : List Declaration) (x : List Word) → Many (DeclaresTo d) all x → DeclaresAllTo d all x
declared_spell d [] x m = m
declared_spell d (a ∷ rest) x m = (m.0, m.1, m.2, m.3, declared_spell d rest m.1 m.4)

pub declared_back : (d : ℕ) (all : List Declaration) (x : List Word) → DeclaresAllTo d all x → Many (DeclaresTo d) all x
declared_back d [] x m = m
declared_back d (a ∷ rest) x m = (m.0, m.1, m.2, m.3, declared_back d rest m.1 m.4)
