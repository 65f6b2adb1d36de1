use Rattle.std.proofs.Common.{◌≡◌, ℕ, true, false, List, [], ◌∷◌, ◌++◌, length, vec_len, refl, sym, ◌∙◌, arith, eq-eqb}
use Rattle.flight_feed.proofs.begun.Begun.is_empty.Goals as goal

front : (a b : List ℕ) → a ++ b ≡ [] → a ≡ []
front [] b e = refl
front (x ∷ a) b e = cc

pub returns-else-is_empty : goal.returns-else-is_empty
returns-else-is_empty c =
    let here = c.args.self.now in
    let no : c.is_empty.result ≡ false = c.if-is_empty.false in (
      λ yes. let both : true ≡ false = sym yes ∙ no in cc,
      λ none. let same = front here.head.items here.payload.items none in let k = here.head.ok in let j : length here.head.items ≡ 0 = rw same refl in c.is_empty.ensures ∙ eq-eqb (vec_len here.head) 0 (omega (arith, k, j)),
    )
