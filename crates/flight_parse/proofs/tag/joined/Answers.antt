use Rattle.std.proofs.Common.{◌≡◌, ◌+◌, ◌∷◌, ◌++◌, [], drop, map, ap, sym, ◌∙◌}
use Rattle.std.proofs.lemmas.List.{drop_more}
use Rattle.std.specs.Prelude.{string_bytes}
use Rattle.flight_syntax.specs.Tree.{joined_bytes}
use Rattle.flight_parse.specs.Code.{placed}
use Rattle.flight_parse.proofs.Names.{joined_more}
use Rattle.flight_parse.proofs.tag.joined.Goals as goal

pub loop-part-preserved : goal.loop-part-preserved
loop-part-preserved c =
    let ps = c.args.parts.now in
    let i = c.loop-part.part-index in
    let part = c.part-item.result in
    let rest = map placed (drop (i + 1) ps) in
    let more : drop i ps ≡ part ∷ drop (i + 1) ps = drop_more ps i part c.loop-part-test.true ∙ ap (λ x. x ∷ drop (i + 1) ps) (sym c.part-item.is) in
    ap (λ b. joined_bytes b rest) c.in_ok-push_str-2.ensures.bytes
    ∙ (ap (λ b. joined_bytes (b ++ c.as_str-in-loop-part.result.now) rest) c.in_ok-push_str.ensures.bytes
    ∙ (ap (λ b. joined_bytes ((string_bytes c.loop-part.bytes ++ 45 ∷ []) ++ b) rest) c.as_str-in-loop-part.ensures
    ∙ (joined_more (string_bytes c.loop-part.bytes) part.bytes (map placed (drop (i + 1) ps))
    ∙ (ap (λ qs. joined_bytes (string_bytes c.loop-part.bytes) (map placed qs)) (sym more) ∙ c.loop-part.invariant))))
