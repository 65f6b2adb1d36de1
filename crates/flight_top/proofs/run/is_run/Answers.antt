use Rattle.std.proofs.Common.{◌≡◌, ◌∷◌, [], List, ℕ, sym, ◌∙◌, ap}
use Rattle.flight_top.proofs.Dues.{one_word, first_of}
use Rattle.flight_top.proofs.run.is_run.Goals as goal

pub returns-in-len1 : goal.returns-in-len1
returns-in-len1 c =
    let one = one_word c.args.words.now c.word-item.result c.in-len1.len_at_least c.in-len1.len_below c.word-item.is in (
      λ is. one ∙ ap (λ (word : List ℕ). word ∷ []) (c.is_word.ensures.0 is),
      λ is. c.is_word.ensures.1 (ap first_of (sym one ∙ is)),
    )
