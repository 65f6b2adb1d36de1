-- What continues an expression.
use Rattle.std.proofs.Common.{◌≡◌, ℕ, Bool, true, false, Option, Some, None, refl, ap, ◌∙◌}
use Rattle.flight_syntax.specs.declared.word.Keyword.{Keyword}
use Rattle.flight_syntax.specs.declared.word.Keyword.TheVariants.{With}
use Rattle.flight_syntax.specs.declared.word.Punctuator.{Punctuator}
use Rattle.flight_syntax.specs.declared.word.Punctuator.TheVariants.{Dot, OpenBracket}
use Rattle.flight_syntax.specs.Lexicon.{Word, key, mark, beyond, is_key, is_mark}
use Rattle.flight_syntax.specs.Tree.{Tree, let_in, if_else, for_in, throw, action, too_deep, too_many}
use Rattle.flight_grammar.specs.Reading.{is_some, at}
use Rattle.flight_grammar.specs.Reader.{starts_post}
use Rattle.flight_grammar.proofs.Exact.{IsMeek, none, or, meek_none, meek_or}
use Rattle.flight_grammar.proofs.Parts.{meek_at}
use Rattle.flight_grammar.proofs.Choices.{IsApart}
use Rattle.flight_grammar.proofs.Terminals.{key_is, mark_is, the_key}

abbrev pub after : Tree → Word → Bool
after (let_in named value rest) = after rest
after (if_else test yes_one other) = after other
after (for_in named over give) = after give
after (throw value) = after value
after (action named) = or (at (is_key With)) starts_post
after too_deep = none
after (too_many of) = none
after _ = starts_post

-- a word that a test takes is that keyword, or that mark
some_of : {A : Type 0} (o : Option A) → is_some o ≡ true → (a : A) × (o ≡ Some a)
some_of (Some a) e = (a, refl)
some_of None e = absurd cc

pub at_key : (k : Keyword) (f : Word → Bool) → ((at : ℕ) → f (key k at) ≡ false) → (w : Word) → at (is_key k) w ≡ true → f w ≡ false
at_key k f h w e = let s = some_of (is_key k w) e in let i = key_is k w s.0 s.1 in ap f i.1 ∙ h i.0

pub at_mark : (m : Punctuator) (f : Word → Bool) → f (mark m) ≡ false → (w : Word) → at (is_mark m) w ≡ true → f w ≡ false
at_mark m f h w e = let s = some_of (is_mark m w) e in ap f (mark_is m w s.0 s.1) ∙ h

pub after_apart : (test : Word → Bool) → ((w : Word) → test w ≡ true → starts_post w ≡ false) → ((w : Word) → test w ≡ true → at (is_key With) w ≡ false) → IsApart test after
after_apart test h k (let_in n v b) w e = after_apart test h k b w e
after_apart test h k (if_else t y o) w e = after_apart test h k o w e
after_apart test h k (for_in n o g) w e = after_apart test h k g w e
after_apart test h k (throw v) w e = after_apart test h k v w e
after_apart test h k (action n) w e = rw (k w e) (h w e)
after_apart test h k too_deep w e = refl
after_apart test h k (too_many of) w e = refl
after_apart test h k _ w e = h w e

pub meek_post : IsMeek starts_post
meek_post = record { at_deep = refl; at_beyond = beyonds }
  where
    beyonds : (m : Punctuator) → starts_post (mark m) ≡ false → starts_post (beyond m) ≡ false
    beyonds Dot e = absurd cc
    beyonds OpenBracket e = absurd cc
    beyonds _ e = refl

pub meek_after : (tree : Tree) → IsMeek (after tree)
meek_after (let_in n v b) = meek_after b
meek_after (if_else t y o) = meek_after o
meek_after (for_in n o g) = meek_after g
meek_after (throw v) = meek_after v
meek_after (action n) = meek_or (at (is_key With)) starts_post (meek_at (is_key With) (the_key With)) meek_post
meek_after too_deep = meek_none
meek_after (too_many of) = meek_none
meek_after _ = meek_post

pub key_after : (k : Keyword) → ((place : ℕ) → at (is_key With) (key k place) ≡ false) → IsApart (at (is_key k)) after
key_after k h = after_apart (at (is_key k)) (at_key k starts_post (λ at. refl)) (at_key k (at (is_key With)) h)

pub mark_after : (m : Punctuator) → starts_post (mark m) ≡ false → IsApart (at (is_mark m)) after
mark_after m h = after_apart (at (is_mark m)) (at_mark m starts_post h) (at_mark m (at (is_key With)) refl)
