use Rattle.std.proofs.Common.{◌≡◌, ◌∷◌, [], List, ℕ, sym, ◌∙◌, ap, codes, string_bytes, subst, true, false}
use Rattle.flight_top.specs.Due.{texts}
use Rattle.flight_top.proofs.Dues.{one_word}
use Rattle.flight_top.proofs.OneOption.{two_words, three_words, number_of_two, number_of_three, other_command, other_option, by_itself}
use Rattle.flight_top.proofs.words.numbered.Goals as goal

pub returns-in-len1-clause-is : goal.returns-in-len1-clause-is
returns-in-len1-clause-is c =
    by_itself c.args.command.now c.args.option.now c.args.most (texts c.args.words.now) (string_bytes c.word-item.result)
    (one_word c.args.words.now c.word-item.result c.in-len1.len_at_least c.in-len1.len_below c.word-item.is)
    (c.is_word.ensures.0 c.if-is_word.true)

pub returns-in-len2-clause-is : goal.returns-in-len2-clause-is
returns-in-len2-clause-is c =
    let some = rw c.as_str.ensures.value at c.joined_number.ensures.some in
    let none = rw c.as_str.ensures.value at c.joined_number.ensures.none in
    number_of_two c.args.command.now c.args.option.now c.args.most c.joined_number.result (texts c.args.words.now) (string_bytes c.word-item-then-words-lt3.result) (string_bytes c.joined-item.result)
    (two_words c.args.words.now c.word-item-then-words-lt3.result c.joined-item.result c.in-len2.len_at_least c.in-len2.len_below c.word-item-then-words-lt3.is c.joined-item.is)
    (c.is_word-then-words-lt3.ensures.0 c.if-is_word-2.true) some none

pub returns-in-len3-clause-is : goal.returns-in-len3-clause-is
returns-in-len3-clause-is c =
    let found = rw c.as_str-in-len3.ensures.value at c.number_in.ensures in
    number_of_three c.args.command.now c.args.option.now c.args.most c.number_in.result (texts c.args.words.now) (string_bytes c.word-item-then-words-lt4.result) (string_bytes c.name-item.result) (string_bytes c.value-item.result)
    (three_words c.args.words.now c.word-item-then-words-lt4.result c.name-item.result c.value-item.result c.in-len3.len_at_least c.in-len3.len_below c.word-item-then-words-lt4.is c.name-item.is c.value-item.is)
    (c.is_word-then-words-lt4.ensures.0 c.if-is_word-3.true) (c.is_word-then-is_word-3.ensures.0 c.if-is_word-4.true) found

pub returns-in_default-4-clause-is : goal.returns-in_default-4-clause-is
returns-in_default-4-clause-is c =
    other_option c.args.command.now c.args.option.now c.args.most (texts c.args.words.now) (string_bytes c.word-item-then-words-lt4.result) (string_bytes c.name-item.result) (string_bytes c.value-item.result)
    (three_words c.args.words.now c.word-item-then-words-lt4.result c.name-item.result c.value-item.result c.in-len3.len_at_least c.in-len3.len_below c.word-item-then-words-lt4.is c.name-item.is c.value-item.is)
    (λ is. let other = c.if-is_word-4.ensures in let e : false ≡ true = other.1 is in cc)

pub returns-in_default-5-clause-is : goal.returns-in_default-5-clause-is
returns-in_default-5-clause-is c =
    other_command c.args.command.now c.args.option.now c.args.most (texts c.args.words.now) (string_bytes c.word-item-then-words-lt4.result) (string_bytes c.name-item.result) (string_bytes c.value-item.result)
    (three_words c.args.words.now c.word-item-then-words-lt4.result c.name-item.result c.value-item.result c.in-len3.len_at_least c.in-len3.len_below c.word-item-then-words-lt4.is c.name-item.is c.value-item.is)
    (λ is. let other = c.if-is_word-3.ensures in let e : false ≡ true = other.1 is in cc)
