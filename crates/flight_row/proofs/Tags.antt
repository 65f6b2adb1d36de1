-- What no byte behind a colon says.
use Rattle.std.proofs.Common.{◌≡◌, ◌≢◌, ℕ, Bool, true, false, nat_eq, refl, sym, ◌∙◌, ap}
use Rattle.std.specs.Prelude.{if◌then◌else◌}
use Rattle.flight_value.specs.declared.graph.Flow.TheVariants.{Readable, Iterable, Iterator}
use Rattle.flight_row.specs.declared.row.RowKind.TheVariants.{Model, Import, Error, Text, Open, Close}
use Rattle.flight_row.specs.declared.tag.Tag.{Tag}
use Rattle.flight_row.specs.declared.tag.Tag.TheVariants.{Plain, Sized, Line, Hint, Dev, Unknown}
use Rattle.flight_row.specs.Rows.{tag_of, is_dev, is_unknown}

-- a model row has no tag, and the tag of a text row is not that of a line
is_read : Tag → Bool
is_read (Line Model) = false
is_read (Line Text) = false
is_read _ = true

chain : (c0 c1 c2 c3 c4 c5 c6 c7 c8 c9 : Bool) → is_read (if c0 then Sized else (if c1 then (Line Import) else (if c2 then (Line Error) else (if c3 then (Line (Open Readable)) else (if c4 then (Line (Open Iterable)) else (if c5 then (Line (Open Iterator)) else (if c6 then (Line Close) else (if c7 then Hint else (if c8 then Dev else (if c9 then Unknown else (Plain))))))))))) ≡ true
unfolding is_read
chain true c1 c2 c3 c4 c5 c6 c7 c8 c9 = refl
chain false true c2 c3 c4 c5 c6 c7 c8 c9 = refl
chain false false true c3 c4 c5 c6 c7 c8 c9 = refl
chain false false false true c4 c5 c6 c7 c8 c9 = refl
chain false false false false true c5 c6 c7 c8 c9 = refl
chain false false false false false true c6 c7 c8 c9 = refl
chain false false false false false false true c7 c8 c9 = refl
chain false false false false false false false true c8 c9 = refl
chain false false false false false false false false true c9 = refl
chain false false false false false false false false false true = refl
chain false false false false false false false false false false = refl

tag_of-is_read : (b : ℕ) → is_read (tag_of b) ≡ true
unfolding tag_of
tag_of-is_read b = chain (nat_eq b 84) (nat_eq b 73) (nat_eq b 69) (nat_eq b 82) (nat_eq b 88) (nat_eq b 120) (nat_eq b 67) (nat_eq b 72) (is_dev b) (is_unknown b)

pub tag_of-not_model : (b : ℕ) → tag_of b ≢ Line Model
unfolding is_read
tag_of-not_model b e = let same : false ≡ true = ap is_read (sym e) ∙ tag_of-is_read b in cc

pub tag_of-not_text : (b : ℕ) → tag_of b ≢ Line Text
unfolding is_read
tag_of-not_text b e = let same : false ≡ true = ap is_read (sym e) ∙ tag_of-is_read b in cc

-- a newline ends an empty model row
pub tag_of-newline : tag_of 10 ≡ Plain
unfolding tag_of
tag_of-newline = refl
