use Rattle.std.proofs.Common.{refl}
use Rattle.std.specs.Prelude.{ℕ, List, slice_index_or}
use Rattle.flight_graph.specs.Text.{number_text}
use Rattle.flight_link.specs.declared.gap.Gap.{Gap}
use Rattle.flight_link.specs.declared.key.NodeKey.{NodeKey}
use Rattle.flight_link.specs.declared.key.NodeKey.TheVariants.{Made}
use Rattle.flight_link.specs.Laid.{IsNumbered, number_in}
use Rattle.flight_link.specs.Numbering.{IsKey}
use Rattle.flight_link.proofs.Drafts.{gap-key, gap-keys, gap-fits, gap-numbered, gap-filled, none_left, all_filled}
use Rattle.flight_link.proofs.table.Table.fill_gaps.Goals as goal

-- what stands for a gap that is not there
abbrev none : Gap
none = record { before = 0; key = Made (record { row = 0; place = 0 }) }

pub fill_gap-requires-clause-key : goal.fill_gap-requires-clause-key
fill_gap-requires-clause-key c =
    let gaps = c.args.gaps.now in
    let i = c.loop-gap.gap-index in
    gap-key (IsKey c.args.self.now.rows.items) c.loop-gap.rest.now gaps i (slice_index_or gaps i none) none c.loop-gap-test.true refl c.loop-gap.invariant.keys

pub loop-gap-preserved : goal.loop-gap-preserved
loop-gap-preserved c =
    let rows = c.args.self.now.rows.items in
    let numbers = c.args.numbers.now in
    let gaps = c.args.gaps.now in
    let i = c.loop-gap.gap-index in
    let gap : Gap = slice_index_or gaps i none in
    let old : List ℕ = c.loop-gap.rest.now in
    let rest : List ℕ = c.in_ok-rest.rest.now in
    let f : NodeKey → List ℕ = λ key. number_text (number_in rows numbers key) in
    let done = c.in_ok-rest.ensures in
    let so_far = c.loop-gap.invariant in
    record {
      text = gap-filled f old rest gaps i gap none c.loop-gap.out c.fill_gap.new.out _ c.loop-gap-test.true refl done.rest done.text so_far.text;
      numbered = λ h. so_far.numbered (gap-numbered (IsNumbered rows numbers) old rest gaps i gap none c.loop-gap-test.true refl done.rest done.numbered h);
      fits = gap-fits old rest gaps i gap none c.loop-gap-test.true refl done.rest so_far.fits;
      keys = gap-keys (IsKey rows) old rest gaps i gap none c.loop-gap-test.true refl done.rest so_far.keys;
    }

pub returns-clause-numbered : goal.returns-clause-numbered
returns-clause-numbered c = c.loop-gap.invariant.numbered (none_left (IsNumbered c.args.self.now.rows.items c.args.numbers.now) c.loop-gap.rest.now c.args.gaps.now c.loop-gap.gap-index c.loop-gap-test.false)

pub returns-clause-text : goal.returns-clause-text
returns-clause-text c =
    let f : NodeKey → List ℕ = λ key. number_text (number_in c.args.self.now.rows.items c.args.numbers.now key) in
    all_filled f c.loop-gap.rest.now c.args.gaps.now c.loop-gap.gap-index c.loop-gap.out _ c.loop-gap-test.false c.loop-gap.invariant.text
