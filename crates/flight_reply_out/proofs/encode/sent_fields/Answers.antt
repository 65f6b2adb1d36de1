use Rattle.std.proofs.Common.{◌≡◌, ◌∙◌, List, length, sym, subst, ap}
use Rattle.flight_value.specs.declared.graph.Node.{Node}
use Rattle.flight_reply.specs.declared.field.Field.{Field}
use Rattle.flight_reply_out.specs.Origins.{AreOrigins}
use Rattle.flight_reply_out.specs.Known.{AreGood}
use Rattle.flight_reply_out.specs.Fields.{fields_of, fields_under}
use Rattle.flight_reply_out.proofs.Sending.{all_good}
use Rattle.flight_reply_out.proofs.Gathering.{from_ok, homes_count, fields_are}
use Rattle.flight_reply_out.proofs.encode.sent_fields.Goals as goal

pub origins-requires : goal.origins-requires
origins-requires c = subst (λ (nodes : List Node). AreGood nodes) (sym c.as_slice-nodes.ensures) (all_good c.args.canon.now c.requires.valid c.requires.sent)

pub write_fields-requires-clause-drawn : goal.write_fields-requires-clause-drawn
write_fields-requires-clause-drawn c =
    let nodes = c.as_slice-nodes.result.now in
    record {
      good = subst (λ (nodes : List Node). AreGood nodes) (sym c.as_slice-nodes.ensures) (all_good c.args.canon.now c.requires.valid c.requires.sent);
      origins = subst (AreOrigins nodes) (sym c.as_slice-2.ensures.value) c.in_ok-origins.ensures;
      homes = ap length (c.as_slice-3.ensures.value ∙ c.in_ok-homes.ensures.homes) ∙ homes_count nodes;
    }

pub returns : goal.returns
returns c =
    let nodes = c.as_slice-nodes.result.now in
    let homes = c.as_slice-3.result.now in
    let g = c.args.canon.now in
    from_ok (λ (fields : List Field). fields ≡ fields_under nodes homes g.root) (λ (fields : List Field). fields ≡ fields_of g) c.write_fields.result
    (λ fields. fields_are g nodes homes fields c.as_slice-nodes.ensures (c.as_slice-3.ensures.value ∙ c.in_ok-homes.ensures.homes)) c.write_fields.ensures
