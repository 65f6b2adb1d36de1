use Rattle.std.proofs.Common.{◌∙◌}
use Rattle.flight_rendering_tests.proofs.Called.{call_put}
use Rattle.flight_rendering_tests.proofs.plain.call.Goals as goal

pub returns-clause-valid : goal.returns-clause-valid
returns-clause-valid c =
    call_put c.in_ok-add.field-0 c.in_ok-app.field-0 c.in_ok-two_and_three.field-0 c.new.result c.new-3.result c.new-5.result c.new-7.result
    c.in_ok-add.ensures c.in_ok-app.ensures c.in_ok-two_and_three.ensures
    (c.new.ensures ∙ c.in_ok-declared.ensures.items) (c.new-3.ensures ∙ c.new-2.ensures.items) (c.new-5.ensures ∙ c.new-4.ensures.items) (c.new-7.ensures ∙ c.new-6.ensures.items)
