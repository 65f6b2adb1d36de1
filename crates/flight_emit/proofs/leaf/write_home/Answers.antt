use Rattle.std.proofs.Common.{sym, ◌∷◌, [], subst}
use Rattle.std.proofs.lemmas.Result.{on_ok_weaker}
use Rattle.flight_payload.specs.Written.{token_of}
use Rattle.flight_emit.specs.Log.{stage, Put}
use Rattle.flight_emit.specs.Nodes.{reference_place}
use Rattle.flight_emit.proofs.Known.{other_place}
use Rattle.flight_emit.proofs.leaf.write_home.Goals as goal

pub returns-in-Promise : goal.returns-in-Promise
returns-in-Promise c =
    on_ok_weaker c.put_promise.result (λ put homes. subst (λ z. Put (token_of (reference_place z c.args.at.now) ∷ []) (stage homes c.args.work.now) (stage homes c.put_promise.new.self)) (sym c.in-Promise.is) (put homes)) c.put_promise.ensures

pub returns-in-Action : goal.returns-in-Action
returns-in-Action c =
    on_ok_weaker c.put_action.result (λ put homes. subst (λ z. Put (token_of (reference_place z c.args.at.now) ∷ []) (stage homes c.args.work.now) (stage homes c.put_action.new.self)) (sym c.in-Action.is) (put homes)) c.put_action.ensures

pub returns-in_default : goal.returns-in_default
returns-in_default c =
    on_ok_weaker c.put_value.result (λ put homes. subst (λ z. Put (token_of z ∷ []) (stage homes c.args.work.now) (stage homes c.put_value.new.self)) (other_place c.args.sort c.args.at.now c.in_default.not-Promise c.in_default.not-Action) (put homes)) c.put_value.ensures
