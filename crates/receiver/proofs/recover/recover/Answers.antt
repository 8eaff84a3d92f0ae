-- `recover` meets its contract: the answer of `write_text`, and the work slice cleared after it.
use Rattle.std.proofs.Common.{◌∙◌}
use Rattle.spec.specs.Calls.{RecoverSays}
use Rattle.laws.specs.Receive.Receiving.{zeros_alike}
use Rattle.receiver.proofs.recover.recover.Goals as goal

pub returns : goal.returns
unfolding RecoverSays
returns c =
    let recovered = c.write_text-recovered in
    (recovered.ensures, c.clear.ensures ∙ zeros_alike c.args.work.now recovered.new.work recovered.auto.work)
