-- `build` meets its contract: the answer of `index_text`, and the work slice cleared after it.
use Rattle.std.proofs.Common.{ℕ, ap, ◌∙◌, replicate}
use Rattle.spec.specs.Calls.{BuildSays, zeros}
use Rattle.builder.proofs.build.build.Goals as goal

pub returns : goal.returns
unfolding BuildSays zeros
returns c =
    let built = c.index_text-built in
    (built.ensures, c.clear.ensures ∙ ap (λ (n : ℕ). replicate n 0) built.auto.work)
