-- `holds_at_each` meets its contract: each position lies in the text, and a character stands exactly where the text has it.
use Rattle.std.proofs.Common.{◌≡◌, ◌≤◌, ◌-◌, ◌<◌, ◌∙◌, length, get_or, rules, tests, arith}
use Rattle.std.proofs.lemmas.Iterator.{YieldsList-from_slice}
use Rattle.std.proofs.lemmas.Iterator.Adapters.{serves_from_places}
use Rattle.std.proofs.lemmas.List.{get_or_default}
use Rattle.reconstruction.proofs.matches.holds_at_each.Goals as goal

pub all-requires-clause-callable : goal.all-requires-clause-callable
all-requires-clause-callable c =
    let ps = c.args.positions.now in
    serves_from_places (YieldsList-from_slice ps cc) (λ x q k. search (rules, tests))
    (λ x k b is.
    let same : x.now ≡ get_or ps k 0 = is ∙ get_or_default ps k _ 0 b in
    let from : 1 ≤ x.now = omega (arith, same, c.requires.from k b) in
    let to : x.now - 1 < length c.args.text.now = omega (arith, same, c.requires.to k b) in
    search (rules, arith))
