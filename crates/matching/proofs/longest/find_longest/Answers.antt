-- `find_longest` meets its contract: the pair's chain decides, or the position is covered, or the single character's chain decides.
use Rattle.std.proofs.Common.{◌≡◌, Option, Some, None, is_some, false, refl}
use native.Mathlib.Omega.{arith}
use Rattle.laws.specs.Match.LongestWord.{found_single}
use Rattle.matching.specs.declared.longest.Found.{Found}
use Rattle.matching.specs.Answers.{number_of}
use Rattle.matching.proofs.longest.find_longest.Goals as goal

none_number : (o : Option Found) → false ≡ is_some o → number_of o ≡ 0
none_number (Some f) e = cc
none_number None e = refl

pub returns-in_err-number : goal.returns-in_err-number
returns-in_err-number c =
    let single = found_single c.args.table.now.words.started c.args.text.now c.args.at c.args.end c.find_pair-pair.ensures
    (none_number c.find_pair-pair.result c.if-is_some.ensures) c.if-at-end.false c.in_err-number.ensures in
    rw c.from_residual.ensures (record { none = single.none; some = λ i z. absurd (omega (arith, z)) })
