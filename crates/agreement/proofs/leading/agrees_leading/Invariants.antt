-- `agrees_leading` meets its contract. The invariant: the key agrees at no offset from -`least` down to above -`at`.
use Rattle.laws.specs.Window.LeadingLines.{ApartTo}
use Rattle.agreement.proofs.leading.agrees_leading.Given as goal

abbrev pub invariant-loop-at : goal.invariant-loop-at
invariant-loop-at l = ApartTo l.least l.string l.key l.at
