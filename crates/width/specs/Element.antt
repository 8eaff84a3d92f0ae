-- The element of an index's slices, as proofs that name the type of a slice name it. Assumes nothing: this is a definition.
use Rattle.std.specs.Borrow.{RattleType, u16}

abbrev pub number : RattleType
number = u16
