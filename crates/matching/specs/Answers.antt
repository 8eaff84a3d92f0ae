-- What a search answers, in the numbers that the laws speak of: one more than a word's number, or 0 where there is none.
use Rattle.std.specs.Prelude.{ℕ, ◌+◌, Option, Some, None}
use Rattle.matching.specs.declared.longest.Found.{Found}

-- one more than a word's number, or 0
abbrev pub plus_one : Option ℕ → ℕ
plus_one (Some i) = i + 1
plus_one None = 0

-- one more than the number of the word that is found, or 0
abbrev pub number_of : Option Found → ℕ
number_of (Some f) = f.number + 1
number_of None = 0

-- the length of the word that is found, or 0
abbrev pub len_of : Option Found → ℕ
len_of (Some f) = f.len
len_of None = 0
