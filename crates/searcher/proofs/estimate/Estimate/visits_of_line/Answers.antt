-- `visits_of_line` meets its contract: a count is a number of the index, and a word has at most 32 characters.
use Rattle.std.proofs.Common.{◌≡◌, ◌*◌, ◌≤◌, ◌<◌, ℕ, List, length}
use native.Mathlib.Nat.{mul-le-mul}
use native.Mathlib.Omega.{arith}
use Rattle.spec.specs.Words.{spells}
use Rattle.spec.specs.Index.{greatest_number, keys_of, key_at}
use Rattle.laws.specs.Directory.Tables.{spelt_short}
use Rattle.dictionary.specs.Words.{lexicon_of}
use Rattle.directory.specs.declared.lines.Directory.{Directory}
use Rattle.directory.specs.Directory.{directory_reads}
use Rattle.searcher.proofs.estimate.Estimate.visits_of_line.Goals as goal

whole :
    (d : Directory) (i count : ℕ) (word : List ℕ) → i < keys_of d.index.now → count ≤ greatest_number →
    word ≡ spells (lexicon_of d.words) (key_at d.index.now i) → count * length word ≤ greatest_number * 32
whole d i count word below small is =
    mul-le-mul {n₂ = greatest_number} small (spelt_short (directory_reads d).can i below word is)

pub count_at-count-requires : goal.count_at-count-requires
count_at-count-requires c =
    let e = c.args.self.now in
    omega (arith, e.split.within, (directory_reads e.directory).can.fits)

pub overflow_mul-result : goal.overflow_mul-result
overflow_mul-result c =
    let e = c.args.self.now in
    omega (
      arith,
      whole e.directory c.args.line c.count_at-count.result c.word.result.now (omega (arith, e.split.within)) (omega arith) c.word.ensures,
    )

pub returns-then-whole : goal.returns-then-whole
returns-then-whole c =
    let e = c.args.self.now in
    omega (
      arith,
      whole e.directory c.args.line c.count_at-count.result c.word.result.now (omega (arith, e.split.within)) (omega arith) c.word.ensures,
    )
