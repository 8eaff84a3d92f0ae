use Rattle.std.proofs.Common.{◌≡◌, ◌+◌, ◌<◌, get_or, get_or-drop, take, take_all, drop, length, length-drop, ℕ, ◌-◌, List}
use Rattle.models.specs.WordStarts.{lexicon_at}
use Rattle.laws.specs.Match.Columns.{Column}
use mathlib.Core.Path.{ap, sym, ◌∙◌}
use native.Mathlib.Omega.{arith}
use Rattle.basics.specs.LowerBound.{bound_first, bound_last}
use Rattle.models.specs.WordStarts.{word_len}
use Rattle.laws.specs.Match.Columns.{run_known, run_hit, run_deep, run_column, run_stop, run_step}
use Rattle.laws.specs.Match.MatchTable.{Started, many_words}
use Rattle.laws.specs.Match.PrefixRanges.{PrefixRange, prefix_range_start}
use Rattle.matching.proofs.ranges.find_last_standing.Goals as goal

-- the first word of the range has more characters, by its length n that the code reads
other : {n len d : ℕ} → n ≡ len → (n ≡ d → ⊥) → len ≡ d → ⊥
other is more e = more (is ∙ e)

-- so the range has a column
next_column :
    {cs ws ts : List ℕ} {p k lo hi d best n : ℕ} → Started cs ws → PrefixRange (lexicon_at cs ws).words ts p k lo hi d best → lo < hi →
    n ≡ word_len ws lo → (n ≡ d → ⊥) → Column cs ws lo hi d
next_column t h some is more = run_column t h some (other is more)

-- the character at this depth of what is left of the text is the text's own, its position counted from 1
next : (ts : List ℕ) (at d : ℕ) {c : ℕ} → c ≡ get_or (take (length ts - at) (drop at ts)) d 0 → c ≡ get_or ts (at + 1 + d - 1) 0
next ts at d is =
    let position : at + d ≡ at + 1 + d - 1 = omega arith in
    let whole = take_all (length ts - at) (drop at ts) (omega (arith, length-drop at ts)) in
    is ∙ ap (λ (l : List ℕ). get_or l d 0) whole ∙ get_or-drop at ts d 0 ∙ ap (λ (i : ℕ). get_or ts i 0) position

pub loop-low-init : goal.loop-low-init
loop-low-init c = prefix_range_start (omega (arith, many_words c.args.words.now.started)) (omega arith) (omega arith)

pub word_len-requires : goal.word_len-requires
word_len-requires c = run_known c.args.words.now.started c.loop-low.invariant c.loop-low-test.true

pub loop-low-preserved-then-word_len-depth : goal.loop-low-preserved-then-word_len-depth
loop-low-preserved-then-word_len-depth c =
    run_hit c.args.words.now.started c.loop-low.invariant c.loop-low-test.true
    (sym c.word_len.ensures.0 ∙ c.if-word_len-depth.true)

pub returns-then-rest-depth : goal.returns-then-rest-depth
returns-then-rest-depth c =
    run_stop c.args.words.now.started c.loop-low.invariant c.loop-low-test.true (other c.word_len.ensures.0 c.if-word_len-depth.false)
    (omega arith)

pub at-requires : goal.at-requires
at-requires c =
    let words =
    next_column c.args.words.now.started c.loop-low.invariant c.loop-low-test.true c.word_len.ensures.0 c.if-word_len-depth.false in
    (omega (arith, words.known), words.room c.loop-low.low (omega arith) (omega arith))

pub at-requires-then-at-c : goal.at-requires-then-at-c
at-requires-then-at-c c =
    let words =
    next_column c.args.words.now.started c.loop-low.invariant c.loop-low-test.true c.word_len.ensures.0 c.if-word_len-depth.false in
    (omega (arith, words.known), words.room (c.loop-low.high - 1) (omega arith) (omega arith))

pub char_range-requires-clause-letters : goal.char_range-requires-clause-letters
char_range-requires-clause-letters c =
    next_column c.args.words.now.started c.loop-low.invariant c.loop-low-test.true c.word_len.ensures.0 c.if-word_len-depth.false

pub loop-low-smaller-then-at-c-2 : goal.loop-low-smaller-then-at-c-2
loop-low-smaller-then-at-c-2 c =
    let deep : c.loop-low.depth < 32 =
    run_deep c.args.words.now.started c.loop-low.invariant c.loop-low-test.true (other c.word_len.ensures.0 c.if-word_len-depth.false) in
    omega (arith, deep)

pub loop-low-preserved-then-at-c-2 : goal.loop-low-preserved-then-at-c-2
loop-low-preserved-then-at-c-2 c =
    let rising =
    (next_column c.args.words.now.started c.loop-low.invariant c.loop-low-test.true c.word_len.ensures.0
    c.if-word_len-depth.false).rising in
    run_step c.args.words.now.started c.loop-low.invariant c.loop-low-test.true (other c.word_len.ensures.0 c.if-word_len-depth.false)
    (next c.args.text.now c.args.at c.loop-low.depth c.number_at-c.ensures.0) (omega arith)
    (bound_first rising c.number_at-c.result (omega arith) (omega arith))
    (bound_last rising (c.number_at-c.result + 1) (omega arith) (omega arith))

pub loop-low-preserved : goal.loop-low-preserved
loop-low-preserved c =
    run_step c.args.words.now.started c.loop-low.invariant c.loop-low-test.true (other c.word_len.ensures.0 c.if-word_len-depth.false)
    (next c.args.text.now c.args.at c.loop-low.depth c.number_at-c.ensures.0) (omega arith)
    c.char_range.ensures.0 c.char_range.ensures.1
