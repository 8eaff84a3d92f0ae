use Rattle.std.proofs.Common.{◌≡◌, ◌≤◌, length}
use mathlib.Core.Path.{refl}
use native.Mathlib.Omega.{arith}
use lib.ListN.{length-set}
use Rattle.laws.specs.Dictionary.Lexicon.{IsAdmitted, admitted_get}
use Rattle.laws.specs.Dictionary.WordStarts.{filling_start, filling_step, filling_end, filling_at}
use Rattle.laws.specs.Match.MatchTable.{chained_start, next_some, next_room, next_chained, chained_all}
use Rattle.matching.proofs.table.fill_match_table.Goals as goal

pub loop-i-init : goal.loop-i-init
loop-i-init c =
    (filling_start c.args.lengths.now c.args.word_starts.now c.requires.starts_len, chained_start c.requires, refl, refl)

pub bucket_of_word-b-requires : goal.bucket_of_word-b-requires
bucket_of_word-b-requires c =
    let below = c.loop-i-test.true in
    (next_some c.requires c.loop-i.invariant.0 below, next_room c.requires c.loop-i.invariant.0 below)

pub overflow_cast-word_starts : goal.overflow_cast-word_starts
overflow_cast-word_starts c =
    let facts : IsAdmitted c.args.chars.now c.args.lengths.now = admitted_get _ _ c.requires.dictionary in
    let small : c.loop-i.at ≤ 65535 = omega (arith, filling_at _ _ c.loop-i.invariant.0, facts.sum, facts.small) in
    omega (arith, small)

pub overflow_cast-heads : goal.overflow_cast-heads
overflow_cast-heads c =
    let facts : IsAdmitted c.args.chars.now c.args.lengths.now = admitted_get _ _ c.requires.dictionary in
    let few : c.loop-i.i ≤ 4096 = omega (arith, facts.few, c.loop-i.invariant.0.within) in
    omega (arith, few)

pub overflow_add-at : goal.overflow_add-at
overflow_add-at c =
    let facts : IsAdmitted c.args.chars.now c.args.lengths.now = admitted_get _ _ c.requires.dictionary in
    omega (arith, next_room c.requires c.loop-i.invariant.0 c.loop-i-test.true, facts.small)

pub loop-i-preserved : goal.loop-i-preserved
loop-i-preserved c = (
  filling_step c.args.lengths.now c.args.word_starts.now c.loop-i.invariant.0 c.loop-i-test.true,
  next_chained c.requires c.loop-i.invariant.0 c.loop-i-test.true c.loop-i.invariant.1 c.bucket_of_word-b.ensures,
  simp length-set c.loop-i.invariant.2,
  simp length-set c.loop-i.invariant.3,
)

pub overflow_cast-word_starts-2 : goal.overflow_cast-word_starts-2
overflow_cast-word_starts-2 c =
    let facts : IsAdmitted c.args.chars.now c.args.lengths.now = admitted_get _ _ c.requires.dictionary in
    omega (arith, filling_at _ _ c.loop-i.invariant.0, facts.sum, facts.small)

pub returns-clause-starts : goal.returns-clause-starts
returns-clause-starts c =
    let all : length c.args.lengths.now ≡ c.loop-i.i = omega (arith, c.loop-i.invariant.0.within, c.loop-i-test.false) in
    rw all (filling_end c.args.lengths.now c.args.word_starts.now c.loop-i.invariant.0 c.loop-i-test.false)

pub returns-clause-table : goal.returns-clause-table
returns-clause-table c =
    let all : length c.args.lengths.now ≡ c.loop-i.i = omega (arith, c.loop-i.invariant.0.within, c.loop-i-test.false) in
    let filled = filling_end c.args.lengths.now c.args.word_starts.now c.loop-i.invariant.0 c.loop-i-test.false in
    rw all
    (rw all at (chained_all c.requires filled c.loop-i.invariant.1 (omega (arith, c.loop-i.invariant.0.within, c.loop-i-test.false))))
