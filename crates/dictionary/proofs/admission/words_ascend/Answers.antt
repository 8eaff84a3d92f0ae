use Rattle.std.specs.Prelude.{◌≡◌, ℕ, ◌+◌, ◌<◌, List, ◌∷◌, length, get_or}
use Rattle.std.proofs.Common.{add-one}
use mathlib.Core.Path.{sym, ◌∙◌}
use native.Mathlib.Omega.{arith}
use Rattle.laws.specs.Dictionary.Admission.{words_start, words_end, words_step, words_stop, next_some, next_room, no_words}
use Rattle.dictionary.proofs.admission.words_ascend.Goals as goal

-- the lengths are the first one and the rest
module _ {ls rest : List ℕ} {x : ℕ} (split : ls ≡ x ∷ rest) where
  first_at : x ≡ get_or ls 0 0
  first_at = rw split

  rest_at : (i : ℕ) → get_or rest i 0 ≡ get_or ls (i + 1) 0
  rest_at i = rw (split, add-one i)

pub returns-in_default : goal.returns-in_default
returns-in_default c = no_words c.args.chars.now c.args.lengths.now c.in_default.ensures.cases

pub prefix_code-at_code-requires : goal.prefix_code-at_code-requires
prefix_code-at_code-requires c =
    let len = c.from-next.ensures ∙ first_at c.in-Some.ensures.cases.0 in
    let first = words_start _ _ c.requires (omega (arith, c.in-Some.ensures.cases.1)) in
    (omega (arith, len, first.some), omega (arith, len, first.room))

pub loop-len-init : goal.loop-len-init
loop-len-init c =
    let len = c.from-next.ensures ∙ first_at c.in-Some.ensures.cases.0 in
    (rw len (words_start _ _ c.requires (omega (arith, c.in-Some.ensures.cases.1))), c.prefix_code-at_code.ensures)

pub prefix_code-next_code-requires : goal.prefix_code-next_code-requires
prefix_code-next_code-requires c =
    let read = c.loop-len.invariant.0 in
    let below : c.loop-len.len-index + 1 < length c.args.lengths.now = omega (arith, c.in-Some.ensures.cases.1) in
    rw (c.from.ensures, rest_at c.in-Some.ensures.cases.0) (next_some read below, next_room read below)

pub neighbours_ascend-requires : goal.neighbours_ascend-requires
neighbours_ascend-requires c =
    let below : c.loop-len.len-index + 1 < length c.args.lengths.now = omega (arith, c.in-Some.ensures.cases.1) in
    record {
      first = omega arith;
      second = omega arith;
      room = rw (c.from.ensures, rest_at c.in-Some.ensures.cases.0) (next_room c.loop-len.invariant.0 below);
      first_code = c.loop-len.invariant.1;
      second_code = c.prefix_code-next_code.ensures;
    }

pub returns-then-not-neighbours_ascend : goal.returns-then-not-neighbours_ascend
returns-then-not-neighbours_ascend c =
    let len = c.from.ensures ∙ rest_at c.in-Some.ensures.cases.0 c.loop-len.len-index in
    words_stop c.loop-len.invariant.0 (omega (arith, c.in-Some.ensures.cases.1))
    (rw len at (sym c.neighbours_ascend.ensures ∙ c.if-not-neighbours_ascend.true))

pub loop-len-preserved : goal.loop-len-preserved
loop-len-preserved c =
    let len = c.from.ensures ∙ rest_at c.in-Some.ensures.cases.0 c.loop-len.len-index in (
      rw len
          (words_step c.loop-len.invariant.0 (omega (arith, c.in-Some.ensures.cases.1))
          (rw len at (sym c.neighbours_ascend.ensures ∙ c.if-not-neighbours_ascend.false))),
      c.prefix_code-next_code.ensures,
    )

pub returns : goal.returns
returns c = words_end c.loop-len.invariant.0 (omega (arith, c.in-Some.ensures.cases.1, c.loop-len-test.false))
