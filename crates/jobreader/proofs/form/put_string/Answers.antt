use Rattle.std.proofs.Common.{◌≡◌, ◌<◌, ℕ, refl, Option, Some, None, IsSome, unwrap_or, ◌-◌, length, drop, sym, ap, ◌∙◌, arith}
use Rattle.std.proofs.Common.{length-drop}
use Rattle.std.proofs.Math.Seq.{take_all}
use Rattle.laws.specs.JobSheet.Digits.{character_there, character_fits}
use Rattle.jobreader.proofs.Fives.{string_start, string_end, string_step, string_room, spaced_there}
use Rattle.jobreader.proofs.form.put_string.Goals as goal

some_below : (o : Option ℕ) (n : ℕ) → unwrap_or o 65536 ≡ n → n < 65536 → IsSome o
some_below None n e h = absurd (omega arith)
some_below (Some c) n e h = refl

pub loop-five-init : goal.loop-five-init
loop-five-init c =
    let l = c.args.line.now in
    let rest = c.chunks_exact-five-items.ensures.rest ∙ take_all (length l - 5) (drop 5 l) (omega (arith, length-drop 5 l)) in
    let made = c.into_iter-five-iterator.ensures.into_iter_gives in
    rw (made, rest) (c.chunks_exact-five-items.ensures.size, string_start l c.args.at c.args.out.now c.requires.1 c.requires.2)

pub unwrap-requires : goal.unwrap-requires
unwrap-requires c =
    let five = c.in-Some.ensures.steps.1.1 ∙ c.loop-five.invariant.0 in
    let there = spaced_there c.loop-five.invariant.1 _ _ c.in-Some.ensures.steps.1.0 five in
    some_below c.spaced_character.result _ c.spaced_character.ensures.value (character_fits c.in-Some.five.now 0 there)

pub bounds-out-end : goal.bounds-out-end
bounds-out-end c =
    let five = c.in-Some.ensures.steps.1.1 ∙ c.loop-five.invariant.0 in
    string_room c.loop-five.invariant.1 _ _ c.in-Some.ensures.steps.1.0 five

pub loop-five-preserved : goal.loop-five-preserved
loop-five-preserved c =
    let five = c.in-Some.ensures.steps.1.1 ∙ c.loop-five.invariant.0 in
    let there = spaced_there c.loop-five.invariant.1 _ _ c.in-Some.ensures.steps.1.0 five in
    let read : c.unwrap.result ≡ _ = ap (λ o. unwrap_or o 65536) (sym c.unwrap.ensures) ∙ c.spaced_character.ensures.value in (
      c.in-Some.ensures.steps.0 ∙ c.loop-five.invariant.0,
      string_step c.loop-five.invariant.1 _ _ c.in-Some.ensures.steps.1.0 five c.unwrap.result
          (read ∙ character_there c.in-Some.five.now 0 there),
    )

pub returns : goal.returns
returns c = string_end c.loop-five.invariant.1 (omega (arith, c.in-None.ensures))
