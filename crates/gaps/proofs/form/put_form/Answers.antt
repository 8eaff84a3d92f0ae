-- `put_form` meets its contract: for each return one law, whose tests the path has passed.
use Rattle.std.proofs.Common.{length, ℕ, ◌<◌, List}
use Rattle.spec.specs.Dictionary.{longest_text}
use Rattle.spec.specs.Gaps.{with_lists}
use Rattle.models.specs.Gaps.{write_as}
use mathlib.Core.Path.{refl, sym}
use native.Mathlib.Omega.{arith}
use lib.Seq.{length-take-le}
use Rattle.laws.specs.Dictionary.Refused.{refused_number}
use Rattle.dictionary.specs.Passing.{passed_on}
use Rattle.laws.specs.Search.Sizing.{refused_before, sized_after, sized_short, sized_written}
use Rattle.laws.specs.Demands.GapCalls.{writable, form_length, form_front}
use Rattle.gaps.proofs.form.put_form.Goals as goal

pub returns-in_err-admit_as : goal.returns-in_err-admit_as
returns-in_err-admit_as g c =
    let form : List ℕ = with_lists (write_as g.F.ListForm.as_gaps) c.args.index.now in
    let number = c.in_err-admit_as.ensures.number in
    rw (passed_on _ _ c.from_residual.ensures.1)
    (refused_before form _ c.args.output.now (refused_number _ number) number refl)

pub returns-then-output-count : goal.returns-then-output-count
returns-then-output-count g c =
    let form : List ℕ = with_lists (write_as g.F.ListForm.as_gaps) c.args.index.now in
    let o = c.args.output.now in
    let short : length o < length form = omega (arith, form_length g.F.ListForm.as_gaps c.args.index.now) in
    sized_after (sym c.in_ok-admit_as.ensures.number) (sized_short {ys = form} {o = o} short refl refl)

pub write_form-requires : goal.write_form-requires
write_form-requires g c = (
  writable longest_text (omega arith) c.args.chars.now c.args.lengths.now c.args.index.now g.F.ListForm.as_gaps
      (λ (i : ℕ). omega (arith, c.type_inv.chars i)) (sym c.in_ok-admit_as.ensures.number),
  length-take-le (length c.args.index.now) c.args.output.now c.if-output-count.false,
)

pub returns : goal.returns
returns g c =
    let o = c.args.output.now in
    let len = form_length g.F.ListForm.as_gaps c.args.index.now in
    sized_after (sym c.in_ok-admit_as.ensures.number)
    (sized_written (omega (arith, len)) refl (sym len)
    (form_front g.F.ListForm.as_gaps c.args.index.now o _ c.write_form.ensures))
