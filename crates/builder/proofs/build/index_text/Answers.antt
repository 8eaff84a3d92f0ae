-- `index_text` meets its contract: for each refusal one law, whose tests the path has passed; else the scan leaves the tokens in the first
-- numbers of the work slice, and what is written for them is the index.
use Rattle.std.proofs.Common.{◌≡◌, List, ℕ, length, sym, ◌∙◌, arith}
use Rattle.spec.specs.Dictionary.{longest_text}
use Rattle.spec.specs.Refusals.{refusal_number, answer_of}
use Rattle.spec.specs.declared.Refusal.{Refusal}
use Rattle.spec.specs.declared.Refusal.TheVariants.{TextTooLong, WorkShort}
use Rattle.std.specs.Prelude.{Err}
use Rattle.dictionary.specs.Passing.{passed_on}
use Rattle.laws.specs.Dictionary.Refused.{refused_number, puts_error}
use Rattle.laws.specs.Build.Building.{
  early_refusal,
  BuildPuts,
  Reached,
  early_dictionary,
  early_text,
  early_work,
  build_early,
  front_linkable,
  build_tokens,
}
use Rattle.builder.proofs.build.index_text.Goals as goal

-- an early refusal leaves the output unchanged
refused :
    (cs ls ts o : List ℕ) (w : ℕ) (e : Refusal) → refusal_number e ≡ early_refusal longest_text cs ls ts w →
    BuildPuts longest_text cs ls ts w (answer_of (Err e)) o o
refused cs ls ts o w e is =
    puts_error _ e o (is ∙ sym (build_early longest_text cs ls ts w (length o) (refused_number e is)))

pub returns-in_err-dictionary : goal.returns-in_err-dictionary
returns-in_err-dictionary c =
    let a = c.args in
    let found = c.in_err-dictionary.ensures.number in
    rw (passed_on _ _ c.from_residual.ensures.1)
    (refused _ _ _ _ _ _
    (found
    ∙ sym (early_dictionary longest_text a.chars.now a.lengths.now a.text.now (length a.work.now) (refused_number _ found))))

pub returns-then-text-gt-LONGEST : goal.returns-then-text-gt-LONGEST
returns-then-text-gt-LONGEST c =
    let a = c.args in
    refused _ _ _ _ _ TextTooLong
    (sym
    (early_text longest_text a.chars.now a.lengths.now a.text.now (length a.work.now) (sym c.in_ok-dictionary.ensures.number)
    c.if-text-gt-LONGEST.true))

pub returns-then-work-text : goal.returns-then-work-text
returns-then-work-text c =
    let a = c.args in
    refused _ _ _ _ _ WorkShort
    (sym
    (early_work longest_text a.chars.now a.lengths.now a.text.now (length a.work.now) (sym c.in_ok-dictionary.ensures.number)
    c.if-text-gt-LONGEST.false c.if-work-text.true))

pub index_tokens-requires : goal.index_tokens-requires
index_tokens-requires c =
    let a = c.args in
    let d = c.in_ok-dictionary in
    let met : Reached longest_text a.chars.now a.lengths.now a.text.now (length a.work.now) =
    record { admits = sym d.ensures.number; short = c.if-text-gt-LONGEST.false; room = c.if-work-text.false } in
    front_linkable met (λ i h. omega (arith, c.type_inv.chars i))
    (rw (c.match_table-table.ensures, d.ensures.lent.0, d.ensures.lent.1) at c.scan_replaced.ensures) (omega arith)

pub returns : goal.returns
returns c =
    let a = c.args in
    let d = c.in_ok-dictionary in
    let met : Reached longest_text a.chars.now a.lengths.now a.text.now (length a.work.now) =
    record { admits = sym d.ensures.number; short = c.if-text-gt-LONGEST.false; room = c.if-work-text.false } in
    build_tokens met (λ i h. omega (arith, c.type_inv.chars i))
    (rw (c.match_table-table.ensures, d.ensures.lent.0, d.ensures.lent.1) at c.scan_replaced.ensures)
    (λ i h. omega (arith, c.type_inv.text i)) _ a.output.now c.index_tokens.new.output c.index_tokens.ensures
