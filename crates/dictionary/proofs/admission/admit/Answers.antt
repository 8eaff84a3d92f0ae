-- `admit` meets its contract: for each return one law, whose tests the path has passed.
use Rattle.std.proofs.Common.{ℕ, arith}
use mathlib.Core.Path.{sym, ◌∙◌}
use Rattle.laws.specs.Dictionary.Admission.{refuses_words, refuses_chars, refuses_lengths, refuses_order, refuses_forms, admits}
use Rattle.laws.specs.Readable.KeyTests.{dictionary_read}
use Rattle.dictionary.proofs.admission.admit.Goals as goal

pub returns-then-lengths-gt4096-clause-number : goal.returns-then-lengths-gt4096-clause-number
returns-then-lengths-gt4096-clause-number c = sym (refuses_words c.args.chars.now c.args.lengths.now
    c.if-lengths-gt4096.true)

pub returns-then-chars-gt65535-clause-number : goal.returns-then-chars-gt65535-clause-number
returns-then-chars-gt65535-clause-number c = sym (refuses_chars c.args.chars.now
    c.args.lengths.now c.if-lengths-gt4096.false c.if-chars-gt65535.true)

pub returns-then-not-lengths_fit-clause-number : goal.returns-then-not-lengths_fit-clause-number
returns-then-not-lengths_fit-clause-number c =
    sym
    (refuses_lengths c.args.chars.now c.args.lengths.now c.if-lengths-gt4096.false c.if-chars-gt65535.false
    (sym c.lengths_fit.ensures ∙ c.if-not-lengths_fit.true))

pub returns-then-not-words_ascend-clause-number : goal.returns-then-not-words_ascend-clause-number
returns-then-not-words_ascend-clause-number c =
    sym
    (refuses_order c.args.chars.now c.args.lengths.now c.if-lengths-gt4096.false c.if-chars-gt65535.false
    (sym c.lengths_fit.ensures ∙ c.if-not-lengths_fit.false)
    (sym c.words_ascend.ensures ∙ c.if-not-words_ascend.true))

pub returns-then-holds_full_width-clause-number : goal.returns-then-holds_full_width-clause-number
returns-then-holds_full_width-clause-number c =
    sym
    (refuses_forms c.args.chars.now c.args.lengths.now c.if-lengths-gt4096.false c.if-chars-gt65535.false
    (sym c.lengths_fit.ensures ∙ c.if-not-lengths_fit.false)
    (sym c.words_ascend.ensures ∙ c.if-not-words_ascend.false)
    (sym c.holds_full_width.ensures ∙ c.if-holds_full_width.true))

pub invariant_of-result : goal.invariant_of-result
invariant_of-result c =
    let none =
    admits c.args.chars.now c.args.lengths.now c.if-lengths-gt4096.false c.if-chars-gt65535.false
    (sym c.lengths_fit.ensures ∙ c.if-not-lengths_fit.false)
    (sym c.words_ascend.ensures ∙ c.if-not-words_ascend.false)
    (sym c.holds_full_width.ensures ∙ c.if-holds_full_width.false) in
    record {
      accepted = none;
      admitted = dictionary_read c.args.chars.now c.args.lengths.now (λ (i : ℕ). omega (arith, c.type_inv.chars i)) none;
    }
