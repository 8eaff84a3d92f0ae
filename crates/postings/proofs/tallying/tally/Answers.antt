-- `tally` meets its contract: the refusal decides what is answered.
use Rattle.std.proofs.Common.{refl, sym, ◌∙◌, arith}
use Rattle.spec.specs.Dictionary.{longest_text, lexicon}
use Rattle.dictionary.specs.Passing.{passed_on}
use Rattle.laws.specs.Dictionary.Refused.{refused_number}
use Rattle.laws.specs.Readable.LineWalk.{readable_fits}
use Rattle.laws.specs.Tally.Walk.{entries_left, small_zeros, tally_afresh}
use Rattle.laws.specs.Tally.Answers.{tally_accepted, tally_refused}
use Rattle.postings.proofs.tallying.tally.Goals as goal

pub returns-in_err-opened : goal.returns-in_err-opened
returns-in_err-opened c =
    let number = c.in_err-opened.ensures.number in
    rw (passed_on _ _ c.from_residual.ensures.1)
    (tally_refused _ _ _ _ (refused_number _ number) (record { number = number; total = refl; by_length = refl }))

pub raised-by_length-requires : goal.raised-by_length-requires
raised-by_length-requires c =
    let o = c.in_ok-opened.opened in
    let lent = c.in_ok-opened.ensures.lent in
    (rw lent.2 at o.can_read, small_zeros)

pub overflow_sub-result : goal.overflow_sub-result
overflow_sub-result c =
    let a = c.args in
    let o = c.in_ok-opened.opened in
    let lent = c.in_ok-opened.ensures.lent in
    let can = rw (lent.0, lent.1, lent.2) at o.can_read in
    let keys = rw lent.2 at o.has_keys in
    let fits = readable_fits longest_text (lexicon a.chars.now a.lengths.now) a.index.now can in
    omega (arith, o.has_directory, keys, fits.has_directory)

pub returns : goal.returns
returns c =
    let a = c.args in
    let o = c.in_ok-opened.opened in
    let found = c.in_ok-opened.ensures in
    let can = rw (found.lent.0, found.lent.1, found.lent.2) at o.can_read in
    let keys = rw found.lent.2 at o.has_keys in
    tally_accepted _ _ _ _ (sym found.number)
    (record {
      number = found.number;
      total = omega (arith, o.has_directory, keys, entries_left longest_text (lexicon a.chars.now a.lengths.now) a.index.now can);
      by_length =
          rw (found.lent.0, found.lent.1) at c.raised-by_length.ensures ∙ tally_afresh (lexicon a.chars.now a.lengths.now) a.index.now;
    })
