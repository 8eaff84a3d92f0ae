-- `directory_of` meets its contract: the part of the table that is lent on has the dictionary's word starts, and no more.
use mathlib.Core.Path.{refl}
use Rattle.spec.specs.Dictionary.{longest_text}
use Rattle.directory.specs.Opening.{front_lexicon, front_started, front_readable}
use Rattle.directory.proofs.opened.directory_of.Goals as goal

pub invariant_of-words : goal.invariant_of-words
invariant_of-words c =
    let d = c.args.opened.dictionary in
    record { started = front_started d.chars.now d.lengths.now c.args.word_starts.now c.fill_word_starts.ensures d.admitted }

pub invariant_of-result : goal.invariant_of-result
invariant_of-result c =
    let o = c.args.opened in
    let d = o.dictionary in
    record {
      is_readable =
          front_readable d.chars.now d.lengths.now c.args.word_starts.now c.fill_word_starts.ensures longest_text o.numbers.now o.can_read;
    }

pub returns : goal.returns
returns c =
    let d = c.args.opened.dictionary in
    (front_lexicon d.chars.now d.lengths.now c.args.word_starts.now c.fill_word_starts.ensures, refl)
