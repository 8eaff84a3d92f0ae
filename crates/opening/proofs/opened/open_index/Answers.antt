-- `open_index` meets its contract: an index without a refusal is readable.
use Rattle.spec.specs.Dictionary.{longest_text, lexicon}
use mathlib.Core.Path.{sym}
use native.Mathlib.Omega.{arith}
use Rattle.laws.specs.Readable.IndexRefusal.{index_accepted}
use Rattle.laws.specs.Readable.LineWalk.{readable_fits}
use Rattle.opening.proofs.opened.open_index.Goals as goal

pub key_count-keys-requires : goal.key_count-keys-requires
key_count-keys-requires c =
    let a = c.args in
    let accepted = index_accepted longest_text a.chars.now a.lengths.now a.index.now (sym c.in_ok-dictionary.ensures.number) in
    (readable_fits longest_text (lexicon a.chars.now a.lengths.now) a.index.now accepted.is_readable).has_header

pub invariant_of-result : goal.invariant_of-result
invariant_of-result c =
    let a = c.args in
    let lent = c.in_ok-dictionary.ensures.lent in
    let accepted = index_accepted longest_text a.chars.now a.lengths.now a.index.now (sym c.in_ok-dictionary.ensures.number) in
    record { can_read = rw (lent.0, lent.1) accepted.is_readable; has_keys = omega arith; has_directory = omega arith }
