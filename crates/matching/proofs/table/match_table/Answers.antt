-- `match_table` meets its contract: an admitted dictionary fits in the tables, and the part of the word starts that is lent on has the
-- lengths of its words.
use Rattle.std.proofs.Common.{refl, arith}
use Rattle.laws.specs.Dictionary.Lexicon.{admitted_put}
use Rattle.laws.specs.Dictionary.WordStarts.{filled_lengths}
use Rattle.matching.proofs.table.match_table.Goals as goal

pub fill_match_table-requires : goal.fill_match_table-requires
fill_match_table-requires c =
    let facts = c.args.dictionary.admitted in
    record {
      dictionary = admitted_put c.args.dictionary.chars.now c.args.dictionary.lengths.now facts;
      starts_len = omega (arith, facts.few, c.told-word_starts);
      heads_clear = c.requires;
      links_len = omega (arith, facts.few, c.told-links);
    }

pub returns : goal.returns
returns c =
    rw (filled_lengths c.args.dictionary.lengths.now c.args.word_starts.now c.fill_match_table.ensures.starts) refl
