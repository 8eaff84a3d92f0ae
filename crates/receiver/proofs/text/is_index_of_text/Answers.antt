-- `is_index_of_text` meets its contract: with text and line map in the work slice, `verify` answers whether the index is that of the text
-- its entries spell.
use Rattle.std.proofs.Common.{◌≡◌, true, List, ℕ, ◌++◌, length, take, drop, refl, ap, ◌∙◌, arith}
use Rattle.std.proofs.Common.{length-take-le, take_at, drop_at}
use Rattle.spec.specs.Dictionary.{longest_text, Lexicon}
use Rattle.spec.specs.Index.{n_of, lines_in, readable}
use Rattle.models.specs.Entries.{flat}
use Rattle.models.specs.WordStarts.{lengths_of}
use Rattle.models.specs.Reception.{reconstruct, fill_line_map}
use Rattle.spec.specs.Calls.{zeros}
use Rattle.dictionary.specs.declared.words.Words.{Words}
use Rattle.dictionary.specs.Words.{lexicon_of}
use Rattle.laws.specs.Dictionary.Lexicon.{admitted_lexicon}
use Rattle.laws.specs.Text.Facts.{GoodLexicon}
use Rattle.laws.specs.Readable.LineWalk.{readable_fits}
use Rattle.laws.specs.Receive.LineMapWalk.{readable_line_map}
use Rattle.laws.specs.Receive.ReceivedText.{InWork, tried_mapped, tried_chars, read_back}
use Rattle.laws.specs.Receive.WorkParts.{zeros_are}
use Rattle.receiver.proofs.text.is_index_of_text.Goals as goal

good_words : (w : Words) → GoodLexicon (lexicon_of w)
good_words w = admitted_lexicon w.chars.now (lengths_of w.starts.now) w.started.dictionary

-- a text, a line map and more numbers, one after the other
module _ (n : ℕ) (text line_map more : List ℕ) (text_len : length text ≡ n) (line_map_len : length line_map ≡ n) where
  front : take n (text ++ (line_map ++ more)) ≡ text
  front = take_at text (line_map ++ more) n text_len

  behind : take n (drop n (text ++ (line_map ++ more))) ≡ line_map
  behind = rw (drop_at text (line_map ++ more) n text_len) (take_at line_map more n line_map_len)

  -- the text is reconstructed and the line map filled in cleared parts of a work slice
  in_work :
      {lex : Lexicon} {xs clear_text clear_map : List ℕ} (text_part map_part : List ℕ) →
      GoodLexicon lex → readable longest_text lex xs ≡ true → n ≡ n_of xs →
      length text_part ≡ n → length map_part ≡ n → clear_text ≡ zeros text_part → clear_map ≡ zeros map_part →
      text ≡ reconstruct lex (flat lex (lines_in xs)) clear_text → line_map ≡ fill_line_map 0 (lines_in xs) clear_map →
      InWork longest_text lex xs n (text ++ (line_map ++ more)) (text ++ (line_map ++ more))
  in_work {lex} {xs} text_part map_part good can is text_is map_is text_clear map_clear reconstructs maps =
      record {
        good = good;
        can = can;
        n_is = is;
        reconstructs =
            front ∙ reconstructs ∙ ap (reconstruct lex (flat lex (lines_in xs))) (text_clear ∙ zeros_are n text_part text_is);
        keeps = refl;
        mapped = behind ∙ maps ∙ ap (fill_line_map 0 (lines_in xs)) (map_clear ∙ zeros_are n map_part map_is);
      }

pub text_len-n-requires : goal.text_len-n-requires
text_len-n-requires c =
    (readable_fits longest_text (lexicon_of c.args.table.now.words) c.args.index.now c.requires.can).has_header

pub fill_line_map-requires : goal.fill_line_map-requires
fill_line_map-requires c =
    readable_line_map (good_words c.args.table.now.words) longest_text c.args.index.now c.requires.can _
    (omega (arith, length-take-le c.text_len-n.result c.split_at_mut-text.result.1.now (omega arith)))

pub verify-requires : goal.verify-requires
verify-requires c =
    let n = c.text_len-n.result in
    let rest = c.split_at_mut-text.result.1.now in
    let text = c.reconstruct_entries.new.text in
    let line_map = c.fill_line_map.new.line_map in
    let map_is = length-take-le n rest (omega arith) in
    let text_len : length text ≡ n = omega arith in
    let map_len : length line_map ≡ n = omega arith in
    let made =
    in_work n text line_map (drop n rest) text_len map_len c.split_at_mut-text.result.0.now (take n rest)
    (good_words c.args.table.now.words) c.requires.can c.text_len-n.ensures.0 c.split_at_mut-text.ensures.front_len
    map_is c.clear.ensures c.clear-2.ensures c.reconstruct_entries.ensures c.fill_line_map.ensures in
    let front_is = front n text line_map (drop n rest) text_len map_len in
    let behind_is = behind n text line_map (drop n rest) text_len map_len in (
      readable_fits longest_text (lexicon_of c.args.table.now.words) c.args.index.now c.requires.can,
      rw behind_is at (tried_mapped made),
      rw front_is at (tried_chars made),
      omega arith,
    )

pub returns : goal.returns
returns c =
    let n = c.text_len-n.result in
    let rest = c.split_at_mut-text.result.1.now in
    let text = c.reconstruct_entries.new.text in
    let line_map = c.fill_line_map.new.line_map in
    let map_is = length-take-le n rest (omega arith) in
    let text_len : length text ≡ n = omega arith in
    let map_len : length line_map ≡ n = omega arith in
    let made =
    in_work n text line_map (drop n rest) text_len map_len c.split_at_mut-text.result.0.now (take n rest)
    (good_words c.args.table.now.words) c.requires.can c.text_len-n.ensures.0 c.split_at_mut-text.ensures.front_len
    map_is c.clear.ensures c.clear-2.ensures c.reconstruct_entries.ensures c.fill_line_map.ensures in
    let front_is = front n text line_map (drop n rest) text_len map_len in
    let behind_is = behind n text line_map (drop n rest) text_len map_len in
    read_back made (rw (front_is, behind_is) c.verify.ensures)
