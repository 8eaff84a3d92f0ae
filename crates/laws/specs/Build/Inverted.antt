-- The model of the builder: the index is `numbers` of the registered entries, inverted in any way that gives readable lines. Assumes
-- nothing.
use Rattle.std.specs.Prelude.{◌≡◌, List, [], ◌∷◌, ℕ, suc, length}
use Rattle.std.proofs.Common.{sym, ◌∙◌, arith}
use Rattle.std.proofs.Math.Path.{ap}
use Rattle.basics.specs.Member.{In}
use Rattle.basics.specs.Order.{Apart, ascend_unique}
use Rattle.spec.specs.Dictionary.{Lexicon}
use Rattle.spec.specs.Words.{Entry, entries}
use Rattle.spec.specs.Numbers.{entry_before, sorted, Line, numbers, lines_of, index_of}
use Rattle.models.specs.Entries.{flat}
use Rattle.models.specs.Scan.{make_index}
use Rattle.laws.specs.Text.Facts.{Chars, GoodLexicon, GoodLines}
use Rattle.laws.specs.Numbers.KeyOrder.{entry_before_strict}
use Rattle.laws.specs.Entries.EntryPositions.{PositionsRise, positions_rise_in}
use Rattle.laws.specs.Entries.Longest.{make_index_exact, make_index_get, make_index_put}
use Rattle.laws.specs.Numbers.Lines.{lines_unique}
use Rattle.laws.specs.Numbers.Sorted.{differ_apart, in_sorted_get, in_sorted_put, length_sorted, sorted_ascends}
use Rattle.laws.specs.Numbers.Sorted.{sorted_entries_ascend}
use Rattle.laws.specs.Readable.IndexOf.{lines_in_index, index_lines_good, in_index_get, in_index_put}

-- of two entries at different positions, one comes before the other
pub positions_rise_apart : (a : ℕ) (es : List Entry) → PositionsRise a es → Apart entry_before es
positions_rise_apart a [] r = tt
positions_rise_apart a (e ∷ es) r = (
  λ f m. differ_apart e f (λ k p. omega (arith, positions_rise_in (suc e.at) es f r.1 m)),
  positions_rise_apart (suc e.at) es r.1,
)

module _ {lex : Lexicon} (good : GoodLexicon lex) (ts : List ℕ) (chars : Chars ts) where
  -- Lines that are in order and have exactly the text's entries are the lines of its index.
  pub inverted_index :
      {ls : List Line} → GoodLines lex (length ts) ls → ((e : Entry) → In e (flat lex ls) → In e (entries lex ts)) →
      ((e : Entry) → In e (entries lex ts) → In e (flat lex ls)) → numbers (length ts) ls ≡ index_of lex ts
  unfolding index_of
  inverted_index {ls} lines only all =
      ap (numbers (length ts))
      (lines_unique lines
      (rw lines_in_index at (index_lines_good good ts chars))
      (λ e m. rw lines_in_index at (in_index_put good ts chars e (only e m)))
      (λ e m. all e (in_index_get good ts chars e (rw lines_in_index m))))

  -- so are lines that have exactly the entries that the scan registers
  pub inverted_scan :
      {ls : List Line} → GoodLines lex (length ts) ls → ((e : Entry) → In e (flat lex ls) → In e (make_index lex ts)) →
      ((e : Entry) → In e (make_index lex ts) → In e (flat lex ls)) → numbers (length ts) ls ≡ index_of lex ts
  inverted_scan {ls} lines only all =
      inverted_index lines (λ e m. make_index_get lex good ts chars e (only e m))
      (λ e m. all e (make_index_put lex good ts chars e m))

  -- THE SCAN, SORTED

  pub sorted_scan : sorted (make_index lex ts) ≡ sorted (entries lex ts)
  sorted_scan =
      ascend_unique entry_before_strict (sorted (make_index lex ts)) (sorted (entries lex ts))
      (sorted_ascends (make_index lex ts) (positions_rise_apart 1 (make_index lex ts) (make_index_exact lex good ts chars).rise))
      (sorted_entries_ascend lex ts)
      (λ e m.
      in_sorted_put e (entries lex ts) (make_index_get lex good ts chars e (in_sorted_get e (make_index lex ts) m)))
      (λ e m.
      in_sorted_put e (make_index lex ts) (make_index_put lex good ts chars e (in_sorted_get e (entries lex ts) m)))

  pub scan_index : numbers (length ts) (lines_of (sorted (make_index lex ts))) ≡ index_of lex ts
  unfolding index_of
  scan_index = rw sorted_scan

  -- the scan registers as many entries as the index has
  pub scan_count : length (make_index lex ts) ≡ length (entries lex ts)
  scan_count = sym (length_sorted (make_index lex ts)) ∙ ap length sorted_scan ∙ length_sorted (entries lex ts)
