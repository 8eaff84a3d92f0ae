-- Reconstructing the text of a readable index line by line, as a loop does it. Assumes nothing.
use Rattle.std.specs.Prelude.{◌≡◌, Bool, true, ℕ, ◌+◌, ◌*◌, ◌-◌, ◌^◌, ◌≤◌, ◌<◌, get_or, take, drop}
use Rattle.std.proofs.Math.Path.{refl, ap}
use Rattle.std.proofs.Common.{sym, ◌∙◌, arith}
use mathlib.Core.List.{List, [], ◌∷◌, ◌++◌}
use Rattle.std.proofs.Math.ListN.{length}
use Rattle.std.proofs.lemmas.List.Edits.{sets}
use Rattle.basics.specs.Bools.{Reflects}
use Rattle.basics.specs.Member.{in_getD}
use Rattle.spec.specs.Dictionary.{Lexicon}
use Rattle.spec.specs.Words.{Key, key, spells, Entry, entry}
use Rattle.spec.specs.Numbers.{Line, line}
use Rattle.spec.specs.Index.{header, n_of, keys_of, kind_at, key_at, lines_in, readable}
use Rattle.models.specs.Entries.{entries_at, flat}
use Rattle.models.specs.WordStarts.{lengths_of, lexicon_at}
use Rattle.models.specs.Reception.{reconstruct, fill_positions, reconstruct_positions}
use Rattle.models.specs.Window.{line_of}
use Rattle.laws.specs.Text.Facts.{GoodLine, Rise}
use Rattle.laws.specs.Dictionary.Keys.{spells_lone}
use Rattle.laws.specs.Numbers.FlatOrder.{rise_least}
use Rattle.laws.specs.Match.MatchTable.{Started}
use Rattle.laws.specs.Numbers.DirectoryWalk.{IsLine}
use Rattle.laws.specs.Directory.Tables.{Reads, WordLine, admitted_reads, line_is_good, key_is, line_word, line_spells}
use Rattle.laws.specs.Receive.PositionWalk.{length_reconstruct_positions, reconstruct_character, LieWithin}
use Rattle.laws.specs.Receive.EntriesMatch.{StandEach}
use Rattle.laws.specs.Receive.LinePass.{line_positions, Passing, passing_start, passing_step, passing_end}

-- WHAT IS READ

-- a readable index with its word starts, and a slice as long as its text
pub record Reconstructs (cs ws xs text : List ℕ) : Type 0 where
  pub reads : Reads cs ws xs
  pub len : length text ≡ n_of xs

-- a readable index and an admitted dictionary, with its word starts
module _ {cs ws : List ℕ} (started : Started cs ws) where
  pub started_reads :
      (g : ℕ) → g ≤ 2 ^ 32 → (xs : List ℕ) → readable g (lexicon_at cs ws) xs ≡ true → Reads cs ws xs
  started_reads g small xs can =
      record { can = admitted_reads g small cs (lengths_of ws) xs started.dictionary can; words = started.words }

-- a good line's key fits at each of its positions
pub good_lie :
    (lex : Lexicon) (n : ℕ) (l : Line) → GoodLine lex n l → LieWithin (length (spells lex l.key_of)) n l.positions
good_lie lex n l good =
    record {
      from = λ j b. rise_least 1 l.positions (get_or l.positions j 0) good.rise (in_getD l.positions j 0 b);
      to = λ j b. good.fits (get_or l.positions j 0) (in_getD l.positions j 0 b);
    }

-- ONE LINE

reconstruct_run :
    (lex : Lexicon) (k : Key) (ps : List ℕ) (es : List Entry) (us : List ℕ) →
    reconstruct lex (entries_at lex k ps ++ es) us ≡ reconstruct lex es (reconstruct_positions (spells lex k) ps us)
unfolding reconstruct reconstruct_positions entries_at entry
reconstruct_run lex k [] es us = refl
reconstruct_run lex k (p ∷ ps) es us = reconstruct_run lex k ps es (sets us (p - 1) (spells lex k))

pub reconstruct_line :
    (lex : Lexicon) (l : Line) (ls : List Line) (us : List ℕ) →
    reconstruct lex (flat lex (l ∷ ls)) us ≡ reconstruct lex (flat lex ls)
    (reconstruct_positions (spells lex l.key_of) l.positions us)
unfolding flat
reconstruct_line lex l ls us = reconstruct_run lex l.key_of l.positions (flat lex ls) us

module _ {cs ws xs : List ℕ} (reads : Reads cs ws xs) {i kind value from to : ℕ} (is : IsLine xs i kind value from to) where
  abbrev lex : Lexicon
  lex = lexicon_at cs ws

  abbrev positions : List ℕ
  positions = take (to - from) (drop from xs)

  good : GoodLine lex (n_of xs) (line_of xs i)
  good = line_is_good reads.can i is.below

  -- the key of line i fits at each of its positions
  key_room : {m : ℕ} → m ≡ n_of xs → LieWithin (length (spells lex (key_at xs i))) m positions
  unfolding line
  key_room len = rw (line_positions is, len) (good_lie lex (n_of xs) (line_of xs i) good)

  pub positions_some : 1 ≤ length positions
  unfolding line
  positions_some = rw (line_positions is) good.some

  pub positions_rise : Rise 1 positions
  unfolding line
  positions_rise = rw (line_positions is) good.rise

  -- a word, by its number in the dictionary
  module _ (word : kind ≡ 0) where
    at : WordLine cs ws xs i
    at = record { reads = reads; below = is.below; kind = omega arith }

    pub word_there : value < length (lengths_of ws)
    word_there = omega (arith, line_word at)

    module _ {k : List ℕ} (e : k ≡ get_or lex.words value []) where
      spelt : k ≡ spells lex (key_at xs i)
      spelt = e ∙ ap (λ (v : ℕ). get_or lex.words v []) is.line.value_is ∙ line_spells at

      pub word_reconstructs : {m : ℕ} → m ≡ n_of xs → LieWithin (length k) m positions
      word_reconstructs len = rw spelt (key_room len)

      pub word_reconstructed :
          (us : List ℕ) {next : List ℕ} → next ≡ reconstruct_positions k positions us →
          next ≡ reconstruct_positions (spells lex (key_at xs i)) positions us
      word_reconstructed us h = h ∙ ap (λ (s : List ℕ). reconstruct_positions s positions us) spelt

      pub word_stood :
          {us : List ℕ} {r : Bool} → Reflects r (StandEach k us positions) →
          Reflects r (StandEach (spells lex (key_at xs i)) us positions)
      word_stood h = rw spelt at h

  -- a lone character, which is a single value
  module _ (lone : kind ≡ 0 → ⊥) where
    spelt_lone : spells lex (key_at xs i) ≡ value ∷ []
    unfolding key
    spelt_lone =
        let one : kind_at xs i ≡ 1 = omega (arith, (key_is reads.can i is.below).kind_small, lone) in
        rw is.line.value_is (spells_lone lex (key_at xs i) one)

    pub lone_reconstructs : {m : ℕ} → m ≡ n_of xs → LieWithin 1 m positions
    lone_reconstructs len = rw spelt_lone at (key_room len)

    pub lone_reconstructed :
        (us : List ℕ) {next : List ℕ} → next ≡ fill_positions value positions us →
        next ≡ reconstruct_positions (spells lex (key_at xs i)) positions us
    lone_reconstructed us h = rw spelt_lone (h ∙ sym (reconstruct_character value positions us))

    pub lone_stood :
        {us : List ℕ} {r : Bool} → Reflects r (StandEach (value ∷ []) us positions) →
        Reflects r (StandEach (spells lex (key_at xs i)) us positions)
    lone_stood h = rw spelt_lone h

-- THE LINES

-- what a line writes does not depend on its number
abbrev reconstruct_lines : Lexicon → ℕ → List Line → List ℕ → List ℕ
reconstruct_lines lex i ls us = reconstruct lex (flat lex ls) us

-- the lines before line i are written; the positions of line i start at `at`
abbrev pub ReconstructingLines : (lex : Lexicon) (xs old now : List ℕ) (at i : ℕ) → Type 0
ReconstructingLines lex xs old now at i = Passing (reconstruct_lines lex) xs old now at i

module _ (lex : Lexicon) {xs old : List ℕ} where
  pub reconstructing_start : {at : ℕ} → at ≡ header + 3 * keys_of xs → ReconstructingLines lex xs old old at 0
  reconstructing_start e = passing_start e

  module _ {now : List ℕ} {at i : ℕ} (h : ReconstructingLines lex xs old now at i) where
    pub reconstructing_step :
        {kind value from to : ℕ} → IsLine xs i kind value from to → {next : List ℕ} →
        next ≡ reconstruct_positions (spells lex (key_at xs i)) (take (to - from) (drop from xs)) now →
        ReconstructingLines lex xs old next to (i + 1)
    unfolding line
    reconstructing_step {from} {to} is {next} e =
        passing_step h is next
        (ap length e ∙ length_reconstruct_positions (spells lex (key_at xs i)) (take (to - from) (drop from xs)) now)
        (reconstruct_line lex (line_of xs i) (drop (i + 1) (lines_in xs)) now
        ∙ ap (λ (us : List ℕ). reconstruct lex (flat lex (drop (i + 1) (lines_in xs))) us)
        (sym (e ∙ ap (λ (ps : List ℕ). reconstruct_positions (spells lex (key_at xs i)) ps now) (line_positions is))))

    pub reconstructing_end : keys_of xs ≤ i → now ≡ reconstruct lex (flat lex (lines_in xs)) old
    unfolding reconstruct flat
    reconstructing_end past = passing_end h past refl
