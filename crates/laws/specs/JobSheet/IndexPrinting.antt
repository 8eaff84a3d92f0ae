-- The walk over an index's directory that prints a line for each key. Assumes nothing.
use Rattle.std.specs.Prelude.{◌≡◌, List, ◌++◌, ℕ, ◌+◌, ◌*◌, ◌-◌, ◌≤◌, length, take, drop}
use Rattle.std.proofs.Common.{ap}
use native.Mathlib.Omega.{arith}
use Rattle.basics.specs.Placed.{Wrote, Writing, writing_start, writing_as, writing_room, writing_step, writing_end}
use Rattle.spec.specs.Words.{key}
use Rattle.spec.specs.Numbers.{Line, line}
use Rattle.spec.specs.Index.{header, n_of, keys_of, count_at, counts_from, entries_of, lines_in}
use Rattle.spec.specs.JobAnswer.{index_line, key_line, key_lines, index_lines}
use Rattle.models.specs.Window.{list_start}
use Rattle.laws.specs.Numbers.Slices.{Fits}
use Rattle.laws.specs.Numbers.DirectoryWalk.{IsLine, counts_next, lines_next, lines_none}

-- i lines are printed; `position` is the index at which the positions of line i start
pub record KeysPrinted (xs : List ℕ) (start : ℕ) (old : List ℕ) (position end i : ℕ) (now : List ℕ) : Type 0 where
  pub within : i ≤ keys_of xs
  pub at_list : position ≡ list_start xs i
  pub writing : Writing (key_lines (lines_in xs)) start old (key_lines (drop i (lines_in xs))) end now

pub keys_start :
    {xs : List ℕ} {position : ℕ} (start : ℕ) (old : List ℕ) → position ≡ header + 3 * keys_of xs →
    start + length (key_lines (lines_in xs)) ≤ length old → KeysPrinted xs start old position start 0 old
unfolding counts_from
keys_start {xs} start old e fits =
    record { within = omega arith; at_list = omega arith; writing = writing_start (key_lines (lines_in xs)) start old fits }

-- a line from its key and from where to where its positions lie
abbrev printed_line : (numbers : List ℕ) → (kind value from to : ℕ) → Line
printed_line xs kind value from to = line (key kind value) (take (to - from) (drop from xs))

module _ {xs : List ℕ} {start : ℕ} {old : List ℕ} {position end i : ℕ} {now : List ℕ}
    (h : KeysPrinted xs start old position end i now) where
  pub keys_end : keys_of xs ≤ i → Wrote (key_lines (lines_in xs)) start old end now
  unfolding key_lines
  keys_end past = writing_end (writing_as (ap key_lines (lines_none xs i past)) h.writing)

  module _ {kind value from to : ℕ} (at : IsLine xs i kind value from to) where
    next_line :
        Writing (key_lines (lines_in xs)) start old
        (key_line (printed_line xs kind value position to) ++ key_lines (drop (i + 1) (lines_in xs))) end now
    unfolding key_lines
    next_line =
        let count : to - position ≡ count_at xs i = omega arith in
        rw (at.line.kind_is, at.line.value_is, count, h.at_list)
        (writing_as (ap key_lines (lines_next xs i at.below)) h.writing)

    pub line_fits : end + length (key_line (printed_line xs kind value position to)) ≤ length now
    line_fits = writing_room (key_line (printed_line xs kind value position to)) (key_lines (drop (i + 1) (lines_in xs))) next_line

    pub keys_step :
        {end' : ℕ} {now' : List ℕ} → Wrote (key_line (printed_line xs kind value position to)) end now end' now' →
        KeysPrinted xs start old to end' (i + 1) now'
    keys_step w =
        record {
          within = omega arith;
          at_list = omega (arith, counts_next i xs);
          writing =
              writing_step (key_line (printed_line xs kind value position to)) (key_lines (drop (i + 1) (lines_in xs))) next_line w;
        }

pub index_lines_parts :
    {xs : List ℕ} {n k m : ℕ} → Fits xs → n ≡ n_of xs → k ≡ keys_of xs → m ≡ length xs - (header + 3 * k) →
    index_lines xs ≡ index_line n k m ++ key_lines (lines_in xs)
unfolding index_lines
index_lines_parts {xs} {m = m} whole is_n is_k is_m =
    let all : m ≡ entries_of xs = omega arith in
    rw (is_n, is_k, all)
