-- A line of an index with its posting list, as a pass over the lines gives it. Assumes nothing.
use Rattle.std.specs.Prelude.{◌≡◌, ◌+◌, ◌-◌, ◌≤◌, List, ℕ, take, drop}
use Rattle.std.proofs.Common.{sym, ap, ◌∙◌, arith, length, length-drop, length-take-le}
use Rattle.spec.specs.Index.{kind_at, value_at, count_at, key_at}
use Rattle.spec.specs.Words.{key}
use Rattle.spec.specs.Numbers.{line}
use Rattle.models.specs.Window.{list_start, positions_at}
use Rattle.laws.specs.Numbers.DirectoryWalk.{IsLine, counts_next}
use Rattle.laws.specs.Receive.LinePass.{line_positions}
use Rattle.layout.specs.declared.keys.Key.{Key}
use Rattle.layout.specs.declared.keys.Key.TheVariants.{Word, Lone}
use Rattle.layout.specs.Keys.{key_of, Names}

-- line i: its key, and its positions, which the next line's follow
pub record IsPostingList (xs : List ℕ) (i : ℕ) (k : Key) (positions : List ℕ) : Type 0 where
  pub is : IsLine xs i (kind_at xs i) (value_at xs i) (list_start xs i) (list_start xs (i + 1))
  pub key_is : Names k (kind_at xs i) (value_at xs i)
  pub positions_are : positions ≡ positions_at xs i

named : (k : Key) (kind value : ℕ) → Names k kind value → kind ≤ 1 → key_of k ≡ key kind value
named (Word number) kind value h small = rw (h.0, h.1)
named (Lone character) kind value h small = let one : kind ≡ 1 = omega (arith, h.0) in rw (one, h.1)

-- a line by value, whose part of the index is taken
pub posting_list :
    {xs : List ℕ} {i kind value from to : ℕ} {k : Key} → IsLine xs i kind value from to → Names k kind value →
    IsPostingList xs i k (take (to - from) (drop from xs))
unfolding line
posting_list {xs} {i} {kind} {value} {from} {to} h name =
    let from_is : from ≡ list_start xs i = h.line.from_is in
    let to_is : to ≡ list_start xs (i + 1) = omega (arith, h.line, counts_next i xs) in
    let kind_is : kind ≡ kind_at xs i = h.line.kind_is in
    let value_is : value ≡ value_at xs i = h.line.value_is in
    record {
      is = rw (from_is, to_is, kind_is, value_is) at h;
      key_is = rw (kind_is, value_is) at name;
      positions_are = line_positions h;
    }

module _ {xs : List ℕ} {i : ℕ} {k : Key} {ps : List ℕ} (h : IsPostingList xs i k ps) where
  -- where in the index the positions lie
  pub list_part : ps ≡ take (list_start xs (i + 1) - list_start xs i) (drop (list_start xs i) xs)
  unfolding line
  list_part = h.positions_are ∙ sym (line_positions h.is)

  -- the line of a word has kind 0
  pub word_list : {number : ℕ} → k ≡ Word number → IsLine xs i 0 number (list_start xs i) (list_start xs (i + 1))
  word_list e = let name = rw e at h.key_is in rw (name.0, name.1) at h.is

  -- that of a lone character has another
  pub lone_list :
      {character : ℕ} → k ≡ Lone character →
      IsLine xs i (kind_at xs i) character (list_start xs i) (list_start xs (i + 1)) × (kind_at xs i ≡ 0 → ⊥)
  lone_list e = let name = rw e at h.key_is in (rw name.1 at h.is, name.0)

  -- they reach to where the next line's start
  pub list_span : length ps ≡ list_start xs (i + 1) - list_start xs i
  list_span =
      let part = length-take-le (list_start xs (i + 1) - list_start xs i) (drop (list_start xs i) xs)
      (omega (arith, h.is, length-drop (list_start xs i) xs)) in
      ap length list_part ∙ part

  -- there are as many as the line's count
  pub list_count : length ps ≡ count_at xs i
  list_count = omega (arith, list_span, h.is.line.to_is)

  -- where the kind is 0 or 1, the line's numbers are its key's own
  pub list_key : kind_at xs i ≤ 1 → key_of k ≡ key_at xs i
  list_key small = named k (kind_at xs i) (value_at xs i) h.key_is small
