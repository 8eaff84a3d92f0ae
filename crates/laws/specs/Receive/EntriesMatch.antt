-- Whether the entries of an index stand in a text, as loops decide it: the characters at one position, a string at the positions of a
-- list, and the lines one after the other. Assumes nothing.
use Rattle.std.specs.Prelude.{◌≡◌, ◌⊎◌, List, [], ◌∷◌, ℕ, zero, suc, ◌+◌, ◌*◌, ◌-◌, ◌≤◌, ◌<◌, length, get_or, take, drop}
use Rattle.std.proofs.Common.{sym, ap, ◌∙◌, inl, inr, ⊎_elim, arith, below_more}
use Rattle.basics.specs.Bools.{le_or_lt}
use Rattle.basics.specs.Member.{In, in_getD, member_index, in_append_get}
use Rattle.spec.specs.Dictionary.{Lexicon}
use Rattle.spec.specs.Words.{spells}
use Rattle.spec.specs.Numbers.{Line, line}
use Rattle.spec.specs.Index.{header, keys_of, key_at, counts_from, lines_in}
use Rattle.models.specs.Entries.{entries_at, flat}
use Rattle.models.specs.Window.{list_start, line_of, positions_at}
use Rattle.laws.specs.Text.Strings.{Stand}
use Rattle.laws.specs.Text.Overlaps.{stand_at, stand_put, stand_char}
use Rattle.laws.specs.Text.Facts.{Rise, AllStand}
use Rattle.laws.specs.Numbers.Flat.{posting, entries_at_get, flat_put}
use Rattle.laws.specs.Numbers.DirectoryWalk.{lines_next, lines_none, counts_next, IsLine}
use Rattle.laws.specs.Numbers.LineNumbers.{line_of_in}
use Rattle.laws.specs.Receive.LinePass.{line_positions}

-- ONE POSITION

-- the characters of s from a to b − 1 equal those of ts that lie `at` further on
abbrev pub EqualPart : (string : List ℕ) → (a b : ℕ) → (text : List ℕ) → (at : ℕ) → Type 0
EqualPart s a b ts at = (x : ℕ) → a ≤ x → x < b → get_or s x 0 ≡ get_or ts (at + x) 0

module _ (s : List ℕ) (a : ℕ) (ts : List ℕ) (at : ℕ) where
  pub equal_part_none : EqualPart s a a ts at
  equal_part_none x lo hi = absurd (omega arith)

  pub equal_part_next : (b : ℕ) → EqualPart s a b ts at → get_or s b 0 ≡ get_or ts (at + b) 0 → EqualPart s a (b + 1) ts at
  equal_part_next b h e x lo hi =
      below_more (λ (y : ℕ). a ≤ y → get_or s y 0 ≡ get_or ts (at + y) 0) b (λ y under from. h y from under) (λ from. e) x hi lo

  pub equal_part_end : (b : ℕ) → length s ≤ b → EqualPart s a b ts at → EqualPart s a (length s) ts at
  equal_part_end b past h x lo hi = h x lo (omega arith)

-- A PERIOD of a string: shifted by d, the string equals itself on the overlap
pub record Period (s : List ℕ) (d : ℕ) : Type 0 where
  pub within : d ≤ length s
  pub equal : (x : ℕ) → d + x < length s → get_or s (d + x) 0 ≡ get_or s x 0

module _ (s : List ℕ) where
  pub period_whole : Period s (length s)
  period_whole = record { within = omega arith; equal = λ x b. absurd (omega arith) }

  -- all characters are equal
  pub stand_all :
      (ts : List ℕ) (p : ℕ) → 1 ≤ p → p + length s ≤ suc (length ts) → EqualPart s 0 (length s) ts (p - 1) → Stand s ts p
  stand_all ts p some room h =
      stand_put s ts p some room (λ i b. let z : p - 1 + i ≡ p + i - 1 = omega arith in rw z at (h i (omega arith) b))

-- If the string stands one period before, it is enough that the last characters are equal, as many as the period.
pub stand_again :
    {s ts : List ℕ} (p : ℕ) → 1 ≤ p → p + length s ≤ suc (length ts) → {d : ℕ} → Period s d → d ≤ p → Stand s ts (p - d) →
    EqualPart s (length s - d) (length s) ts (p - 1) → Stand s ts p
stand_again {s} {ts} p some room {d} period back before h = stand_all s ts p some room (λ i lo b. each i b (le_or_lt (length s - d) i))
  where
    each : (i : ℕ) → i < length s → (length s - d ≤ i) ⊎ (i < length s - d) → get_or s i 0 ≡ get_or ts (p - 1 + i) 0
    each i b (inl late) = h i late b
    each i b (inr early) =
        let z : p - d + (d + i) - 1 ≡ p - 1 + i = omega arith in
        sym (period.equal i (omega arith))
        ∙ stand_at (d + i) before (omega arith)
        ∙ ap (λ (j : ℕ). get_or ts j 0) z

-- if the string stands, every part of it is equal
pub stand_part : {s ts : List ℕ} {p : ℕ} → Stand s ts p → (a : ℕ) → EqualPart s a (length s) ts (p - 1)
stand_part {s} {ts} {p} st a x lo hi =
    let z : p + x - 1 ≡ p - 1 + x = omega (arith, st.from) in
    stand_at x st hi ∙ ap (λ (j : ℕ). get_or ts j 0) z

-- from b back to a
pub stand_back : {s ts : List ℕ} {a : ℕ} (b : ℕ) → a ≤ b → Stand s ts a → Stand s ts (b - (b - a))
stand_back {a} b lo h = let z : b - (b - a) ≡ a = omega arith in rw z h

-- AT EACH POSITION OF A LIST

-- a string stands at the first n positions of a list
abbrev pub StandFirst : (string text positions : List ℕ) → (n : ℕ) → Type 0
StandFirst s ts ps n = (j : ℕ) → j < n → Stand s ts (get_or ps j 0)

-- and at all of them
abbrev pub StandEach : (string text positions : List ℕ) → Type 0
StandEach s ts ps = StandFirst s ts ps (length ps)

module _ {s ts : List ℕ} (ps : List ℕ) where
  pub stand_first_none : StandFirst s ts ps 0
  stand_first_none j b = absurd (omega arith)

  pub stand_first_next :
      (i : ℕ) → StandFirst s ts ps i → {p : ℕ} → p ≡ get_or ps i 0 → Stand s ts p → StandFirst s ts ps (i + 1)
  stand_first_next i h is here = below_more (λ (j : ℕ). Stand s ts (get_or ps j 0)) i h (rw is at here)

  pub stand_first_end : (i : ℕ) → length ps ≤ i → StandFirst s ts ps i → StandEach s ts ps
  stand_first_end i past h j b = h j (omega arith)

-- a single character
pub stand_character : (m : ℕ) (ts : List ℕ) (p : ℕ) → 1 ≤ p → p ≤ length ts → get_or ts (p - 1) 0 ≡ m → Stand (m ∷ []) ts p
stand_character m ts p lo hi e =
    let z : suc (p - 1) ≡ p = omega arith in
    rw (z, e) at (stand_char ts (p - 1) (omega arith))

pub character_stands : (m : ℕ) (ts : List ℕ) (p : ℕ) → Stand (m ∷ []) ts p → get_or ts (p - 1) 0 ≡ m
character_stands m ts p st =
    let z : p + 0 - 1 ≡ p - 1 = omega arith in
    ap (λ (j : ℕ). get_or ts j 0) (sym z) ∙ sym (stand_at 0 st (omega arith))

-- ascending positions
rise_next : (a : ℕ) (ps : List ℕ) → Rise a ps → (i : ℕ) → suc i < length ps → get_or ps i 0 < get_or ps (suc i) 0
rise_next a [] r i b = absurd (omega arith)
rise_next a (p ∷ []) r i b = absurd (omega arith)
rise_next a (p ∷ q ∷ ps) r zero b = omega arith
rise_next a (p ∷ q ∷ ps) r (suc i) b = rise_next (suc p) (q ∷ ps) r.1 i (omega arith)

pub rise_after : (a : ℕ) (ps : List ℕ) → Rise a ps → (i : ℕ) → 1 ≤ i → i < length ps → get_or ps (i - 1) 0 < get_or ps i 0
rise_after a ps r i lo hi =
    let z : suc (i - 1) ≡ i = omega arith in
    rw z at (rise_next a ps r (i - 1) (omega arith))

-- LINE AFTER LINE

-- the entries of the lines before line i stand; the positions of line i start at `at`
pub record Matching (lex : Lexicon) (xs ts : List ℕ) (at i : ℕ) : Type 0 where
  pub within : i ≤ keys_of xs
  pub at_is : at ≡ list_start xs i
  pub left : AllStand lex (drop i (lines_in xs)) ts → AllStand lex (lines_in xs) ts

all_stand_line :
    (lex : Lexicon) (ts : List ℕ) (l : Line) (ls : List Line) → StandEach (spells lex l.key_of) ts l.positions →
    AllStand lex ls ts → AllStand lex (l ∷ ls) ts
unfolding flat
all_stand_line lex ts l ls here later e m =
    ⊎_elim
    (λ (h : In e (entries_at lex l.key_of l.positions)).
    let entry = entries_at_get lex l.key_of l.positions e h in
    let position = member_index entry.0 l.positions 0 entry.1 in
    rw entry.2 (rw position.2 at (here position.0 position.1)))
    (λ (h : In e (flat lex ls)). later e h)
    (in_append_get e (entries_at lex l.key_of l.positions) (flat lex ls) m)

module _ {lex : Lexicon} {xs ts : List ℕ} where
  pub matching_start : {at : ℕ} → at ≡ header + 3 * keys_of xs → Matching lex xs ts at 0
  unfolding counts_from
  matching_start e = record { within = omega arith; at_is = omega arith; left = λ h. h }

  module _ {at i : ℕ} (h : Matching lex xs ts at i) where
    pub matching_step :
        {kind value from to : ℕ} → IsLine xs i kind value from to →
        StandEach (spells lex (key_at xs i)) ts (take (to - from) (drop from xs)) → Matching lex xs ts to (i + 1)
    unfolding line
    matching_step is here =
        record {
          within = omega arith;
          at_is = omega (arith, counts_next i xs);
          left =
              λ later.
              h.left
              (rw (lines_next xs i is.below)
              (all_stand_line lex ts (line_of xs i) (drop (i + 1) (lines_in xs)) (rw (line_positions is) at here) later));
        }

    pub matching_end : keys_of xs ≤ i → AllStand lex (lines_in xs) ts
    unfolding flat
    matching_end past = h.left (rw (lines_none xs i past) (λ e m. absurd m))

-- the entries of one line, if all stand
pub line_matches :
    (lex : Lexicon) {xs : List ℕ} (ts : List ℕ) {i kind value from to : ℕ} → IsLine xs i kind value from to →
    AllStand lex (lines_in xs) ts → StandEach (spells lex (key_at xs i)) ts (take (to - from) (drop from xs))
unfolding line
line_matches lex {xs} ts {i} is all =
    rw (line_positions is)
    (λ j b.
    let p : ℕ = get_or (positions_at xs i) j 0 in
    all (posting lex (key_at xs i) p)
    (flat_put lex (lines_in xs) (line_of xs i) p (line_of_in xs i is.below) (in_getD (positions_at xs i) j 0 b)))
