-- The lines of words whose keys are leading: they agree with the string at an offset of 0 or below. They are listed once, and each
-- window then walks only these. Assumes nothing.
use Rattle.std.specs.Prelude.{◌≡◌, Bool, true, false, cond, get_or, drop, set}
use Rattle.std.proofs.Math.Path.{refl, sym, ap}
use Rattle.std.proofs.Common.{◌∙◌, add-one, drop_of_length-le, below_more}
use mathlib.Core.List.{List, ◌∷◌}
use Prim.Native.Nat.{ℕ, zero, suc, ◌+◌, ◌-◌, ◌≤◌, ◌<◌}
use Rattle.std.proofs.Math.Nat.{sub-zero}
use native.Mathlib.Omega.{arith}
use Rattle.std.proofs.Math.ListN.{length}
use Rattle.std.proofs.Math.Seq.{drop-cons}
use Rattle.basics.specs.Bools.{clash, false_put}
use Rattle.basics.specs.Member.{in_getD}
use Rattle.basics.specs.Steps.{any_from, any_from_get, any_from_put, those_from, those_from_get}
use Rattle.basics.specs.Placed.{Wrote, Writing, writing_start, writing_one, writing_end}
use Rattle.spec.specs.Dictionary.{Lexicon}
use Rattle.spec.specs.Words.{spells}
use Rattle.spec.specs.Index.{value_at, key_at}
use Rattle.spec.specs.Search.{agrees}
use Rattle.models.specs.Reach.{reach_back}
use Rattle.models.specs.Window.{back_all, run_from, run, positions_at, leading_at, agrees_leading, is_leading, leading_lines, run_list}
use Rattle.models.specs.WordStarts.{lexicon_at}
use Rattle.laws.specs.Text.Strings.{Lacks}
use Rattle.laws.specs.Directory.Tables.{WordLine, line_char}
use Rattle.laws.specs.Build.PostingsByKey.{those_short}
use Rattle.laws.specs.Search.Reach.{reach_key_apart}
use Rattle.laws.specs.Search.AgreeWalk.{key_starts_apart}
use Rattle.laws.specs.Window.Window.{Within, Reaches, extended_same, Progress, progress_start, progress_step, progress_end}

-- ONE KEY

-- of the offsets −m and below, the key agrees at none above −n
abbrev pub ApartTo : (m : ℕ) → (string key : List ℕ) → (n : ℕ) → Type 0
ApartTo m s k n = (i : ℕ) → i < n → m ≤ i → agrees s i k 0 ≡ false

module _ (m : ℕ) (s k : List ℕ) where
  pub apart_start : ApartTo m s k m
  apart_start i b l = absurd (omega arith)

  module _ (n : ℕ) (h : ApartTo m s k n) where
    pub apart_next : agrees s n k 0 ≡ false → ApartTo m s k (n + 1)
    apart_next f = below_more (λ (i : ℕ). m ≤ i → agrees s i k 0 ≡ false) n h (λ l. f)

    -- if the key does not have the string's first character there
    pub apart_pass : n < length k → (get_or k n 0 ≡ get_or s 0 0 → ⊥) → ApartTo m s k (n + 1)
    apart_pass some other = apart_next (key_starts_apart n s k some other)

    pub apart_end : length k ≤ n → false ≡ agrees_leading m s k
    unfolding agrees_leading
    apart_end past =
        sym
        (false_put (any_from (length k - m) m (λ i. agrees s i k 0))
        (λ t.
        let some = any_from_get (length k - m) m (λ i. agrees s i k 0) t in
        clash some.3 (h some.0 (omega arith) some.1)))

  pub leading_found : (i : ℕ) → m ≤ i → i < length k → agrees s i k 0 ≡ true → true ≡ agrees_leading m s k
  unfolding agrees_leading
  leading_found i l b t = sym (any_from_put (length k - m) m (λ i. agrees s i k 0) i l (omega arith) t)

  -- a key without the string's first character from index m on agrees at none of them
  pub leading_lacks : ((i : ℕ) → m ≤ i → i < length k → get_or k i 0 ≡ get_or s 0 0 → ⊥) → false ≡ agrees_leading m s k
  leading_lacks other = apart_end (length k) (λ i b l. key_starts_apart i s k b (other i l b)) (omega arith)

  pub leading_none : agrees_leading m s k ≡ false → ApartTo m s k (length k)
  unfolding agrees_leading
  leading_none f i b l =
      false_put (agrees s i k 0)
      (λ t. clash (any_from_put (length k - m) m (λ i. agrees s i k 0) i l (omega arith) t) f)

module _ (s k : List ℕ) where
  -- a key that agrees at no offset of 0 or below extends nothing
  back_apart : (p : ℕ) (bs : List ℕ) (n i r : ℕ) → ApartTo 0 s k (i + n) → reach_back n i s k p bs r ≡ r
  unfolding reach_back
  back_apart p bs zero i r h = refl
  back_apart p bs (suc n) i r h =
      rw (reach_key_apart i 0 s k p bs r (h i (omega arith) (omega arith)))
      (back_apart p bs n (suc i) r (λ j b. h j (omega arith)))

  pub leading_all_apart :
      (q : ℕ) (bs rs : List ℕ) → agrees_leading 0 s k ≡ false → back_all (length k) 0 s k q bs rs ≡ rs
  unfolding back_all
  leading_all_apart q bs rs f =
      extended_same (λ p r. reach_back (length k) 0 s k p bs r) q rs
      (λ j w. back_apart (q + j) bs (length k) 0 (get_or rs j 0) (λ i b. leading_none 0 s k f i (omega arith)))

-- THE LINES OF LEADING KEYS

-- a word that is seen to lack the string's first character from index m on
pub line_lacks :
    {cs ws xs : List ℕ} {i : ℕ} → WordLine cs ws xs i → (s : List ℕ) (m : ℕ) {v : ℕ} {k : List ℕ} → v ≡ value_at xs i →
    k ≡ spells (lexicon_at cs ws) (key_at xs i) → Lacks cs (get_or ws v 0 + m) (length k - m) (get_or s 0 0) →
    false ≡ is_leading m (lexicon_at cs ws) xs s i
line_lacks {cs} {ws} {xs} {i} line s m {v} e f lacks =
    leading_lacks m s (spells (lexicon_at cs ws) (key_at xs i))
    (λ j l b c.
    let at : get_or ws v 0 + m + (j - m) ≡ get_or ws (value_at xs i) 0 + j = omega (arith, ap (λ (u : ℕ). get_or ws u 0) e) in
    lacks (j - m) (omega (arith, ap length f)) (ap (λ (u : ℕ). get_or cs u 0) at ∙ line_char line j b ∙ c))

-- a walk may skip steps that change nothing
pub run_those :
    (f : ℕ → List ℕ → List ℕ) (test : ℕ → Bool) → ((i : ℕ) → test i ≡ false → (rs : List ℕ) → f i rs ≡ rs) → (n i : ℕ) (rs : List ℕ) →
    run_list f (those_from n i test) rs ≡ run_from f n i rs
unfolding run_list those_from run_from
run_those f test still zero i rs = refl
run_those f test still (suc n) i rs = by_test (test i) refl (λ old. run_those f test still n (suc i) old)
  where
    by_test :
        (b : Bool) → test i ≡ b → ((old : List ℕ) → run_list f (those_from n (suc i) test) old ≡ run_from f n (suc i) old) →
        run_list f (cond b (i ∷ those_from n (suc i) test) (those_from n (suc i) test)) rs ≡ run_from f n (suc i) (f i rs)
    by_test true t rest = rest (f i rs)
    by_test false t rest = rest rs ∙ ap (run_from f n (suc i)) (sym (still i t rs))

module _ (lex : Lexicon) (xs s : List ℕ) where
  -- a line whose key is not leading changes nothing
  pub leading_apart : (q i : ℕ) → is_leading 0 lex xs s i ≡ false → (rs : List ℕ) → leading_at lex xs s q i rs ≡ rs
  unfolding leading_at
  leading_apart q i f rs = leading_all_apart s (spells lex (key_at xs i)) q (positions_at xs i) rs f

  -- so walking the listed lines does what walking all does
  pub leading_run :
      (q w : ℕ) (rs : List ℕ) → run_list (leading_at lex xs s q) (leading_lines 0 lex xs s w) rs ≡ run (leading_at lex xs s q) 0 w rs
  unfolding leading_lines
  leading_run q w rs = rw (sub-zero w) (run_those (leading_at lex xs s q) (is_leading 0 lex xs s) (leading_apart q) w 0 rs)

  pub leading_reaches :
      (q w : ℕ) {is : List ℕ} (old : List ℕ) {now : List ℕ} {max_reach : ℕ} → is ≡ leading_lines 0 lex xs s w →
      Reaches (run_list (leading_at lex xs s q) is old) now max_reach →
      Reaches (run (leading_at lex xs s q) 0 w old) now max_reach
  leading_reaches q w {is} old e r =
      record {
        is = r.is ∙ ap (λ (js : List ℕ). run_list (leading_at lex xs s q) js old) e ∙ leading_run q w old;
        bounded = r.bounded;
      }

module _ (m : ℕ) (lex : Lexicon) (xs s : List ℕ) (w : ℕ) where
  -- each of them is a line of a word
  pub leading_below : {is : List ℕ} → is ≡ leading_lines m lex xs s w → (j : ℕ) → j < length is → get_or is j 0 < w
  unfolding leading_lines
  leading_below e j b =
      let listed : List ℕ = those_from w 0 (is_leading m lex xs s) in
      let l = those_from_get w 0 (is_leading m lex xs s) (get_or listed j 0) (in_getD listed j 0 (omega (arith, ap length e))) in
      rw e (omega arith)

  pub leading_short : length (leading_lines m lex xs s w) ≤ w
  unfolding leading_lines
  leading_short = those_short w 0 (is_leading m lex xs s)

-- WALKING A LIST OF LINES

-- the steps of the first j listed numbers are done, `rs` is the window now, and no reach is above `highest`
pub record Listed (f : ℕ → List ℕ → List ℕ) (is old rs : List ℕ) (highest j : ℕ) : Type 0 where
  pub way : Progress (run_list f (drop j is)) (run_list f is old) old rs highest

module _ {f : ℕ → List ℕ → List ℕ} {is old : List ℕ} where
  pub listed_start : {max_reach : ℕ} → Within max_reach old → Listed f is old old max_reach 0
  listed_start {max_reach} w = record { way = progress_start (run_list f is) old max_reach w }

  module _ {rs : List ℕ} {highest j : ℕ} (h : Listed f is old rs highest j) where
    pub listed_step :
        j < length is → {now : List ℕ} {max_reach : ℕ} → length now ≡ length rs → Reaches (f (get_or is j 0) rs) now max_reach →
        Listed f is old now max_reach (j + 1)
    unfolding run_list
    listed_step some kept r =
        record { way = progress_step (run_list f (drop (j + 1) is)) h.way (rw (add-one j, drop-cons is j 0)) kept r }

    pub listed_end : length is ≤ j → Reaches (run_list f is old) rs highest
    unfolding run_list
    listed_end past = progress_end h.way (rw (drop_of_length-le is past))

-- FILLING THE LIST

-- of the first w lines those from i on are still to be tested, and `count` are listed
pub record Leading (m : ℕ) (lex : Lexicon) (xs s : List ℕ) (w : ℕ) (old now : List ℕ) (count i : ℕ) : Type 0 where
  pub writing : Writing (leading_lines m lex xs s w) 0 old (those_from (w - i) i (is_leading m lex xs s)) count now

module _ {m : ℕ} {lex : Lexicon} {xs s : List ℕ} {w : ℕ} {old : List ℕ} where
  pub leading_start : w ≤ length old → Leading m lex xs s w old old 0 0
  unfolding leading_lines
  leading_start room =
      record { writing = rw (sub-zero w) (writing_start (leading_lines m lex xs s w) 0 old (omega (arith, leading_short m lex xs s w))) }

  module _ {now : List ℕ} {count i : ℕ} (h : Leading m lex xs s w old now count i) where
    module _ (some : i < w) where
      rest : List ℕ
      rest = those_from (w - (i + 1)) (i + 1) (is_leading m lex xs s)

      split : those_from (w - i) i (is_leading m lex xs s) ≡ cond (is_leading m lex xs s i) (i ∷ rest) rest
      unfolding those_from rest
      split = let z : w - i ≡ suc (w - suc i) = omega arith in rw (add-one i, z)

      pub leading_passed : false ≡ is_leading m lex xs s i → Leading m lex xs s w old now count (i + 1)
      unfolding rest
      leading_passed f = record { writing = rw (split, ← f) at h.writing }

      module _ (t : true ≡ is_leading m lex xs s i) where
        here : Writing (leading_lines m lex xs s w) 0 old (i ∷ rest) count now
        here = rw (split, ← t) at h.writing

        pub leading_room : count < length now
        leading_room = omega (arith, here.room)

        pub leading_listed : Leading m lex xs s w old (set now count i) (count + 1) (i + 1)
        unfolding rest
        leading_listed = record { writing = writing_one i rest here }

    pub leading_filled : w ≤ i → Wrote (leading_lines m lex xs s w) 0 old count now
    unfolding those_from
    leading_filled past = let z : w - i ≡ 0 = omega arith in writing_end (rw z at h.writing)
