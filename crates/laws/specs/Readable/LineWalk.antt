-- The model of readability: one walk over the directory, with the positions of each line. Assumes nothing.
use Rattle.std.specs.Prelude.{◌≡◌, refl, true, false, ◌&&◌, take}
use Rattle.std.proofs.Math.Path.{sym}
use Rattle.std.proofs.Common.{◌∙◌, arith, length-drop}
use Rattle.std.proofs.Math.Bool.{Bool}
use mathlib.Core.List.{List}
use Prim.Native.Nat.{ℕ, zero, suc, ◌+◌, ◌*◌, ◌≤◌, ◌<◌}
use Rattle.std.proofs.Math.Dec.{leb}
use Rattle.std.proofs.Math.ListN.{length, drop}
use Rattle.std.proofs.Math.Seq.{length-take-le}
use borrow.Author.Tests.{le-leb, leb-true, eq-eqb, eqb-true}
use Rattle.basics.specs.Bools.{iff_eq, false_put, and_put, and_left, and_right}
use Rattle.spec.specs.Dictionary.{Lexicon}
use Rattle.spec.specs.Words.{Key, key, spells}
use Rattle.spec.specs.Numbers.{Line, line}
use Rattle.spec.specs.Index.{header, n_of, keys_of, kind_at, count_at, key_at, counts_from, entries_of, lines_from, lines_in}
use Rattle.spec.specs.Index.{kinds_good, key_good, keys_ascend, rise_from, last_of, line_good, lines_good, lengths_fit, readable}
use Rattle.models.specs.Readability.{key_number, list_good, line_list_good, key_fits, line_fits, rest_good}
use Rattle.models.specs.Readability.{as_is, walk_good}
use Rattle.laws.specs.Numbers.KeyNumbers.{key_numbers_ascend, key_numbers_all, key_small}
use Rattle.laws.specs.Numbers.Slices.{Fits, lengths_fit_get, kinds_good_lines_from}
use Rattle.laws.specs.Readable.Readable.{lines_good_get, readable_get}

-- ONE LINE

-- THE LINES FROM i ON

-- what the walk decides
record Rest (lex : Lexicon) (n k i a : ℕ) (xs ps : List ℕ) : Type 0 where
  counts : counts_from k i xs ≡ length ps
  kinds : kinds_good k i xs ≡ true
  order : key_numbers_ascend a (lines_from k i xs ps) ≡ true
  good : lines_good lex n (lines_from k i xs ps) ≡ true

-- the tests of one line, one by one
pub record LineFits (read : List ℕ → List ℕ) (lex : Lexicon) (n a : ℕ) (k : Key) (c : ℕ) (ps : List ℕ) : Type 0 where
  pub kind_small : k.kind ≤ 1
  pub code_least : a ≤ key_number k
  pub is_good : key_good lex k ≡ true
  pub present : c ≤ length ps
  pub some : 1 ≤ c
  pub ends : last_of (read (take c ps)) + length (spells lex k) ≤ suc n
  pub rises : rise_from 1 (read (take c ps)) ≡ true

module _ (read : List ℕ → List ℕ) (lex : Lexicon) (n a : ℕ) (k : Key) (c : ℕ) (ps : List ℕ) where
  pub fits_get : line_fits read lex n a k c ps ≡ true → LineFits read lex n a k c ps
  unfolding line_fits key_fits line_list_good list_good
  fits_get t =
      record {
        kind_small = leb-true k.kind 1 (and_left kind code (and_left (kind && code) is front));
        code_least = leb-true a (key_number k) (and_right kind code (and_left (kind && code) is front));
        is_good = and_right (kind && code) is front;
        present = leb-true c (length ps) (and_left there one (and_left (there && one) (end && rise) back));
        some = leb-true 1 c (and_right there one (and_left (there && one) (end && rise) back));
        ends =
            leb-true (last_of (read (take c ps)) + length (spells lex k)) (suc n)
            (and_left end rise (and_right (there && one) (end && rise) back));
        rises = and_right end rise (and_right (there && one) (end && rise) back);
      }
    where
      kind : Bool
      kind = leb k.kind 1

      code : Bool
      code = leb a (key_number k)

      is : Bool
      is = key_good lex k

      there : Bool
      there = leb c (length ps)

      one : Bool
      one = leb 1 c

      end : Bool
      end = leb (last_of (read (take c ps)) + length (spells lex k)) (suc n)

      rise : Bool
      rise = rise_from 1 (read (take c ps))

      front : ((kind && code) && is) ≡ true
      front = and_left ((kind && code) && is) ((there && one) && (end && rise)) t

      back : ((there && one) && (end && rise)) ≡ true
      back = and_right ((kind && code) && is) ((there && one) && (end && rise)) t

  pub fits_put : LineFits read lex n a k c ps → line_fits read lex n a k c ps ≡ true
  unfolding line_fits key_fits line_list_good list_good
  fits_put h =
      and_put (and_put (and_put (le-leb k.kind 1 h.kind_small) (le-leb a (key_number k) h.code_least)) h.is_good)
      (and_put (and_put (le-leb c (length ps) h.present) (le-leb 1 c h.some))
      (and_put (le-leb (last_of (read (take c ps)) + length (spells lex k)) (suc n) h.ends) h.rises))

-- A LINE READ AS IT IS

module _ {lex : Lexicon} {n a : ℕ} {k : Key} {c : ℕ} {ps : List ℕ} where
  -- the line is good
  fits_line : LineFits as_is lex n a k c ps → line_good lex n (line k (take c ps)) ≡ true
  unfolding line_good line
  fits_line h =
      let len : length (take c ps) ≡ c = length-take-le c ps h.present in
      and_put (and_put h.is_good (le-leb 1 (length (take c ps)) (omega arith)))
      (and_put h.rises (le-leb (last_of (take c ps) + length (spells lex k)) (suc n) h.ends))

  line_fit :
      k.kind ≤ 1 → a ≤ key_number k → c ≤ length ps → line_good lex n (line k (take c ps)) ≡ true → LineFits as_is lex n a k c ps
  unfolding line_good line
  line_fit small least present t =
      let len : length (take c ps) ≡ c = length-take-le c ps present in
      record {
        kind_small = small;
        code_least = least;
        is_good = and_left is one (and_left (is && one) (rise && end) t);
        present = present;
        some = let h : 1 ≤ length (take c ps) = leb-true 1 (length (take c ps))
            (and_right is one (and_left (is && one) (rise && end) t)) in omega arith;
        ends = leb-true (last_of (take c ps) + length (spells lex k)) (suc n) (and_right rise end (and_right (is && one) (rise && end) t));
        rises = and_left rise end (and_right (is && one) (rise && end) t);
      }
    where
      is : Bool
      is = key_good lex k

      one : Bool
      one = leb 1 (length (take c ps))

      end : Bool
      end = leb (last_of (take c ps) + length (spells lex k)) (suc n)

      rise : Bool
      rise = rise_from 1 (take c ps)

rest_get : (lex : Lexicon) (n k i a : ℕ) (xs ps : List ℕ) → rest_good as_is lex n k i a xs ps ≡ true → Rest lex n k i a xs ps
unfolding rest_good counts_from kinds_good lines_from key_numbers_ascend lines_good key line
rest_get lex n zero i a xs ps t =
    record { counts = sym (eqb-true (length ps) 0 t); kinds = refl; order = refl; good = refl }
rest_get lex n (suc k) i a xs ps t =
    step
    (fits_get as_is lex n a (key_at xs i) (count_at xs i) ps (and_left here next t))
    (rest_get lex n k (suc i) (suc (key_number (key_at xs i))) xs (drop (count_at xs i) ps) (and_right here next t))
  where
    here : Bool
    here = line_fits as_is lex n a (key_at xs i) (count_at xs i) ps

    next : Bool
    next = rest_good as_is lex n k (suc i) (suc (key_number (key_at xs i))) xs (drop (count_at xs i) ps)

    step :
        LineFits as_is lex n a (key_at xs i) (count_at xs i) ps →
        Rest lex n k (suc i) (suc (key_number (key_at xs i))) xs (drop (count_at xs i) ps) → Rest lex n (suc k) i a xs ps
    step f r =
        record {
          counts = omega (arith, length-drop (count_at xs i) ps);
          kinds = and_put (le-leb (kind_at xs i) 1 f.kind_small) r.kinds;
          order = and_put (le-leb a (key_number (key_at xs i)) f.code_least) r.order;
          good = and_put (fits_line f) r.good;
        }

rest_put : {lex : Lexicon} {n : ℕ} (k : ℕ) {i a : ℕ} {xs ps : List ℕ} → Rest lex n k i a xs ps → rest_good as_is lex n k i a xs ps ≡ true
unfolding rest_good counts_from kinds_good lines_from key_numbers_ascend lines_good key line
rest_put zero {ps} h = eq-eqb (length ps) 0 (sym h.counts)
rest_put {lex} {n} (suc k) {i} {a} {xs} {ps} h =
    and_put (fits_put as_is lex n a (key_at xs i) (count_at xs i) ps fit) (rest_put k next)
  where
    small : Bool
    small = leb (kind_at xs i) 1

    least : Bool
    least = leb a (key_number (key_at xs i))

    good : Bool
    good = line_good lex n (line (key_at xs i) (take (count_at xs i) ps))

    rest : List Line
    rest = lines_from k (suc i) xs (drop (count_at xs i) ps)

    fit : LineFits as_is lex n a (key_at xs i) (count_at xs i) ps
    fit =
        line_fit (leb-true (kind_at xs i) 1 (and_left small (kinds_good k (suc i) xs) h.kinds))
        (leb-true a (key_number (key_at xs i)) (and_left least (key_numbers_ascend (suc (key_number (key_at xs i))) rest) h.order))
        (omega arith)
        (and_left good (lines_good lex n rest) h.good)

    next : Rest lex n k (suc i) (suc (key_number (key_at xs i))) xs (drop (count_at xs i) ps)
    next =
        record {
          counts = omega (arith, length-drop (count_at xs i) ps);
          kinds = and_right small (kinds_good k (suc i) xs) h.kinds;
          order = and_right least (key_numbers_ascend (suc (key_number (key_at xs i))) rest) h.order;
          good = and_right good (lines_good lex n rest) h.good;
        }

-- THE WHOLE

module _ (g : ℕ) (lex : Lexicon) (xs : List ℕ) where
  abbrev fit : Bool
  fit = lengths_fit xs

  abbrev small : Bool
  small = leb (n_of xs) g

  abbrev kinds : Bool
  kinds = kinds_good (keys_of xs) 0 xs

  abbrev order : Bool
  order = keys_ascend (lines_in xs)

  abbrev good : Bool
  good = lines_good lex (n_of xs) (lines_in xs)

  pub readable_fits : readable g lex xs ≡ true → Fits xs
  unfolding readable
  readable_fits t = lengths_fit_get xs (and_left fit small (and_left (fit && small) (kinds && (order && good)) t))

  pub unreadable_header : length xs < header → false ≡ readable g lex xs
  unreadable_header h =
      sym (false_put (readable g lex xs) (λ (t : readable g lex xs ≡ true). omega (arith, (readable_fits t).has_header)))

  pub unreadable_directory : length xs < header + 3 * keys_of xs → false ≡ readable g lex xs
  unreadable_directory h =
      sym (false_put (readable g lex xs) (λ (t : readable g lex xs ≡ true). omega (arith, (readable_fits t).has_directory)))

  pub unreadable_long : g < n_of xs → false ≡ readable g lex xs
  unreadable_long h =
      sym (false_put (readable g lex xs) (λ (t : readable g lex xs ≡ true). omega (arith, (readable_get g lex xs t).length_allowed)))

  pub readable_walk :
      length lex.words ≤ 4096 → header ≤ length xs → header + 3 * keys_of xs ≤ length xs → n_of xs ≤ g →
      walk_good as_is lex xs ≡ readable g lex xs
  unfolding readable lengths_fit walk_good lines_in entries_of
  readable_walk few head dir allowed = iff_eq (walk_good as_is lex xs) (readable g lex xs) to from
    where
      positions : List ℕ
      positions = drop (header + 3 * keys_of xs) xs

      lines : List Line
      lines = lines_from (keys_of xs) 0 xs positions

      -- good keys have values below 65,536, so their codes are ordered as they are
      ascends : kinds_good (keys_of xs) 0 xs ≡ true → lines_good lex (n_of xs) lines ≡ true → key_numbers_ascend 0 lines ≡ keys_ascend lines
      ascends kinds good =
          key_numbers_all lines
          (λ l i.
          key_small few
          (lines_good_get lex (n_of xs) lines (kinds_good_lines_from (keys_of xs) 0 xs positions kinds) good l i).is_key)

      to : walk_good as_is lex xs ≡ true → readable g lex xs ≡ true
      to t =
          let r = rest_get lex (n_of xs) (keys_of xs) 0 0 xs positions t in
          let whole : length xs ≡ header + 3 * keys_of xs + counts_from (keys_of xs) 0 xs =
          omega (arith, length-drop (header + 3 * keys_of xs) xs) in
          and_put
          (and_put
          (and_put (and_put (le-leb header (length xs) head) (le-leb (header + 3 * keys_of xs) (length xs) dir))
          (eq-eqb (length xs) (header + 3 * keys_of xs + counts_from (keys_of xs) 0 xs) whole))
          (le-leb (n_of xs) g allowed))
          (and_put r.kinds (and_put (sym (ascends r.kinds r.good) ∙ r.order) r.good))

      from : readable g lex xs ≡ true → walk_good as_is lex xs ≡ true
      from t =
          let rest = and_right (fit && small) (kinds && (order && good)) t in
          let are_kinds = and_left kinds (order && good) rest in
          let are_good = and_right order good (and_right kinds (order && good) rest) in
          rest_put (keys_of xs)
          (record {
            counts = omega (arith, (readable_fits t).len, length-drop (header + 3 * keys_of xs) xs);
            kinds = are_kinds;
            order = ascends are_kinds are_good ∙ and_left order good (and_right kinds (order && good) rest);
            good = are_good;
          })
