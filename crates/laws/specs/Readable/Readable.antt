-- Readable: the test as facts, and that a readable slice is the numbers of good lines. Assumes nothing.
use Rattle.std.specs.Prelude.{◌≡◌, refl, Bool, true, ◌&&◌, List, [], ◌∷◌, ℕ, suc, ◌+◌, ◌*◌, ◌≤◌, leb, length, drop}
use Rattle.std.proofs.Common.{sym, ap, ◌∙◌, inl, inr, arith, le-leb, leb-true}
use Rattle.basics.specs.Bools.{and_put, and_left, and_right}
use Rattle.basics.specs.Member.{In}
use Rattle.spec.specs.Dictionary.{Lexicon}
use Rattle.spec.specs.Words.{spells}
use Rattle.spec.specs.Numbers.{key_before, Line, all_positions, numbers}
use Rattle.spec.specs.Index.{header, n_of, keys_of, entries_of, lines_in, kinds_good, key_good, keys_ascend, rise_from, last_of, line_good}
use Rattle.spec.specs.Index.{lines_good, lengths_fit, readable}
use Rattle.laws.specs.Text.Facts.{Rise, GoodLine, KeysRise, GoodLines}
use Rattle.laws.specs.Numbers.KeyOrder.{key_before_strict}
use Rattle.laws.specs.Numbers.Slices.{n_of_numbers, keys_of_numbers, directory_starts, lines_in_numbers, entries_of_numbers}
use Rattle.laws.specs.Numbers.Slices.{kinds_good_directory, lengths_fit_numbers, kinds_good_lines_from, lengths_fit_get}
use Rattle.laws.specs.Numbers.Slices.{numbers_lines_in}

-- FROM FACTS TO TESTS

pub last_in : (p : ℕ) (ps : List ℕ) → In (last_of (p ∷ ps)) (p ∷ ps)
unfolding last_of
last_in p [] = inl refl
last_in p (q ∷ ps) = inr (last_in q ps)

pub rise_from_put : (a : ℕ) (ps : List ℕ) → Rise a ps → rise_from a ps ≡ true
unfolding rise_from
rise_from_put a [] r = refl
rise_from_put a (p ∷ ps) r = and_put (le-leb a p r.0) (rise_from_put (suc p) ps r.1)

pub keys_ascend_put : (ls : List Line) → KeysRise ls → keys_ascend ls ≡ true
unfolding keys_ascend
keys_ascend_put [] k = refl
keys_ascend_put (l ∷ []) k = refl
keys_ascend_put (l ∷ m ∷ ls) k = and_put (k.0 m (inl refl)) (keys_ascend_put (m ∷ ls) k.1)

pub line_good_put : (lex : Lexicon) (n : ℕ) (l : Line) → GoodLine lex n l → line_good lex n l ≡ true
unfolding line_good
line_good_put lex n l good =
    and_put (and_put good.is_key.good (le-leb 1 (length l.positions) good.some))
    (and_put (rise_from_put 1 l.positions good.rise)
    (le-leb (last_of l.positions + length (spells lex l.key_of)) (suc n) (fits l.positions good.some good.fits)))
  where
    fits :
        (ps : List ℕ) → 1 ≤ length ps → ((p : ℕ) → In p ps → p + length (spells lex l.key_of) ≤ suc n) →
        last_of ps + length (spells lex l.key_of) ≤ suc n
    fits [] some all = absurd (omega arith)
    fits (p ∷ ps) some all = all (last_of (p ∷ ps)) (last_in p ps)

pub lines_good_put :
    (lex : Lexicon) (n : ℕ) (ls : List Line) → ((l : Line) → In l ls → GoodLine lex n l) → lines_good lex n ls ≡ true
unfolding lines_good
lines_good_put lex n [] each = refl
lines_good_put lex n (l ∷ ls) each =
    and_put (line_good_put lex n l (each l (inl refl))) (lines_good_put lex n ls (λ m k. each m (inr k)))

-- The numbers of good lines are readable.
pub readable_put :
    (g : ℕ) {lex : Lexicon} {n : ℕ} {ls : List Line} → GoodLines lex n ls → n ≤ g → readable g lex (numbers n ls) ≡ true
unfolding readable
readable_put g {lex} {n} {ls} good small =
    rw (lines_in_numbers, keys_of_numbers, n_of_numbers)
    (and_put (and_put (lengths_fit_numbers n ls) (le-leb n g small))
    (and_put (kinds_good_directory ls 0 (numbers n ls) (all_positions ls) (directory_starts n ls)
    (λ l m. (good.each l m).is_key.kind_small))
    (and_put (keys_ascend_put ls good.order) (lines_good_put lex n ls good.each))))

-- FROM TESTS TO FACTS

pub rise_from_get : (a : ℕ) (ps : List ℕ) → rise_from a ps ≡ true → Rise a ps
unfolding rise_from
rise_from_get a [] t = tt
rise_from_get a (p ∷ ps) t = (
  leb-true a p (and_left (leb a p) (rise_from (suc p) ps) t),
  rise_from_get (suc p) ps (and_right (leb a p) (rise_from (suc p) ps) t),
)

-- the last of ascending positions is the greatest
rise_last : (a : ℕ) (ps : List ℕ) (p : ℕ) → Rise a ps → In p ps → p ≤ last_of ps
unfolding last_of
rise_last a [] p r m = absurd m
rise_last a (q ∷ []) p r (inl e) = omega arith
rise_last a (q ∷ []) p r (inr m) = absurd m
rise_last a (q ∷ u ∷ ps) p r (inl e) = omega (arith, rise_last (suc q) (u ∷ ps) u r.1 (inl refl))
rise_last a (q ∷ u ∷ ps) p r (inr m) = rise_last (suc q) (u ∷ ps) p r.1 m

pub keys_ascend_get : (ls : List Line) → keys_ascend ls ≡ true → KeysRise ls
unfolding keys_ascend
keys_ascend_get [] t = tt
keys_ascend_get (l ∷ []) t = (λ m k. absurd k, tt)
keys_ascend_get (l ∷ m ∷ ls) t =
    go (and_left (key_before l.key_of m.key_of) (keys_ascend (m ∷ ls)) t)
    (keys_ascend_get (m ∷ ls) (and_right (key_before l.key_of m.key_of) (keys_ascend (m ∷ ls)) t))
  where
    go : key_before l.key_of m.key_of ≡ true → KeysRise (m ∷ ls) → KeysRise (l ∷ m ∷ ls)
    go first rest = (after, rest)
      where
        after : (x : Line) → In x (m ∷ ls) → key_before l.key_of x.key_of ≡ true
        after x (inl e) = rw e first
        after x (inr k) = key_before_strict.transitive l.key_of m.key_of x.key_of first (rest.0 x k)

pub line_good_get : (lex : Lexicon) (n : ℕ) (l : Line) → l.key_of.kind ≤ 1 → line_good lex n l ≡ true → GoodLine lex n l
unfolding line_good
line_good_get lex n l small t =
    record {
      is_key = record {
        kind_small = small;
        good = and_left (key_good lex l.key_of) (leb 1 (length l.positions)) front;
      };
      some = leb-true 1 (length l.positions) (and_right (key_good lex l.key_of) (leb 1 (length l.positions)) front);
      rise = rise;
      fits = λ p m. omega (arith, rise_last 1 l.positions p rise m, within);
    }
  where
    ends : Bool
    ends = leb (last_of l.positions + length (spells lex l.key_of)) (suc n)

    front : (key_good lex l.key_of && leb 1 (length l.positions)) ≡ true
    front = and_left (key_good lex l.key_of && leb 1 (length l.positions)) (rise_from 1 l.positions && ends) t

    back : (rise_from 1 l.positions && ends) ≡ true
    back = and_right (key_good lex l.key_of && leb 1 (length l.positions)) (rise_from 1 l.positions && ends) t

    rise : Rise 1 l.positions
    rise = rise_from_get 1 l.positions (and_left (rise_from 1 l.positions) ends back)

    within : last_of l.positions + length (spells lex l.key_of) ≤ suc n
    within =
        leb-true (last_of l.positions + length (spells lex l.key_of)) (suc n) (and_right (rise_from 1 l.positions) ends back)

pub lines_good_get :
    (lex : Lexicon) (n : ℕ) (ls : List Line) → ((l : Line) → In l ls → l.key_of.kind ≤ 1) → lines_good lex n ls ≡ true →
    (l : Line) → In l ls → GoodLine lex n l
unfolding lines_good
lines_good_get lex n [] small t l m = absurd m
lines_good_get lex n (k ∷ ks) small t l (inl e) =
    rw e (line_good_get lex n k (small k (inl refl)) (and_left (line_good lex n k) (lines_good lex n ks) t))
lines_good_get lex n (k ∷ ks) small t l (inr m) =
    lines_good_get lex n ks (λ j i. small j (inr i)) (and_right (line_good lex n k) (lines_good lex n ks) t) l m

-- The facts of a readable slice: good lines, an allowed length, and no numbers besides those of the lines.
pub record Readable (g : ℕ) (lex : Lexicon) (xs : List ℕ) : Type 0 where
  pub lines : GoodLines lex (n_of xs) (lines_in xs)
  pub length_allowed : n_of xs ≤ g
  pub is_numbers : xs ≡ numbers (n_of xs) (lines_in xs)

pub readable_get : (g : ℕ) (lex : Lexicon) (xs : List ℕ) → readable g lex xs ≡ true → Readable g lex xs
unfolding readable lines_in
readable_get g lex xs t =
    record {
      lines =
          record {
            each = lines_good_get lex (n_of xs) (lines_in xs) kinds (and_right order good rest);
            order = keys_ascend_get (lines_in xs) (and_left order good rest);
          };
      length_allowed = leb-true (n_of xs) g (and_right fit small front);
      is_numbers = sym (numbers_lines_in xs (lengths_fit_get xs (and_left fit small front)));
    }
  where
    fit : Bool
    fit = lengths_fit xs

    small : Bool
    small = leb (n_of xs) g

    order : Bool
    order = keys_ascend (lines_in xs)

    good : Bool
    good = lines_good lex (n_of xs) (lines_in xs)

    kinds_test : Bool
    kinds_test = kinds_good (keys_of xs) 0 xs

    front : (fit && small) ≡ true
    front = and_left (fit && small) (kinds_test && (order && good)) t

    back : (kinds_test && (order && good)) ≡ true
    back = and_right (fit && small) (kinds_test && (order && good)) t

    rest : (order && good) ≡ true
    rest = and_right kinds_test (order && good) back

    kinds : (l : Line) → In l (lines_in xs) → l.key_of.kind ≤ 1
    kinds l m =
        kinds_good_lines_from (keys_of xs) 0 xs (drop (header + 3 * keys_of xs) xs)
        (and_left kinds_test (order && good) back) l m

-- Readable slices with equal n and equal lines are equal.
pub readable_unique :
    (g : ℕ) (lex : Lexicon) (xs ys : List ℕ) → readable g lex xs ≡ true → readable g lex ys ≡ true → n_of xs ≡ n_of ys →
    lines_in xs ≡ lines_in ys → xs ≡ ys
readable_unique g lex xs ys p q n l =
    (readable_get g lex xs p).is_numbers ∙ rw (n, l) (sym (readable_get g lex ys q).is_numbers)

-- M is the number of positions
pub entries_of_positions :
    (g : ℕ) (lex : Lexicon) (xs : List ℕ) → readable g lex xs ≡ true → entries_of xs ≡ length (all_positions (lines_in xs))
entries_of_positions g lex xs t =
    ap entries_of (readable_get g lex xs t).is_numbers ∙ entries_of_numbers (n_of xs) (lines_in xs)
