-- The cut-down index of any readable index is readable: the same n, and the bearing lines. Assumes nothing.
use Rattle.std.specs.Prelude.{◌≡◌, Bool, true, false, cond, List, [], ◌∷◌, ℕ}
use Rattle.spec.specs.Dictionary.{Lexicon}
use Rattle.spec.specs.Words.{spells}
use Rattle.spec.specs.Numbers.{Line}
use Rattle.spec.specs.Index.{n_of, lines_in, readable}
use Rattle.spec.specs.Cut.{bears, bearing, cut_down}
use Rattle.laws.specs.Text.Facts.{KeysRise, GoodLines}
use Rattle.laws.specs.Numbers.Slices.{n_of_numbers, lines_in_numbers}
use Rattle.laws.specs.Cut.Same.{bearing_get}
use Rattle.laws.specs.Readable.Readable.{Readable, readable_get, readable_put}

-- THE BEARING LINES

bearing_rises : (lex : Lexicon) (s : List ℕ) (ls : List Line) → KeysRise ls → KeysRise (bearing lex s ls)
unfolding bearing
bearing_rises lex s [] r = tt
bearing_rises lex s (l ∷ ls) r = go (bears (spells lex l.key_of) s) (bearing_rises lex s ls r.1)
  where
    go : (b : Bool) → KeysRise (bearing lex s ls) → KeysRise (cond b (l ∷ bearing lex s ls) (bearing lex s ls))
    go true ih = (λ m i. r.0 m (bearing_get lex s ls m i).0, ih)
    go false ih = ih

pub bearing_good : {lex : Lexicon} (s : List ℕ) {n : ℕ} {ls : List Line} → GoodLines lex n ls → GoodLines lex n (bearing lex s ls)
bearing_good {lex} s {ls} good =
    record {
      each = λ l m. good.each l (bearing_get lex s ls l m).0;
      order = bearing_rises lex s ls good.order;
    }

-- THE CUT-DOWN INDEX

pub n_of_cut : (lex : Lexicon) (xs s : List ℕ) → n_of (cut_down lex xs s) ≡ n_of xs
unfolding cut_down
n_of_cut lex xs s = n_of_numbers (n_of xs) (bearing lex s (lines_in xs))

pub lines_in_cut : (lex : Lexicon) (xs s : List ℕ) → lines_in (cut_down lex xs s) ≡ bearing lex s (lines_in xs)
unfolding cut_down
lines_in_cut lex xs s = lines_in_numbers (n_of xs) (bearing lex s (lines_in xs))

pub cut_readable : (g : ℕ) (lex : Lexicon) (xs s : List ℕ) → readable g lex xs ≡ true → readable g lex (cut_down lex xs s) ≡ true
unfolding cut_down
cut_readable g lex xs s t =
    let can : Readable g lex xs = readable_get g lex xs t in
    readable_put g (bearing_good s can.lines)
    can.length_allowed
