-- A line cut into pieces of five bytes: what its characters and its end are.
use Rattle.std.proofs.Common.{◌≡◌, refl, true, false, Bool, ◌&&◌, List, [], ◌∷◌, ◌++◌, ℕ, ◌+◌, ◌-◌, ◌%◌, ◌<◌, length, drop}
use Rattle.std.proofs.Common.{sym, ap, ◌∙◌, arith}
use Rattle.std.proofs.Math.Seq.{drop-append-add}
use Rattle.std.specs.List.{list_all}
use Rattle.std.specs.declared.slice.ChunksExact.{ChunksExact}
use Rattle.std.specs.Slice.Iter.{chunks_exact_rest, chunks_exact_size, chunks_exact_steps}
use Rattle.std.proofs.lemmas.Iterator.{YieldsList}
use Rattle.std.proofs.lemmas.Iterator.Splits.{YieldsList-from_shown_while}
use Rattle.std.proofs.Common.{◌≤◌, set}
use Rattle.basics.specs.Bools.{and_left, and_right}
use Rattle.basics.specs.Placed.{Wrote, Writing, writing_start, writing_as, writing_one, writing_end}
use borrow.Author.Tests.{eq-eqb, ne_eqb}
use Rattle.spec.specs.JobSheet.{closing, is_spaced, ends_well, characters, string_in}
use Rattle.models.specs.JobSheet.{spaced_at, character_at}

-- the pieces of five bytes
unfoldable pub fives_of : List ℕ → List (List ℕ)
fives_of [] = []
fives_of (x ∷ []) = []
fives_of (x ∷ a ∷ []) = []
fives_of (x ∷ a ∷ b ∷ []) = []
fives_of (x ∷ a ∷ b ∷ c ∷ []) = []
fives_of (x ∷ a ∷ b ∷ c ∷ d ∷ r) = (x ∷ a ∷ b ∷ c ∷ d ∷ []) ∷ fives_of r

-- what is after them
abbrev pub rest_of : List ℕ → List ℕ
rest_of l = drop (length l - length l % 5) l

rest_next : (x a b c d : ℕ) (r : List ℕ) → rest_of (x ∷ a ∷ b ∷ c ∷ d ∷ r) ≡ rest_of r
rest_next x a b c d r =
    let front : List ℕ = x ∷ a ∷ b ∷ c ∷ d ∷ [] in
    let same : length (front ++ r) - length (front ++ r) % 5 ≡ 5 + (length r - length r % 5) = omega arith in
    ap (λ n. drop n (front ++ r)) same ∙ drop-append-add front r (length r - length r % 5)

-- A PIECE IN FRONT

pub fives_front : (x r : List ℕ) → length x ≡ 5 → fives_of (x ++ r) ≡ x ∷ fives_of r
unfolding fives_of
fives_front (x ∷ a ∷ b ∷ c ∷ d ∷ []) r five = refl
fives_front [] r five = absurd (omega arith)
fives_front (x ∷ []) r five = absurd (omega arith)
fives_front (x ∷ a ∷ []) r five = absurd (omega arith)
fives_front (x ∷ a ∷ b ∷ []) r five = absurd (omega arith)
fives_front (x ∷ a ∷ b ∷ c ∷ []) r five = absurd (omega arith)
fives_front (x ∷ a ∷ b ∷ c ∷ d ∷ e ∷ bs) r five = absurd (omega arith)

fives_few : (l : List ℕ) → length l < 5 → length (fives_of l) ≡ 0
unfolding fives_of
fives_few [] h = refl
fives_few (x ∷ []) h = refl
fives_few (x ∷ a ∷ []) h = refl
fives_few (x ∷ a ∷ b ∷ []) h = refl
fives_few (x ∷ a ∷ b ∷ c ∷ []) h = refl
fives_few (x ∷ a ∷ b ∷ c ∷ d ∷ bs) h = absurd (omega arith)

-- they are what `chunks_exact` yields
pub fives_yielded :
    (s : ChunksExact ℕ) → chunks_exact_size s ≡ 5 → YieldsList chunks_exact_steps (λ y. y.now) s (fives_of (chunks_exact_rest s))
fives_yielded s five =
    YieldsList-from_shown_while chunks_exact_steps (λ y. y.now) (λ t. fives_of (chunks_exact_rest t)) (λ t. chunks_exact_size t ≡ 5)
    (λ t u p step. fives_few (chunks_exact_rest t) (omega arith))
    (λ t x u p step. (step.0 ∙ p, ap fives_of step.1.0 ∙ fives_front x.now (chunks_exact_rest u) (step.1.1 ∙ p)))
    s five

-- THE END

pub ends_closed : (l : List ℕ) → rest_of l ≡ closing ∷ [] → ends_well l ≡ list_all (λ x. spaced_at x 0) (fives_of l)
unfolding ends_well fives_of spaced_at
ends_closed [] e = cc
ends_closed (x ∷ []) e = eq-eqb x closing cc
ends_closed (x ∷ a ∷ []) e = cc
ends_closed (x ∷ a ∷ b ∷ []) e = cc
ends_closed (x ∷ a ∷ b ∷ c ∷ []) e = cc
ends_closed (x ∷ a ∷ b ∷ c ∷ d ∷ r) e = rw (ends_closed r (sym (rest_next x a b c d r) ∙ e)) refl

and_false : (b : Bool) → (b && false) ≡ false
and_false true = refl
and_false false = refl

pub ends_open : (l : List ℕ) → (rest_of l ≡ closing ∷ [] → ⊥) → ends_well l ≡ false
unfolding ends_well
ends_open [] n = refl
ends_open (x ∷ []) n = ne_eqb x closing (λ e. n (ap (λ b. b ∷ []) e))
ends_open (x ∷ a ∷ []) n = refl
ends_open (x ∷ a ∷ b ∷ []) n = refl
ends_open (x ∷ a ∷ b ∷ c ∷ []) n = refl
ends_open (x ∷ a ∷ b ∷ c ∷ d ∷ r) n = rw (ends_open r (λ e. n (rest_next x a b c d r ∙ e))) (and_false (is_spaced x a b c d))

-- THE CHARACTERS

pub ends_front : (x r : List ℕ) → length x ≡ 5 → ends_well (x ++ r) ≡ (spaced_at x 0 && ends_well r)
unfolding ends_well spaced_at
ends_front (x ∷ a ∷ b ∷ c ∷ d ∷ []) r five = refl
ends_front [] r five = absurd (omega arith)
ends_front (x ∷ []) r five = absurd (omega arith)
ends_front (x ∷ a ∷ []) r five = absurd (omega arith)
ends_front (x ∷ a ∷ b ∷ []) r five = absurd (omega arith)
ends_front (x ∷ a ∷ b ∷ c ∷ []) r five = absurd (omega arith)
ends_front (x ∷ a ∷ b ∷ c ∷ d ∷ e ∷ bs) r five = absurd (omega arith)

characters_front : (x r : List ℕ) → length x ≡ 5 → characters (x ++ r) ≡ character_at x 0 ∷ characters r
unfolding characters character_at
characters_front (x ∷ a ∷ b ∷ c ∷ d ∷ []) r five = refl
characters_front [] r five = absurd (omega arith)
characters_front (x ∷ []) r five = absurd (omega arith)
characters_front (x ∷ a ∷ []) r five = absurd (omega arith)
characters_front (x ∷ a ∷ b ∷ []) r five = absurd (omega arith)
characters_front (x ∷ a ∷ b ∷ c ∷ []) r five = absurd (omega arith)
characters_front (x ∷ a ∷ b ∷ c ∷ d ∷ e ∷ bs) r five = absurd (omega arith)

characters_few : (l : List ℕ) → length l < 5 → characters l ≡ []
unfolding characters
characters_few [] h = refl
characters_few (x ∷ []) h = refl
characters_few (x ∷ a ∷ []) h = refl
characters_few (x ∷ a ∷ b ∷ []) h = refl
characters_few (x ∷ a ∷ b ∷ c ∷ []) h = refl
characters_few (x ∷ a ∷ b ∷ c ∷ d ∷ bs) h = absurd (omega arith)

-- the characters of `rest` are still to be written
pub record StringLeft (line : List ℕ) (start : ℕ) (old rest : List ℕ) (end : ℕ) (now : List ℕ) : Type 0 where
  pub good : ends_well rest ≡ true
  pub writing : Writing (string_in line) start old (characters rest) end now

pub string_start :
    (line : List ℕ) (start : ℕ) (old : List ℕ) → ends_well (drop 5 line) ≡ true → start + length (string_in line) ≤ length old →
    StringLeft line start old (drop 5 line) start old
unfolding string_in
string_start line start old good room = record { good = good; writing = writing_start (characters (drop 5 line)) start old room }

module _ {line : List ℕ} {start : ℕ} {old rest : List ℕ} {end : ℕ} {now : List ℕ} (s : StringLeft line start old rest end now) where
  pub string_end : length rest < 5 → Wrote (string_in line) start old end now
  string_end few = writing_end (writing_as (characters_few rest few) s.writing)

  module _ (x after : List ℕ) (cut : rest ≡ x ++ after) (five : length x ≡ 5) where
    both : (spaced_at x 0 && ends_well after) ≡ true
    both = sym (ends_front x after five) ∙ ap ends_well (sym cut) ∙ s.good

    pub spaced_there : spaced_at x 0 ≡ true
    spaced_there = and_left (spaced_at x 0) (ends_well after) both

    next : Writing (string_in line) start old (character_at x 0 ∷ characters after) end now
    next = writing_as (ap characters cut ∙ characters_front x after five) s.writing

    pub string_room : end < length now
    string_room = omega (arith, next.room)

    pub string_step : (c : ℕ) → c ≡ character_at x 0 → StringLeft line start old after (end + 1) (set now end c)
    string_step c e =
        record {
          good = and_right (spaced_at x 0) (ends_well after) both;
          writing = rw e (writing_one (character_at x 0) (characters after) next);
        }
