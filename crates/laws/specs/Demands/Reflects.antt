-- The tests of the refusal table and the facts that they test. Assumes nothing.
use Rattle.std.specs.Prelude.{◌≡◌, refl, Bool, true, false, ◌&&◌, ◌||◌, not, ◌⊎◌, List, [], ◌∷◌, ℕ, ◌*◌, ◌≤◌, ◌<◌, ltb, leb, eqb}
use Rattle.std.proofs.Common.{subst, inl, inr, ⊎_elim, arith, ltb-true, ltb-false, leb-true, leb-false, eqb-true}
use Rattle.std.proofs.Math.ListN.{length}
use Rattle.std.proofs.lemmas.Bool.{eqb-false, not-false}
use Rattle.basics.specs.Bools.{Reflects, clash, false_put, not_get}
use Rattle.basics.specs.Member.{In}
use Rattle.spec.specs.Replaced.{first_form, last_form, is_full_width, holds_full_width}
use Rattle.spec.specs.Dictionary.{Lexicon, total, words_from, too_large, length_good, lengths_good, lengths_wrong, ascend}
use Rattle.spec.specs.Dictionary.{disordered, some_full_width, unreplaced}
use Rattle.spec.specs.Index.{readable}
use Rattle.spec.specs.Calls.{text_too_long, unreadable, string_wrong, work_short, output_short}
use Rattle.spec.specs.JobSheet.{some_string_wrong}
use Rattle.spec.specs.RefusalTable.{TooLarge, LengthsWrong, Disordered, Unreplaced, TextTooLong, Unreadable, StringWrong, WorkShort}
use Rattle.spec.specs.RefusalTable.{OutputShort}
use Rattle.laws.specs.Text.WidthFolding.{form_get, form_put}

-- TESTS AND FACTS

pub reflects_put : (t : Bool) (B : Type 0) → Reflects t B → B → t ≡ true
reflects_put true B is b = refl
reflects_put false B is b = absurd (is.fails refl b)

pub reflects_not : (t : Bool) (B : Type 0) → Reflects t B → (B → ⊥) → t ≡ false
reflects_not t B is none = false_put t (λ e. none (is.holds e))

pub reflects_false : (t : Bool) → Reflects (not t) (t ≡ false)
reflects_false t = record { holds = not_get t; fails = λ f g. clash (not-false t f) g }

pub reflects_lt : (a b : ℕ) → Reflects (ltb a b) (a < b)
reflects_lt a b = record { holds = ltb-true a b; fails = λ f h. omega (arith, ltb-false a b f) }

pub reflects_eq : (a b : ℕ) → Reflects (eqb a b) (a ≡ b)
reflects_eq a b = record { holds = eqb-true a b; fails = eqb-false a b }

pub reflects_ne : (a b : ℕ) → Reflects (not (eqb a b)) (a ≡ b → ⊥)
reflects_ne a b =
    record {
      holds = λ t. eqb-false a b (not_get (eqb a b) t);
      fails = λ f h. h (eqb-true a b (not-false (eqb a b) f));
    }

pub reflects_or : (s t : Bool) (A B : Type 0) → Reflects s A → Reflects t B → Reflects (s || t) (A ⊎ B)
reflects_or true t A B p q = record { holds = λ e. inl (p.holds refl); fails = λ f. clash refl f }
reflects_or false t A B p q =
    record { holds = λ e. inr (q.holds e); fails = λ f. ⊎_elim (λ (v : A). p.fails refl v) (λ (w : B). q.fails f w) }

-- one of two tests fails
pub reflects_nand : (s t : Bool) {A B : Type 0} → Reflects (not s) A → Reflects (not t) B → Reflects (not (s && t)) (A ⊎ B)
reflects_nand true t {A} {B} p q =
    record { holds = λ e. inr (q.holds e); fails = λ f. ⊎_elim (λ (v : A). p.fails refl v) (λ (w : B). q.fails f w) }
reflects_nand false t p q = record { holds = λ e. inl (p.holds refl); fails = λ f. clash refl f }

-- the first element or one of the others
pub reflects_some :
    {A : Type 0} (P : A → Type 0) (x : A) (xs : List A) {t : Bool} → Reflects t (P x ⊎ ((a : A) × In a xs × P a)) →
    Reflects t ((a : A) × In a (x ∷ xs) × P a)
reflects_some {A} P x xs both = record { holds = λ e. join (both.holds e); fails = λ f h. both.fails f (split h) }
  where
    split : (a : A) × In a (x ∷ xs) × P a → P x ⊎ ((a : A) × In a xs × P a)
    split (a, inl e, w) = inl (subst P e w)
    split (a, inr m, w) = inr (a, m, w)

    join : P x ⊎ ((a : A) × In a xs × P a) → (a : A) × In a (x ∷ xs) × P a
    join (inl w) = (x, inl refl, w)
    join (inr (a, m, w)) = (a, inr m, w)

abbrev Wrong : ℕ → Type 0
Wrong l = (l ≡ 0) ⊎ (32 < l)

pub reflects_length : (l : ℕ) → Reflects (not (length_good l)) (Wrong l)
unfolding length_good
reflects_length l = reflects_nand (leb 1 l) (leb l 32) low high
  where
    low : Reflects (not (leb 1 l)) (l ≡ 0)
    low =
        record {
          holds = λ t. omega (arith, leb-false 1 l (not_get (leb 1 l) t));
          fails = λ f e. omega (arith, leb-true 1 l (not-false (leb 1 l) f));
        }

    high : Reflects (not (leb l 32)) (32 < l)
    high =
        record {
          holds = λ t. leb-false l 32 (not_get (leb l 32) t);
          fails = λ f h. omega (arith, leb-true l 32 (not-false (leb l 32) f));
        }

pub reflects_lengths : (ls : List ℕ) → Reflects (not (lengths_good ls)) ((l : ℕ) × In l ls × Wrong l)
unfolding lengths_good
reflects_lengths [] = record { holds = λ t. clash t refl; fails = λ f h. h.1 }
reflects_lengths (l ∷ ls) =
    reflects_some Wrong l ls
    (reflects_nand (length_good l) (lengths_good ls) (reflects_length l) (reflects_lengths ls))

-- a word that contains a full-width form

abbrev Form : ℕ → Type 0
Form c = (first_form ≤ c) × (c ≤ last_form)

reflects_form : (c : ℕ) → Reflects (is_full_width c) (Form c)
reflects_form c = record { holds = form_get c; fails = λ f h. clash (form_put c h.0 h.1) f }

abbrev HoldsForm : List ℕ → Type 0
HoldsForm w = (c : ℕ) × In c w × Form c

reflects_forms : (cs : List ℕ) → Reflects (holds_full_width cs) (HoldsForm cs)
unfolding holds_full_width
reflects_forms [] = record { holds = λ t. clash t refl; fails = λ f h. h.1 }
reflects_forms (c ∷ cs) =
    reflects_some Form c cs
    (reflects_or (is_full_width c) (holds_full_width cs) (Form c) (HoldsForm cs) (reflects_form c) (reflects_forms cs))

reflects_words : (ws : List (List ℕ)) → Reflects (some_full_width ws) ((w : List ℕ) × In w ws × HoldsForm w)
unfolding some_full_width
reflects_words [] = record { holds = λ t. clash t refl; fails = λ f h. h.1 }
reflects_words (w ∷ ws) =
    reflects_some (λ (v : List ℕ). HoldsForm v) w ws
    (reflects_or (holds_full_width w) (some_full_width ws) (HoldsForm w) ((v : List ℕ) × In v ws × HoldsForm v) (reflects_forms w)
    (reflects_words ws))

-- the lines of the table

module _ (cs ls : List ℕ) where
  pub reflects_too_large : Reflects (too_large cs ls) (TooLarge cs ls)
  unfolding too_large
  reflects_too_large =
      reflects_or (ltb 4096 (length ls)) (ltb 65535 (length cs)) (4096 < length ls) (65535 < length cs) (reflects_lt 4096 (length ls))
      (reflects_lt 65535 (length cs))

  pub reflects_lengths_wrong : Reflects (lengths_wrong cs ls) (LengthsWrong cs ls)
  unfolding lengths_wrong
  reflects_lengths_wrong =
      reflects_nand (lengths_good ls) (eqb (total ls) (length cs))
      (reflects_lengths ls) (reflects_ne (total ls) (length cs))

  pub reflects_disordered : Reflects (disordered cs ls) (Disordered cs ls)
  unfolding disordered
  reflects_disordered = reflects_false (ascend (words_from ls cs))

  pub reflects_unreplaced : Reflects (unreplaced cs ls) (Unreplaced cs ls)
  unfolding unreplaced
  reflects_unreplaced = reflects_words (words_from ls cs)

pub reflects_text : (g : ℕ) (ts : List ℕ) → Reflects (text_too_long g ts) (TextTooLong g ts)
unfolding text_too_long
reflects_text g ts = reflects_lt g (length ts)

pub reflects_unreadable : (g : ℕ) (lex : Lexicon) (xs : List ℕ) → Reflects (unreadable g lex xs) (Unreadable g lex xs)
unfolding unreadable
reflects_unreadable g lex xs = reflects_false (readable g lex xs)

pub reflects_string : (s : List ℕ) → Reflects (string_wrong s) (StringWrong s)
unfolding string_wrong
reflects_string s =
    reflects_or (eqb (length s) 0) (ltb 256 (length s)) (length s ≡ 0) (256 < length s) (reflects_eq (length s) 0)
    (reflects_lt 256 (length s))

pub reflects_finds : (fs : List (List ℕ)) → Reflects (some_string_wrong fs) ((f : List ℕ) × In f fs × StringWrong f)
unfolding some_string_wrong
reflects_finds [] = record { holds = λ t. clash t refl; fails = λ f h. h.1 }
reflects_finds (s ∷ ss) =
    reflects_some (λ (f : List ℕ). StringWrong f) s ss
    (reflects_or (string_wrong s) (some_string_wrong ss) (StringWrong s) ((f : List ℕ) × In f ss × StringWrong f) (reflects_string s)
    (reflects_finds ss))

pub reflects_work : (n : ℕ) (w : List ℕ) → Reflects (work_short n (length w)) (WorkShort n w)
unfolding work_short
reflects_work n w = reflects_lt (length w) (8 * n)

pub reflects_output : (xs o : List ℕ) → Reflects (output_short (length xs) (length o)) (OutputShort xs o)
unfolding output_short
reflects_output xs o = reflects_lt (length o) (length xs)
