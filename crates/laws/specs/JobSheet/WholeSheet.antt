-- Reading a whole sheet: words, text and finds one after the other, and whether it is in form and counts. Assumes nothing.
use Rattle.std.specs.Prelude.{◌≡◌, refl, Bool, true, false, ◌&&◌, cond, List, [], ◌∷◌, ◌++◌}
use Rattle.std.specs.Prelude.{ℕ, suc, ◌+◌, ◌-◌, ◌*◌, ◌≤◌, leb, eqb, length, get_or, drop}
use Rattle.std.proofs.Common.{sym, ap, ◌∙◌, append-nil, ⊎_elim, arith, length-append, length-drop, eq-eqb, ne_eqb, eqb-true}
use Rattle.std.proofs.lemmas.Bool.{eqb-false}
use Rattle.basics.specs.Bools.{true_or_false}
use Rattle.basics.specs.Placed.{placed, length_placed, placed_none, placed_append, Wrote}
use Rattle.spec.specs.JobSheet.{word_head, text_head, find_head, line_feed, onto_first, lines, forms, after, nothing_left, words_on}
use Rattle.spec.specs.JobSheet.{texts_on, finds_on, left_on, text_on, in_form, in_counts, run_together, lengths_of}
use Rattle.models.specs.JobSheet.{size}
use Rattle.laws.specs.JobSheet.LineReading.{size_lines, forms_size, lines_some}
use Rattle.laws.specs.JobSheet.SheetReading.{Room, FormsGot}

-- ONE READ AFTER THE OTHER

pub length_lengths : (ws : List (List ℕ)) → length (lengths_of ws) ≡ length ws
unfolding lengths_of
length_lengths [] = refl
length_lengths (w ∷ ws) = ap suc (length_lengths ws)

-- the slices are long enough for every sheet of this length
pub record Enough (s chars lengths : List ℕ) : Type 0 where
  pub short : length s ≤ 32768
  pub for_chars : length s ≤ 5 * length chars
  pub for_lengths : length s ≤ 7 * length lengths

-- forms are read up to `at`: their characters and lengths, and the lines that are left
pub record Stage (s chars₀ lengths₀ : List ℕ) (cs ls : List ℕ) (rest : List (List ℕ)) (at used count : ℕ)
    (chars lengths : List ℕ) : Type 0 where
  pub enough : Enough s chars₀ lengths₀
  pub within : at ≤ length s
  pub left : lines (drop at s) ≡ rest
  pub sized : 5 * length cs + 7 * length ls + size rest ≡ suc (length s)
  pub chars_got : Wrote cs 0 chars₀ used chars
  pub lengths_got : Wrote ls 0 lengths₀ count lengths

pub stage_start : {s chars lengths : List ℕ} → Enough s chars lengths → Stage s chars lengths [] [] (lines s) 0 0 0 chars lengths
stage_start {s} {chars} {lengths} enough =
    record {
      enough = enough;
      within = omega arith;
      left = refl;
      sized = omega (arith, size_lines s);
      chars_got = record { ends = refl; content = sym (placed_none 0 chars) };
      lengths_got = record { ends = refl; content = sym (placed_none 0 lengths) };
    }

wrote_then :
    {old mid now : List ℕ} {at used end : ℕ} {xs ys : List ℕ} → at + length xs ≤ length old → Wrote xs at old used mid →
    Wrote ys used mid end now →
    Wrote (xs ++ ys) at old end now
wrote_then {old} {mid} {now} {at} {used} {end} {xs} {ys} room first second =
    record {
      ends = omega (arith, length-append xs ys);
      content = second.content ∙ rw (first.ends, first.content) (placed_append xs ys at old room);
    }

module _ {s chars₀ lengths₀ cs ls : List ℕ} {rest : List (List ℕ)} {at used count : ℕ} {chars lengths : List ℕ}
    (st : Stage s chars₀ lengths₀ cs ls rest at used count chars lengths) where
  chars_room : 0 + length cs ≤ length chars₀
  chars_room = omega arith

  lengths_room : 0 + length ls ≤ length lengths₀
  lengths_room = omega arith

  pub chars_len : length chars ≡ length chars₀
  chars_len = ap length st.chars_got.content ∙ length_placed cs 0 chars₀ chars_room

  pub lengths_len : length lengths ≡ length lengths₀
  lengths_len = ap length st.lengths_got.content ∙ length_placed ls 0 lengths₀ lengths_room

  more_size : (h : List ℕ) → 5 * length (run_together (forms h rest)) + 7 * length (lengths_of (forms h rest)) + size
      (after h rest) ≡ size rest
  more_size h = rw (length_lengths (forms h rest)) (forms_size h rest)

  pub stage_room : (h : List ℕ) → Room h s at used count chars lengths
  stage_room h =
      record {
        within = st.within;
        short = st.enough.short;
        chars_fit =
            rw st.left
            (omega (arith, more_size h, chars_len));
        lengths_fit =
            rw st.left
            (omega (arith, more_size h, lengths_len));
      }

  pub stage_step :
      {h : List ℕ} {at' used' count' : ℕ} {chars' lengths' : List ℕ} →
      FormsGot h s at used count chars lengths at' used' count' chars' lengths' →
      Stage s chars₀ lengths₀ (cs ++ run_together (forms h rest)) (ls ++ lengths_of (forms h rest))
      (after h rest) at' used' count' chars' lengths'
  stage_step {h} got =
      record {
        enough = st.enough;
        within = got.within;
        left = got.rest ∙ ap (after h) st.left;
        sized =
            omega (arith, more_size h, length-append cs (run_together (forms h rest)), length-append ls (lengths_of (forms h rest)));
        chars_got =
            wrote_then chars_room st.chars_got
            (rw st.left at got.chars_got);
        lengths_got =
            wrote_then lengths_room st.lengths_got
            (rw st.left at got.lengths_got);
      }

-- THE TESTS

-- nothing is left exactly at the end of the sheet
nothing_test : (bs : List ℕ) → nothing_left (lines bs) ≡ eqb (length bs) 0
unfolding nothing_left lines onto_first
nothing_test [] = refl
nothing_test (b ∷ bs) = let some = lines_some bs in rw some.2
    (pick (eqb b line_feed) some.0 some.1 ∙ sym (ne_eqb (suc (length bs)) 0 (λ (e : suc (length bs) ≡ 0). omega arith)))
  where
    pick : (t : Bool) (m : List ℕ) (ls : List (List ℕ)) → nothing_left (cond t ([] ∷ m ∷ ls) ((b ∷ m) ∷ ls)) ≡ false
    pick true m ls = refl
    pick false m ls = refl

pub nothing_at : (s : List ℕ) (at : ℕ) → at ≤ length s → nothing_left (lines (drop at s)) ≡ eqb at (length s)
nothing_at s at within =
    nothing_test (drop at s)
    ∙ ⊎_elim
    (λ (t : eqb at (length s) ≡ true).
    let e : at ≡ length s = eqb-true at (length s) t in
    eq-eqb (length (drop at s)) 0 (omega (arith, length-drop at s)) ∙ sym t)
    (λ (f : eqb at (length s) ≡ false).
    ne_eqb (length (drop at s)) 0 (λ (e : length (drop at s) ≡ 0). eqb-false at (length s) f (omega (arith, length-drop at s))) ∙ sym f)
    (true_or_false (eqb at (length s)))

regroup : (a b c d e : Bool) → ((((a && b) && c) && d) && e) ≡ ((a && b) && ((c && d) && e))
regroup true true c d e = refl
regroup true false c d e = refl
regroup false b c d e = refl

-- a single text
pub one_text : (ts : List (List ℕ)) → length ts ≡ 1 → run_together ts ≡ get_or ts 0 []
unfolding run_together
one_text [] e = absurd (omega arith)
one_text (t ∷ []) e = append-nil t
one_text (t ∷ u ∷ us) e = absurd (omega arith)

sheet_tested :
    (s : List ℕ) (at : ℕ) → at ≤ length s → lines (drop at s) ≡ left_on s →
    ((((eqb (length (texts_on s)) 1 && eqb at (length s)) && leb (length (words_on s)) 200)
    && leb (length (run_together (texts_on s))) 2000)
    && leb (length (finds_on s)) 50)
    ≡ (in_form s && in_counts s)
unfolding in_form in_counts text_on
sheet_tested s at within left =
    let ended : nothing_left (left_on s) ≡ eqb at (length s) = ap nothing_left (sym left) ∙ nothing_at s at within in
    rw ended
    (⊎_elim
    (λ (t : eqb (length (texts_on s)) 1 ≡ true).
    rw (one_text (texts_on s) (eqb-true (length (texts_on s)) 1 t))
    (regroup (eqb (length (texts_on s)) 1) (eqb at (length s)) (leb (length (words_on s)) 200)
    (leb (length (get_or (texts_on s) 0 [])) 2000)
    (leb (length (finds_on s)) 50)))
    (λ (f : eqb (length (texts_on s)) 1 ≡ false). rw f)
    (true_or_false (eqb (length (texts_on s)) 1)))

-- WHAT IS READ

-- the numbers of a sheet's parts, and the slices: words, then texts, then finds
pub record SheetRead (s chars₀ lengths₀ : List ℕ) (good : Bool) (words dictionary text finds : ℕ) (chars lengths : List ℕ) : Type 0 where
  pub tested : good ≡ (in_form s && in_counts s)
  pub words_counted : words ≡ length (words_on s)
  pub dictionary_counted : dictionary ≡ length (run_together (words_on s))
  pub text_counted : text ≡ length (run_together (texts_on s))
  pub finds_counted : finds ≡ length (finds_on s)
  pub chars_are : chars ≡ placed ((run_together (words_on s) ++ run_together (texts_on s)) ++ run_together (finds_on s)) 0 chars₀
  pub lengths_are : lengths ≡ placed ((lengths_of (words_on s) ++ lengths_of (texts_on s)) ++ lengths_of (finds_on s)) 0 lengths₀
  pub chars_fit : length ((run_together (words_on s) ++ run_together (texts_on s)) ++ run_together (finds_on s)) ≤ length chars₀
  pub lengths_fit : length ((lengths_of (words_on s) ++ lengths_of (texts_on s)) ++ lengths_of (finds_on s)) ≤ length lengths₀

-- after the words, after the texts, after the finds
abbrev pub WordsRead : (s chars₀ lengths₀ : List ℕ) → (at used count : ℕ) → (chars lengths : List ℕ) → Type 0
WordsRead s chars₀ lengths₀ at used count chars lengths =
    Stage s chars₀ lengths₀ (run_together (words_on s)) (lengths_of (words_on s)) (after word_head (lines s)) at used count chars lengths

abbrev pub TextsRead : (s chars₀ lengths₀ : List ℕ) → (at used count : ℕ) → (chars lengths : List ℕ) → Type 0
TextsRead s chars₀ lengths₀ at used count chars lengths =
    Stage s chars₀ lengths₀
    (run_together (words_on s) ++ run_together (texts_on s))
    (lengths_of (words_on s) ++ lengths_of (texts_on s))
    (after text_head (after word_head (lines s)))
    at used count chars lengths

abbrev pub FindsRead : (s chars₀ lengths₀ : List ℕ) → (at used count : ℕ) → (chars lengths : List ℕ) → Type 0
FindsRead s chars₀ lengths₀ at used count chars lengths =
    Stage s chars₀ lengths₀
    ((run_together (words_on s) ++ run_together (texts_on s)) ++ run_together (finds_on s))
    ((lengths_of (words_on s) ++ lengths_of (texts_on s)) ++ lengths_of (finds_on s))
    (left_on s)
    at used count chars lengths

module _ {s chars₀ lengths₀ : List ℕ} {at used count : ℕ} {chars lengths : List ℕ} where
  pub words_read :
      Enough s chars₀ lengths₀ → FormsGot word_head s 0 0 0 chars₀ lengths₀ at used count chars lengths →
      WordsRead s chars₀ lengths₀ at used count chars lengths
  unfolding words_on
  words_read enough got = stage_step (stage_start enough) got

  module _ {at' used' count' : ℕ} {chars' lengths' : List ℕ} where
    pub texts_read :
        WordsRead s chars₀ lengths₀ at used count chars lengths →
        FormsGot text_head s at used count chars lengths at' used' count' chars' lengths' →
        TextsRead s chars₀ lengths₀ at' used' count' chars' lengths'
    unfolding texts_on
    texts_read st got = stage_step st got

    pub finds_read :
        TextsRead s chars₀ lengths₀ at used count chars lengths →
        FormsGot find_head s at used count chars lengths at' used' count' chars' lengths' →
        FindsRead s chars₀ lengths₀ at' used' count' chars' lengths'
    unfolding finds_on left_on
    finds_read st got = stage_step st got

  -- how many of each there are
  pub words_used : WordsRead s chars₀ lengths₀ at used count chars lengths → used ≡ length (run_together (words_on s))
  words_used st = omega arith

  pub words_count : WordsRead s chars₀ lengths₀ at used count chars lengths → count ≡ length (words_on s)
  words_count st = omega (arith, length_lengths (words_on s))

  pub texts_used :
      TextsRead s chars₀ lengths₀ at used count chars lengths →
      used ≡ length (run_together (words_on s)) + length (run_together (texts_on s))
  texts_used st = omega (arith, length-append (run_together (words_on s)) (run_together (texts_on s)))

  pub texts_count : TextsRead s chars₀ lengths₀ at used count chars lengths → count ≡ length (words_on s) + length (texts_on s)
  texts_count st =
      omega (
        arith,
        length-append (lengths_of (words_on s)) (lengths_of (texts_on s)),
        length_lengths (words_on s),
        length_lengths (texts_on s),
      )

  pub finds_count :
      FindsRead s chars₀ lengths₀ at used count chars lengths → count ≡ length (words_on s) + length (texts_on s) + length (finds_on s)
  finds_count st =
      omega (
        arith,
        length-append (lengths_of (words_on s) ++ lengths_of (texts_on s)) (lengths_of (finds_on s)),
        length-append (lengths_of (words_on s)) (lengths_of (texts_on s)),
        length_lengths (words_on s),
        length_lengths (texts_on s),
        length_lengths (finds_on s),
      )

module _ {s chars₀ lengths₀ : List ℕ} {at₁ used₁ count₁ at₂ used₂ count₂ at used count : ℕ}
    {chars₁ lengths₁ chars₂ lengths₂ chars lengths : List ℕ} where
  pub sheet_read :
      WordsRead s chars₀ lengths₀ at₁ used₁ count₁ chars₁ lengths₁ → TextsRead s chars₀ lengths₀ at₂ used₂ count₂ chars₂ lengths₂ →
      FindsRead s chars₀ lengths₀ at used count chars lengths →
      SheetRead s chars₀ lengths₀
      ((((eqb (count₂ - count₁) 1 && eqb at (length s)) && leb count₁ 200) && leb (used₂ - used₁) 2000) && leb (count - count₂) 50)
      count₁ used₁ (used₂ - used₁) (count - count₂) chars lengths
  sheet_read w t f =
      let ew : count₁ ≡ length (words_on s) = words_count w in
      let ed : used₁ ≡ length (run_together (words_on s)) = words_used w in
      let et : count₂ - count₁ ≡ length (texts_on s) = omega (arith, ew, texts_count t) in
      let ex : used₂ - used₁ ≡ length (run_together (texts_on s)) = omega (arith, ed, texts_used t) in
      let ef : count - count₂ ≡ length (finds_on s) = omega (arith, texts_count t, finds_count f) in
      record {
        tested = rw (et, ex, ef, ew) (sheet_tested s at f.within f.left);
        words_counted = ew;
        dictionary_counted = ed;
        text_counted = ex;
        finds_counted = ef;
        chars_are = f.chars_got.content;
        lengths_are = f.lengths_got.content;
        chars_fit = omega arith;
        lengths_fit = omega arith;
      }
