-- Reading the sheet line by line: where a line ends, and whether it is a form with a given head. Assumes nothing.
use Rattle.std.specs.Prelude.{◌≡◌, refl, Bool, true, false, cond, ℕ, suc, ◌+◌, ◌*◌, ◌-◌, ◌≤◌, ◌<◌, eqb, get_or, take, drop}
use Rattle.std.proofs.Math.Path.{sym, ap}
use Rattle.std.proofs.Common.{◌∙◌, arith, length-append, length-drop, drop_of_length-le, take-suc, get_or-drop}
use mathlib.Core.List.{List, [], ◌∷◌, ◌++◌, append_assoc, append-nil}
use Rattle.std.proofs.Math.ListN.{length}
use borrow.Author.Tests.{eq-eqb, ne_eqb}
use Rattle.models.specs.JobSheet.{onto_all, size}
use Rattle.laws.specs.Dictionary.WordCode.{part}
use Rattle.spec.specs.JobSheet.{line_feed, is_form, string_in, onto_first, lines, forms, after, run_together}
use Rattle.basics.specs.PlacedCopies.{drop_next}
use Rattle.laws.specs.JobSheet.FormReading.{form_len}

-- ONE LINE

module _ (s : List ℕ) (i : ℕ) where
  lines_next : i < length s → (get_or s i 0 ≡ line_feed → ⊥) → lines (drop i s) ≡ onto_first (get_or s i 0) (lines (drop (i + 1) s))
  unfolding lines
  lines_next below other = rw (drop_next s i below, ne_eqb (get_or s i 0) line_feed other)

  lines_feed : i < length s → get_or s i 0 ≡ line_feed → lines (drop i s) ≡ [] ∷ lines (drop (i + 1) s)
  unfolding lines
  lines_feed below feed = rw (drop_next s i below, eq-eqb (get_or s i 0) line_feed feed)

  lines_end : length s ≤ i → lines (drop i s) ≡ [] ∷ []
  unfolding lines
  lines_end past = rw (drop_of_length-le s past)

onto_next : (p : List ℕ) (b : ℕ) (ls : List (List ℕ)) → onto_all p (onto_first b ls) ≡ onto_all (p ++ b ∷ []) ls
unfolding onto_all onto_first
onto_next p b [] = refl
onto_next p b (l ∷ ls) = ap (λ (x : List ℕ). x ∷ ls) (sym (append_assoc p (b ∷ []) l))

onto_none : (ls : List (List ℕ)) → (m : List ℕ) → onto_all [] (m ∷ ls) ≡ m ∷ ls
unfolding onto_all
onto_none ls m = refl

-- there is a first line
pub lines_some : (bs : List ℕ) → (m : List ℕ) × (ls : List (List ℕ)) × (lines bs ≡ m ∷ ls)
unfolding lines onto_first
lines_some [] = ([], [], refl)
lines_some (b ∷ bs) = pick (eqb b line_feed) (lines_some bs)
  where
    pick :
        (t : Bool) → ((m : List ℕ) × (ls : List (List ℕ)) × (lines bs ≡ m ∷ ls)) →
        (m : List ℕ) × (ls : List (List ℕ)) × (cond t ([] ∷ lines bs) (onto_first b (lines bs)) ≡ m ∷ ls)
    pick true h = ([], lines bs, refl)
    pick false h = (b ∷ h.0, h.1, rw h.2)

part_none : (s : List ℕ) (at : ℕ) → part s at at ≡ []
part_none s at = let z : at - at ≡ 0 = omega arith in rw z

part_next : (s : List ℕ) (at i : ℕ) → at ≤ i → i < length s → part s at (i + 1) ≡ part s at i ++ get_or s i 0 ∷ []
part_next s at i order below =
    let more : i + 1 - at ≡ suc (i - at) = omega arith in
    let here : at + (i - at) ≡ i = omega arith in
    rw more
    (take-suc (drop at s) (i - at) 0 (omega (arith, length-drop at s))
    ∙ ap (λ (x : ℕ). take (i - at) (drop at s) ++ x ∷ []) (get_or-drop at s (i - at) 0 ∙ ap (λ (j : ℕ). get_or s j 0) here))

-- the line from `at` on has no LF before i
pub record LineRead (s : List ℕ) (at i : ℕ) : Type 0 where
  pub from : at ≤ i
  pub within : i ≤ length s
  pub passed : onto_all (part s at i) (lines (drop i s)) ≡ lines (drop at s)

-- the line from `at` on ends at r: there is its LF, or the sheet ends
pub record LineEnd (s : List ℕ) (at r : ℕ) : Type 0 where
  pub from : at ≤ r
  pub within : r ≤ length s
  pub ended : r < length s → lines (drop at s) ≡ part s at r ∷ lines (drop (r + 1) s)
  pub unended : length s ≤ r → lines (drop at s) ≡ part s at r ∷ []

pub line_start : (s : List ℕ) (at : ℕ) → at ≤ length s → LineRead s at at
line_start s at within =
    let some = lines_some (drop at s) in
    record {
      from = omega arith;
      within = within;
      passed =
          ap (λ (p : List ℕ). onto_all p (lines (drop at s))) (part_none s at)
          ∙ ap (λ (ls : List (List ℕ)). onto_all [] ls) some.2
          ∙ onto_none some.1 some.0
          ∙ sym some.2;
    }

module _ {s : List ℕ} {at i : ℕ} (h : LineRead s at i) where
  pub line_step : i < length s → (get_or s i 0 ≡ line_feed → ⊥) → LineRead s at (i + 1)
  line_step below other =
      record {
        from = omega arith;
        within = omega arith;
        passed =
            ap (λ (p : List ℕ). onto_all p (lines (drop (i + 1) s))) (part_next s at i h.from below)
            ∙ sym (onto_next (part s at i) (get_or s i 0) (lines (drop (i + 1) s)))
            ∙ ap (λ (ls : List (List ℕ)). onto_all (part s at i) ls) (sym (lines_next s i below other))
            ∙ h.passed;
      }

  pub line_ended : i < length s → get_or s i 0 ≡ line_feed → LineEnd s at i
  unfolding onto_all
  line_ended below feed =
      record {
        from = h.from;
        within = h.within;
        ended =
            λ (b : i < length s).
            sym h.passed
            ∙ ap (λ (ls : List (List ℕ)). onto_all (part s at i) ls) (lines_feed s i below feed)
            ∙ ap (λ (p : List ℕ). p ∷ lines (drop (i + 1) s)) (append-nil (part s at i));
        unended = λ (past : length s ≤ i). absurd (omega arith);
      }

  pub line_unended : length s ≤ i → LineEnd s at i
  unfolding onto_all
  line_unended past =
      record {
        from = h.from;
        within = h.within;
        ended = λ (below : i < length s). absurd (omega arith);
        unended =
            λ (p : length s ≤ i).
            sym h.passed
            ∙ ap (λ (ls : List (List ℕ)). onto_all (part s at i) ls) (lines_end s i past)
            ∙ ap (λ (q : List ℕ). q ∷ []) (append-nil (part s at i));
      }

-- ONE FORM

pub forms_some :
    (h l : List ℕ) (bs : List ℕ) → is_form h l ≡ true →
    (forms h (l ∷ lines bs) ≡ string_in l ∷ forms h (lines bs)) × (after h (l ∷ lines bs) ≡ after h (lines bs))
unfolding forms after
forms_some h l bs t = let some = lines_some bs in rw (some.2, t) (refl, refl)

pub forms_none :
    (h l : List ℕ) (bs : List ℕ) → is_form h l ≡ false → (forms h (l ∷ lines bs) ≡ []) × (after h (l ∷ lines bs) ≡ l ∷ lines bs)
unfolding forms after
forms_none h l bs f = let some = lines_some bs in rw (some.2, f) (refl, refl)

-- the form with head h is at `at`, and its LF at r; or there is none, and r is the sheet's end
pub record FormEnd (h s : List ℕ) (at r : ℕ) : Type 0 where
  pub from : at ≤ r
  pub within : r ≤ length s
  pub form : r < length s → is_form h (part s at r) ≡ true
  pub first : r < length s → forms h (lines (drop at s)) ≡ string_in (part s at r) ∷ forms h (lines (drop (r + 1) s))
  pub others : r < length s → after h (lines (drop at s)) ≡ after h (lines (drop (r + 1) s))
  pub none : length s ≤ r → forms h (lines (drop at s)) ≡ []
  pub all_left : length s ≤ r → after h (lines (drop at s)) ≡ lines (drop at s)

module _ (h : List ℕ) {s : List ℕ} {at r : ℕ} (e : LineEnd s at r) where
  pub form_missing : length s ≤ r → FormEnd h s at r
  unfolding forms after
  form_missing past =
      record {
        from = e.from;
        within = e.within;
        form = λ (b : r < length s). absurd (omega arith);
        first = λ (b : r < length s). absurd (omega arith);
        others = λ (b : r < length s). absurd (omega arith);
        none = λ (p : length s ≤ r). rw (e.unended past);
        all_left = λ (p : length s ≤ r). rw (e.unended past);
      }

  module _ (below : r < length s) where
    pub form_there : is_form h (part s at r) ≡ true → FormEnd h s at r
    form_there t =
        record {
          from = e.from;
          within = e.within;
          form = λ (b : r < length s). t;
          first = λ (b : r < length s). ap (forms h) (e.ended below) ∙ (forms_some h (part s at r) (drop (r + 1) s) t).0;
          others = λ (b : r < length s). ap (after h) (e.ended below) ∙ (forms_some h (part s at r) (drop (r + 1) s) t).1;
          none = λ (p : length s ≤ r). absurd (omega arith);
          all_left = λ (p : length s ≤ r). absurd (omega arith);
        }

    pub form_other_line : is_form h (part s at r) ≡ false → at ≤ length s → FormEnd h s at (length s)
    form_other_line f within =
        record {
          from = within;
          within = omega arith;
          form = λ (b : length s < length s). absurd (omega arith);
          first = λ (b : length s < length s). absurd (omega arith);
          others = λ (b : length s < length s). absurd (omega arith);
          none = λ (p : length s ≤ length s). ap (forms h) (e.ended below) ∙ (forms_none h (part s at r) (drop (r + 1) s) f).0;
          all_left =
              λ (p : length s ≤ length s).
              ap (after h) (e.ended below) ∙ (forms_none h (part s at r) (drop (r + 1) s) f).1 ∙ sym (e.ended below);
        }

-- HOW MANY FORMS AND CHARACTERS THERE CAN BE

pub size_lines : (bs : List ℕ) → size (lines bs) ≡ suc (length bs)
unfolding size lines onto_first
size_lines [] = refl
size_lines (b ∷ bs) = pick (eqb b line_feed) (size_lines bs)
  where
    onto : (ls : List (List ℕ)) → size ls ≡ suc (length bs) → size (onto_first b ls) ≡ suc (suc (length bs))
    onto [] e = absurd (omega (arith, e))
    onto (l ∷ ls) e = omega (arith, e)

    pick :
        (t : Bool) → size (lines bs) ≡ suc (length bs) → size (cond t ([] ∷ lines bs) (onto_first b (lines bs))) ≡ suc (suc (length bs))
    pick true e = omega (arith, e)
    pick false e = onto (lines bs) e

pub forms_size : (h : List ℕ) (ls : List (List ℕ)) → 5 * length (run_together (forms h ls)) + 7 * length (forms h ls) + size
    (after h ls) ≡ size ls
unfolding size forms after run_together
forms_size h [] = refl
forms_size h (l ∷ []) = omega arith
forms_size h (l ∷ m ∷ ls) = pick (is_form h l) refl (forms_size h (m ∷ ls))
  where
    pick :
        (t : Bool) → is_form h l ≡ t →
        5 * length (run_together (forms h (m ∷ ls))) + 7 * length (forms h (m ∷ ls)) + size (after h (m ∷ ls)) ≡ size (m ∷ ls) →
        5 * length (run_together (cond t (string_in l ∷ forms h (m ∷ ls)) []))
        + 7 * length (cond t (string_in l ∷ forms h (m ∷ ls)) [])
        + size (cond t (after h (m ∷ ls)) (l ∷ m ∷ ls))
        ≡ size (l ∷ m ∷ ls)
    pick true e i = omega (arith, i, form_len h l e, length-append (string_in l) (run_together (forms h (m ∷ ls))))
    pick false e i = omega arith
