-- The text that reception reconstructs in its work slice, and the line map behind it: the reception test passes exactly if the index is
-- that of the recovered text, which the reconstruction then is; without a full-width form as a lone key, the index is received. Assumes
-- nothing.
use Rattle.std.specs.Prelude.{◌≡◌, Bool, true, false, not, List, ℕ, ◌-◌, ◌≤◌, ◌<◌, length, take, drop, replicate}
use Rattle.std.proofs.Math.Path.{refl}
use Rattle.std.proofs.Common.{sym, ◌∙◌, ⊎_elim, arith}
use Rattle.std.proofs.lemmas.List.{length-replicate, get_or-replicate}
use Rattle.std.proofs.Math.ListN.{get_or-eq_default}
use Rattle.basics.specs.Bools.{clash, le_or_lt}
use Rattle.spec.specs.Dictionary.{Lexicon, admitted}
use Rattle.spec.specs.Index.{n_of, lines_in, readable}
use Rattle.spec.specs.Reception.{recovered, is_index, received}
use Rattle.models.specs.Reception.{reconstructed_over, mapped_at, fill_line_map, verify, some_form_key}
use Rattle.laws.specs.Text.Facts.{Chars, GoodLexicon}
use Rattle.laws.specs.Build.Building.{reached_admitted}
use Rattle.laws.specs.Receive.FormKeys.{forms_are_keys}
use Rattle.laws.specs.Receive.LineMapFill.{line_map_mapped}
use Rattle.laws.specs.Receive.LineMap.{LineMap}
use Rattle.laws.specs.Receive.Reception.{reconstructing_chars, reception_exact, reception_recovers}
use Rattle.laws.specs.Receive.Receiving.{delivery_refusal, delivered}

-- THE TEXT

-- whether the numbers are the index of the text recovered from them; if so, that text is at the start of the work slice
pub record ReadBack (g : ℕ) (lex : Lexicon) (xs : List ℕ) (r : Bool) (work_now : List ℕ) : Type 0 where
  pub exact : r ≡ is_index g lex xs
  pub text : r ≡ true → take (n_of xs) work_now ≡ recovered lex xs

-- whether an index is received; if so, its text is at the start of the work slice
pub record Tried (g : ℕ) (lex : Lexicon) (xs : List ℕ) (r : Bool) (work_now : List ℕ) : Type 0 where
  pub exact : r ≡ received g lex xs
  pub text : r ≡ true → take (n_of xs) work_now ≡ recovered lex xs

-- a cleared slice maps no position
cleared_line_map : (n p : ℕ) → mapped_at (replicate n 0) p ≡ 0
unfolding mapped_at
cleared_line_map n p =
    ⊎_elim
    (λ (h : n ≤ p - 1). get_or-eq_default (replicate n 0) 0 (omega (arith, length-replicate {A = ℕ} n 0)))
    (λ (h : p - 1 < n). get_or-replicate n (p - 1) 0 0 h) (le_or_lt n (p - 1))

-- a delivered index's dictionary is admitted
pub delivered_admitted :
    (g : ℕ) (cs ls xs : List ℕ) (w : ℕ) → Chars cs → delivery_refusal g cs ls xs w ≡ 0 → admitted cs ls ≡ true
delivered_admitted g cs ls xs w chars none = reached_admitted cs ls chars (delivered g cs ls xs w none).admits

-- the work slice: u after the reconstruction, v after the line map is filled
pub record InWork (g : ℕ) (lex : Lexicon) (xs : List ℕ) (n : ℕ) (u v : List ℕ) : Type 0 where
  pub good : GoodLexicon lex
  pub can : readable g lex xs ≡ true
  pub n_is : n ≡ n_of xs
  pub reconstructs : take n u ≡ reconstructed_over lex (lines_in xs) n 0
  pub keeps : take n v ≡ take n u
  pub mapped : take n (drop n v) ≡ fill_line_map 0 (lines_in xs) (replicate n 0)

module _ {g : ℕ} {lex : Lexicon} {xs : List ℕ} {n : ℕ} {u v : List ℕ} (h : InWork g lex xs n u v) where
  reconstructed : take n v ≡ reconstructed_over lex (lines_in xs) n 0
  reconstructed = h.keeps ∙ h.reconstructs

  -- cleared, the slice holds characters
  cleared_chars : Chars (replicate n 0)
  cleared_chars i b = rw (get_or-replicate {A = ℕ} n i 0 0 (omega (arith, length-replicate {A = ℕ} n 0))) (omega arith)

  cleared_len : length (replicate {A = ℕ} n 0) ≡ n_of xs
  cleared_len = length-replicate {A = ℕ} n 0 ∙ h.n_is

  line_map_len : n_of xs ≤ length (replicate {A = ℕ} n 0)
  line_map_len = omega (arith, cleared_len)

  pub tried_mapped : LineMap xs (mapped_at (take n (drop n v)))
  tried_mapped =
      rw h.mapped
      (line_map_mapped h.good g xs h.can (replicate n 0) line_map_len (λ p lo. cleared_line_map n p))

  pub tried_chars : Chars (take n v)
  tried_chars =
      rw reconstructed
      (reconstructing_chars h.good g xs (replicate n 0) cleared_len h.can cleared_chars)

  pub read_back : {r : Bool} → r ≡ verify lex (mapped_at (take n (drop n v))) xs (take n v) → ReadBack g lex xs r v
  read_back {r} e = record { exact = exact; text = λ t. rw (← h.n_is) (reconstructed ∙ recovers (sym exact ∙ t)) }
    where
      exact : r ≡ is_index g lex xs
      exact =
          e
          ∙ rw reconstructed (reception_exact h.good g xs (replicate n 0) cleared_len h.can cleared_chars tried_mapped)

      recovers : is_index g lex xs ≡ true → reconstructed_over lex (lines_in xs) n 0 ≡ recovered lex xs
      recovers = reception_recovers h.good g xs (replicate n 0) cleared_len

-- the index is received if no lone key is a full-width form
module _ {g : ℕ} {lex : Lexicon} {xs v : List ℕ} {shown : Bool} (h : ReadBack g lex xs shown v) where
  pub not_tried : shown ≡ false → Tried g lex xs false v
  unfolding received
  not_tried f = record { exact = rw (← h.exact, f) refl; text = λ t. clash t refl }

  pub tried :
      shown ≡ true → GoodLexicon lex → (held : Bool) → held ≡ some_form_key (lines_in xs) → Tried g lex xs (not held) v
  unfolding received
  tried t good held e =
      record { exact = rw (← h.exact, t, ← forms_are_keys good g xs (sym h.exact ∙ t), ← e) refl; text = λ u. h.text t }
