-- Reception as it is done: reconstruct the text from the entries, fill the line map, scan the reconstructed text. For every readable
-- slice the test passes exactly if `is_index`, and the reconstruction is then the recovered text. Assumes nothing.
use Rattle.std.specs.Prelude.{◌≡◌, refl, true, List, [], ◌∷◌, ℕ, suc, ◌-◌, ◌<◌, length, get_or, set}
use Rattle.std.proofs.Common.{◌∙◌, inl, inr, ⊎_elim, arith, length-set}
use Rattle.std.proofs.lemmas.List.Edits.{sets}
use Rattle.basics.specs.Member.{In}
use Rattle.basics.specs.Stores.{set_either}
use Rattle.spec.specs.Dictionary.{Lexicon}
use Rattle.spec.specs.Words.{spells, Entry}
use Rattle.spec.specs.Index.{n_of, lines_in, readable}
use Rattle.spec.specs.Reception.{recovered, is_index}
use Rattle.models.specs.Entries.{flat}
use Rattle.models.specs.Reception.{verify, reconstruct}
use Rattle.laws.specs.Text.Facts.{Chars, GoodLexicon}
use Rattle.laws.specs.Dictionary.Keys.{spells_chars}
use Rattle.laws.specs.Readable.Readable.{readable_get}
use Rattle.laws.specs.Numbers.Lines.{good_flat_sound}
use Rattle.laws.specs.Receive.LineMap.{LineMap, verify_exact}
use Rattle.laws.specs.Receive.Reconstruction.{length_reconstruct, reconstruct_recovered}

-- A RECONSTRUCTION CONSISTS OF CHARACTERS, if what was there does

set_chars : (us : List ℕ) (k c : ℕ) → Chars us → c < 65536 → Chars (set us k c)
set_chars us k c chars small i b =
    ⊎_elim
    (λ (e : get_or (set us k c) i 0 ≡ get_or us i 0).
    let old : get_or us i 0 < 65536 = chars i (omega (arith, length-set us k c)) in omega arith)
    (λ (e : (i ≡ k) × (get_or (set us k c) i 0 ≡ c)). omega arith) (set_either 0 us k c i)

sets_chars : (us : List ℕ) (k : ℕ) (cs : List ℕ) → Chars us → Chars cs → Chars (sets us k cs)
sets_chars us k [] chars cs_chars = chars
sets_chars us k (c ∷ cs) chars cs_chars =
    sets_chars (set us k c) (suc k) cs (set_chars us k c chars (cs_chars 0 (omega arith))) (λ i b. cs_chars (suc i) (omega arith))

pub reconstruct_chars :
    (lex : Lexicon) (es : List Entry) (us : List ℕ) → Chars us → ((e : Entry) → In e es → Chars (spells lex e.key_of)) →
    Chars (reconstruct lex es us)
unfolding reconstruct
reconstruct_chars lex [] us chars spelt = chars
reconstruct_chars lex (e ∷ es) us chars spelt =
    reconstruct_chars lex es (sets us (e.at - 1) (spells lex e.key_of))
    (sets_chars us (e.at - 1) (spells lex e.key_of) chars (spelt e (inl refl))) (λ f m. spelt f (inr m))

-- THE WHOLE OF RECEPTION

module _ {lex : Lexicon} (good : GoodLexicon lex) (g : ℕ) (xs us : List ℕ) (len : length us ≡ n_of xs) where
  pub reception_recovers : is_index g lex xs ≡ true → reconstruct lex (flat lex (lines_in xs)) us ≡ recovered lex xs
  reception_recovers r = reconstruct_recovered good g xs r (flat lex (lines_in xs)) us len (λ e. (λ m. m, λ m. m))

  module _ (can : readable g lex xs ≡ true) (chars : Chars us) where
    pub reconstructing_chars : Chars (reconstruct lex (flat lex (lines_in xs)) us)
    reconstructing_chars =
        reconstruct_chars lex (flat lex (lines_in xs)) us chars
        (λ e m.
        spells_chars good e.key_of
        (good_flat_sound lex (n_of xs) (lines_in xs) (readable_get g lex xs can).lines e m).is_key)

    pub reception_exact :
        {line_for : ℕ → ℕ} → LineMap xs line_for → verify lex line_for xs (reconstruct lex (flat lex (lines_in xs)) us) ≡ is_index g lex xs
    reception_exact mapped =
        verify_exact good g can mapped (reconstruct lex (flat lex (lines_in xs)) us) reconstructing_chars
        (length_reconstruct lex (flat lex (lines_in xs)) us ∙ len) reception_recovers
