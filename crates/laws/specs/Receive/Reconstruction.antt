-- Reconstructing a text from entries, in any order. If the entries match a text, the reconstruction is that text, whatever was there
-- before. Assumes nothing.
use Rattle.std.specs.Prelude.{◌≡◌, refl, true, ◌⊎◌, get_or}
use Rattle.std.proofs.Common.{sym, ◌∙◌, subst, ext_get_or}
use Rattle.std.proofs.Math.Logic.{inl, inr}
use mathlib.Core.List.{List, [], ◌∷◌}
use Prim.Native.Nat.{ℕ, suc, ◌+◌, ◌-◌, ◌≤◌, ◌<◌}
use native.Mathlib.Omega.{arith}
use Rattle.std.proofs.Math.ListN.{length}
use Rattle.std.proofs.lemmas.List.Edits.{sets}
use Rattle.std.proofs.Math.Seq.{length-sets}
use Rattle.basics.specs.Member.{In}
use Rattle.basics.specs.Stores.{sets_either, sets_keeps, sets_writes}
use Rattle.spec.specs.Dictionary.{Lexicon}
use Rattle.spec.specs.Words.{spells, Entry}
use Rattle.spec.specs.Index.{n_of, lines_in}
use Rattle.spec.specs.Reception.{recovered, is_index}
use Rattle.models.specs.Entries.{flat}
use Rattle.models.specs.Reception.{reconstruct}
use Rattle.laws.specs.Text.Strings.{Stand}
use Rattle.laws.specs.Text.Facts.{GoodLexicon, LinesMatch}
use Rattle.laws.specs.Numbers.Flat.{flat_len}
use Rattle.laws.specs.Readable.Recover.{length_recovered}
use Rattle.laws.specs.Readable.IndexOf.{index_match}
use Rattle.laws.specs.Receive.Received.{is_index_get, readable_chars}

-- RECONSTRUCTION

pub length_reconstruct : (lex : Lexicon) (es : List Entry) (us : List ℕ) → length (reconstruct lex es us) ≡ length us
unfolding reconstruct
length_reconstruct lex [] us = refl
length_reconstruct lex (e ∷ es) us =
    length_reconstruct lex es (sets us (e.at - 1) (spells lex e.key_of)) ∙ length-sets us (e.at - 1) (spells lex e.key_of)

-- a character of a reconstructed text is unchanged, or an entry covers it
pub reconstruct_either :
    (lex : Lexicon) (es : List Entry) (us : List ℕ) (i : ℕ) →
    (get_or (reconstruct lex es us) i 0 ≡ get_or us i 0)
    ⊎ ((e : Entry) × In e es × (e.at - 1 ≤ i) × (i < e.at - 1 + length (spells lex e.key_of)))
unfolding reconstruct
reconstruct_either lex [] us i = inl refl
reconstruct_either lex (e ∷ es) us i =
    here (sets_either 0 us (e.at - 1) (spells lex e.key_of) i)
    (reconstruct_either lex es (sets us (e.at - 1) (spells lex e.key_of)) i)
  where
    vs : List ℕ
    vs = sets us (e.at - 1) (spells lex e.key_of)

    here :
        (get_or vs i 0 ≡ get_or us i 0) ⊎ ((e.at - 1 ≤ i) × (i < e.at - 1 + length (spells lex e.key_of))) →
        (get_or (reconstruct lex es vs) i 0 ≡ get_or vs i 0)
        ⊎ ((f : Entry) × In f es × (f.at - 1 ≤ i) × (i < f.at - 1 + length (spells lex f.key_of))) →
        (get_or (reconstruct lex es vs) i 0 ≡ get_or us i 0)
        ⊎ ((f : Entry) × In f (e ∷ es) × (f.at - 1 ≤ i) × (i < f.at - 1 + length (spells lex f.key_of)))
    here one (inr later) = inr (later.0, inr later.1, later.2, later.3)
    here (inl kept) (inl same) = inl (same ∙ kept)
    here (inr on) (inl same) = inr (e, inl refl, on.0, on.1)

module _ (lex : Lexicon) (ts : List ℕ) where
  -- the character that an entry which stands in ts has at position i + 1
  stood :
      (e : Entry) → Stand (spells lex e.key_of) ts e.at → (i : ℕ) → e.at - 1 ≤ i →
      i < e.at - 1 + length (spells lex e.key_of) →
      get_or (spells lex e.key_of) (i - (e.at - 1)) 0 ≡ get_or ts i 0
  stood e h i lo hi =
      let w : suc i - e.at ≡ i - (e.at - 1) = omega arith in
      let y : suc i - 1 ≡ i = omega arith in
      rw (w, y) at (h.equal (suc i) (omega arith) (omega arith))

  reconstruct_keeps :
      (es : List Entry) (us : List ℕ) (i : ℕ) → ((e : Entry) → In e es → Stand (spells lex e.key_of) ts e.at) →
      get_or us i 0 ≡ get_or ts i 0 → get_or (reconstruct lex es us) i 0 ≡ get_or ts i 0
  unfolding reconstruct
  reconstruct_keeps [] us i stand h = h
  reconstruct_keeps (e ∷ es) us i stand h =
      reconstruct_keeps es (sets us (e.at - 1) (spells lex e.key_of)) i (λ f m. stand f (inr m))
      (sets_keeps 0 us (e.at - 1) (spells lex e.key_of) i (get_or ts i 0) h (stood e (stand e (inl refl)) i))

  reconstruct_writes :
      (es : List Entry) (us : List ℕ) (i : ℕ) → i < length us → ((e : Entry) → In e es → Stand (spells lex e.key_of) ts e.at) →
      ((e : Entry) × In e es × (e.at ≤ suc i) × (suc i < e.at + length (spells lex e.key_of))) →
      get_or (reconstruct lex es us) i 0 ≡ get_or ts i 0
  unfolding reconstruct
  reconstruct_writes [] us i b stand (e, m, lo, hi) = absurd m
  reconstruct_writes (f ∷ es) us i b stand (e, inl q, lo, hi) =
      let h : Stand (spells lex f.key_of) ts f.at = stand f (inl refl) in
      let from : f.at ≤ suc i = rw q at lo in
      let to : suc i < f.at + length (spells lex f.key_of) = rw q at hi in
      reconstruct_keeps es (sets us (f.at - 1) (spells lex f.key_of)) i (λ g m. stand g (inr m))
      (sets_writes 0 us (f.at - 1) (spells lex f.key_of) i b (omega arith, omega arith)
      (stood f h i (omega arith) (omega arith)))
  reconstruct_writes (f ∷ es) us i b stand (e, inr m, lo, hi) =
      reconstruct_writes es (sets us (f.at - 1) (spells lex f.key_of)) i
      (omega (arith, length-sets us (f.at - 1) (spells lex f.key_of))) (λ g n. stand g (inr n)) (e, m, lo, hi)

  -- Entries that stand in a text and cover it reconstruct it, in any order.
  pub reconstruct_covers :
      (es : List Entry) (us : List ℕ) → length us ≡ length ts →
      ((e : Entry) → In e es → Stand (spells lex e.key_of) ts e.at) →
      ((p : ℕ) → 1 ≤ p → p ≤ length ts → (e : Entry) × In e es × (e.at ≤ p) × (p < e.at + length (spells lex e.key_of))) →
      reconstruct lex es us ≡ ts
  reconstruct_covers es us len stand cover =
      ext_get_or 0 (reconstruct lex es us) ts (length_reconstruct lex es us ∙ len) each
    where
      each : (i : ℕ) → i < length (reconstruct lex es us) → get_or (reconstruct lex es us) i 0 ≡ get_or ts i 0
      each i b =
          let within : i < length us = omega (arith, length_reconstruct lex es us) in
          reconstruct_writes es us i within stand (cover (suc i) (omega arith) (omega arith))

-- IF NUMBERS ARE THE INDEX OF THE TEXT RECOVERED FROM THEM

module _ {lex : Lexicon} (good : GoodLexicon lex) (g : ℕ) (xs : List ℕ) (taken : is_index g lex xs ≡ true) where
  -- Reconstruction from their entries, in any order, gives the recovered text.
  pub reconstruct_recovered :
      (es : List Entry) (us : List ℕ) → length us ≡ n_of xs →
      ((e : Entry) → (In e es → In e (flat lex (lines_in xs))) × (In e (flat lex (lines_in xs)) → In e es)) →
      reconstruct lex es us ≡ recovered lex xs
  reconstruct_recovered es us len same =
      reconstruct_covers lex (recovered lex xs) es us (len ∙ sym (length_recovered lex xs)) (λ e m. match.stand e ((same e).0 m)) cover
    where
      match : LinesMatch lex (lines_in xs) (recovered lex xs)
      match =
          let h = is_index_get g lex xs taken in
          subst (λ (ys : List ℕ). LinesMatch lex (lines_in ys) (recovered lex xs)) h.index_is
          (index_match good (recovered lex xs) (readable_chars good g xs h.can_read))

      cover :
          (p : ℕ) → 1 ≤ p → p ≤ length (recovered lex xs) →
          (e : Entry) × In e es × (e.at ≤ p) × (p < e.at + length (spells lex e.key_of))
      cover p lo hi =
          let (e, m, from, to) = match.cover p lo hi in
          (e, (same e).1 m, from, omega (arith, flat_len lex (lines_in xs) e m))
