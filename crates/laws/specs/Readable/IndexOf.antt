-- A text's index is readable, has the text's n and its maximal entries, is the only such slice, and its entries match the text. Assumes
-- nothing.
use Rattle.std.specs.Prelude.{◌≡◌, true, List, [], ◌∷◌, ℕ, suc, ◌+◌, ◌≤◌, ◌<◌}
use Rattle.std.proofs.Math.Path.{refl, sym, ap}
use Rattle.std.proofs.Common.{◌∙◌, arith, length-append}
use Rattle.std.proofs.Math.ListN.{length}
use Rattle.basics.specs.Member.{In}
use Rattle.spec.specs.Dictionary.{Lexicon}
use Rattle.spec.specs.Words.{Key, Entry, entry, entries}
use Rattle.spec.specs.Numbers.{Line, sorted, lines_of, all_positions, index_of}
use Rattle.spec.specs.Index.{n_of, entries_of, lines_in, readable}
use Rattle.spec.specs.FurtherTheorems.{Among, Under, Tells}
use Rattle.models.specs.Entries.{entries_at, flat}
use Rattle.laws.specs.Text.Facts.{Chars, GoodLexicon, entry_eq, Sound, GoodLines, LinesMatch}
use Rattle.laws.specs.Entries.Entries.{entries_get, entries_put}
use Rattle.laws.specs.Entries.Maximal.{maximal_covers}
use Rattle.laws.specs.Entries.Sound.{entries_sound}
use Rattle.laws.specs.Numbers.Slices.{n_of_numbers, lines_in_numbers, entries_of_numbers}
use Rattle.laws.specs.Readable.Readable.{readable_put, readable_get, readable_unique}
use Rattle.laws.specs.Numbers.Flat.{posting, flat_get, flat_put, flat_measured}
use Rattle.laws.specs.Numbers.Lines.{flat_lines_of, lines_of_good, lines_unique}
use Rattle.laws.specs.Numbers.Sorted.{in_sorted_get, in_sorted_put, length_sorted, sorted_entries_ascend}

-- PARTS OF AN INDEX

pub n_of_index : (lex : Lexicon) (ts : List ℕ) → n_of (index_of lex ts) ≡ length ts
unfolding index_of
n_of_index lex ts = n_of_numbers (length ts) (lines_of (sorted (entries lex ts)))

pub lines_in_index : (lex : Lexicon) (ts : List ℕ) → lines_in (index_of lex ts) ≡ lines_of (sorted (entries lex ts))
unfolding index_of
lines_in_index lex ts = lines_in_numbers (length ts) (lines_of (sorted (entries lex ts)))

pub length_entries_at : (lex : Lexicon) (k : Key) (ps : List ℕ) → length (entries_at lex k ps) ≡ length ps
unfolding entries_at
length_entries_at lex k [] = refl
length_entries_at lex k (p ∷ ps) = ap suc (length_entries_at lex k ps)

pub length_flat : (lex : Lexicon) (ls : List Line) → length (flat lex ls) ≡ length (all_positions ls)
unfolding flat all_positions
length_flat lex [] = refl
length_flat lex (l ∷ ls) =
    simp length-append (omega (arith, length_entries_at lex l.key_of l.positions, length_flat lex ls))

-- the entry of k at p is in a slice exactly if it is one of the entries of its lines
pub under_get : (lex : Lexicon) (xs : List ℕ) (k : Key) (p : ℕ) → Under k p xs → In (posting lex k p) (flat lex (lines_in xs))
unfolding Under
under_get lex xs k p u = rw u.2 at (flat_put lex (lines_in xs) u.0 p u.1 u.3)

pub under_put : (lex : Lexicon) (xs : List ℕ) (k : Key) (p : ℕ) → In (posting lex k p) (flat lex (lines_in xs)) → Under k p xs
unfolding Under entry
under_put lex xs k p m =
    let r = flat_get lex (lines_in xs) (posting lex k p) m in (
      r.0,
      r.1,
      sym (ap (λ (e : Entry). e.key_of) r.3),
      r.2,
    )

-- an entry of one slice is an entry of another if its position is under its key there too
pub under_flat :
    (lex : Lexicon) (xs ys : List ℕ) (e : Entry) → (Under e.key_of e.at xs → Under e.key_of e.at ys) →
    In e (flat lex (lines_in xs)) → In e (flat lex (lines_in ys))
under_flat lex xs ys e there m =
    let whole = flat_measured lex (lines_in xs) e m in
    rw whole (under_get lex ys e.key_of e.at (there (under_put lex xs e.key_of e.at (rw whole at m))))

-- Readable slices with equal n and the same entries are equal.
pub under_unique :
    (g : ℕ) (lex : Lexicon) (xs ys : List ℕ) → readable g lex xs ≡ true → readable g lex ys ≡ true → n_of xs ≡ n_of ys →
    ((k : Key) (p : ℕ) → (Under k p xs → Under k p ys) × (Under k p ys → Under k p xs)) → xs ≡ ys
under_unique g lex xs ys can also n same =
    readable_unique g lex xs ys can also n
    (lines_unique (rw n at (readable_get g lex xs can).lines)
    (readable_get g lex ys also).lines (λ e m. under_flat lex xs ys e (same e.key_of e.at).0 m)
    (λ e m. under_flat lex ys xs e (same e.key_of e.at).1 m))

module _ {lex : Lexicon} (good : GoodLexicon lex) (ts : List ℕ) (chars : Chars ts) where
  sorted_sound : Sound lex (length ts) (sorted (entries lex ts))
  sorted_sound e m = entries_sound lex good ts chars e (in_sorted_get e (entries lex ts) m)

  pub index_lines_good : GoodLines lex (length ts) (lines_in (index_of lex ts))
  index_lines_good =
      rw lines_in_index (lines_of_good lex (length ts) (sorted (entries lex ts)) (sorted_entries_ascend lex ts) sorted_sound)

  pub flat_index : flat lex (lines_in (index_of lex ts)) ≡ sorted (entries lex ts)
  flat_index =
      rw lines_in_index
      (flat_lines_of lex (sorted (entries lex ts)) (sorted_entries_ascend lex ts) (λ e m. (sorted_sound e m).len_is))

  pub in_index_get : (e : Entry) → In e (flat lex (lines_in (index_of lex ts))) → In e (entries lex ts)
  in_index_get e m = in_sorted_get e (entries lex ts) (rw flat_index at m)

  pub in_index_put : (e : Entry) → In e (entries lex ts) → In e (flat lex (lines_in (index_of lex ts)))
  in_index_put e m = rw flat_index (in_sorted_put e (entries lex ts) m)

  -- M is the number of entries
  pub entries_of_index : entries_of (index_of lex ts) ≡ length (entries lex ts)
  unfolding index_of
  entries_of_index =
      entries_of_numbers (length ts) (lines_of (sorted (entries lex ts)))
      ∙ sym (length_flat lex (lines_of (sorted (entries lex ts))))
      ∙ ap length (rw lines_in_index at flat_index)
      ∙ length_sorted (entries lex ts)

  pub index_readable : (g : ℕ) → length ts ≤ g → readable g lex (index_of lex ts) ≡ true
  unfolding index_of
  index_readable g small =
      readable_put g (rw lines_in_index at index_lines_good) small

  -- THE ONLY ONE

  pub index_unique :
      (g : ℕ) (xs : List ℕ) → readable g lex xs ≡ true → n_of xs ≡ length ts →
      ((e : Entry) → (In e (flat lex (lines_in xs)) → In e (entries lex ts)) × (In e (entries lex ts) → In e (flat lex (lines_in xs)))) →
      xs ≡ index_of lex ts
  index_unique g xs can n same =
      let h = readable_get g lex xs can in
      readable_unique g lex xs (index_of lex ts) can (index_readable g (omega (arith, h.length_allowed))) (n ∙ sym (n_of_index lex ts))
      (lines_unique (rw n at h.lines) index_lines_good
      (λ e m. in_index_put e ((same e).0 m)) (λ e m. (same e).1 (in_index_get e m)))

  -- an entry of the text is its key and position
  pub entry_whole : (e : Entry) → In e (entries lex ts) → posting lex e.key_of e.at ≡ e
  unfolding entry
  entry_whole e m = entry_eq (posting lex e.key_of e.at) e refl refl (sym (entries_sound lex good ts chars e m).len_is)

  pub among_get : (k : Key) (p : ℕ) → Among k p (entries lex ts) → In (posting lex k p) (entries lex ts)
  unfolding Among
  among_get k p a =
      let is : posting lex k p ≡ a.0 = rw (← a.2, ← a.3) (entry_whole a.0 a.1) in
      rw is a.1

  pub index_tells : (g : ℕ) → length ts ≤ g → Tells g lex ts (index_of lex ts)
  unfolding Among entry
  index_tells g small =
      record {
        can_read = index_readable g small;
        n_is = n_of_index lex ts;
        only = λ k p u. (posting lex k p, in_index_get (posting lex k p) (under_get lex (index_of lex ts) k p u), refl, refl);
        all = λ k p a. under_put lex (index_of lex ts) k p (in_index_put (posting lex k p) (among_get k p a));
      }

  pub tells_index : (g : ℕ) (xs : List ℕ) → Tells g lex ts xs → xs ≡ index_of lex ts
  unfolding Among
  tells_index g xs tells =
      index_unique g xs tells.can_read tells.n_is (λ e. (only e, all e))
    where
      only : (e : Entry) → In e (flat lex (lines_in xs)) → In e (entries lex ts)
      only e m =
          let whole : e ≡ posting lex e.key_of e.at = flat_measured lex (lines_in xs) e m in
          rw whole (among_get e.key_of e.at
          (tells.only e.key_of e.at (under_put lex xs e.key_of e.at (rw whole at m))))

      all : (e : Entry) → In e (entries lex ts) → In e (flat lex (lines_in xs))
      all e m =
          rw (entry_whole e m) at (under_get lex xs e.key_of e.at (tells.all e.key_of e.at (e, m, refl, refl)))

  -- the entries of the index match the text
  pub index_match : LinesMatch lex (lines_in (index_of lex ts)) ts
  index_match =
      record {
        stand = λ e m. (entries_get lex good ts chars e (in_index_get e m)).is_entry.stand;
        cover = cover;
      }
    where
      cover :
          (p : ℕ) → 1 ≤ p → p ≤ length ts →
          (e : Entry) × In e (flat lex (lines_in (index_of lex ts))) × (e.at ≤ p) × (p < e.at + e.len)
      cover p lo hi =
          let (e, h, from, to) = maximal_covers lex good ts chars p lo hi in
          (e, in_index_put e (entries_put lex good ts chars h), from, to)
