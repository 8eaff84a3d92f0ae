-- Search: what is covered, what is found, and that lines which match a text find exactly the string's positions in it. Assumes nothing.
use Rattle.std.specs.Prelude.{◌≡◌, Bool, true, false, ◌&&◌, List, [], ◌∷◌, ◌++◌}
use Rattle.std.proofs.Math.Path.{refl, sym, ap}
use Rattle.std.proofs.Common.{◌∙◌, inl, inr, ⊎_elim}
use Prim.Native.Nat.{ℕ, zero, suc, ◌+◌, ◌-◌, ◌≤◌, ◌<◌}
use native.Mathlib.Omega.{arith}
use Rattle.std.proofs.Math.ListN.{length}
use Rattle.basics.specs.Bools.{false_put, iff_eq, clash, and_put, and_left, and_right, or_left, or_right, or_get}
use Rattle.basics.specs.Member.{In}
use Rattle.basics.specs.Steps.{all_from, all_from_get, all_from_put, those_from, those_from_alike, those_from_append, those_from_fewer}
use Rattle.spec.specs.Dictionary.{Lexicon}
use Rattle.spec.specs.Words.{spells, stands, Entry}
use Rattle.spec.specs.Numbers.{Line}
use Rattle.spec.specs.Index.{n_of, lines_in}
use Rattle.spec.specs.Reception.{lies_on}
use Rattle.spec.specs.Search.{agrees, covers, covered, all_covered, found_from, find}
use Rattle.spec.specs.Theorems.{positions_from, positions}
use Rattle.models.specs.Entries.{flat}
use Rattle.laws.specs.Text.Strings.{Stand, stands_get, stands_put}
use Rattle.laws.specs.Text.Facts.{AllStand, LinesMatch}
use Rattle.laws.specs.Numbers.Flat.{posting, flat_get, flat_put, flat_len}
use Rattle.laws.specs.Readable.Recover.{lies_on_get, lies_on_put}
use Rattle.laws.specs.Search.Agree.{Agree, agrees_get, agrees_put}

-- COVERED

covers_get :
    (s : List ℕ) (a p : ℕ) (e bs : List ℕ) → covers s a p e bs ≡ true →
    (b : ℕ) × In b bs × (b ≤ p) × (p < b + length e) × Agree s a e b
unfolding covers
covers_get s a p e [] t = clash t refl
covers_get s a p e (b ∷ bs) t =
    ⊎_elim
    (λ (h : (lies_on b (length e) p && agrees s a e b) ≡ true).
    let on = lies_on_get b (length e) p (and_left (lies_on b (length e) p) (agrees s a e b) h) in
    (b, inl refl, on.0, on.1, agrees_get s a e b (and_right (lies_on b (length e) p) (agrees s a e b) h)))
    (λ (h : covers s a p e bs ≡ true).
    let later = covers_get s a p e bs h in (later.0, inr later.1, later.2, later.3, later.4))
    (or_get (lies_on b (length e) p && agrees s a e b) (covers s a p e bs) t)

covers_put :
    {s : List ℕ} {a : ℕ} (p : ℕ) {e : List ℕ} (bs : List ℕ) {b : ℕ} → In b bs → b ≤ p → p < b + length e → Agree s a e b →
    covers s a p e bs ≡ true
unfolding covers
covers_put p [] m lo hi h = absurd m
covers_put {s} {a} p {e} (c ∷ bs) {b} (inl z) lo hi h =
    or_left (covers s a p e bs)
    (rw z at (and_put (lies_on_put b (length e) p lo hi) (agrees_put s a e b h)))
covers_put {s} {a} p {e} (c ∷ bs) {b} (inr m) lo hi h =
    or_right (lies_on c (length e) p && agrees s a e c) (covers_put p bs m lo hi h)

-- an entry that lies on p and agrees with the string laid at a
pub record Covers (lex : Lexicon) (ls : List Line) (s : List ℕ) (a p : ℕ) (e : Entry) : Type 0 where
  pub among : In e (flat lex ls)
  pub from : e.at ≤ p
  pub to : p < e.at + e.len
  pub agree : Agree s a (spells lex e.key_of) e.at

covered_line_get :
    (lex : Lexicon) (ls : List Line) (s : List ℕ) (a p : ℕ) → covered lex ls s a p ≡ true →
    (l : Line) × In l ls × (covers s a p (spells lex l.key_of) l.positions ≡ true)
unfolding covered
covered_line_get lex [] s a p t = clash t refl
covered_line_get lex (l ∷ ls) s a p t =
    ⊎_elim
    (λ (h : covers s a p (spells lex l.key_of) l.positions ≡ true). (l, inl refl, h))
    (λ (h : covered lex ls s a p ≡ true).
    let later = covered_line_get lex ls s a p h in (later.0, inr later.1, later.2))
    (or_get (covers s a p (spells lex l.key_of) l.positions) (covered lex ls s a p) t)

covered_line_put :
    (lex : Lexicon) (ls : List Line) (s : List ℕ) (a p : ℕ) (l : Line) → In l ls →
    covers s a p (spells lex l.key_of) l.positions ≡ true → covered lex ls s a p ≡ true
unfolding covered
covered_line_put lex [] s a p l m t = absurd m
covered_line_put lex (k ∷ ls) s a p l (inl z) t = or_left (covered lex ls s a p) (rw z at t)
covered_line_put lex (k ∷ ls) s a p l (inr m) t =
    or_right (covers s a p (spells lex k.key_of) k.positions) (covered_line_put lex ls s a p l m t)

module _ (lex : Lexicon) (ls : List Line) (s : List ℕ) (a p : ℕ) where
  pub covered_get : covered lex ls s a p ≡ true → (e : Entry) × Covers lex ls s a p e
  covered_get t =
      let l = covered_line_get lex ls s a p t in
      let b = covers_get s a p (spells lex l.0.key_of) l.0.positions l.2 in (
        posting lex l.0.key_of b.0,
        record { among = flat_put lex ls l.0 b.0 l.1 b.1; from = b.2; to = b.3; agree = b.4 },
      )

  pub covered_put : {e : Entry} → Covers lex ls s a p e → covered lex ls s a p ≡ true
  covered_put {e} h =
      let l = flat_get lex ls e h.among in
      let key : e.key_of ≡ l.0.key_of = ap (λ (f : Entry). f.key_of) l.3 in
      let len : e.len ≡ length (spells lex l.0.key_of) = ap (λ (f : Entry). f.len) l.3 in
      let agree : Agree s a (spells lex l.0.key_of) e.at = rw key at h.agree in
      covered_line_put lex ls s a p l.0 l.1
      (covers_put p l.0.positions l.2 h.from (omega arith) agree)

-- FOUND

-- the test of one start
abbrev pub found_at : Lexicon → List Line → (string : List ℕ) → (p : ℕ) → Bool
found_at lex ls s p = all_covered (length s) p lex ls s p

module _ (lex : Lexicon) (ls : List Line) (s : List ℕ) (a : ℕ) where
  all_covered_all : (n p : ℕ) → all_covered n p lex ls s a ≡ all_from n p (covered lex ls s a)
  unfolding all_covered all_from
  all_covered_all zero p = refl
  all_covered_all (suc n) p = rw (all_covered_all n (suc p))

  pub found_at_get : found_at lex ls s a ≡ true → (x : ℕ) → a ≤ x → x < a + length s → covered lex ls s a x ≡ true
  found_at_get t = all_from_get (length s) a (covered lex ls s a) (sym (all_covered_all (length s) a) ∙ t)

  pub found_at_put : ((x : ℕ) → a ≤ x → x < a + length s → covered lex ls s a x ≡ true) → found_at lex ls s a ≡ true
  found_at_put h = all_covered_all (length s) a ∙ all_from_put (length s) a (covered lex ls s a) h

pub found_from_those :
    (lex : Lexicon) (ls : List Line) (s : List ℕ) (n p : ℕ) → found_from n p lex ls s ≡ those_from n p (found_at lex ls s)
unfolding found_from those_from
found_from_those lex ls s zero p = refl
found_from_those lex ls s (suc n) p = rw (found_from_those lex ls s n (suc p))

-- two windows of starts, one after the other, find what the joined window finds
pub found_from_append :
    (lex : Lexicon) (ls : List Line) (s : List ℕ) (n k p : ℕ) →
    found_from (n + k) p lex ls s ≡ found_from n p lex ls s ++ found_from k (p + n) lex ls s
found_from_append lex ls s n k p =
    rw (found_from_those lex ls s (n + k) p, found_from_those lex ls s n p, found_from_those lex ls s k (p + n))
    (those_from_append n k p (found_at lex ls s))

pub positions_from_those : (s ts : List ℕ) (n p : ℕ) → positions_from n p s ts ≡ those_from n p (stands s ts)
unfolding positions_from those_from
positions_from_those s ts zero p = refl
positions_from_those s ts (suc n) p = rw (positions_from_those s ts n (suc p))

-- LINES WHOSE ENTRIES STAND IN A TEXT

-- every position of an occurrence of the string in the text is covered by an entry
pub record OccurrencesCovered (lex : Lexicon) (ls : List Line) (ts s : List ℕ) : Type 0 where
  pub all : AllStand lex ls ts
  pub cover :
      (p : ℕ) → Stand s ts p → (x : ℕ) → p ≤ x → x < p + length s →
      (e : Entry) × In e (flat lex ls) × (e.at ≤ x) × (x < e.at + e.len)

module _ {lex : Lexicon} {ls : List Line} {ts s : List ℕ} (o : OccurrencesCovered lex ls ts s) where
  -- the string is covered at p exactly if it stands there
  all_stand_stands : (p : ℕ) → 1 ≤ p → p + length s ≤ suc (length ts) → found_at lex ls s p ≡ stands s ts p
  all_stand_stands p lo hi = iff_eq (all_covered (length s) p lex ls s p) (stands s ts p) (λ t. stands_put s ts p (to t)) from
    where
      to : all_covered (length s) p lex ls s p ≡ true → Stand s ts p
      to t =
          record {
            from = lo;
            within = hi;
            equal =
                λ x l h.
                let e = covered_get lex ls s p x (found_at_get lex ls s p t x l h) in
                let len = flat_len lex ls e.0 e.1.among in
                e.1.agree.equal x l h e.1.from (omega arith)
                ∙ (o.all e.0 e.1.among).equal x e.1.from (omega arith);
          }

      covered_at : Stand s ts p → (x : ℕ) → p ≤ x → x < p + length s → covered lex ls s p x ≡ true
      covered_at st x l h =
          let over = o.cover p st x l h in
          let len = flat_len lex ls over.0 over.1 in
          covered_put lex ls s p x
          (record {
            among = over.1;
            from = over.2;
            to = over.3;
            agree =
                record {
                  shared = x;
                  string_from = l;
                  string_to = h;
                  entry_from = over.2;
                  entry_to = omega arith;
                  equal =
                      λ y c d f g. st.equal y c d ∙ sym ((o.all over.0 over.1).equal y f g);
                };
          })

      from : stands s ts p ≡ true → all_covered (length s) p lex ls s p ≡ true
      from t = found_at_put lex ls s p (covered_at (stands_get s ts p t))

  -- among starts at which the string fits, those found are those where it stands
  pub all_stand_found :
      (n : ℕ) → n ≤ suc (length ts) - length s → found_from n 1 lex ls s ≡ those_from n 1 (stands s ts)
  all_stand_found n few =
      found_from_those lex ls s n 1
      ∙ those_from_alike n 1 (found_at lex ls s) (stands s ts) (λ x lo hi. all_stand_stands x lo (omega arith))

-- LINES THAT MATCH A TEXT

module _ {lex : Lexicon} {ls : List Line} {ts : List ℕ} (show : LinesMatch lex ls ts) (s : List ℕ) where
  occurrences : OccurrencesCovered lex ls ts s
  occurrences = record { all = show.stand; cover = λ p st x lo hi. show.cover x (omega arith) (omega arith) }

  -- the starts found are those where the string stands; `positions` also tests starts at which the string does not fit
  pub found_positions : 1 ≤ length s → found_from (suc (length ts) - length s) 1 lex ls s ≡ positions s ts
  unfolding positions
  found_positions some =
      all_stand_found occurrences (suc (length ts) - length s) (omega arith)
      ∙ sym (those_from_fewer (suc (length ts) - length s) (length ts - (suc (length ts) - length s)) 1 (stands s ts) outside)
      ∙ ap (λ (n : ℕ). those_from n 1 (stands s ts)) steps
      ∙ sym (positions_from_those s ts (length ts) 1)
    where
      steps : (suc (length ts) - length s) + (length ts - (suc (length ts) - length s)) ≡ length ts
      steps = omega arith

      outside :
          (x : ℕ) → 1 + (suc (length ts) - length s) ≤ x →
          x < 1 + (suc (length ts) - length s) + (length ts - (suc (length ts) - length s)) → stands s ts x ≡ false
      outside x lo hi =
          false_put (stands s ts x)
          (λ t. let st = stands_get s ts x t in let w : x + length s ≤ suc (length ts) = st.within in omega arith)

-- Lines that match a text find exactly the positions at which a string stands in it.
pub find_positions :
    {lex : Lexicon} (xs : List ℕ) {ts : List ℕ} (s : List ℕ) → LinesMatch lex (lines_in xs) ts → n_of xs ≡ length ts → 1 ≤ length s →
    find lex xs s ≡ positions s ts
unfolding find
find_positions {lex} xs {ts} s show len some = rw len (found_positions show s some)
