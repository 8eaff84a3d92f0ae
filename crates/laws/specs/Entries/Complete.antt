-- Membership in the complete index: an entry has a key and its length, and stands in the text. Assumes nothing.
use Rattle.std.specs.Prelude.{◌≡◌, true, false, ◌⊎◌, List, [], ◌∷◌, ℕ, zero, suc, ◌+◌, ◌-◌, ◌≤◌, ◌<◌, length, get_or}
use Rattle.std.proofs.Common.{sym, ap, ◌∙◌, inl, inr, ⊎_elim, zero-add, add-zero, arith}
use Rattle.basics.specs.Bools.{clash, false_put, le_or_lt}
use Rattle.basics.specs.Member.{In, in_append_left, in_append_right, in_append_get, in_cond_get, in_cond_here, in_cond_there, in_skip_get}
use Rattle.basics.specs.Member.{in_skip_here, in_skip_there}
use Rattle.spec.specs.Dictionary.{Lexicon}
use Rattle.spec.specs.Words.{Key, key, is_word, spells, stands, Entry, entry, key_entries, word_entries, lone_entries, complete}
use Rattle.laws.specs.Text.Strings.{Stand, stands_get, stands_put}
use Rattle.laws.specs.Text.Overlaps.{stand_char, stand_at}
use Rattle.laws.specs.Text.Facts.{key_eq, entry_eq, Chars, GoodLexicon, IsEntry}
use Rattle.laws.specs.Dictionary.Keys.{IsWordKey, IsLoneKey, key_kinds, word_is_key, lone_is_key, spells_word, spells_lone}
use Rattle.laws.specs.Dictionary.Keys.{is_word_get, is_word_put, spells_some}

-- ENTRIES OF ONE KEY

-- e is the entry of the key k, which spells s
record OfKey (k : Key) (s ts : List ℕ) (e : Entry) : Type 0 where
  key_is : e.key_of ≡ k
  len_is : e.len ≡ length s
  stand : Stand s ts e.at

key_entries_get :
    (left p : ℕ) (k : Key) (s ts : List ℕ) (e : Entry) → In e (key_entries left p k s ts) → OfKey k s ts e
unfolding key_entries entry
key_entries_get zero p k s ts e m = absurd m
key_entries_get (suc n) p k s ts e m =
    ⊎_elim here (key_entries_get n (suc p) k s ts e)
    (in_cond_get e (entry k p (length s)) (key_entries n (suc p) k s ts) (stands s ts p) m)
  where
    here : (stands s ts p ≡ true) × (e ≡ entry k p (length s)) → OfKey k s ts e
    here h =
        record {
          key_is = ap (λ (f : Entry). f.key_of) h.1;
          len_is = ap (λ (f : Entry). f.len) h.1;
          stand = rw (ap (λ (f : Entry). f.at) h.1) (stands_get s ts p h.0);
        }

key_entries_put :
    (left p : ℕ) {k : Key} {s ts : List ℕ} {e : Entry} → OfKey k s ts e → p ≤ e.at → e.at < p + left →
    In e (key_entries left p k s ts)
unfolding key_entries entry
key_entries_put zero p h lo hi = absurd (omega arith)
key_entries_put (suc n) p {k} {s} {ts} {e} h lo hi = cases (key_entries_put n (suc p) h) (le_or_lt e.at p)
  where
    cases :
        (suc p ≤ e.at → e.at < suc p + n → In e (key_entries n (suc p) k s ts)) → ((e.at ≤ p) ⊎ (p < e.at)) →
        In e (key_entries (suc n) p k s ts)
    cases more (inl b) =
        let here : e.at ≡ p = omega arith in
        rw (entry_eq e (entry k p (length s)) h.key_is here h.len_is)
        (in_cond_here (entry k p (length s)) (key_entries n (suc p) k s ts) (stands s ts p)
        (rw (← here) (stands_put s ts e.at h.stand)))
    cases more (inr b) =
        in_cond_there e (entry k p (length s)) (key_entries n (suc p) k s ts) (stands s ts p) (more b (omega arith))

-- ENTRIES OF THE WORDS

-- e is the entry of a word of ws, whose first has the number i
record OfWords (i : ℕ) (ws : List (List ℕ)) (ts : List ℕ) (e : Entry) : Type 0 where
  number : ℕ
  below : number < length ws
  of : OfKey (key 0 (i + number)) (get_or ws number []) ts e

word_entries_get : (i : ℕ) (ws : List (List ℕ)) (ts : List ℕ) (e : Entry) → In e (word_entries i ws ts) → OfWords i ws ts e
unfolding word_entries
word_entries_get i [] ts e m = absurd m
word_entries_get i (w ∷ ws) ts e m =
    ⊎_elim here (λ (q : In e (word_entries (suc i) ws ts)). there (word_entries_get (suc i) ws ts e q))
    (in_append_get e (key_entries (length ts) 1 (key 0 i) w ts) (word_entries (suc i) ws ts) m)
  where
    here : In e (key_entries (length ts) 1 (key 0 i) w ts) → OfWords i (w ∷ ws) ts e
    here q =
        let first : i + 0 ≡ i = omega arith in
        record { number = 0; below = omega arith; of = rw first (key_entries_get (length ts) 1 (key 0 i) w ts e q) }

    there : OfWords (suc i) ws ts e → OfWords i (w ∷ ws) ts e
    there f =
        let next : i + suc f.number ≡ suc i + f.number = omega arith in
        record { number = suc f.number; below = omega arith; of = rw next f.of }

word_entries_put :
    (i : ℕ) (ws : List (List ℕ)) {ts : List ℕ} {e : Entry} (j : ℕ) → j < length ws → 1 ≤ length (get_or ws j []) →
    OfKey (key 0 (i + j)) (get_or ws j []) ts e → In e (word_entries i ws ts)
unfolding word_entries
word_entries_put i [] j b l h = absurd (omega arith)
word_entries_put i (w ∷ ws) {ts} {e} zero b l h =
    let first : i + 0 ≡ i = omega arith in
    in_append_left e (key_entries (length ts) 1 (key 0 i) w ts) (word_entries (suc i) ws ts)
    (key_entries_put (length ts) 1 (rw first at h) h.stand.from (omega arith))
word_entries_put i (w ∷ ws) {ts} {e} (suc j) b l h =
    let next : i + suc j ≡ suc i + j = omega arith in
    in_append_right e (key_entries (length ts) 1 (key 0 i) w ts) (word_entries (suc i) ws ts)
    (word_entries_put (suc i) ws j (omega arith) l (rw next at h))

-- ENTRIES OF LONE CHARACTERS

-- e is the entry of a lone character of cs, whose first stands at p
record OfChars (p : ℕ) (lex : Lexicon) (cs : List ℕ) (e : Entry) : Type 0 where
  number : ℕ
  below : number < length cs
  no_word : is_word lex (get_or cs number 0 ∷ []) ≡ false
  key_is : e.key_of ≡ key 1 (get_or cs number 0)
  at_is : e.at ≡ p + number
  len_is : e.len ≡ 1

lone_entries_get : (p : ℕ) (lex : Lexicon) (cs : List ℕ) (e : Entry) → In e (lone_entries p lex cs) → OfChars p lex cs e
unfolding lone_entries entry
lone_entries_get p lex [] e m = absurd m
lone_entries_get p lex (c ∷ cs) e m =
    ⊎_elim here (λ (q : In e (lone_entries (suc p) lex cs)). there (lone_entries_get (suc p) lex cs e q))
    (in_skip_get e (entry (key 1 c) p 1) (lone_entries (suc p) lex cs) (is_word lex (c ∷ [])) m)
  where
    here : (is_word lex (c ∷ []) ≡ false) × (e ≡ entry (key 1 c) p 1) → OfChars p lex (c ∷ cs) e
    here q =
        let at : e.at ≡ p = ap (λ (f : Entry). f.at) q.1 in
        record {
          number = 0;
          below = omega arith;
          no_word = q.0;
          key_is = ap (λ (f : Entry). f.key_of) q.1;
          at_is = omega arith;
          len_is = ap (λ (f : Entry). f.len) q.1;
        }

    there : OfChars (suc p) lex cs e → OfChars p lex (c ∷ cs) e
    there f =
        record {
          number = suc f.number;
          below = omega arith;
          no_word = f.no_word;
          key_is = f.key_is;
          at_is = omega arith;
          len_is = f.len_is;
        }

lone_entries_put :
    (p : ℕ) (lex : Lexicon) (cs : List ℕ) (i : ℕ) → i < length cs → is_word lex (get_or cs i 0 ∷ []) ≡ false →
    In (entry (key 1 (get_or cs i 0)) (p + i) 1) (lone_entries p lex cs)
unfolding lone_entries
lone_entries_put p lex [] i b f = absurd (omega arith)
lone_entries_put p lex (c ∷ cs) zero b f =
    let at : p + 0 ≡ p = omega arith in
    rw at (in_skip_here (entry (key 1 c) p 1) (lone_entries (suc p) lex cs) (is_word lex (c ∷ [])) f)
lone_entries_put p lex (c ∷ cs) (suc i) b f =
    let at : p + suc i ≡ suc p + i = omega arith in
    rw at
    (in_skip_there (entry (key 1 (get_or cs i 0)) (suc p + i) 1) (entry (key 1 c) p 1) (lone_entries (suc p) lex cs) (is_word lex (c ∷ []))
    (lone_entries_put (suc p) lex cs i (omega arith) f))

-- BOTH

pub complete_get : (lex : Lexicon) (ts : List ℕ) → Chars ts → (e : Entry) → In e (complete lex ts) → IsEntry lex ts e
unfolding complete key
complete_get lex ts cs e m =
    ⊎_elim (λ (p : In e (word_entries 0 lex.words ts)). word (word_entries_get 0 lex.words ts e p))
    (λ (q : In e (lone_entries 1 lex ts)). lone (lone_entries_get 1 lex ts e q))
    (in_append_get e (word_entries 0 lex.words ts) (lone_entries 1 lex ts) m)
  where
    word : OfWords 0 lex.words ts e → IsEntry lex ts e
    word f =
        let kind : e.key_of.kind ≡ 0 = ap (λ (k : Key). k.kind) f.of.key_is in
        let value : e.key_of.value ≡ f.number = ap (λ (k : Key). k.value) f.of.key_is ∙ zero-add f.number in
        let spelt : spells lex e.key_of ≡ get_or lex.words f.number [] =
        spells_word lex e.key_of kind ∙ ap (λ (i : ℕ). get_or lex.words i []) value in
        record {
          is_key = word_is_key lex e.key_of (record { kind_is = kind; below = omega arith });
          len_is = f.of.len_is ∙ ap length (sym spelt);
          stand = rw spelt f.of.stand;
        }

    lone : OfChars 1 lex ts e → IsEntry lex ts e
    lone f =
        let kind : e.key_of.kind ≡ 1 = ap (λ (k : Key). k.kind) f.key_is in
        let value : e.key_of.value ≡ get_or ts f.number 0 = ap (λ (k : Key). k.value) f.key_is in
        let spelt : spells lex e.key_of ≡ get_or ts f.number 0 ∷ [] =
        spells_lone lex e.key_of kind ∙ ap (λ (c : ℕ). c ∷ []) value in
        let at : e.at ≡ suc f.number = omega arith in
        let char : get_or ts f.number 0 < 65536 = cs f.number f.below in
        record {
          is_key =
              lone_is_key lex e.key_of
              (record {
                kind_is = kind;
                char = omega arith;
                no_word = λ w. clash (is_word_put lex (get_or ts f.number 0 ∷ []) (rw value at w)) f.no_word;
              });
          len_is = f.len_is ∙ ap length (sym spelt);
          stand = rw (spelt, at) (stand_char ts f.number f.below);
        }

pub complete_put : {lex : Lexicon} {ts : List ℕ} → GoodLexicon lex → {e : Entry} → IsEntry lex ts e → In e (complete lex ts)
unfolding complete key entry
complete_put {lex} {ts} good {e} h = ⊎_elim word lone (key_kinds lex e.key_of h.is_key)
  where
    word : IsWordKey lex e.key_of → In e (complete lex ts)
    word w =
        let spelt : spells lex e.key_of ≡ get_or lex.words e.key_of.value [] = spells_word lex e.key_of w.kind_is in
        in_append_left e (word_entries 0 lex.words ts) (lone_entries 1 lex ts)
        (word_entries_put 0 lex.words e.key_of.value w.below
        (rw spelt at (spells_some good e.key_of h.is_key))
        (record {
          key_is = key_eq e.key_of (key 0 (0 + e.key_of.value)) w.kind_is (sym (zero-add e.key_of.value));
          len_is = h.len_is ∙ ap length spelt;
          stand = rw spelt at h.stand;
        }))

    lone : IsLoneKey lex e.key_of → In e (complete lex ts)
    lone c =
        let spelt : spells lex e.key_of ≡ e.key_of.value ∷ [] = spells_lone lex e.key_of c.kind_is in
        let stand : Stand (e.key_of.value ∷ []) ts e.at = rw spelt at h.stand in
        let char : e.key_of.value ≡ get_or ts (e.at - 1) 0 =
        stand_at 0 stand (omega arith)
        ∙ ap (λ (x : ℕ). get_or ts (x - 1) 0) (add-zero e.at) in
        in_append_right e (word_entries 0 lex.words ts) (lone_entries 1 lex ts)
        (rw (entry_eq e (entry (key 1 (get_or ts (e.at - 1) 0)) (1 + (e.at - 1)) 1)
        (key_eq e.key_of (key 1 (get_or ts (e.at - 1) 0)) c.kind_is char) (omega arith) (h.len_is ∙ ap length spelt))
        (lone_entries_put 1 lex ts (e.at - 1) (omega arith)
        (rw (← char)
        (false_put (is_word lex (e.key_of.value ∷ [])) (λ t. c.no_word (is_word_get lex (e.key_of.value ∷ []) t))))))
