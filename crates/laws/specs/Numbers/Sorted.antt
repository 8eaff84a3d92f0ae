-- Sorting entries: the members stay, and the entries of a text, each listed once, ascend strictly. Assumes nothing.
use Rattle.std.specs.Prelude.{◌≡◌, refl, Bool, true, false, cond, ◌⊎◌, List, [], ◌∷◌, ℕ, zero, suc, ◌≤◌, length}
use Rattle.std.proofs.Common.{ap, ◌∙◌, inl, inr, ⊎_elim, arith}
use Rattle.basics.specs.Member.{In, in_append_get, in_cond_get}
use Rattle.basics.specs.Order.{Ascend, Apart, insert, sort, apart_append, in_sort_get, in_sort_put, length_sort, sort_ascends}
use Rattle.spec.specs.Dictionary.{Lexicon}
use Rattle.spec.specs.Words.{Key, key, stands, is_word, Entry, entry, key_entries, word_entries, lone_entries, complete, in_another}
use Rattle.spec.specs.Words.{maximal, entries}
use Rattle.spec.specs.Numbers.{entry_before, into, sorted}
use Rattle.laws.specs.Entries.Entries.{maximal_get}
use Rattle.laws.specs.Numbers.KeyOrder.{entry_before_total, entry_before_strict}

-- SORTED

into_is : (e : Entry) (es : List Entry) → into e es ≡ insert entry_before e es
unfolding into insert
into_is e [] = refl
into_is e (f ∷ fs) = rw (into_is e fs)

sorted_is : (es : List Entry) → sorted es ≡ sort entry_before es
unfolding sorted sort
sorted_is [] = refl
sorted_is (e ∷ es) = into_is e (sorted es) ∙ ap (insert entry_before e) (sorted_is es)

pub in_sorted_get : (e : Entry) (es : List Entry) → In e (sorted es) → In e es
in_sorted_get e es m = in_sort_get entry_before e es (rw sorted_is at m)

pub in_sorted_put : (e : Entry) (es : List Entry) → In e es → In e (sorted es)
in_sorted_put e es m = rw sorted_is (in_sort_put entry_before e es m)

pub length_sorted : (es : List Entry) → length (sorted es) ≡ length es
length_sorted es = rw sorted_is (length_sort entry_before es)

pub sorted_ascends : (es : List Entry) → Apart entry_before es → Ascend entry_before (sorted es)
sorted_ascends es p = rw sorted_is (sort_ascends entry_before_strict es p)

-- A TEXT'S ENTRIES ARE EACH LISTED ONCE

-- entries that differ in key or position
pub differ_apart : (e f : Entry) → (e.key_of ≡ f.key_of → e.at ≡ f.at → ⊥) → (entry_before e f ≡ true) ⊎ (entry_before f e ≡ true)
differ_apart e f differ = go (entry_before_total e f)
  where
    go :
        (entry_before e f ≡ true) ⊎ ((entry_before f e ≡ true) ⊎ ((e.key_of ≡ f.key_of) × (e.at ≡ f.at))) →
        (entry_before e f ≡ true) ⊎ (entry_before f e ≡ true)
    go (inl t) = inl t
    go (inr (inl t)) = inr t
    go (inr (inr h)) = absurd (differ h.0 h.1)

apart_cond : (e : Entry) (es : List Entry) (b : Bool) → Apart entry_before (e ∷ es) → Apart entry_before (cond b (e ∷ es) es)
apart_cond e es true p = p
apart_cond e es false p = p.1

key_entries_get : (n p : ℕ) (k : Key) (s ts : List ℕ) (e : Entry) → In e (key_entries n p k s ts) → (e.key_of ≡ k) × (p ≤ e.at)
unfolding key_entries entry
key_entries_get zero p k s ts e m = absurd m
key_entries_get (suc n) p k s ts e m =
    ⊎_elim (λ (q : (stands s ts p ≡ true) × (e ≡ entry k p (length s))). here q.1)
    (λ (q : In e (key_entries n (suc p) k s ts)). there (key_entries_get n (suc p) k s ts e q))
    (in_cond_get e (entry k p (length s)) (key_entries n (suc p) k s ts) (stands s ts p) m)
  where
    here : e ≡ entry k p (length s) → (e.key_of ≡ k) × (p ≤ e.at)
    here q = (ap (λ (f : Entry). f.key_of) q, omega (arith, ap (λ (f : Entry). f.at) q))

    there : (e.key_of ≡ k) × (suc p ≤ e.at) → (e.key_of ≡ k) × (p ≤ e.at)
    there q = (q.0, omega arith)

key_entries_apart : (n p : ℕ) (k : Key) (s ts : List ℕ) → Apart entry_before (key_entries n p k s ts)
unfolding key_entries entry
key_entries_apart zero p k s ts = tt
key_entries_apart (suc n) p k s ts =
    apart_cond (entry k p (length s)) (key_entries n (suc p) k s ts) (stands s ts p) (
      λ f m. differ_apart (entry k p (length s)) f (λ a b. omega (arith, b, (key_entries_get n (suc p) k s ts f m).1)),
      key_entries_apart n (suc p) k s ts,
    )

word_entries_get :
    (i : ℕ) (ws : List (List ℕ)) (ts : List ℕ) (e : Entry) → In e (word_entries i ws ts) →
    (e.key_of.kind ≡ 0) × (i ≤ e.key_of.value)
unfolding word_entries key
word_entries_get i [] ts e m = absurd m
word_entries_get i (w ∷ ws) ts e m =
    ⊎_elim (λ (q : In e (key_entries (length ts) 1 (key 0 i) w ts)). here (key_entries_get (length ts) 1 (key 0 i) w ts e q).0)
    (λ (q : In e (word_entries (suc i) ws ts)). there (word_entries_get (suc i) ws ts e q))
    (in_append_get e (key_entries (length ts) 1 (key 0 i) w ts) (word_entries (suc i) ws ts) m)
  where
    here : e.key_of ≡ key 0 i → (e.key_of.kind ≡ 0) × (i ≤ e.key_of.value)
    here q = (ap (λ (k : Key). k.kind) q, omega (arith, ap (λ (k : Key). k.value) q))

    there : (e.key_of.kind ≡ 0) × (suc i ≤ e.key_of.value) → (e.key_of.kind ≡ 0) × (i ≤ e.key_of.value)
    there q = (q.0, omega arith)

word_entries_apart : (i : ℕ) (ws : List (List ℕ)) (ts : List ℕ) → Apart entry_before (word_entries i ws ts)
unfolding word_entries key
word_entries_apart i [] ts = tt
word_entries_apart i (w ∷ ws) ts =
    apart_append entry_before (key_entries (length ts) 1 (key 0 i) w ts) (word_entries (suc i) ws ts)
    (key_entries_apart (length ts) 1 (key 0 i) w ts) (word_entries_apart (suc i) ws ts)
    (λ e f l r. differ_apart e f (λ a b. omega (
      arith,
      ap (λ (k : Key). k.value) a,
      ap (λ (k : Key). k.value) (key_entries_get (length ts) 1 (key 0 i) w ts e l).0,
      (word_entries_get (suc i) ws ts f r).1,
    )))

lone_entries_get :
    (p : ℕ) (lex : Lexicon) (cs : List ℕ) (e : Entry) → In e (lone_entries p lex cs) → (e.key_of.kind ≡ 1) × (p ≤ e.at)
unfolding lone_entries key entry
lone_entries_get p lex [] e m = absurd m
lone_entries_get p lex (c ∷ cs) e m = go (is_word lex (c ∷ [])) (lone_entries_get (suc p) lex cs e) m
  where
    go :
        (b : Bool) → (In e (lone_entries (suc p) lex cs) → (e.key_of.kind ≡ 1) × (suc p ≤ e.at)) →
        In e (cond b (lone_entries (suc p) lex cs) (entry (key 1 c) p 1 ∷ lone_entries (suc p) lex cs)) →
        (e.key_of.kind ≡ 1) × (p ≤ e.at)
    go true ih k = ((ih k).0, omega (arith, (ih k).1))
    go false ih (inl q) = (ap (λ (f : Entry). f.key_of.kind) q, omega (arith, ap (λ (f : Entry). f.at) q))
    go false ih (inr k) = ((ih k).0, omega (arith, (ih k).1))

lone_entries_apart : (p : ℕ) (lex : Lexicon) (cs : List ℕ) → Apart entry_before (lone_entries p lex cs)
unfolding lone_entries key entry
lone_entries_apart p lex [] = tt
lone_entries_apart p lex (c ∷ cs) = go (is_word lex (c ∷ [])) (lone_entries_apart (suc p) lex cs)
  where
    go :
        (b : Bool) → Apart entry_before (lone_entries (suc p) lex cs) →
        Apart entry_before (cond b (lone_entries (suc p) lex cs) (entry (key 1 c) p 1 ∷ lone_entries (suc p) lex cs))
    go true ih = ih
    go false ih = (λ f m. differ_apart (entry (key 1 c) p 1) f (λ a b. omega (arith, b, (lone_entries_get (suc p) lex cs f m).1)), ih)

pub complete_apart : (lex : Lexicon) (ts : List ℕ) → Apart entry_before (complete lex ts)
unfolding complete
complete_apart lex ts =
    apart_append entry_before (word_entries 0 lex.words ts) (lone_entries 1 lex ts) (word_entries_apart 0 lex.words ts)
    (lone_entries_apart 1 lex ts)
    (λ e f l r. differ_apart e f (λ a b. omega
    (arith, ap (λ (k : Key). k.kind) a, (word_entries_get 0 lex.words ts e l).0, (lone_entries_get 1 lex ts f r).0)))

pub maximal_apart : (es fs : List Entry) → Apart entry_before fs → Apart entry_before (maximal es fs)
unfolding maximal
maximal_apart es [] p = tt
maximal_apart es (f ∷ fs) p = go (in_another f es) (maximal_apart es fs p.1)
  where
    go : (b : Bool) → Apart entry_before (maximal es fs) → Apart entry_before (cond b (maximal es fs) (f ∷ maximal es fs))
    go true ih = ih
    go false ih = (λ e m. p.0 e (maximal_get e es fs m).0, ih)

pub entries_apart : (lex : Lexicon) (ts : List ℕ) → Apart entry_before (entries lex ts)
unfolding entries
entries_apart lex ts = maximal_apart (complete lex ts) (complete lex ts) (complete_apart lex ts)

pub sorted_entries_ascend : (lex : Lexicon) (ts : List ℕ) → Ascend entry_before (sorted (entries lex ts))
sorted_entries_ascend lex ts = sorted_ascends (entries lex ts) (entries_apart lex ts)
