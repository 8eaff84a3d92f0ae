-- The builder's chaining pass: from the last position to the first, each token is replaced by a link, so that the positions of each key
-- code form a chain. Assumes nothing.
use Rattle.std.specs.Prelude.{◌≡◌, refl, ◌⊎◌, List, ◌∷◌, ℕ, suc, ◌+◌, ◌-◌, ◌/◌, ◌≤◌, ◌<◌, get_or, set}
use Rattle.std.proofs.Common.{sym, ap, ◌∙◌, inl, inr, ⊎_elim, length-set, get_or-set_same, get_or-set_other}
use native.Mathlib.Omega.{arith}
use Rattle.std.proofs.Math.ListN.{length}
use Rattle.basics.specs.Member.{In}
use Rattle.basics.specs.Order.{less_equal_more}
use Rattle.basics.specs.Chain.{Chained, chained_elsewhere, chained_more, chain, chain_is, Threaded, threaded, chained_empty, chained_some}
use Rattle.spec.specs.Numbers.{Line}
use Rattle.spec.specs.Index.{greatest_number}
use Rattle.models.specs.Inversion.{coded, lines_from, holds, postings, inverted_after}
use Rattle.models.specs.Readability.{most_keys}
use Rattle.laws.specs.Build.PostingLists.{lines_alike}
use Rattle.laws.specs.Build.PostingsByKey.{those_short, postings_end, postings_here, postings_not_here, postings_range, Counted}
use Rattle.laws.specs.Build.PostingsByKey.{counted_start, counted_passed, counted_new, counted_more}
use Rattle.laws.specs.Build.Pages.{NoHeads, Paged, paged_start, paged_chained}

-- THE STATE BETWEEN TWO POSITIONS

-- After the positions above p: `links` has tokens below index p and links from it on, and the chain of each code has its positions.
pub record Linked (ms ts heads links : List ℕ) (p : ℕ) : Type 0 where
  pub within : p ≤ length ms
  pub len : length links ≡ length ms
  pub tokens_left : (q : ℕ) → q < p → get_or links q 0 ≡ get_or ms q 0
  pub chains : (k : ℕ) → k < length heads → Chained links (get_or heads k 0) (postings ms ts p k)

pub linked_start : (ms ts heads : List ℕ) → NoHeads heads → Linked ms ts heads ms (length ms)
linked_start ms ts heads none =
    record {
      within = omega arith;
      len = refl;
      tokens_left = λ q h. refl;
      chains = λ k h. rw (postings_end ms ts (length ms) k (omega arith)) (none k h);
    }

module _ {ms ts heads links : List ℕ} {q : ℕ} (p : ℕ) (s : q ≡ suc p) (l : Linked ms ts heads links q) where
  below : p < length ms
  below = omega arith

  pub token_here : get_or links p 0 ≡ get_or ms p 0
  token_here = l.tokens_left p (omega arith)

  -- the token is 0
  pub linked_passed : coded (get_or ms p 0) (get_or ts p 0) ≡ 0 → Linked ms ts heads links p
  linked_passed none =
      record {
        within = omega arith;
        len = l.len;
        tokens_left = λ i h. l.tokens_left i (omega arith);
        chains =
            λ k h. rw (postings_not_here ms ts p k below (λ (e : coded (get_or ms p 0) (get_or ts p 0) ≡ suc k). omega arith), ← s)
            (l.chains k h);
      }

  away : (k x : ℕ) → In x (postings ms ts q k) → x - 1 ≡ p → ⊥
  away k x m e = omega (arith, (postings_range ms ts q k x m).0)

  -- the position becomes the head of its code's chain
  module _ (code : ℕ) (here : coded (get_or ms p 0) (get_or ts p 0) ≡ suc code) (fits : code < length heads) where
    pub postings_grows : postings ms ts p code ≡ (p + 1) ∷ postings ms ts q code
    postings_grows =
        let z : p + 1 ≡ suc p = omega arith in
        rw (z, s) (postings_here ms ts p code below here)

    pub postings_stays : (k : ℕ) → (k ≡ code → ⊥) → postings ms ts p k ≡ postings ms ts q k
    postings_stays k other =
        rw s (postings_not_here ms ts p k below (λ (e : coded (get_or ms p 0) (get_or ts p 0) ≡ suc k). other (omega arith)))

    pub linked_chained : Linked ms ts (set heads code (p + 1)) (set links p (get_or heads code 0)) p
    linked_chained =
        record {
          within = omega arith;
          len = length-set links p (get_or heads code 0) ∙ l.len;
          tokens_left =
              λ i h. get_or-set_other links p i (get_or heads code 0) 0 (λ (e : i ≡ p). omega arith) ∙ l.tokens_left i (omega arith);
          chains = chains;
        }
      where
        chains :
            (k : ℕ) → k < length (set heads code (p + 1)) →
            Chained (set links p (get_or heads code 0)) (get_or (set heads code (p + 1)) k 0) (postings ms ts p k)
        chains k h =
            let b : k < length heads = omega (arith, length-set heads code (p + 1)) in
            ⊎_elim
            (λ (e : k ≡ code).
            rw (e, get_or-set_same heads code (p + 1) 0 fits, postings_grows)
            (chained_more links p (get_or heads code 0) (postings ms ts q code) (omega (arith, below)) (away code)
            (l.chains code fits)))
            (λ (ne : (k ≡ code → ⊥)).
            rw (get_or-set_other heads code k (p + 1) 0 ne, postings_stays k ne)
            (chained_elsewhere links p (get_or heads code 0) (get_or heads k 0) (postings ms ts q k) (away k) (l.chains k b)))
            (same_or_not k code)
          where
            same_or_not : (a b : ℕ) → (a ≡ b) ⊎ (a ≡ b → ⊥)
            same_or_not a b = go (less_equal_more a b)
              where
                go : (a < b) ⊎ ((a ≡ b) ⊎ (b < a)) → (a ≡ b) ⊎ (a ≡ b → ⊥)
                go (inl h) = inr (λ (e : a ≡ b). omega arith)
                go (inr (inl e)) = inl e
                go (inr (inr h)) = inr (λ (e : a ≡ b). omega arith)

-- THE END

-- each code's chain, and the lines that the chains make
abbrev pub Threads : (heads links : List ℕ) → Type 0
Threads heads links = (k : ℕ) → k < length heads → Threaded links (get_or heads k 0)

unfoldable pub lines_at : (heads links : List ℕ) → (k : ℕ) → List Line
lines_at heads links k = lines_from (length heads - k) k (λ (j : ℕ). chain links (get_or heads j 0))

module _ {ms ts heads links : List ℕ} (l : Linked ms ts heads links 0) where
  postings_short : (k : ℕ) → length (postings ms ts 0 k) ≤ length links
  unfolding postings
  postings_short k = omega (arith, those_short (length ms - 0) 1 (holds ms ts k))

  pub linked_threads : Threads heads links
  linked_threads k b =
      threaded links (get_or heads k 0) (postings ms ts 0 k) (l.chains k b) (postings_short k)
      (λ x m. omega (arith, (postings_range ms ts 0 k x m).1))

  pub linked_lines : (codes : ℕ) → length heads ≡ codes → lines_at heads links 0 ≡ inverted_after codes ms ts 0
  unfolding lines_at
  linked_lines codes e =
      let z : length heads - 0 ≡ codes = omega arith in
      rw z
      (lines_alike codes 0 (λ (j : ℕ). chain links (get_or heads j 0)) (postings ms ts 0)
      (λ x lo hi. chain_is (length links) links (get_or heads x 0) (postings ms ts 0 x) (l.chains x (omega arith)) (postings_short x)))

-- THE WHOLE STATE

-- tokens of a text whose positions are numbers of an index, as the chaining pass takes them
pub record Linkable (ts ms : List ℕ) : Type 0 where
  pub len : length ms ≡ length ts
  pub short : length ts ≤ greatest_number
  pub small : (q : ℕ) → q < length ms → get_or ms q 0 ≤ 4097

-- heads and pages for every code, none in use
pub record Fresh (heads pages : List ℕ) : Type 0 where
  pub codes : length heads ≡ most_keys
  pub page_count : length pages ≡ 1088
  pub none : NoHeads heads

-- after the positions above p
pub record Links (ts ms links heads pages : List ℕ) (keys entries p : ℕ) : Type 0 where
  pub codes : length heads ≡ most_keys
  pub linked : Linked ms ts heads links p
  pub paged : Paged heads pages
  pub counted : Counted most_keys ms ts p keys entries

pub links_start : (ts ms : List ℕ) {heads pages : List ℕ} → Fresh heads pages → Links ts ms ms heads pages 0 0 (length ms)
links_start ts ms {heads} {pages} f =
    record {
      codes = f.codes;
      linked = linked_start ms ts heads f.none;
      paged = paged_start heads pages f.none (omega arith);
      counted = counted_start most_keys ms ts;
    }

module _ {ts ms links heads pages : List ℕ} {keys entries q : ℕ} (p : ℕ) (s : q ≡ suc p)
    (l : Links ts ms links heads pages keys entries q) where
  pub links_below : p < length links
  links_below = omega arith

  pub links_token : get_or links p 0 ≡ get_or ms p 0
  links_token = token_here p s l.linked

  coded_here : (v : ℕ) → coded (get_or links p 0) (get_or ts p 0) ≡ v → coded (get_or ms p 0) (get_or ts p 0) ≡ v
  coded_here v e = ap (λ (m : ℕ). coded m (get_or ts p 0)) (sym links_token) ∙ e

  pub links_passed : coded (get_or links p 0) (get_or ts p 0) ≡ 0 → Links ts ms links heads pages keys entries p
  links_passed none =
      record {
        codes = l.codes;
        linked = linked_passed p s l.linked (coded_here 0 none);
        paged = l.paged;
        counted =
            counted_passed p s (omega (arith, links_below)) l.counted
            (coded_here 0 none);
      }

  module _ (code : ℕ) (here : coded (get_or links p 0) (get_or ts p 0) ≡ suc code) (small : code < most_keys) where
    fits : code < length heads
    fits = omega arith

    chained :
        {more : ℕ} → Counted most_keys ms ts p more (entries + 1) →
        Links ts ms (set links p (get_or heads code 0)) (set heads code (p + 1)) (set pages (code / 64) 1) more (entries + 1) p
    chained c =
        record {
          codes = length-set heads code (p + 1) ∙ l.codes;
          linked = linked_chained p s l.linked code (coded_here (suc code) here) fits;
          paged = paged_chained code (p + 1) l.paged fits;
          counted = c;
        }

    -- the key's first position in the pass, and a further one
    pub links_new :
        get_or heads code 0 ≡ 0 →
        Links ts ms (set links p (get_or heads code 0)) (set heads code (p + 1)) (set pages (code / 64) 1) (keys + 1) (entries + 1) p
    links_new none =
        chained
        (counted_new p s (omega (arith, links_below)) l.counted code
        (coded_here (suc code) here) small
        (chained_empty links (get_or heads code 0) (postings ms ts q code) (l.linked.chains code fits) none))

    pub links_more :
        (get_or heads code 0 ≡ 0 → ⊥) →
        Links ts ms (set links p (get_or heads code 0)) (set heads code (p + 1)) (set pages (code / 64) 1) keys (entries + 1) p
    links_more some =
        chained
        (counted_more p s (omega (arith, links_below)) l.counted code
        (coded_here (suc code) here) small
        (chained_some links (get_or heads code 0) (postings ms ts q code) (l.linked.chains code fits) some))
