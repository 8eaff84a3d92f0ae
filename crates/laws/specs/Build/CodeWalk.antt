-- The builder's walks over the key codes: they skip unused codes and pages, and each code with a chain is a line. Assumes nothing.
use Rattle.std.specs.Prelude.{◌≡◌, refl, List, [], ◌∷◌, ◌++◌, get_or}
use Rattle.std.proofs.Math.Path.{ap}
use Rattle.std.proofs.Common.{◌∙◌, ⊎_elim}
use Prim.Native.Nat.{ℕ, suc, ◌+◌, ◌-◌, ◌/◌, ◌%◌, ◌≤◌, ◌<◌}
use Rattle.std.proofs.Math.Numerals.{add-one}
use native.Mathlib.Omega.{arith}
use Rattle.std.proofs.Math.ListN.{length}
use Rattle.basics.specs.Bools.{le_or_lt}
use Rattle.basics.specs.Chain.{chain, chain_none, chained_some}
use Rattle.basics.specs.Placed.{Wrote, Writing, writing_start, writing_as, writing_room, writing_step, writing_end}
use Rattle.spec.specs.Numbers.{Line, line, directory, all_positions}
use Rattle.spec.specs.Index.{greatest_number}
use Rattle.models.specs.Inversion.{code_key, lines_from, line_numbers, line_positions}
use Rattle.models.specs.Readability.{most_keys}
use Rattle.laws.specs.Build.PostingLists.{lines_some, lines_skip}
use Rattle.laws.specs.Build.Pages.{Paged}
use Rattle.laws.specs.Build.PostingChains.{Threads, lines_at}

-- THE NEXT CODE IN USE

-- no code from `from` to below `code` has a head
pub record Passed (heads : List ℕ) (from code : ℕ) : Type 0 where
  pub after : from ≤ code
  pub within : code ≤ length heads
  pub unused : (k : ℕ) → from ≤ k → k < code → get_or heads k 0 ≡ 0

-- and `code` has a head, or is past the last
pub record Next (heads : List ℕ) (from code : ℕ) : Type 0 where
  pub passed : Passed heads from code
  pub used : code < length heads → get_or heads code 0 ≡ 0 → ⊥

pub passed_start : (heads : List ℕ) (from : ℕ) → from ≤ length heads → Passed heads from from
passed_start heads from h = record { after = omega arith; within = h; unused = λ k lo hi. absurd (omega arith) }

module _ {heads : List ℕ} {from code : ℕ} (p : Passed heads from code) where
  pub passed_one : code < length heads → get_or heads code 0 ≡ 0 → Passed heads from (code + 1)
  passed_one b e = record { after = omega arith; within = omega arith; unused = unused }
    where
      unused : (k : ℕ) → from ≤ k → k < code + 1 → get_or heads k 0 ≡ 0
      unused k lo hi =
          ⊎_elim (λ (h : code ≤ k). let z : k ≡ code = omega arith in rw z e) (λ (h : k < code). p.unused k lo h) (le_or_lt code k)

  pub passed_page :
      {pages : List ℕ} → Paged heads pages → code < length heads → code % 64 ≡ 0 → get_or pages (code / 64) 0 ≡ 0 →
      Passed heads from (code + 64)
  passed_page {pages} g b start e = record { after = omega arith; within = omega arith; unused = unused }
    where
      unused : (k : ℕ) → from ≤ k → k < code + 64 → get_or heads k 0 ≡ 0
      unused k lo hi =
          ⊎_elim
          (λ (h : code ≤ k).
          let z : k / 64 ≡ code / 64 = omega arith in
          g.unused k (omega arith) (ap (λ (i : ℕ). get_or pages i 0) z ∙ e))
          (λ (h : k < code). p.unused k lo h) (le_or_lt code k)

  pub next_found : (get_or heads code 0 ≡ 0 → ⊥) → Next heads from code
  next_found some = record { passed = p; used = λ b. some }

  pub next_none : length heads ≤ code → Next heads from code
  next_none past = record { passed = p; used = λ b. absurd (omega arith) }

-- LINES FROM A CODE ON

module _ (heads links : List ℕ) where
  pub lines_next : {from code : ℕ} → Passed heads from code → lines_at heads links from ≡ lines_at heads links code
  unfolding lines_at
  lines_next {from} {code} p =
      let split : length heads - from ≡ (code - from) + (length heads - code) = omega arith in
      let there : from + (code - from) ≡ code = omega arith in
      rw split
      (lines_skip (code - from) (length heads - code) from (λ (j : ℕ). chain links (get_or heads j 0))
      (λ x lo hi. rw (p.unused x lo (omega arith)) (chain_none links))
      ∙ ap (λ (k : ℕ). lines_from (length heads - code) k (λ (j : ℕ). chain links (get_or heads j 0))) there)

  pub lines_here :
      Threads heads links → (code : ℕ) → code < length heads → (get_or heads code 0 ≡ 0 → ⊥) →
      lines_at heads links code ≡ line (code_key code) (chain links (get_or heads code 0)) ∷ lines_at heads links (code + 1)
  unfolding lines_at
  lines_here threads code b some =
      let left : length heads - code ≡ suc (length heads - (code + 1)) = omega arith in
      rw (left, add-one code)
      (lines_some (length heads - suc code) code (λ (j : ℕ). chain links (get_or heads j 0))
      (chained_some links (get_or heads code 0) (chain links (get_or heads code 0)) (threads code b).chained some))

  pub lines_over : (code : ℕ) → length heads ≤ code → lines_at heads links code ≡ []
  unfolding lines_at lines_from
  lines_over code past =
      let none : length heads - code ≡ 0 = omega arith in
      rw none

-- WRITING WHAT THE LINES GIVE

-- before `code`: the numbers of the lines from it on are to come, and it has a chain or is past the last
pub record Listing (give : List Line → List ℕ) (heads links : List ℕ) (start : ℕ) (old now : List ℕ) (code at : ℕ) : Type 0 where
  pub writing : Writing (give (lines_at heads links 0)) start old (give (lines_at heads links code)) at now
  pub within : code ≤ length heads
  pub used : code < length heads → get_or heads code 0 ≡ 0 → ⊥

-- each line gives its own numbers, one line after the other
pub record LineByLine (give : List Line → List ℕ) (each : Line → List ℕ) : Type 0 where
  pub none : give [] ≡ []
  pub more : (l : Line) (ls : List Line) → give (l ∷ ls) ≡ each l ++ give ls

module _ {give : List Line → List ℕ} {each : Line → List ℕ} (by : LineByLine give each) where
  pub listing_start :
      (heads links old : List ℕ) (at : ℕ) {code : ℕ} → at + length (give (lines_at heads links 0)) ≤ length old → Next heads 0 code →
      Listing give heads links at old old code at
  listing_start heads links old at {code} room next =
      record {
        writing =
            writing_as (ap give (lines_next heads links next.passed)) (writing_start (give (lines_at heads links 0)) at old room);
        within = next.passed.within;
        used = next.used;
      }

  module _ {heads links : List ℕ} {start : ℕ} {old now : List ℕ} {code at : ℕ} (l : Listing give heads links start old now code at) where
    pub listing_line :
        Threads heads links → (b : code < length heads) →
        Writing (give (lines_at heads links 0)) start old
        (each (line (code_key code) (chain links (get_or heads code 0))) ++ give (lines_at heads links (code + 1))) at now
    listing_line threads b =
        writing_as
        (ap give (lines_here heads links threads code b (l.used b))
        ∙ by.more (line (code_key code) (chain links (get_or heads code 0))) (lines_at heads links (code + 1)))
        l.writing

    -- there is room for the line's numbers
    pub listing_room :
        Threads heads links → code < length heads →
        at + length (each (line (code_key code) (chain links (get_or heads code 0)))) ≤ length now
    listing_room threads b =
        writing_room (each (line (code_key code) (chain links (get_or heads code 0)))) (give (lines_at heads links (code + 1)))
        (listing_line threads b)

    pub listing_step :
        Threads heads links → code < length heads → {next : ℕ} → Next heads (code + 1) next → {xs later : List ℕ} {end : ℕ} →
        xs ≡ each (line (code_key code) (chain links (get_or heads code 0))) → Wrote xs at now end later →
        Listing give heads links start old later next end
    listing_step threads b n {xs} e w =
        record {
          writing =
              rw (← lines_next heads links n.passed)
              (writing_step xs (give (lines_at heads links (code + 1))) (rw e (listing_line threads b)) w);
          within = n.passed.within;
          used = n.used;
        }

    pub listing_end : length heads ≤ code → Wrote (give (lines_at heads links 0)) start old at now
    listing_end past = writing_end (writing_as (ap give (lines_over heads links code past) ∙ by.none) l.writing)

-- THE DIRECTORY AND THE POSITIONS

pub directory_by_line : LineByLine directory line_numbers
unfolding directory line_numbers
directory_by_line = record { none = refl; more = λ l ls. refl }

pub positions_by_line : LineByLine all_positions line_positions
unfolding all_positions
positions_by_line = record { none = refl; more = λ l ls. refl }

-- what both walks need
pub record Listable (heads pages links : List ℕ) : Type 0 where
  pub codes : length heads ≡ most_keys
  pub paged : Paged heads pages
  pub threads : Threads heads links
  pub short : length links ≤ greatest_number

pub line_numbers_three : (l : Line) → length (line_numbers l) ≡ 3
unfolding line_numbers
line_numbers_three l = refl

pub line_numbers_are :
    (code count : ℕ) (ps : List ℕ) → count ≡ length ps →
    ((code_key code).kind ∷ (code_key code).value ∷ count ∷ []) ≡ line_numbers (line (code_key code) ps)
unfolding line_numbers line
line_numbers_are code count ps e = rw e

pub line_positions_are : (code : ℕ) (ps : List ℕ) → ps ≡ line_positions (line (code_key code) ps)
unfolding line
line_positions_are code ps = refl
