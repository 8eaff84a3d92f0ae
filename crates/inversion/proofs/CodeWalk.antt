-- The walk over the codes that have a chain: what it writes for the codes before `from`, and for the next one.
use Rattle.std.proofs.Common.{◌≡◌, List, ℕ, ◌+◌, ◌≤◌, ◌<◌, length, get_or, ap, arith}
use Rattle.basics.specs.Chain.{chain}
use Rattle.basics.specs.Placed.{Wrote, Writing, writing_as, writing_step}
use Rattle.spec.specs.Numbers.{Line, line}
use Rattle.models.specs.Inversion.{code_key}
use Rattle.laws.specs.Build.PostingChains.{Threads, lines_at}
use Rattle.laws.specs.Build.CodeWalk.{Next, Listing, LineByLine, lines_next, listing_line, listing_end}

-- before `from`: the numbers of the lines from it on are to come
pub record Listed (give : List Line → List ℕ) (heads links : List ℕ) (start : ℕ) (old now : List ℕ) (from at : ℕ) : Type 0 where
  pub writing : Writing (give (lines_at heads links 0)) start old (give (lines_at heads links from)) at now
  pub within : from ≤ length heads

module _ {give : List Line → List ℕ} {heads links : List ℕ} {start : ℕ} {old now : List ℕ} {from at code : ℕ}
    (l : Listed give heads links start old now from at) (next : Next heads from code) where
  pub listed_next : Listing give heads links start old now code at
  listed_next =
      record {
        writing = writing_as (ap give (lines_next heads links next.passed)) l.writing;
        within = next.passed.within;
        used = next.used;
      }

  module _ {each : Line → List ℕ} (by : LineByLine give each) where
    pub listed_step :
        Threads heads links → code < length heads → {xs later : List ℕ} {end : ℕ} →
        xs ≡ each (line (code_key code) (chain links (get_or heads code 0))) → Wrote xs at now end later →
        Listed give heads links start old later (code + 1) end
    listed_step threads b {xs} e w =
        record {
          writing = writing_step xs (give (lines_at heads links (code + 1))) (rw e (listing_line by listed_next threads b)) w;
          within = omega arith;
        }

    pub listed_end : length heads ≤ code → Wrote (give (lines_at heads links 0)) start old at now
    listed_end past = listing_end by listed_next past
