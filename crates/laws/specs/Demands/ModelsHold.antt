-- The statements of `Models`: the scan builds the index, and the reach comes to the string's end exactly if it is covered. Assumes
-- nothing.
use Rattle.std.specs.Prelude.{◌≡◌, refl, List, ℕ, zero, suc, ◌+◌, ◌≤◌, ◌<◌, length}
use Rattle.std.proofs.Common.{◌∙◌, arith}
use Rattle.spec.specs.Dictionary.{Lexicon, lexicon}
use Rattle.spec.specs.Words.{Entry}
use Rattle.models.specs.Scan.{scan, LongestEntry, ScanBuilds, make_index}
use Rattle.models.specs.Reach.{GreedyCover}
use Rattle.models.specs.Entries.{longest_at}
use Rattle.laws.specs.Text.Facts.{Chars, GoodLexicon}
use Rattle.laws.specs.Text.Chars.{is_text_get}
use Rattle.laws.specs.Dictionary.Lexicon.{admitted_lexicon}
use Rattle.laws.specs.Entries.Complete.{complete_get, complete_put}
use Rattle.laws.specs.Entries.Scan.{LongestAt}
use Rattle.laws.specs.Entries.Longest.{longest_at_unique, make_index_get, make_index_put}
use Rattle.laws.specs.Build.Inverted.{scan_index}
use Rattle.laws.specs.Search.ReachExact.{reach_exact}

-- two scans whose longest entries are equal at each position are equal
scan_alike :
    (f g : ℕ → Entry) (n p last : ℕ) → ((q : ℕ) → p ≤ q → q < p + n → f q ≡ g q) → scan f n p last ≡ scan g n p last
unfolding scan
scan_alike f g zero p last h = refl
scan_alike f g (suc n) p last h =
    rw (
      h p (omega arith) (omega arith),
      scan_alike f g n (suc p) (p + (g p).len) (λ q lo hi. h q (omega arith) (omega arith)),
      scan_alike f g n (suc p) last (λ q lo hi. h q (omega arith) (omega arith)),
    )

module _ {lex : Lexicon} (good : GoodLexicon lex) (ts : List ℕ) (chars : Chars ts) where
  longest_entry_at : {p : ℕ} {e : Entry} → LongestEntry lex ts p e → LongestAt lex ts p e
  longest_entry_at {e} l =
      record {
        is_longest =
            record {
              is_entry = complete_get lex ts chars e l.member;
              longest = λ f hf a. l.longest f (complete_put good hf) (a ∙ l.here);
            };
        here = l.here;
      }

  scan_is :
      (longest : ℕ → Entry) → ((p : ℕ) → 1 ≤ p → p ≤ length ts → LongestEntry lex ts p (longest p)) →
      scan longest (length ts) 1 1 ≡ make_index lex ts
  unfolding make_index
  scan_is longest h =
      scan_alike longest (longest_at lex ts) (length ts) 1 1
      (λ q lo hi. longest_at_unique lex good ts chars lo (omega arith) (longest_entry_at (h q lo (omega arith))))

pub scan_builds : (g : ℕ) → ScanBuilds g
unfolding ScanBuilds
scan_builds g cs ls ts adm text longest h =
    let good : GoodLexicon (lexicon cs ls) = admitted_lexicon cs ls adm in
    let chars : Chars ts = (is_text_get g ts text).0 in
    rw (scan_is good ts chars longest h) (
      make_index_get (lexicon cs ls) good ts chars,
      make_index_put (lexicon cs ls) good ts chars,
      scan_index good ts chars,
    )

pub greedy_cover : GreedyCover
unfolding GreedyCover
greedy_cover lex ls s p = reach_exact lex ls s p
