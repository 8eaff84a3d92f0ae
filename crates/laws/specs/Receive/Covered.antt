-- Every position of a text lies in an entry of its index. Assumes nothing.
use Rattle.std.specs.Prelude.{◌≡◌, true, List, [], ◌∷◌, ℕ, ◌+◌, ◌≤◌, ◌<◌}
use Rattle.std.proofs.Common.{inl, inr}
use Rattle.basics.specs.Bools.{or_left, or_right}
use Rattle.basics.specs.Member.{In}
use Rattle.spec.specs.Dictionary.{lexicon}
use Rattle.spec.specs.Words.{Entry, entries}
use Rattle.spec.specs.Reception.{lies_on}
use Rattle.spec.specs.Theorems.{covers_position, AllCovered}
use Rattle.laws.specs.Text.Chars.{is_text_get}
use Rattle.laws.specs.Dictionary.Lexicon.{admitted_lexicon}
use Rattle.laws.specs.Entries.Entries.{entries_put}
use Rattle.laws.specs.Entries.Maximal.{maximal_covers}
use Rattle.laws.specs.Readable.Recover.{lies_on_put}

pub covers_position_put :
    (p : ℕ) (e : Entry) (es : List Entry) → In e es → e.at ≤ p → p < e.at + e.len → covers_position p es ≡ true
unfolding covers_position
covers_position_put p e [] m lo hi = absurd m
covers_position_put p e (f ∷ es) (inl s) lo hi =
    let here : lies_on f.at f.len p ≡ true = rw (← s) (lies_on_put e.at e.len p lo hi) in
    or_left (covers_position p es) here
covers_position_put p e (f ∷ es) (inr m) lo hi = or_right (lies_on f.at f.len p) (covers_position_put p e es m lo hi)

pub all_covered_holds : (g : ℕ) → AllCovered g
unfolding AllCovered
all_covered_holds g cs ls ts p a t lo hi =
    let good = admitted_lexicon cs ls a in
    let chars = (is_text_get g ts t).0 in
    let (e, he, starts, ends) = maximal_covers (lexicon cs ls) good ts chars p lo hi in
    covers_position_put p e (entries (lexicon cs ls) ts) (entries_put (lexicon cs ls) good ts chars he) starts ends
