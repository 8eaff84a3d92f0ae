-- The statements of `spec`'s Theorems and FurtherTheorems, proved for every greatest length of a text. Assumes nothing.
use Rattle.std.specs.Prelude.{◌≡◌, refl, true, false, List, ℕ, ◌≤◌, ltb, length}
use Rattle.std.proofs.Common.{sym, ap, ◌∙◌, arith}
use Rattle.basics.specs.Order.{Ascend, ascend_once, ltb_strict}
use Rattle.spec.specs.Replaced.{replaced, holds_full_width}
use Rattle.spec.specs.Dictionary.{Lexicon, all_chars, lexicon}
use Rattle.spec.specs.Numbers.{index_of}
use Rattle.spec.specs.Index.{lines_in, readable}
use Rattle.spec.specs.Reception.{recovered, is_index, received}
use Rattle.spec.specs.Search.{string_start, key_start, agrees_at, offset, find}
use Rattle.spec.specs.First.{first_position}
use Rattle.spec.specs.Cut.{cut_down}
use Rattle.spec.specs.Theorems.{positions, Query, ReceivedExactly, OneText, SearchExact, CutSame, Recovers, TallySums}
use Rattle.spec.specs.FurtherTheorems.{Among, Accounts, ReceivedByCount, OnlyReadable, TextOf, ExactlyPositions, FirstStands, Serves}
use Rattle.spec.specs.FurtherTheorems.{DemandThree, CutAny, FewerFindLess, BearsByOffset}
use Rattle.laws.specs.Text.Strings.{stands_get, stands_put}
use Rattle.laws.specs.Text.Facts.{GoodLexicon}
use Rattle.laws.specs.Text.WidthFolding.{plain_get, length_replaced}
use Rattle.laws.specs.Text.Chars.{all_chars_get, is_text_get, is_text_put}
use Rattle.laws.specs.Dictionary.Lexicon.{admitted_lexicon}
use Rattle.laws.specs.Numbers.Flat.{posting, Fewer}
use Rattle.laws.specs.Readable.IndexOf.{entry_whole, among_get, under_get, under_put, under_flat}
use Rattle.laws.specs.Readable.IndexOf.{index_readable, index_tells}
use Rattle.laws.specs.Readable.IndexOf.{tells_index}
use Rattle.laws.specs.Tally.Sum.{tally_sums}
use Rattle.laws.specs.Readable.Recover.{length_recovered}
use Rattle.laws.specs.Search.Agree.{agrees_get, agrees_put}
use Rattle.laws.specs.Search.Offset.{agrees_offset, agrees_in_offsets}
use Rattle.laws.specs.Search.Positions.{positions_ascend, positions_get, positions_put, find_get, find_put}
use Rattle.laws.specs.Cut.Bears.{bears_get, bears_put}
use Rattle.laws.specs.Cut.Same.{covered_fewer, find_bearing}
use Rattle.laws.specs.Cut.Readable.{n_of_cut, lines_in_cut, cut_readable}
use Rattle.laws.specs.First.Positions.{first_heads_find, first_stands}
use Rattle.laws.specs.Receive.ReceptionTest.{counted_index, index_taken, is_index_all, is_index_count}
use Rattle.laws.specs.Receive.Received.{IsIndex, is_index_get, Received, received_get, received_put, received_reads, readable_chars}
use Rattle.laws.specs.Receive.Received.{readable_small, index_recovered, is_index_received, is_index_recovered}
use Rattle.laws.specs.Receive.Received.{index_find, index_injective}

-- THE SECOND DEMAND

pub recovers : (g : ℕ) → Recovers g
unfolding Recovers
recovers g cs ls ts a t =
    let good = admitted_lexicon cs ls a in
    let text = is_text_get g ts t in
    (index_readable good ts text.0 g text.1, index_recovered good ts text.0)

pub only_readable : (g : ℕ) → OnlyReadable g
unfolding OnlyReadable
only_readable g cs ls ts a t =
    let text = is_text_get g ts t in
    let good = admitted_lexicon cs ls a in
    (index_tells good ts text.0 g text.1, tells_index good ts text.0 g)

-- THE THIRD DEMAND

-- received numbers are the index of the recovered text
received_text :
    (g : ℕ) {lex : Lexicon} → GoodLexicon lex → (xs : List ℕ) → received g lex xs ≡ true → TextOf g lex xs (recovered lex xs)
received_text g {lex} good xs r =
    let h : Received g lex xs = received_get g lex xs r in
    let own : IsIndex g lex xs = is_index_get g lex xs h.is_own in
    record {
      is_a_text =
          is_text_put g (recovered lex xs) (readable_chars good g xs own.can_read) (readable_small good g xs own.can_read)
          h.plain;
      length_is = length_recovered lex xs;
      index_is = own.index_is;
    }

pub received_exactly : (g : ℕ) → ReceivedExactly g
unfolding ReceivedExactly
received_exactly g cs ls xs a =
    let good = admitted_lexicon cs ls a in (
      λ r.
          let h = received_text g good xs r in
          (recovered (lexicon cs ls) xs, h.is_a_text, h.length_is, h.index_is),
      λ ts t len e.
          let text = is_text_get g ts t in is_index_received good ts text.0 g xs text.1 text.2 e,
    )

pub one_text : (g : ℕ) → OneText g
unfolding OneText
one_text g cs ls ts us a t u e =
    index_injective (admitted_lexicon cs ls a) ts us (is_text_get g ts t).0 (is_text_get g us u).0 e

replaced_some : (s : List ℕ) → 1 ≤ length s → 1 ≤ length (replaced s)
replaced_some s some = omega (arith, length_replaced s)

pub search_exact : (g : ℕ) → SearchExact g
unfolding SearchExact
search_exact g cs ls ts s a t q =
    index_find (admitted_lexicon cs ls a) ts (is_text_get g ts t).0 (replaced s) (replaced_some s q.nonempty)

-- ANY READABLE INDEX

pub cut_any : (g : ℕ) → CutAny g
unfolding CutAny
cut_any g lex xs s t =
    (cut_readable g lex xs s t, find_bearing lex xs (cut_down lex xs s) s (n_of_cut lex xs s) (lines_in_cut lex xs s))

pub cut_same : (g : ℕ) → CutSame g
unfolding CutSame CutAny Recovers SearchExact
cut_same g cs ls ts s a t q =
    let cut = cut_any g (lexicon cs ls) (index_of (lexicon cs ls) ts) (replaced s) (recovers g cs ls ts a t).0 in
    (cut.0, cut.1 ∙ search_exact g cs ls ts s a t q)

pub fewer_find_less : FewerFindLess
unfolding FewerFindLess
fewer_find_less lex xs ys n fewer s p m =
    let h = find_get lex xs s p m in
    find_put lex ys s
    (record {
      from = h.from;
      within = omega arith;
      each = λ x lo hi. covered_fewer lex (lines_in xs) (lines_in ys) all s p x (h.each x lo hi);
    })
  where
    all : Fewer lex (lines_in xs) (lines_in ys)
    all e = under_flat lex xs ys e (fewer e.key_of e.at)

-- DEMAND THREE AS ONE STATEMENT

exactly_positions : (s ts ps : List ℕ) → 1 ≤ length s → ps ≡ positions s ts → ExactlyPositions s ts ps
exactly_positions s ts ps some e =
    let up : Ascend ltb ps = rw e (positions_ascend s ts) in
    record {
      are_positions = e;
      only = λ p m. stands_put s ts p (positions_get s ts p (rw e at m));
      all = λ p t. rw e (positions_put s ts some (stands_get s ts p t));
      ascending = up;
      once = λ i j. ascend_once ltb_strict ps 0 up;
    }

pub demand_three : (g : ℕ) → DemandThree g
unfolding DemandThree CutAny
demand_three g cs ls xs a = (serves, has_text)
  where
    lex : Lexicon
    lex = lexicon cs ls

    good : GoodLexicon lex
    good = admitted_lexicon cs ls a

    has_text : (ts : List ℕ) → TextOf g lex xs ts → received g lex xs ≡ true
    has_text ts h =
        let text = is_text_get g ts h.is_a_text in
        is_index_received good ts text.0 g xs text.1 text.2 h.index_is

    serves : received g lex xs ≡ true → Serves g lex xs (recovered lex xs)
    serves r =
        record {
          text = text;
          only_text = λ us h. sym (is_index_recovered good us (is_text_get g us h.is_a_text).0 xs h.index_is);
          search_exact = exact;
          cut_readable = λ s q. (cut_any g lex xs (replaced s) can).0;
          cut_exact = cut_exact;
          first_exact = λ s q. first_exact xs (replaced s) (exact s q);
          cut_first_exact = λ s q. first_exact (cut_down lex xs (replaced s)) (replaced s) (cut_exact s q);
        }
      where
        text : TextOf g lex xs (recovered lex xs)
        text = received_text g good xs r

        can : readable g lex xs ≡ true
        can = received_reads g lex xs r

        found : (s : List ℕ) → Query s → find lex xs (replaced s) ≡ positions (replaced s) (recovered lex xs)
        found s q =
            ap (λ (ys : List ℕ). find lex ys (replaced s)) (sym text.index_is)
            ∙ index_find good (recovered lex xs) (is_text_get g (recovered lex xs) text.is_a_text).0 (replaced s)
            (replaced_some s q.nonempty)

        exact : (s : List ℕ) → Query s → ExactlyPositions (replaced s) (recovered lex xs) (find lex xs (replaced s))
        exact s q =
            exactly_positions (replaced s) (recovered lex xs) (find lex xs (replaced s)) (replaced_some s q.nonempty) (found s q)

        cut_exact :
            (s : List ℕ) → Query s →
            ExactlyPositions (replaced s) (recovered lex xs) (find lex (cut_down lex xs (replaced s)) (replaced s))
        cut_exact s q =
            exactly_positions (replaced s) (recovered lex xs) (find lex (cut_down lex xs (replaced s)) (replaced s))
            (replaced_some s q.nonempty) ((cut_any g lex xs (replaced s) can).1 ∙ found s q)

        first_exact :
            (ys s : List ℕ) → ExactlyPositions s (recovered lex xs) (find lex ys s) →
            FirstStands s (recovered lex xs) (first_position lex ys s)
        first_exact ys s h = first_stands h (first_heads_find lex ys s)

-- RECEPTION BY COUNTING

pub received_by_count : (g : ℕ) → ReceivedByCount g
unfolding ReceivedByCount Among
received_by_count g cs ls xs a can = (taken, accounts)
  where
    lex : Lexicon
    lex = lexicon cs ls

    good : GoodLexicon lex
    good = admitted_lexicon cs ls a

    received_as :
        (us : List ℕ) → holds_full_width us ≡ false → (is_index g lex xs ≡ true) × (recovered lex xs ≡ us) →
        (received g lex xs ≡ true) × (recovered lex xs ≡ us)
    received_as us plain (own, e) = (received_put g lex xs (record { is_own = own; plain = rw e (plain_get us plain) }), e)

    taken :
        (us : List ℕ) → all_chars us ≡ true → holds_full_width us ≡ false → Accounts lex xs us →
        (received g lex xs ≡ true) × (recovered lex xs ≡ us)
    taken us c plain h =
        let chars = all_chars_get us c in
        received_as us plain
        (index_taken good g can us chars h.length_is
        (counted_index good g can us chars h.length_is
        (λ e m.
        rw (entry_whole good us chars e m) at
        (under_get lex xs e.key_of e.at (h.each e.key_of e.at (e, m, refl, refl))))
        h.count))

    accounts : received g lex xs ≡ true → Accounts lex xs (recovered lex xs)
    accounts r =
        let own = (received_get g lex xs r).is_own in
        let chars = readable_chars good g xs can in
        record {
          length_is = length_recovered lex xs;
          each =
              λ k p h.
              under_put lex xs k p
              (is_index_all good g xs own (posting lex k p) (among_get good (recovered lex xs) chars k p h));
          count = is_index_count good g xs own;
        }

-- KEYS AND STRINGS

pub bears_by_offset : BearsByOffset
unfolding BearsByOffset agrees_at
bears_by_offset k s k_some s_some = (
  λ t. let h = bears_get k s k_some s_some t in
      let agree = agrees_put s h.0 k h.1 h.2 in (
        offset h.1 h.0,
        agrees_in_offsets s h.0 k h.1 agree,
        sym (agrees_offset s h.0 k h.1) ∙ agree,
      ),
  λ o b t. bears_put k s (agrees_get s (string_start o) k (key_start o) t),
)

-- THE TALLY

pub tally_sums_holds : (g : ℕ) → TallySums g
unfolding TallySums
tally_sums_holds g cs ls xs a t = tally_sums g xs (admitted_lexicon cs ls a) t
