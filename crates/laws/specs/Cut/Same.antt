-- The lines whose keys bear on a string cover and find exactly what all lines do; fewer entries cover no more. Assumes nothing.
use Rattle.std.specs.Prelude.{◌≡◌, true, length}
use Rattle.std.proofs.Math.Path.{refl}
use Rattle.std.proofs.Common.{ap, inl, inr}
use Rattle.std.proofs.Math.Logic.{⊎_elim}
use mathlib.Core.List.{List, [], ◌∷◌}
use Prim.Native.Nat.{ℕ, zero, suc, ◌-◌}
use Rattle.basics.specs.Bools.{iff_eq}
use Rattle.basics.specs.Member.{In, in_cond_get, in_cond_here, in_cond_there}
use Rattle.spec.specs.Dictionary.{Lexicon}
use Rattle.spec.specs.Words.{spells, Entry}
use Rattle.spec.specs.Numbers.{Line}
use Rattle.spec.specs.Index.{n_of, lines_in}
use Rattle.spec.specs.Search.{covered, all_covered, found_from, find}
use Rattle.spec.specs.Cut.{bears, bearing}
use Rattle.models.specs.Entries.{flat}
use Rattle.laws.specs.Numbers.Flat.{Fewer, flat_get, flat_put}
use Rattle.laws.specs.Search.Search.{covered_get, covered_put}
use Rattle.laws.specs.Cut.Bears.{bears_put}

-- FEWER ENTRIES

module _ (lex : Lexicon) (ks ls : List Line) (fewer : Fewer lex ks ls) (s : List ℕ) where
  pub covered_fewer : (a p : ℕ) → covered lex ks s a p ≡ true → covered lex ls s a p ≡ true
  covered_fewer a p t =
      let e = covered_get lex ks s a p t in
      covered_put lex ls s a p
      (record { among = fewer e.0 e.1.among; from = e.1.from; to = e.1.to; agree = e.1.agree })

-- LINES THAT BEAR

module _ (lex : Lexicon) (s : List ℕ) where
  pub bearing_get : (ls : List Line) (l : Line) → In l (bearing lex s ls) → In l ls × (bears (spells lex l.key_of) s ≡ true)
  unfolding bearing
  bearing_get [] l m = absurd m
  bearing_get (k ∷ ls) l m =
      ⊎_elim
      (λ (h : (bears (spells lex k.key_of) s ≡ true) × (l ≡ k)). (inl h.1, rw h.1 h.0))
      (λ (h : In l (bearing lex s ls)). let later = bearing_get ls l h in (inr later.0, later.1))
      (in_cond_get l k (bearing lex s ls) (bears (spells lex k.key_of) s) m)

  pub bearing_put : (ls : List Line) (l : Line) → In l ls → bears (spells lex l.key_of) s ≡ true → In l (bearing lex s ls)
  unfolding bearing
  bearing_put [] l m t = absurd m
  bearing_put (k ∷ ls) l (inl e) t =
      rw e (in_cond_here k (bearing lex s ls) (bears (spells lex k.key_of) s) (rw e at t))
  bearing_put (k ∷ ls) l (inr m) t =
      in_cond_there l k (bearing lex s ls) (bears (spells lex k.key_of) s) (bearing_put ls l m t)

  pub bearing_fewer : (ls : List Line) → Fewer lex (bearing lex s ls) ls
  bearing_fewer ls e m =
      let l = flat_get lex (bearing lex s ls) e m in
      rw l.3 (flat_put lex ls l.0 e.at (bearing_get ls l.0 l.1).0 l.2)

  -- an entry whose key bears is kept
  pub bearing_keeps :
      (ls : List Line) (e : Entry) → In e (flat lex ls) → bears (spells lex e.key_of) s ≡ true →
      In e (flat lex (bearing lex s ls))
  bearing_keeps ls e m t =
      let l = flat_get lex ls e m in
      let key : e.key_of ≡ l.0.key_of = ap (λ (f : Entry). f.key_of) l.3 in
      rw l.3 (flat_put lex (bearing lex s ls) l.0 e.at (bearing_put ls l.0 l.1 (rw key at t)) l.2)

  -- an entry that agrees at any position belongs to a key that bears
  pub covered_bearing : (ls : List Line) (a p : ℕ) → covered lex (bearing lex s ls) s a p ≡ covered lex ls s a p
  covered_bearing ls a p =
      iff_eq (covered lex (bearing lex s ls) s a p) (covered lex ls s a p)
      (covered_fewer lex (bearing lex s ls) ls (bearing_fewer ls) s a p) from
    where
      from : covered lex ls s a p ≡ true → covered lex (bearing lex s ls) s a p ≡ true
      from t =
          let e = covered_get lex ls s a p t in
          let bear = bears_put (spells lex e.0.key_of) s e.1.agree in
          covered_put lex (bearing lex s ls) s a p
          (record { among = bearing_keeps ls e.0 e.1.among bear; from = e.1.from; to = e.1.to; agree = e.1.agree })

  pub all_covered_bearing : (ls : List Line) (n p a : ℕ) → all_covered n p lex (bearing lex s ls) s a ≡ all_covered n p lex ls s a
  unfolding all_covered
  all_covered_bearing ls zero p a = refl
  all_covered_bearing ls (suc n) p a = rw (covered_bearing ls a p, all_covered_bearing ls n (suc p) a)

  -- The bearing lines find exactly what all lines find.
  pub found_bearing : (ls : List Line) (n p : ℕ) → found_from n p lex (bearing lex s ls) s ≡ found_from n p lex ls s
  unfolding found_from
  found_bearing ls zero p = refl
  found_bearing ls (suc n) p = rw (all_covered_bearing ls (length s) p p, found_bearing ls n (suc p))

-- Numbers with the same n whose lines are the bearing ones give the same search result.
pub find_bearing :
    (lex : Lexicon) (xs ys s : List ℕ) → n_of ys ≡ n_of xs → lines_in ys ≡ bearing lex s (lines_in xs) →
    find lex ys s ≡ find lex xs s
unfolding find
find_bearing lex xs ys s n lines = rw (n, lines) (found_bearing lex s (lines_in xs) (suc (n_of xs) - length s) 1)
